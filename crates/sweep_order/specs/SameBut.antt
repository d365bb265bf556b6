-- Two states of the sweep that differ in record numbers and in nothing else.
use Rattle.std.specs.Prelude.{◌≡◌, map, ℕ, ◌<◌, ◌≤◌}
use Rattle.refusals.specs.declared.Refusal.{Refusal}
use Rattle.events.specs.Renaming.{rename}
use Rattle.events.specs.Store.{Store}
use Rattle.waiting.specs.Waiting.{flagged}
use Rattle.sweep.specs.declared.turn.Stop.{Stop}
use Rattle.sweep.specs.declared.turn.Stop.TheVariants.{Going, Ended, Refused}
use Rattle.sweep.specs.State.{State}

-- record r is called `to r`: no name is lost and none is given twice, and every number from n on is its own name
pub record Renaming (n : ℕ) : Type 0 where
  pub to : ℕ → ℕ
  pub from : ℕ → ℕ
  pub from_to : (r : ℕ) → from (to r) ≡ r
  pub to_from : (r : ℕ) → to (from r) ≡ r
  pub beyond : (r : ℕ) → n ≤ r → to r ≡ r

-- a refusal keeps its reason and tells the record by its new name
unfoldable pub rename_refusal : (ℕ → ℕ) → Refusal → Refusal
rename_refusal ρ r = record { reason = r.reason; place = ρ r.place }

unfoldable pub rename_stop : (ℕ → ℕ) → Stop → Stop
rename_stop ρ Going = Going
rename_stop ρ Ended = Ended
rename_stop ρ (Refused r) = Refused (rename_refusal ρ r)

pub record SameBut {P S : Type 0} (K : Store P S) (ρ : ℕ → ℕ) (s s' : State S) : Type 0 where
  pub used : s'.used ≡ s.used
  -- record by record; the places that are not in use stay as lent in each (`OnPool`)
  pub records : (r : ℕ) → r < s.used → K.row_at s'.store (ρ r) ≡ rename ρ (K.row_at s.store r)
  pub waits : (r : ℕ) → flagged s'.waits (ρ r) ≡ flagged s.waits r
  pub status : s'.status ≡ map ρ s.status
  pub taken : s'.taken ≡ map ρ s.taken
  pub tied : s'.tied ≡ s.tied
  pub stop : s'.stop ≡ rename_stop ρ s.stop
