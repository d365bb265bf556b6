-- Cuts one after the other, over any kind of coordinate and any store: each goes on from what the one before left, and none follows a refusal.
use Rattle.division.specs.declared.Divided.{Divided}
use Rattle.std.specs.Prelude.{Bool, cond, ℕ, Err, Ok, Result}
use Rattle.refusals.specs.declared.Refusal.{Refusal}
use Rattle.refusals.specs.Refusals.{Verdict}
use Rattle.events.specs.Coordinates.{Coordinates}
use Rattle.events.specs.Store.{Store}
use Rattle.division.specs.Division.{divide}

-- what has been done: the store, how many places are in use, and what stopped it
pub record Step (S : Type 0) : Type 0 where
  pub store : S
  pub used : ℕ
  pub stop : Verdict

abbrev pub step : {S : Type 0} → S → ℕ → Verdict → Step S
step s used x = record { store = s; used = used; stop = x }

unfoldable pub stop_of : Result Divided Refusal → Verdict
stop_of (Ok d) = Ok tt
stop_of (Err r) = Err r

-- the next step, where nothing was refused
unfoldable pub go_on : {S : Type 0} → Verdict → Step S → (S → ℕ → Step S) → Step S
go_on (Ok _) x next = next x.store x.used
go_on (Err r) x next = x

unfoldable pub and_then : {S : Type 0} → Step S → (S → ℕ → Step S) → Step S
and_then x next = go_on x.stop x next

module _ {P S : Type 0} (C : Coordinates P) (K : Store P S) where
  -- the segment of record i is cut at p
  unfoldable pub cut : S → ℕ → ℕ → P → Step S
  cut s used i p = let x = divide C K s used i p in step x.store x.used (stop_of x.answer)

  -- the same, where the segment is to be cut at all: b says that it is not
  unfoldable pub cut_unless : Bool → S → ℕ → ℕ → P → Step S
  cut_unless b s used i p = cond b (step s used (Ok tt)) (cut s used i p)

  -- one cut, and then another
  unfoldable pub twice : S → ℕ → ℕ → P → ℕ → P → Step S
  twice s used i p j q = and_then (cut s used i p) (λ t n. cut t n j q)
