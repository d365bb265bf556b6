-- What the entry of division leaves, refused or not: the checks give all that division's own laws ask.
use Rattle.std.proofs.Common.{Err, Ok, Result}
use Rattle.refusals.specs.Refusals.{Verdict}
use mathlib.Core.Path.{◌≡◌, refl, sym, subst}
use mathlib.Core.Bool.{Bool, true, false, cond}
use mathlib.Core.List.{[], ◌∷◌}
use Prim.Native.Nat.{ℕ, ◌+◌}
use native.Mathlib.Omega.{arith}
use Rattle.refusals.specs.declared.Refusal.{Refusal}
use Rattle.numbers.specs.declared.Point.{Point}
use Rattle.events.specs.Event.{Event}
use Rattle.events.specs.Binary64.{at_binary64}
use Rattle.events.specs.Store.{look}
use Rattle.events.specs.Pool.{Pool, size, stored}
use Rattle.checks.specs.Checks.{size_refusal}
use Rattle.checks.specs.Sound.{Pair}
use Rattle.checks.specs.OnPool.{checked_named}
use Rattle.checks.proofs.Told.{not-both}
use Rattle.checks.proofs.OnPool.{clear-named}
use Rattle.division.specs.declared.Divided.{Divided}
use Rattle.division.specs.Division.{moves, moved, After, divide}
use Rattle.division.specs.Untouched.{Untouched}
use Rattle.division.proofs.Outcomes.{as_lent_lem, passed, used-after}
use Rattle.division.proofs.Whole.{Segment, Whole}
use Rattle.division.proofs.AtBinary64.{whole-pool}
use Rattle.division.proofs.Untouched.{untouched}
use Rattle.records.specs.InUse.{part_in_use, overused, checked_in}
use Rattle.records.specs.Dividing.{divided_by, divide_segment}
use Rattle.records.proofs.InUse.{within, size-in-use, seen}

not_done : (a : Result Divided Refusal) (d : Divided) (x : Refusal) → a ≡ Ok d → a ≡ Err x → ⊥
not_done a d x p q = let z : ◌≡◌ {A = ℕ} 0 1 = cc in omega arith

-- a record and its partner that pass are a segment, once one of them is left
segment : (row : ℕ → Event Point) (n i : ℕ) → (row i).left ≡ true → Pair at_binary64 row n i → Segment row n i
segment row n i left both =
    let own = both.own in
    record { paired = record { own = own.inside; other = own.partner; back = own.paired }; right = rw left at own.unlike }

module _ (p : Pool) (used i : ℕ) where
  -- what passing gives, of the records that division reads
  pub sound : checked_in p used (i ∷ []) ≡ Ok tt → Pair at_binary64 (look stored p used) used i
  unfolding checked_in
  sound = by (overused p used) refl
    where
      by : (t : Bool) → overused p used ≡ t → cond t (Err size_refusal) (checked_named (part_in_use p used) (i ∷ [])) ≡ Ok tt → Pair at_binary64 (look stored p used) used i
      by true o e = absurd (not-both _ _ e refl)
      by false o e =
          let w = within p used false (sym o) refl in
          let both = (clear-named (part_in_use p used) (i ∷ []) e).both 0 (omega arith) in
          subst (λ (n : ℕ). Pair at_binary64 (look stored p used) n i) (size-in-use p used w) (subst (λ (row : ℕ → Event Point). Pair at_binary64 row (size (part_in_use p used)) i) (seen p used w) both)

module _ (p : Pool) (used i : ℕ) (cut : Point) where
  abbrev row : ℕ → Event Point
  row = look stored p used

  abbrev after : After Pool
  after = divide at_binary64 stored p used i cut

  -- done: four records are new or changed, all others as before, partners mutual again, each end on its proper side
  pub done-whole : (d : Divided) → (divide_segment p used i cut).answer ≡ Ok d
      → Whole at_binary64 row (look stored (divide_segment p used i cut).after (used + 2)) used i (moved at_binary64 (row i).point cut) (moves at_binary64 (row i).point cut) d
  unfolding divide_segment
  done-whole d = by (checked_in p used (i ∷ [])) refl
    where
      by : (c : Verdict) → checked_in p used (i ∷ []) ≡ c → (divided_by c p after).answer ≡ Ok d
          → Whole at_binary64 row (look stored (divided_by c p after).after (used + 2)) used i (moved at_binary64 (row i).point cut) (moves at_binary64 (row i).point cut) d
      by (Err x) e h = absurd (not_done _ d x h refl)
      by (Ok _) e h =
          let w = segment row used i (passed at_binary64 stored p used i cut d h).left (sound p used i e) in
          subst (λ (n : ℕ). Whole at_binary64 row (look stored after.store n) used i (moved at_binary64 (row i).point cut) (moves at_binary64 (row i).point cut) d) (used-after at_binary64 stored p used i cut d h) (whole-pool p used i cut d h w)

  -- .. and in the lent numbers: of the two ends partner and flag alone, of all other records nothing
  pub done-untouched : (d : Divided) → (divide_segment p used i cut).answer ≡ Ok d → Untouched p (divide_segment p used i cut).after used i (row i).partner d.swapped
  unfolding divide_segment
  done-untouched d = by (checked_in p used (i ∷ [])) refl
    where
      by : (c : Verdict) → checked_in p used (i ∷ []) ≡ c → (divided_by c p after).answer ≡ Ok d → Untouched p (divided_by c p after).after used i (row i).partner d.swapped
      by (Err x) e h = absurd (not_done _ d x h refl)
      by (Ok _) e h = untouched p used i cut d h (segment row used i (passed at_binary64 stored p used i cut d h).left (sound p used i e))

  -- refused, by whatever number: all as lent
  pub refused-as-lent : (x : Refusal) → (divide_segment p used i cut).answer ≡ Err x → (divide_segment p used i cut).after ≡ p
  unfolding divide_segment
  refused-as-lent x = by (checked_in p used (i ∷ []))
    where
      by : (c : Verdict) → (divided_by c p after).answer ≡ Err x → (divided_by c p after).after ≡ p
      by (Err y) h = refl
      by (Ok _) h = (as_lent_lem at_binary64 stored p used i cut x h).store
