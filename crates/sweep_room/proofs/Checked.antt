-- The checks of the first k records see nothing beyond them: where a partner or the record below lies beyond, that is a mistake by itself.
use Rattle.refusals.specs.declared.Reason.{Reason}
use Rattle.refusals.specs.declared.Reason.TheVariants as Reason
use Rattle.std.proofs.Common.{None, Option, Some}
use mathlib.Core.Path.{◌≡◌, refl, ap₂}
use mathlib.Core.Bool.{Bool, true, false, not, ◌||◌}
use Prim.Native.Nat.{ℕ, zero, suc, ◌+◌, ◌<◌}
use native.Mathlib.Omega.{arith}
use lib.Dec.{ltb}
use borrow.Author.Tests.{ltb-true}
use Rattle.events.specs.Coordinates.{Coordinates}
use Rattle.events.specs.Event.{Event}
use Rattle.checks.specs.Checks.{outside, unpaired, alike, in_order, misordered, not_to_left, misled, mistaken, unfit_at, first, told, and_then, checked}
use Rattle.checks.specs.Numbers.{numbers_from}

-- ---- one test, over the numbers below k

module _ (test test' : ℕ → Bool) where
  first_alike : (i m : ℕ) → ((r : ℕ) → r < i + m → test' r ≡ test r) → first test' (numbers_from i m) ≡ first test (numbers_from i m)
  unfolding first numbers_from
  first_alike i zero h = refl
  first_alike i (suc m) h = rw (h i (omega arith), first_alike (suc i) m (λ r l. h r (omega arith)))

  told-alike : (reason : Reason) (k : ℕ) → ((r : ℕ) → r < k → test' r ≡ test r) → told reason test' (numbers_from 0 k) ≡ told reason test (numbers_from 0 k)
  unfolding told
  told-alike reason k h = rw (first_alike 0 k (λ r l. h r (omega arith)))

-- ---- the tests

module _ {P : Type 0} (C : Coordinates P) (row row' : ℕ → Event P) (k : ℕ) (same : (r : ℕ) → r < k → row' r ≡ row r) where
  unfit-alike : (r : ℕ) → r < k → unfit_at C row' k r ≡ unfit_at C row k r
  unfolding unfit_at
  unfit-alike r l = rw (same r l)

  to-left-alike : (l : Option ℕ) → not_to_left row' k l ≡ not_to_left row k l
  unfolding not_to_left outside
  to-left-alike None = refl
  to-left-alike (Some b) = go (ltb b k) refl
    where
      go : (t : Bool) → ltb b k ≡ t → (not t || not (row' b).left) ≡ (not t || not (row b).left)
      go true e = rw (same b (ltb-true b k e))
      go false e = refl

  mistaken-alike : (r : ℕ) → r < k → mistaken C row' k r ≡ mistaken C row k r
  unfolding mistaken unpaired alike misordered in_order misled outside
  mistaken-alike r l = go (ltb (row r).partner k) refl
    where
      go : (t : Bool) → ltb (row r).partner k ≡ t → mistaken C row' k r ≡ mistaken C row k r
      go true e = rw (same r l, same (row r).partner (ltb-true _ k e), to-left-alike (row r).below)
      go false e = rw (same r l, e)

  pub checked-alike : checked C row' k (numbers_from 0 k) ≡ checked C row k (numbers_from 0 k)
  unfolding checked
  checked-alike =
      ap₂ and_then (told-alike (unfit_at C row k) (unfit_at C row' k) Reason.Coordinate k unfit-alike) (told-alike (mistaken C row k) (mistaken C row' k) Reason.Link k mistaken-alike)
