-- The last number wanted lies at or beyond the least of the three bounds exactly if it lies at or beyond one of them.
use mathlib.Core.Path.{◌≡◌, refl, sym}
use mathlib.Core.Bool.{Bool, true, false}
use Prim.Native.Nat.{ℕ, min, ◌≤◌, ◌<◌}
use native.Mathlib.Omega.{arith}
use borrow.Author.Tests.{le-leb, lt-leb, leb-true, leb-false}
use lib.Dec.{leb}
use Rattle.events.specs.Pool.{size, stored}
use Rattle.division.specs.Division.{full}
use Rattle.division.proofs.is_full.Goals as goal

module _ (a b n l : ℕ) where
  by_first : a ≤ l → true ≡ leb (min (min a b) n) l
  by_first h = sym (le-leb (min (min a b) n) l (omega arith))

  by-second : b ≤ l → true ≡ leb (min (min a b) n) l
  by-second h = sym (le-leb (min (min a b) n) l (omega arith))

  by-third : l < a → l < b → leb n l ≡ leb (min (min a b) n) l
  by-third h k = go (leb n l) refl
    where
      go : (t : Bool) → leb n l ≡ t → t ≡ leb (min (min a b) n) l
      go true e = let o = leb-true n l e in sym (le-leb (min (min a b) n) l (omega arith))
      go false e = let o = leb-false n l e in sym (lt-leb (min (min a b) n) l (omega arith))

pub returns-then-points-last : goal.returns-then-points-last
unfolding full stored size
returns-then-points-last c = by_first _ _ _ _ c.if-points-last.true

pub returns-then-marks-last : goal.returns-then-marks-last
unfolding full stored size
returns-then-marks-last c = by-second _ _ _ _ c.if-marks-last.true

pub returns : goal.returns
unfolding full stored size
returns c = by-third _ _ _ _ c.if-points-last.false c.if-marks-last.false
