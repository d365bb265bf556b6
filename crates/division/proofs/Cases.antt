-- The four ways through a division, over any coordinates and any store: which test decides, and what is then the outcome.
use Rattle.refusals.specs.declared.Reason.TheVariants as Reason
use mathlib.Core.Path.{◌≡◌}
use mathlib.Core.Bool.{Bool, true, false, not}
use Prim.Native.Nat.{ℕ, ◌+◌, min, ◌<◌}
use borrow.Author.Tests.{leb-false}
use Rattle.events.specs.Coordinates.{Coordinates}
use Rattle.events.specs.Event.{Event}
use Rattle.events.specs.Store.{Store, look}
use Rattle.division.specs.Division.{moves, moved, misses, numbers, full, refused, done, divide_at, divide}

module _ {P S : Type 0} (C : Coordinates P) (K : Store P S) (s : S) (used i : ℕ) (p : P) where
  -- the two records read and the cut moved
  pub opened : (e f : Event P) (c : P) → e ≡ look K s used i → f ≡ look K s used e.partner → c ≡ moved C e.point p → divide_at C K s used i e f c (moves C e.point p) ≡ divide C K s used i p
  unfolding divide
  opened e f c he hf hc = rw (hc, hf, he)

module _ {P S : Type 0} (C : Coordinates P) (K : Store P S) (s : S) (used i : ℕ) (e f : Event P) (c : P) (move : Bool) where
  pub by_side : not e.left ≡ true → refused s used Reason.Cut i ≡ divide_at C K s used i e f c move
  unfolding divide_at
  by_side a = rw a

  pub by-cut : not e.left ≡ false → misses C e.point f.point c ≡ true → refused s used Reason.Cut i ≡ divide_at C K s used i e f c move
  unfolding divide_at
  by-cut a b = rw (a, b)

  pub by-room : not e.left ≡ false → misses C e.point f.point c ≡ false → full K s used ≡ true → refused s used Reason.Full i ≡ divide_at C K s used i e f c move
  unfolding divide_at
  by-room a b d = rw (a, b, d)

  pub by-none : not e.left ≡ false → misses C e.point f.point c ≡ false → full K s used ≡ false → done C K s used i e f c move ≡ divide_at C K s used i e f c move
  unfolding divide_at
  by-none a b d = rw (a, b, d)

-- where there is room both new numbers are below the size, and fit
pub room : {P S : Type 0} (K : Store P S) (s : S) (used : ℕ) → full K s used ≡ false → used + 1 < min (K.size s) numbers
unfolding full
room K s used e = leb-false (min (K.size s) numbers) (used + 1) e
