-- Two segments of which one lies all above the other have no crossing, at binary64 in any mode: crossing's law, in the words of coordinates.
use Rattle.std.proofs.Common.{◌≡◌, ℕ, Bool, true, false, ◌&&◌, refl}
use mathlib.Core.Bool.{false≢true}
use Rattle.numbers.specs.Words.{value_of}
use Rattle.numbers.specs.declared.Point.{Point}
use Rattle.crossing.proofs.Gap.{AllLess}
use Rattle.crossing.proofs.Apart.{none_above, none_below}
use Rattle.events.specs.Coordinates.{Coordinates, Crossing, none}
use Rattle.events.specs.Binary64.{at_binary64, in_mode, cross_of}
use Rattle.events.specs.Under.{under}

-- the ends of one segment each below both of the other's
pub record Below {P : Type 0} (C : Coordinates P) (a b c d : P) : Type 0 where
  pub a_c : C.less_y a c ≡ true
  pub a-d : C.less_y a d ≡ true
  pub b-c : C.less_y b c ≡ true
  pub b-d : C.less_y b d ≡ true

pub both : (p q : Bool) → (p && q) ≡ true → (p ≡ true) × (q ≡ true)
both true q h = (refl, h)
both false q h = absurd (false≢true h)

-- so the test says
pub is-under : {P : Type 0} {C : Coordinates P} (a b c d : P) → under C a b c d ≡ true → Below C a b c d
unfolding under
is-under a b c d t =
    let one = both _ _ t in
    let two = both _ _ one.1 in
    let three = both _ _ two.1 in
    record { a_c = one.0; a-d = two.0; b-c = three.0; b-d = three.1 }

-- a crossing finds nothing there, whichever is named first
pub record Parts {P : Type 0} (C : Coordinates P) (crossing : Crossing P) : Type 0 where
  pub above : (a b c d : P) → Below C a b c d → crossing a b c d ≡ none
  pub below : (a b c d : P) → Below C a b c d → crossing c d a b ≡ none

all-less : (a b c d : Point) → Below at_binary64 a b c d → AllLess (value_of a).y (value_of b).y (value_of c).y (value_of d).y
unfolding at_binary64 value_of
all-less a b c d r = record { a_c = r.a_c; a-d = r.a-d; b-c = r.b-c; b-d = r.b-d }

module _ (mode : ℕ) where
  crossing-above : (a b c d : Point) → Below at_binary64 a b c d → in_mode mode a b c d ≡ none
  unfolding in_mode cross_of
  crossing-above a b c d r = rw (none_above mode (value_of a) (value_of b) (value_of c) (value_of d) (all-less a b c d r))

  crossing-below : (a b c d : Point) → Below at_binary64 a b c d → in_mode mode c d a b ≡ none
  unfolding in_mode cross_of
  crossing-below a b c d r = rw (none_below mode (value_of a) (value_of b) (value_of c) (value_of d) (all-less a b c d r))

  pub parts : Parts at_binary64 (in_mode mode)
  parts = record { above = crossing-above; below = crossing-below }
