-- Two segments of which one lies all above the other have boxes that share nothing, whatever the x: there is no height in common.
use Rattle.std.proofs.Common.{None, Option}
use mathlib.Core.Path.{◌≡◌, refl}
use mathlib.Core.Bool.{Bool, true, false, cond}
use lib.Ieee.{Float, lt, le}
use Rattle.numbers.specs.Binary64.{minimum, maximum}
use Rattle.numbers.specs.declared.Coordinate.{Coordinate}
use Rattle.numbers.specs.declared.BoundingBox.{BoundingBox}
use Rattle.numbers.proofs.OneWay.{one_way, not-most, lesser-number, greater-number}
use Rattle.crossing.specs.Boxes.{lesser, greater, box_from, shared_box}

-- each of a and b is less than each of c and d
pub record AllLess (a b c d : Float) : Type 0 where
  pub a_c : lt a c ≡ true
  pub a-d : lt a d ≡ true
  pub b-c : lt b c ≡ true
  pub b-d : lt b d ≡ true

-- the shared box in y, of the lesser and the greater height of each: whichever segment is named first, it ends below its start
record Gap (l g s h : Float) : Type 0 where
  above : le (maximum l s) (minimum g h) ≡ false
  below : le (maximum s l) (minimum h g) ≡ false

gap : {l g s h : Float} → lt l s ≡ true → lt g h ≡ true → lt g s ≡ true → Gap l g s h
gap {l} {g} {s} {h} l-s g-h g-s =
    record {
      above = rw (lesser-number l s l-s, l-s, lesser-number g h g-h, one_way g h g-h) (not-most g s g-s);
      below = rw (greater-number l s l-s, one_way l s l-s, greater-number g h g-h, g-h) (not-most g s g-s);
    }

no-height : {a b c d : Float} → AllLess a b c d → Gap (lesser a b) (greater a b) (lesser c d) (greater c d)
no-height {a} {b} {c} {d} r = go (lt a b) (lt c d)
  where
    go : (t u : Bool) → Gap (cond t a b) (cond t b a) (cond u c d) (cond u d c)
    go true true = gap r.a_c r.b-d r.b-c
    go true false = gap r.a-d r.b-c r.b-d
    go false true = gap r.b-c r.a-d r.a_c
    go false false = gap r.b-d r.a_c r.a-d

abbrev nothing : Option BoundingBox
nothing = None

box-apart : (p q : Coordinate) → le p.y q.y ≡ false → box_from p q ≡ None
unfolding box_from
box-apart p q h = rw h (alike (le p.x q.x))
  where
    alike : (t : Bool) → cond t nothing nothing ≡ nothing
    alike true = refl
    alike false = refl

module _ (a b c d : Coordinate) (r : AllLess a.y b.y c.y d.y) where
  pub box-above : shared_box a b c d ≡ None
  unfolding shared_box
  box-above = box-apart _ _ (no-height r).above

  pub box-below : shared_box c d a b ≡ None
  unfolding shared_box
  box-below = box-apart _ _ (no-height r).below
