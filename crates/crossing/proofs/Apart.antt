-- Segments of which one lies all above the other have no crossing, in any mode: however a mode names them, one still lies all above the other.
use mathlib.Core.Path.{◌≡◌, ◌∙◌}
use mathlib.Core.Bool.{Bool, true, false, cond}
use Prim.Native.Nat.{ℕ}
use lib.Dec.{eqb}
use Rattle.numbers.specs.Points.{is_ahead, unsigned_point}
use Rattle.numbers.specs.declared.Coordinate.{Coordinate}
use Rattle.numbers.proofs.LessUnsigned.{lt-unsigned}
use Rattle.crossing.specs.declared.LineIntersection.TheVariants.{None}
use Rattle.crossing.specs.declared.modes.Segment.{Segment}
use Rattle.crossing.specs.declared.modes.Pair.{Pair}
use Rattle.crossing.specs.Modes.{plain, segment, pair, ends_in_order, comes_first, in_order, unsigned_segment, ordered_pair, named_in}
use Rattle.crossing.specs.Crossing.{in_box, intersection_of, intersection_of_pair, intersection_in}
use Rattle.crossing.proofs.Gap.{AllLess, box-above, box-below}

-- ---- the first lies all below the second
abbrev Below : Segment → Segment → Type 0
Below s t = AllLess s.from.y s.to.y t.from.y t.to.y

without-signs : (s t : Segment) → Below s t → Below (unsigned_segment s) (unsigned_segment t)
unfolding unsigned_segment unsigned_point
without-signs s t r =
    record {
      a_c = lt-unsigned _ _ ∙ r.a_c;
      a-d = lt-unsigned _ _ ∙ r.a-d;
      b-c = lt-unsigned _ _ ∙ r.b-c;
      b-d = lt-unsigned _ _ ∙ r.b-d;
    }

-- what holds of a segment whichever way it runs
either_way : (P : Segment → Type 0) (s : Segment) → P s → P (segment s.to s.from) → P (ends_in_order s)
unfolding ends_in_order
either_way P s there back = go (is_ahead s.to s.from)
  where
    go : (t : Bool) → P (cond t (segment s.to s.from) s)
    go true = back
    go false = there

ends-in-order : (s t : Segment) → Below s t → Below (ends_in_order s) (ends_in_order t)
ends-in-order s t r =
    let low : Below (ends_in_order s) t = either_way (λ u. Below u t) s r (record { a_c = r.b-c; a-d = r.b-d; b-c = r.a_c; b-d = r.a-d }) in
    either_way (Below (ends_in_order s)) t low (record { a_c = low.a-d; a-d = low.a_c; b-c = low.b-d; b-d = low.b-c })

-- ---- one lies all above the other
data Parted (p : Pair) : Type 0 where
  above : Below p.a p.b → Parted p
  below : Below p.b p.a → Parted p

in_order_lem : (s t : Segment) → Parted (pair s t) → Parted (in_order s t)
unfolding in_order
in_order_lem s t r = go (comes_first t s) r
  where
    go : (u : Bool) → Parted (pair s t) → Parted (cond u (pair t s) (pair s t))
    go true (above r) = below r
    go true (below r) = above r
    go false r = r

ordered-parted : (p : Pair) → Parted p → Parted (ordered_pair p)
unfolding ordered_pair
ordered-parted p (above r) = in_order_lem _ _ (above (ends-in-order _ _ (without-signs p.a p.b r)))
ordered-parted p (below r) = in_order_lem _ _ (below (ends-in-order _ _ (without-signs p.b p.a r)))

named-parted : (mode : ℕ) (p : Pair) → Parted p → Parted (named_in mode p)
unfolding named_in
named-parted mode p r = go (eqb mode plain)
  where
    go : (t : Bool) → Parted (cond t p (ordered_pair p))
    go true = r
    go false = ordered-parted p r

-- ---- so they have no crossing
as-named : (p : Pair) → Parted p → intersection_of_pair p ≡ None
unfolding intersection_of_pair intersection_of in_box
as-named p (above r) = rw (box-above p.a.from p.a.to p.b.from p.b.to r)
as-named p (below r) = rw (box-below p.b.from p.b.to p.a.from p.a.to r)

module _ (mode : ℕ) (a b c d : Coordinate) (r : AllLess a.y b.y c.y d.y) where
  pub none_above : intersection_in mode a b c d ≡ None
  unfolding intersection_in
  none_above = as-named _ (named-parted mode _ (above r))

  pub none_below : intersection_in mode c d a b ≡ None
  unfolding intersection_in
  none_below = as-named _ (named-parted mode _ (below r))
