-- Unsigned finite numbers of which neither is less are one bit pattern, so that points and segments compare too: what the mode puts in order is one pair.
use mathlib.Core.Path.{◌≡◌, refl, sym, ap, ap₂, ◌∙◌}
use mathlib.Core.Bool.{Bool, true, false, true≢false}
use borrow.Author.Tests.{ne_eqb}
use lib.Ieee.{Float, lt}
use Rattle.numbers.specs.Binary64.{Finite, unsigned}
use Rattle.numbers.specs.Points.{is_ahead, unsigned_point}
use Rattle.numbers.specs.declared.Coordinate.{Coordinate}
use Rattle.numbers.proofs.OneWay.{one_way}
use Rattle.numbers.proofs.SignOfZero.{unsigned-level}
use Rattle.numbers.proofs.LessUnsigned.{lt-unsigned}
use Rattle.crossing.specs.declared.modes.Segment.{Segment}
use Rattle.crossing.specs.declared.modes.Pair.{Pair}
use Rattle.crossing.specs.Modes.{plain, segment, pair, ends_in_order, comes_first, in_order, unsigned_segment, ordered_pair, named_in}
use Rattle.crossing.specs.Crossing.{intersection_of_pair, intersection_in}
use Rattle.crossing.specs.KeepsBits.{Naming, turned, swapped, renamed, unsigned_pair, EachOfPoint, EachOfSegment, Each, KeepsBits}
use Rattle.crossing.proofs.Compared.{Compared, first, second, neither, by_parts, one-order}

-- ---- numbers, points and segments compared
numbers : (x y : Float) → Finite x → Finite y → Compared (unsigned x) (unsigned y) (lt (unsigned x) (unsigned y)) (lt (unsigned y) (unsigned x))
numbers x y h k = rw (lt-unsigned x y, lt-unsigned y x) (go (lt x y) refl (lt y x) refl)
  where
    go : (f : Bool) → lt x y ≡ f → (g : Bool) → lt y x ≡ g → Compared (unsigned x) (unsigned y) f g
    go true p true q = absurd (true≢false (sym q ∙ one_way x y p))
    go true p false q = first
    go false p true q = second
    go false p false q = neither (unsigned-level x y h k p q)

points : (p q : Coordinate) → EachOfPoint Finite p → EachOfPoint Finite q
    → Compared (unsigned_point p) (unsigned_point q) (is_ahead (unsigned_point p) (unsigned_point q)) (is_ahead (unsigned_point q) (unsigned_point p))
unfolding is_ahead unsigned_point
points p q h k =
    by_parts {C = Coordinate} (λ x y. record { x = x; y = y }) (numbers p.x q.x h.0 k.0) (numbers p.y q.y h.1 k.1)

segments : (s t : Segment) → EachOfSegment Finite s → EachOfSegment Finite t
    → Compared (unsigned_segment s) (unsigned_segment t) (comes_first (unsigned_segment s) (unsigned_segment t)) (comes_first (unsigned_segment t) (unsigned_segment s))
unfolding comes_first unsigned_segment
segments s t h k = by_parts segment (points s.from t.from h.0 k.0) (points s.to t.to h.1 k.1)

-- ---- a segment turned: its ends in order are the same
abbrev ends : Segment → Segment
ends s = ends_in_order (unsigned_segment s)

ends_turned : (t : Bool) (s : Segment) → EachOfSegment Finite s → ends (turned t s) ≡ ends s
unfolding ends_in_order unsigned_segment
ends_turned true s h = one-order segment (points s.to s.from h.1 h.0)
ends_turned false s h = refl

-- ---- segments swapped: with its ends in order a segment is a finite one unsigned, and such compare
in_order_lem : (s : Segment) → EachOfSegment Finite s → (r : Segment) × EachOfSegment Finite r × (ends s ≡ unsigned_segment r)
unfolding ends_in_order unsigned_segment
in_order_lem s h = go (is_ahead (unsigned_point s.to) (unsigned_point s.from))
  where
    go : (t : Bool) → (r : Segment) × EachOfSegment Finite r × (turned t (unsigned_segment s) ≡ unsigned_segment r)
    go true = (segment s.to s.from, (h.1, h.0), refl)
    go false = (s, h, refl)

ends-swapped : (s t : Segment) → EachOfSegment Finite s → EachOfSegment Finite t → in_order (ends s) (ends t) ≡ in_order (ends t) (ends s)
unfolding in_order
ends-swapped s t h k =
    let u = in_order_lem s h in
    let v = in_order_lem t k in
    rw (u.2, v.2) (one-order pair (segments u.0 v.0 u.1 v.1))

-- ---- the pair that is computed with
ordered-renamed : (n : Naming) (p : Pair) → Each Finite p → ordered_pair (renamed n p) ≡ ordered_pair p
unfolding ordered_pair renamed
ordered-renamed n p h = go n.swapped
  where
    a : ends (turned n.a_turned p.a) ≡ ends p.a
    a = ends_turned n.a_turned p.a h.0

    b : ends (turned n.b_turned p.b) ≡ ends p.b
    b = ends_turned n.b_turned p.b h.1

    go : (t : Bool) → ordered_pair (swapped t (pair (turned n.a_turned p.a) (turned n.b_turned p.b))) ≡ ordered_pair p
    go true = ap₂ in_order b a ∙ ends-swapped p.b p.a h.1 h.0
    go false = ap₂ in_order a b

ordered-unsigned : (p q : Pair) → unsigned_pair p ≡ unsigned_pair q → ordered_pair p ≡ ordered_pair q
unfolding ordered_pair unsigned_pair
ordered-unsigned p q e = ap (λ (r : Pair). in_order (ends_in_order r.a) (ends_in_order r.b)) e

pub keeps-bits : KeepsBits
unfolding intersection_in named_in
keeps-bits mode m p q h k =
    let one : ordered_pair q ≡ ordered_pair p = ordered-unsigned q (renamed k.naming p) k.numbers ∙ ordered-renamed k.naming p h in
    rw (ne_eqb mode plain m) (ap intersection_of_pair (sym one))
