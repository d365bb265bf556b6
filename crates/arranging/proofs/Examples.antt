-- Small sheets that compute. By bits: 1 is 0x3ff0.., 2 is 0x4000.., minus 1 is 0xbff0.., minus zero is 0x8000...
use mathlib.Core.Path.{◌≡◌, refl}
use mathlib.Core.Bool.{true≢false}
use mathlib.Core.List.{List, [], ◌∷◌}
use Prim.Native.Nat.{ℕ}
use lib.Ieee.{fits, lt, le, eq, neg, of_bits}
use Rattle.numbers.specs.declared.Point.{Point}
use Rattle.numbers.specs.Binary64.{not_finite, unfit}
use Rattle.numbers.specs.Words.{value, unfit_word, unsigned_word}
use Rattle.events.specs.Coordinates.{same}
use Rattle.events.specs.Binary64.{at_binary64, as_loaded}
use Rattle.class.specs.declared.Operation.TheVariants.{Intersection, Difference}
use Rattle.contours.specs.Result.{insert, sort}
use Rattle.sheet.specs.declared.edges.Edge.{Edge}
use Rattle.sorting.specs.Rows.{at_most, joined}
use Rattle.arranging.specs.Order.{rank, corner_key, edge_key, edge_at_most, layer_key, layer_at_most}
use Rattle.arranging.specs.Arranged.{edge, from_earlier, plain, in_order, symmetric, sheet, exchanged, lesser_first, arranged}
use Rattle.arranging.specs.Earlier.{Loads}

abbrev one : ℕ
one = 0x3ff0_0000_0000_0000

abbrev two : ℕ
two = 0x4000_0000_0000_0000

abbrev minus_one : ℕ
minus_one = 0xbff0_0000_0000_0000

abbrev minus_zero : ℕ
minus_zero = 0x8000_0000_0000_0000

abbrev at : ℕ → ℕ → Point
at x y = record { x = x; y = y }

-- ---- an edge

zero-turned : plain (edge 7 (at minus_zero one) (at one minus_zero)) ≡ edge 7 (at 0 one) (at one 0)
unfolding plain from_earlier as_loaded unsigned_word corner_key rank at_most
zero-turned = refl

from-the-earlier-end : plain (edge 7 (at two 0) (at one 0)) ≡ edge 7 (at one 0) (at two 0)
unfolding plain from_earlier as_loaded unsigned_word corner_key rank at_most
from-the-earlier-end = refl

-- below zero the greater bits are the lesser number
negative-first : plain (edge 7 (at one 0) (at minus_one 0)) ≡ edge 7 (at minus_one 0) (at one 0)
unfolding plain from_earlier as_loaded unsigned_word corner_key rank at_most
negative-first = refl

-- an edge that loads, and one that does not: minus zero and zero are one point
loads : Loads (edge 7 (at minus_zero one) (at one 0))
unfolding as_loaded unsigned_word at_binary64 same value unfit_word not_finite unfit fits lt le eq neg of_bits
loads = record { from = refl; to = refl; apart = refl }

not-apart : Loads (edge 7 (at minus_zero one) (at 0 one)) → ⊥
unfolding as_loaded unsigned_word at_binary64 same value not_finite eq of_bits
not-apart h = true≢false h.apart

-- ---- a layer

by-ring-alone : in_order (edge 2 (at 0 0) (at one 0) ∷ edge 1 (at one 0) (at 0 minus_zero) ∷ []) ≡ edge 1 (at 0 0) (at one 0) ∷ edge 2 (at 0 0) (at one 0) ∷ []
unfolding in_order sort insert edge_at_most edge_key plain from_earlier as_loaded unsigned_word corner_key rank at_most
by-ring-alone = refl

equal-stay : in_order (edge 1 (at 0 0) (at one 0) ∷ edge 1 (at one 0) (at 0 0) ∷ []) ≡ edge 1 (at 0 0) (at one 0) ∷ edge 1 (at 0 0) (at one 0) ∷ []
unfolding in_order sort insert edge_at_most edge_key plain from_earlier as_loaded unsigned_word corner_key rank at_most
equal-stay = refl

-- ---- a sheet

abbrev right : List Edge
right = edge 1 (at one 0) (at two 0) ∷ []

abbrev leftmost : List Edge
leftmost = edge 1 (at 0 0) (at one 0) ∷ []

lesser-first : arranged (sheet Intersection right leftmost) ≡ sheet Intersection leftmost right
unfolding arranged lesser_first exchanged symmetric layer_at_most layer_key joined in_order sort insert edge_key plain from_earlier as_loaded unsigned_word corner_key rank at_most
lesser-first = refl

difference-kept : arranged (sheet Difference right leftmost) ≡ sheet Difference right leftmost
unfolding arranged lesser_first exchanged symmetric in_order sort insert plain from_earlier as_loaded unsigned_word corner_key rank at_most
difference-kept = refl

-- a layer without edges goes first
none_first : arranged (sheet Intersection right []) ≡ sheet Intersection [] right
unfolding arranged lesser_first exchanged symmetric layer_at_most layer_key joined in_order sort insert edge_key plain from_earlier as_loaded unsigned_word corner_key rank at_most
none_first = refl
