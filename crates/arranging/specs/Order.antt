-- What edges are put in order by: their ends, then their ring. A number is taken by its bits, in IEEE 754's totalOrder: finite numbers and infinities by
-- value, and every not-a-number has a place.
use Rattle.std.specs.Prelude.{Bool, cond, List, [], ◌∷◌, ◌++◌, map, ℕ, ◌+◌, ◌-◌, ltb}
use Rattle.numbers.specs.declared.Point.{Point}
use Rattle.sheet.specs.declared.edges.Edge.{Edge}
use Rattle.sorting.specs.Rows.{at_most, joined}

-- the least word that has the sign bit
abbrev pub sign_bit : ℕ
sign_bit = 9223372036854775808

-- the place of a number's bits: without the sign bit from the middle up, with it from the middle down
unfoldable pub rank : ℕ → ℕ
rank w = cond (ltb w sign_bit) (sign_bit + w) (18446744073709551615 - w)

unfoldable pub corner_key : Point → List ℕ
corner_key p = rank p.x ∷ rank p.y ∷ []

-- whatever more an edge may be told by comes last
unfoldable pub edge_key : Edge → List ℕ
edge_key e = corner_key e.from ++ (corner_key e.to ++ (e.ring ∷ []))

unfoldable pub edge_at_most : Edge → Edge → Bool
edge_at_most e f = at_most (edge_key e) (edge_key f)

-- layers by the first edge in which they differ
unfoldable pub layer_key : List Edge → List ℕ
layer_key l = joined (map edge_key l)

unfoldable pub layer_at_most : List Edge → List Edge → Bool
layer_at_most l m = at_most (layer_key l) (layer_key m)
