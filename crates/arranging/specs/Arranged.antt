-- A sheet in its own order: minus zeros turned, each edge from its earlier end, the edges of each layer in order; and where the operation does not ask
-- which layer is which, the lesser layer as subject. Equal edges stay, as often as they are there.
use Rattle.std.specs.Prelude.{Bool, true, false, not, cond, ◌&&◌, List, map, ℕ}
use Rattle.numbers.specs.declared.Point.{Point}
use Rattle.events.specs.Binary64.{as_loaded}
use Rattle.class.specs.declared.Operation.{Operation}
use Rattle.class.specs.declared.Operation.TheVariants.{Intersection, Difference, Union, Xor}
use Rattle.contours.specs.Result.{sort}
use Rattle.sheet.specs.declared.edges.Edge.{Edge}
use Rattle.sheet.specs.Sheet.{Sheet}
use Rattle.sorting.specs.Rows.{at_most}
use Rattle.arranging.specs.Order.{corner_key, edge_at_most, layer_at_most}

-- ---- an edge

abbrev pub edge : ℕ → Point → Point → Edge
edge ring from to = record { ring = ring; from = from; to = to }

unfoldable pub from_earlier : ℕ → Point → Point → Edge
from_earlier ring p q = cond (at_most (corner_key p) (corner_key q)) (edge ring p q) (edge ring q p)

-- minus zeros are turned as loading turns them
unfoldable pub plain : Edge → Edge
plain e = from_earlier e.ring (as_loaded e.from) (as_loaded e.to)

-- ---- a layer

unfoldable pub in_order : List Edge → List Edge
in_order l = sort edge_at_most (map plain l)

-- ---- a sheet

-- the operation does not ask which layer is which
unfoldable pub symmetric : Operation → Bool
symmetric Intersection = true
symmetric Difference = false
symmetric Union = true
symmetric Xor = true

abbrev pub sheet : Operation → List Edge → List Edge → Sheet
sheet o subject clip = record { operation = o; subject = subject; clip = clip }

-- whether the second layer goes first
unfoldable pub exchanged : Operation → List Edge → List Edge → Bool
exchanged o l m = symmetric o && not (layer_at_most l m)

unfoldable pub lesser_first : Operation → List Edge → List Edge → Sheet
lesser_first o l m = cond (exchanged o l m) (sheet o m l) (sheet o l m)

unfoldable pub arranged : Sheet → Sheet
arranged s = lesser_first s.operation (in_order s.subject) (in_order s.clip)
