-- The two steps: all contours, and then their holes.
use Rattle.std.specs.Prelude.{List, ℕ}
use Rattle.rows.specs.Rows.{Rows}
use Rattle.starts.specs.Starts as S
use Rattle.holes.specs.Holes as H
use Rattle.tracing.specs.Tracing.{Sheet, sheet, told}

unfoldable pub joined : S.Sheet → H.Held → Sheet
joined s h = sheet s.walked s.corners h.contours h.holes (told s.turn.count s.turn.end h.end s.turn.unclosed s.turn.stop s.turn.place)

unfoldable pub holed : List (List ℕ) → List ℕ → S.Sheet → Sheet
holed contours holes s = joined s (H.holed_on s.nests s.turn.count contours holes)

unfoldable pub traced_by : Rows → List ℕ → List (List ℕ) → List (List ℕ) → List ℕ → List (List ℕ) → Sheet
traced_by t walked corners contours holes nests = holed contours holes (S.traced_on t walked corners nests)
