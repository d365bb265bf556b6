-- Overlay's work on an arranged sheet, in one call; and the insurer's second answer, with nothing assumed: one drawing, one map.
use Rattle.std.specs.Prelude.{◌≡◌, List, ℕ}
use Rattle.sheet.specs.Sheet.{Sheet}
use Rattle.sheet.specs.Reading.{Accepted, read_sheet}
use Rattle.arranging.specs.Drawing.{SameDrawing}
use Rattle.arranging.specs.Arrange.{arrange}
use Rattle.overlay_work.specs.Overlay.{After, overlay, Answer, answer}

-- what arranging leaves is laid over; bytes that are no sheet stay as they are, and are refused as such
unfoldable pub overlay_arranged : (bytes out : List ℕ) → After
overlay_arranged bytes out = overlay (arrange bytes).bytes out

-- what the programs print, one after the other
unfoldable pub answer_arranged : (bytes out : List ℕ) → Answer
answer_arranged bytes out = answer (arrange bytes).bytes out

-- however a drawing is saved: the same bytes of a map, or the same refusal at the same place
pub record OneMap (b c : List ℕ) : Type 0 where
  pub laid_over : (out : List ℕ) → overlay_arranged b out ≡ overlay_arranged c out
  pub printed : (out : List ℕ) → answer_arranged b out ≡ answer_arranged c out

abbrev pub OneDrawingOneMap : Type 0
OneDrawingOneMap = (b c : List ℕ) (s t : Sheet) → read_sheet b ≡ Accepted s → read_sheet c ≡ Accepted t → SameDrawing s t → OneMap b c
