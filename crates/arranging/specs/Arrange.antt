-- `arrange`, in the bytes of a sheet: they become those of the arranged sheet, which are as many. Bytes that are no sheet are refused as reading refuses
-- them, and stay as lent.
use Rattle.refusals.specs.declared.Reason.{Reason}
use Rattle.std.specs.Prelude.{◌≡◌, ℕ, length, Err, Ok}
use Rattle.refusals.specs.Refusals.{Verdict}
use mathlib.Core.List.{List, map, Permᴰ}
use Rattle.refusals.specs.declared.Refusal.{Refusal}
use Rattle.sheet.specs.declared.edges.Edge.{Edge}
use Rattle.sheet.specs.Sheet.{Sheet, written}
use Rattle.sheet.specs.Reading.{Reading, Accepted, read_sheet}
use Rattle.arranging.specs.Arranged.{plain, in_order, arranged}
use Rattle.arranging.specs.Drawing.{SameDrawing}

pub record After : Type 0 where
  pub answer : Verdict
  pub bytes : List ℕ

abbrev pub left : Verdict → List ℕ → After
left answer bytes = record { answer = answer; bytes = bytes }

unfoldable pub leave : Reading → List ℕ → After
leave (Accepted s) bytes = left (Ok tt) (written (arranged s))
leave (Reading.Refused reason line) bytes = left (Err (record { reason = reason; place = line })) bytes

unfoldable pub arrange : List ℕ → After
arrange bytes = leave (read_sheet bytes) bytes

-- how the bytes read that it leaves
unfoldable pub arranged_reading : Reading → Reading
arranged_reading (Accepted s) = Accepted (arranged s)
arranged_reading (Reading.Refused reason line) = Reading.Refused reason line

-- ---- what is promised

pub record Arranges : Type 0 where
  -- one drawing, one text; and one text, one drawing
  pub one_text : (b c : List ℕ) (s t : Sheet) → read_sheet b ≡ Accepted s → read_sheet c ≡ Accepted t → SameDrawing s t → arrange b ≡ arrange c
  pub one_drawing : (b c : List ℕ) (s t : Sheet) → read_sheet b ≡ Accepted s → read_sheet c ≡ Accepted t → arrange b ≡ arrange c → SameDrawing s t
  -- the arranged sheet is a sheet of as many bytes, and the same drawing
  pub reads : (b : List ℕ) → read_sheet (arrange b).bytes ≡ arranged_reading (read_sheet b)
  pub as_many : (b : List ℕ) → length (arrange b).bytes ≡ length b
  pub drawing : (s : Sheet) → SameDrawing s (arranged s)
  -- of each layer the same edges, as often as they were there
  pub edges : (l : List Edge) → Permᴰ (map plain l) (in_order l)
  -- twice is once
  pub twice : (b : List ℕ) → arrange (arrange b).bytes ≡ arrange b
  -- refused exactly where reading refuses, by its number and at its line; the bytes then stay
  pub refused : (b : List ℕ) (reason : Reason) (line : ℕ) → read_sheet b ≡ Reading.Refused reason line → arrange b ≡ left (Err (record { reason = reason; place = line })) b
  pub only_so : (b : List ℕ) (r : Refusal) → (arrange b).answer ≡ Err r → read_sheet b ≡ Reading.Refused r.reason r.place
