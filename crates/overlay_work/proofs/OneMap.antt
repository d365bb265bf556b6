-- One drawing, one map: ways of saving one drawing arrange to the same bytes, and overlay's work depends on nothing else.
use mathlib.Core.Path.{◌≡◌, sym, ap, ◌∙◌}
use mathlib.Core.List.{List}
use Prim.Native.Nat.{ℕ}
use Rattle.sheet.specs.Reading.{Reading, Accepted, read_sheet}
use Rattle.sheet.specs.Reading as R
use Rattle.sheet.proofs.Sheets.{describes}
use Rattle.arranging.specs.Arrange.{arranged_reading}
use Rattle.arranging.specs.Arrange as Arrange
use Rattle.arranging.proofs.Sheets as Sheets
use Rattle.arranging.proofs.Promised.{arranges}
use Rattle.overlay_work.specs.Overlay.{After, put, work, overlay, after_reading, answer}
use Rattle.overlay_work.specs.Arranged.{overlay_arranged, answer_arranged, OneDrawingOneMap}
use Rattle.overlay_work.proofs.Reading.{Fitting}

-- ---- the code's way: the arranged sheet is not written and read again

pub arranged-fits : (b : List ℕ) (r : Reading) → read_sheet b ≡ r → Fitting (arranged_reading r)
unfolding arranged_reading
arranged-fits b (Accepted s) e = Sheets.arranged-fits s (describes b s e).1
arranged-fits b (R.Refused reason line) e = tt

pub arranged-work : (b out : List ℕ) (x : After) → x ≡ put (after_reading (arranged_reading (read_sheet b))) out → x ≡ overlay_arranged b out
unfolding overlay_arranged overlay work
arranged-work b out x e = e ∙ ap (λ (r : Reading). put (after_reading r) out) (sym (arranges.reads b))

-- ---- the statement

pub one_map : OneDrawingOneMap
unfolding overlay_arranged answer_arranged
one_map b c s t e f d =
    let same = arranges.one_text b c s t e f d in
    record {
      laid_over = λ out. ap (λ (x : Arrange.After). overlay x.bytes out) same;
      printed = λ out. ap (λ (x : Arrange.After). answer x.bytes out) same;
    }
