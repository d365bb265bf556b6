-- A sheet with its edge lines in another order, each within its section, and what then stays the same.
use Rattle.std.specs.Prelude.{◌≡◌, false, ℕ, Ok}
use mathlib.Core.List.{List, Permᴰ}
use Rattle.refusals.specs.declared.Refusal.{Refusal}
use Rattle.sheet.specs.Sheet.{Sheet}
use Rattle.overlay_work.specs.Overlay.{Work, Text, Stopped}
use Rattle.overlay_work.specs.Insured.{loaded_sheet, swept_sheet}

pub record Permuted (s s' : Sheet) : Type 0 where
  pub operation : s'.operation ≡ s.operation
  pub subject : Permᴰ s.subject s'.subject
  pub clip : Permᴰ s.clip s'.clip

-- the same text, or refused by the same number
pub data SameWork : Work → Work → Type 0 where
  same_text : {t : List ℕ} → SameWork (Text t) (Text t)
  same_number : {x y : Refusal} → y.reason ≡ x.reason → SameWork (Stopped x) (Stopped y)

-- all edges load, n records in all, and at no taking another waiting event tied with the one taken
pub record Untied (s : Sheet) : Type 0 where
  pub n : ℕ
  pub loads : (loaded_sheet s).answer ≡ Ok n
  pub untied : (swept_sheet s n).answer.tied ≡ false
