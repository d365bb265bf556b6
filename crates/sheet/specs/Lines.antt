-- Lines of any bytes, and how far bytes can be those of a sheet.
use Rattle.std.specs.Prelude.{◌≡◌, cond, List, [], ◌∷◌, ℕ, zero, suc, eqb}
use Rattle.sheet.specs.Sheet.{Sheet, Fits, written}

-- the bytes of the first lines; all bytes where there are no more lines
unfoldable pub first_lines : ℕ → List ℕ → List ℕ
first_lines zero s = []
first_lines (suc k) [] = []
first_lines (suc k) (b ∷ s) = b ∷ cond (eqb b 10) (first_lines k s) (first_lines (suc k) s)

-- the first lines are those of some sheet
pub record Begun (k : ℕ) (b : List ℕ) : Type 0 where
  pub sheet : Sheet
  pub fits : Fits sheet
  pub alike : first_lines k (written sheet) ≡ first_lines k b
