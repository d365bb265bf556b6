-- All contours of the table in lent arrays (`contours.specs.Contours`): the marks, the corners of one contour after those of another, and what is
-- kept of each contour. Corners beyond the lent points are not stored; all other places stay as lent.
use Rattle.refusals.specs.Refusals.{number}
use Rattle.std.specs.Prelude.{Bool, cond, ◌&&◌, List, [], ◌∷◌, ◌++◌, ℕ, ◌+◌, length, eqb, leb, Option, None, Some}
use Rattle.std.proofs.lemmas.List.Edits.{sets}
use Rattle.events.specs.Coordinates.{same}
use Rattle.events.specs.Binary64.{at_binary64}
use Rattle.checks.specs.Checks.{max_events}
use Rattle.contours.specs.Result.{keep}
use Rattle.contours.specs.Contours.{Contour, Answer, done, halted, trace}
use Rattle.rows.specs.Rows.{Rows, size, table_row}
use Rattle.walks.specs.Walks.{corners_of, unclosed_trail}
use Rattle.starts.specs.declared.Turn.{Turn}

-- the lent arrays, and what is told
pub record Sheet : Type 0 where
  pub walked : List ℕ
  pub corners : List (List ℕ)
  pub nests : List (List ℕ)
  pub turn : Turn

abbrev pub sheet : List ℕ → List (List ℕ) → List (List ℕ) → Turn → Sheet
sheet m o k s = record { walked = m; corners = o; nests = k; turn = s }

abbrev pub turn_of : ℕ → ℕ → ℕ → ℕ → ℕ → Turn
turn_of c e u s p = record { count = c; end = e; unclosed = u; stop = s; place = p }

-- a number + 1, or 0 for none
unfoldable pub code_of : Option ℕ → ℕ
code_of None = 0
code_of (Some p) = p + 1

module _ (t : Rows) where
  -- the corners of contours, one after the other
  unfoldable pub all_corners : List Contour → List (List ℕ)
  all_corners [] = []
  all_corners (k ∷ cs) = corners_of t k.trail ++ all_corners cs

  -- what is kept of a contour whose first corner is at e, and of contours
  unfoldable pub nest_of : ℕ → Contour → List ℕ
  nest_of e k = e ∷ (e + length (corners_of t k.trail)) ∷ code_of k.parent ∷ k.depth ∷ []

  unfoldable pub nests_from : ℕ → List Contour → List (List ℕ)
  nests_from e [] = []
  nests_from e (k ∷ cs) = nest_of e k ∷ nests_from (e + length (corners_of t k.trail)) cs

  unfoldable pub unclosed_count : List Contour → ℕ
  unclosed_count cs = length (keep (λ k. unclosed_trail t k.trail) cs)

  -- the arrays that were `out` and `ns`, once these contours are in them
  unfoldable pub sheet_of : List (List ℕ) → List (List ℕ) → List ℕ → List Contour → ℕ → ℕ → Sheet
  sheet_of out ns ms cs stop at =
      sheet ms (sets out 0 (all_corners cs)) (sets ns 0 (nests_from 0 cs)) (turn_of (length cs) (length (all_corners cs)) (unclosed_count cs) stop at)

  unfoldable pub answer_of : List (List ℕ) → List (List ℕ) → Answer → Sheet
  answer_of out ns (done ms cs) = sheet_of out ns ms cs 0 0
  answer_of out ns (halted reason i ms cs) = sheet_of out ns ms cs (number reason) i

  -- not more rows than records, as many marks as rows, and nests enough
  unfoldable pub fits : List ℕ → List (List ℕ) → Bool
  fits ms ns = leb (size t) max_events && (eqb (length ms) (size t) && leb (size t) (length ns))

  unfoldable pub traced_on : List ℕ → List (List ℕ) → List (List ℕ) → Sheet
  traced_on ms out ns = cond (fits ms ns) (answer_of out ns (trace (same at_binary64) (size t) (table_row t))) (sheet ms out ns (turn_of 0 0 0 0 0))
