-- The table: the result events by their positions in event order, every link a position. From here on nothing names a record number.
use Rattle.std.specs.Prelude.{Bool, true, false, cond, List, [], ◌∷◌, map, ℕ, suc, get_or, eqb, None, Option, Some}
use Rattle.events.specs.declared.ResultTransition.{ResultTransition}
use Rattle.events.specs.declared.ResultTransition.TheVariants.{None as NoTransition, InOut, OutIn}
use Rattle.events.specs.Coordinates.{Coordinates}
use Rattle.events.specs.Event.{Event}
use Rattle.contours.specs.Result.{ordered}

-- the edge below an event: none, or the one whose left end is at a position (the table's size: not among the rows), and whether it is OutIn
pub data Below : Type 0 where
  nothing : Below
  over : ℕ → Bool → Below

-- one result event; `other` is the position of the edge's other end
pub record Row (P : Type 0) : Type 0 where
  pub point : P
  pub left : Bool
  pub other : ℕ
  pub below : Below

-- the first place of r in a list, or the length where it is not there
unfoldable pub place : List ℕ → ℕ → ℕ
place [] r = 0
place (x ∷ s) r = cond (eqb x r) 0 (suc (place s r))

unfoldable pub is_out_in : ResultTransition → Bool
is_out_in NoTransition = false
is_out_in InOut = false
is_out_in OutIn = true

module _ {P : Type 0} (row : ℕ → Event P) where
  -- among the ordered records s
  unfoldable pub below_of : List ℕ → Option ℕ → Below
  below_of s None = nothing
  below_of s (Some b) = over (place s b) (is_out_in (row b).transition)

  unfoldable pub row_of : List ℕ → ℕ → Row P
  row_of s r = record { point = (row r).point; left = (row r).left; other = place s (row r).partner; below = below_of s (row r).below }

  unfoldable pub table : Coordinates P → List ℕ → List (Row P)
  table C list = map (row_of (ordered row C list)) (ordered row C list)

-- The row at a position. Beyond the table it is a right end at a point that the store names, so that every position has an answer.
unfoldable pub row_at : {P : Type 0} → P → List (Row P) → ℕ → Row P
row_at void rows i = get_or rows i (record { point = void; left = false; other = 0; below = nothing })
