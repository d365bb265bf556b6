-- The table in two lent arrays: what its rows are (`contours.specs.Table`), as a function of the position, and its size.
-- A flag is 1 for true and any other number for false; the edge below takes two numbers: its position + 1, or 0 for none, and a flag.
use Rattle.std.specs.Prelude.{Bool, false, cond, List, [], ◌∷◌, ℕ, zero, suc, eqb, ltb, length, get_or, set}
use Rattle.numbers.specs.declared.Point.{Point}
use Rattle.events.specs.Pool.{flag_number, blank}
use Rattle.contours.specs.Table.{Below, nothing, over, Row}
use Rattle.rows.specs.declared.End.{End}

pub record Rows : Type 0 where
  pub rows : List (List ℕ)
  pub at : List (List ℕ)

abbrev pub lent : List (List ℕ) → List (List ℕ) → Rows
lent r a = record { rows = r; at = a }

abbrev pub size : Rows → ℕ
size t = length t.rows

-- ---- numbers for a point and an end

unfoldable pub point_of : List ℕ → Point
point_of q = record { x = get_or q 0 0; y = get_or q 1 0 }

unfoldable pub point_code : Point → List ℕ
point_code p = p.x ∷ p.y ∷ []

unfoldable pub end_of : List ℕ → End
end_of m = record { left = eqb (get_or m 0 0) 1; other = get_or m 1 0; below = get_or m 2 0; out_in = eqb (get_or m 3 0) 1 }

unfoldable pub end_code : End → List ℕ
end_code e = flag_number e.left ∷ e.other ∷ e.below ∷ flag_number e.out_in ∷ []

-- ---- a row of the definition

unfoldable pub below_of : ℕ → Bool → Below
below_of zero b = nothing
below_of (suc k) b = over k b

unfoldable pub row_of : Point → End → Row Point
row_of p e = record { point = p; left = e.left; other = e.other; below = below_of e.below e.out_in }

-- the number of the edge below, and its flag
unfoldable pub below_number : Below → ℕ
below_number nothing = 0
below_number (over k b) = suc k

unfoldable pub below_flag : Below → Bool
below_flag nothing = false
below_flag (over k b) = b

unfoldable pub end_for : Row Point → End
end_for r = record { left = r.left; other = r.other; below = below_number r.below; out_in = below_flag r.below }

-- ---- reading and storing by position

-- the point of what is read beyond the table
unfoldable pub void : Point
void = (blank 0).point

unfoldable pub point_in : List (List ℕ) → ℕ → Point
point_in at i = cond (ltb i (length at)) (point_of (get_or at i [])) void

unfoldable pub end_in : List (List ℕ) → ℕ → End
end_in rows i = end_of (get_or rows i [])

abbrev pub point_at : Rows → ℕ → Point
point_at t i = point_in t.at i

abbrev pub end_at : Rows → ℕ → End
end_at t i = end_in t.rows i

unfoldable pub table_row : Rows → ℕ → Row Point
table_row t i = row_of (point_at t i) (end_at t i)

unfoldable pub put : Rows → ℕ → Point → End → Rows
put t i p e = lent (set t.rows i (end_code e)) (set t.at i (point_code p))
