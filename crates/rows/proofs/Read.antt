-- Reads inside the table and beyond it.
use mathlib.Core.Path.{◌≡◌, sym, ap, ◌∙◌}
use mathlib.Core.List.{List, [], ◌∷◌}
use Prim.Native.Nat.{ℕ, ◌≤◌}
use borrow.Author.Tests.{le-ltb}
use lib.ListN.{length, get_or, get_or-eq_default}
use Rattle.contours.specs.Table.{row_at}
use Rattle.rows.specs.declared.End.{End}
use Rattle.rows.specs.Rows.{Rows, size, end_of, end_in, point_in, below_of, row_of, void, table_row}

pub end-in : (rows : List (List ℕ)) (i : ℕ) (e : End) → e ≡ end_of (get_or rows i []) → e ≡ end_in rows i
unfolding end_in
end-in rows i e h = h

pub end-out : (rows : List (List ℕ)) (i : ℕ) (e : End) → length rows ≤ i → e ≡ end_of (0 ∷ 0 ∷ 0 ∷ 0 ∷ []) → e ≡ end_in rows i
unfolding end_in end_of
end-out rows i e l h = h ∙ sym (ap end_of (get_or-eq_default rows [] l))

-- beyond both arrays every row is the one that the definition has beyond a table
pub beyond : (t : Rows) (i : ℕ) → size t ≤ i → length t.at ≤ i → table_row t i ≡ row_at void [] i
unfolding table_row row_of end_in end_of below_of point_in row_at
beyond t i h k = rw (get_or-eq_default t.rows [] h, le-ltb i (length t.at) k)
