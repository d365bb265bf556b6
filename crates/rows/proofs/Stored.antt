-- Reading after storing: a row survives its numbers, and a store touches no other position and no size.
use mathlib.Core.Path.{◌≡◌, refl, ◌∙◌}
use mathlib.Core.Logic.{◌≢◌}
use mathlib.Core.List.{[]}
use Prim.Native.Nat.{ℕ, ◌<◌}
use borrow.Author.Tests.{lt-ltb}
use lib.ListN.{length, length-set}
use lib.Seq.{get_or-set_same, get_or-set_other}
use Rattle.numbers.specs.declared.Point.{Point}
use Rattle.events.proofs.Codes.{flag}
use Rattle.contours.specs.Table.{Below, nothing, over, Row}
use Rattle.rows.specs.declared.End.{End}
use Rattle.rows.specs.Rows.{Rows, size, point_of, point_code, end_of, end_code, below_of, below_number, below_flag, row_of, end_for, point_in, end_in, table_row, put}

pub end_back : (e : End) → end_of (end_code e) ≡ e
unfolding end_of end_code
end_back e = rw (flag e.left, flag e.out_in)

pub point-back : (p : Point) → point_of (point_code p) ≡ p
unfolding point_of point_code
point-back p = refl

below-back : (b : Below) → below_of (below_number b) (below_flag b) ≡ b
unfolding below_of below_number below_flag
below-back nothing = refl
below-back (over k b) = refl

-- every row of the definition has numbers
pub row_back : (r : Row Point) → row_of r.point (end_for r) ≡ r
unfolding row_of end_for
row_back r = rw (below-back r.below)

pub size-put : (t : Rows) (i : ℕ) (p : Point) (e : End) → size (put t i p e) ≡ size t
unfolding put
size-put t i p e = length-set t.rows i (end_code e)

pub here : (t : Rows) (i : ℕ) (p : Point) (e : End) → i < size t → i < length t.at → table_row (put t i p e) i ≡ row_of p e
unfolding table_row put point_in end_in
here t i p e h k =
    rw
    (length-set t.at i (point_code p), lt-ltb i (length t.at) k, get_or-set_same t.rows i (end_code e) [] h, get_or-set_same t.at i (point_code p) [] k, end_back e, point-back p)

pub away : (t : Rows) (i j : ℕ) (p : Point) (e : End) → j ≢ i → table_row (put t i p e) j ≡ table_row t j
unfolding table_row put point_in end_in
away t i j p e h = rw (length-set t.at i (point_code p), get_or-set_other t.rows i j (end_code e) [] h, get_or-set_other t.at i j (point_code p) [] h)

-- the numbers of a row, stored and read
pub stored : (t : Rows) (i : ℕ) (r : Row Point) → i < size t → i < length t.at → table_row (put t i r.point (end_for r)) i ≡ r
stored t i r h k = here t i r.point (end_for r) h k ∙ row_back r
