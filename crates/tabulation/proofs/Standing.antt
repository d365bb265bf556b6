-- What a caller has from `tabulate` where there is room: read by position from the first places of rows and at, the rows are the definition's table.
use mathlib.Core.Path.{◌≡◌, refl, sym, ap, ◌∙◌}
use mathlib.Core.Bool.{Bool, true, false}
use mathlib.Core.List.{List, [], map}
use Prim.Native.Nat.{ℕ, ◌≤◌, ◌<◌}
use borrow.Author.Tests.{ltb-true, ltb-false, lt-ltb}
use lib.Dec.{ltb}
use lib.ListN.{length, get_or, take, drop, length-map, get_or-eq_default}
use lib.Seq.{take_at}
use Rattle.numbers.specs.declared.Point.{Point}
use Rattle.events.specs.Pool.{Pool}
use Rattle.contours.specs.Table.{Row, nothing, place, row_at}
use Rattle.contours.proofs.Lists.{get_d_map}
use Rattle.positions.specs.Positions.{in_front, ordered_in, places_in, place_in}
use Rattle.positions.proofs.Told.{each-place}
use Rattle.rows.specs.Rows.{Rows, lent, point_in, end_in, end_for, void, table_row}
use Rattle.rows.proofs.Read.{beyond}
use Rattle.rows.proofs.Stored.{row_back, end_back, point-back}
use Rattle.tabulation.specs.Tabulation.{Tabulated, tabulated, table_in, row_code, at_code, laid, roomy, tabulate}
use Rattle.tabulation.proofs.Tabled.{room, size-table}

-- ---- the codes of a table, read

abbrev coded : List (Row Point) → Rows
coded rs = lent (map row_code rs) (map at_code rs)

abbrev none : Row Point
none = record { point = void; left = false; other = 0; below = nothing }

row_inside : (rs : List (Row Point)) (i : ℕ) → i < length rs → table_row (coded rs) i ≡ row_at void rs i
unfolding table_row point_in end_in row_at row_code at_code
row_inside rs i h =
    rw
    (length-map rs at_code, lt-ltb i (length rs) h, get_d_map row_code rs i [] none h, get_d_map at_code rs i [] none h, end_back (end_for (get_or rs i none)), point-back (get_or rs i none).point)
    (row_back (get_or rs i none))

row-beyond : (rs : List (Row Point)) (i : ℕ) → length rs ≤ i → table_row (coded rs) i ≡ row_at void rs i
unfolding row_at
row-beyond rs i h =
    beyond (coded rs) i (rw (length-map rs row_code) h) (rw (length-map rs at_code) h) ∙ sym (get_or-eq_default rs none h)

pub row-coded : (rs : List (Row Point)) (i : ℕ) → table_row (coded rs) i ≡ row_at void rs i
row-coded rs i = go (ltb i (length rs)) refl
  where
    go : (t : Bool) → ltb i (length rs) ≡ t → table_row (coded rs) i ≡ row_at void rs i
    go true e = row_inside rs i (ltb-true i (length rs) e)
    go false e = row-beyond rs i (ltb-false i (length rs) e)

-- ---- the whole

-- the arrays o, q and t after, and the size told
pub record Stands (p : Pool) (l o q : List ℕ) (t : Rows) (n : ℕ) : Type 0 where
  pub size : n ≡ length (table_in p l)
  pub ordered : take n o ≡ ordered_in p l
  pub placed : (r : ℕ) → place_in q n r ≡ place (ordered_in p l) r
  pub rows : length (take n t.rows) ≡ n
  pub points : length (take n t.at) ≡ n
  pub row : (i : ℕ) → table_row (lent (take n t.rows) (take n t.at)) i ≡ row_at void (table_in p l) i

take-front : {A : Type 0} (s o : List A) (n : ℕ) → n ≡ length s → take n (in_front s o) ≡ s
unfolding in_front
take-front s o n e = take_at s (drop (length s) o) n (sym e)

-- the equation of `tabulate`'s contract, and that there was room
module _ (p : Pool) (l o q o' q' : List ℕ) (t t' : Rows) (n : ℕ) (fits : roomy p l o q t ≡ true) (e : tabulated o' q' t' n ≡ tabulate p l o q t) where
  done : tabulated o' q' t' n ≡ tabulated (in_front (ordered_in p l) o) (places_in (ordered_in p l) (length q)) (laid (table_in p l) t) (length (ordered_in p l))
  unfolding tabulate
  done = e ∙ rw fits

  counted : n ≡ length (ordered_in p l)
  counted = ap (λ (x : Tabulated). x.count) done

  sized : n ≡ length (table_in p l)
  sized = counted ∙ sym (size-table p l)

  rows-coded : take n t'.rows ≡ map row_code (table_in p l)
  unfolding laid
  rows-coded =
      ap (λ (x : Tabulated). take n x.rows.rows) done
      ∙ take-front (map row_code (table_in p l)) t.rows n (sized ∙ sym (length-map (table_in p l) row_code))

  points-coded : take n t'.at ≡ map at_code (table_in p l)
  unfolding laid
  points-coded =
      ap (λ (x : Tabulated). take n x.rows.at) done ∙ take-front (map at_code (table_in p l)) t.at n (sized ∙ sym (length-map (table_in p l) at_code))

  placed-in : (r : ℕ) → place_in q' n r ≡ place (ordered_in p l) r
  placed-in r =
      rw (ap (λ (x : Tabulated). x.places) done, counted)
      (each-place p l (length q) r (room (length l) (length o) (length p.points) (length q) (length t.rows) (length t.at) fits).places)

  pub stands : Stands p l o' q' t' n
  stands =
      record {
        size = sized;
        ordered = ap (λ (x : Tabulated). take n x.order) done ∙ take-front (ordered_in p l) o n counted;
        placed = placed-in;
        rows = ap length rows-coded ∙ length-map (table_in p l) row_code ∙ sym sized;
        points = ap length points-coded ∙ length-map (table_in p l) at_code ∙ sym sized;
        row = λ i. rw (rows-coded, points-coded) (row-coded (table_in p l) i);
      }
