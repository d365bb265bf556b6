-- Where `tabulate` had room, its arrays hold the table in their first places, and what is made of those is connection's.
use mathlib.Core.Path.{◌≡◌, sym, ap, ◌∙◌}
use mathlib.Core.Bool.{Bool, true, cond}
use mathlib.Core.List.{List}
use Prim.Native.Nat.{ℕ, ◌≤◌, ◌<◌}
use native.Mathlib.Omega.{arith}
use borrow.Author.Tests.{le-ltb, le-leb, lt-ltb}
use lib.ListN.{length, get_or, take, length-take}
use lib.Seq.{length-take-le}
use Rattle.events.specs.Binary64.{at_binary64}
use Rattle.events.specs.Pool.{Pool, size, row_at}
use Rattle.checks.specs.Checks.{max_events}
use Rattle.contours.specs.Result.{ordered}
use Rattle.contours.specs.Table.{place}
use Rattle.positions.specs.Positions.{ordered_in, place_in}
use Rattle.positions.proofs.Told.{count_most}
use Rattle.rows.specs.Rows.{Rows}
use Rattle.rows.specs.Rows as R
use Rattle.tabulation.specs.Tabulation.{tabulated, table_in, has_room, roomy, tabulate}
use Rattle.tabulation.proofs.Tabled.{size-table}
use Rattle.tabulation.proofs.Standing.{Stands, stands}
use Rattle.tracing.specs.Tracing.{traced_on}
use Rattle.tracing.proofs.Tracing.{of-table}
use Rattle.connection.specs.Connection.{Lent, After}
use Rattle.connection.specs.Steps.{Small, Spacious, laid_down, connect_accepted}
use Rattle.connection.proofs.Traced.{traced-is}

-- within the limit, and with these arrays
has_room_lem : (p : Pool) (list o q ms : List ℕ) (t : Rows) → Small p list → Spacious p list o q t ms → roomy p list o q t ≡ true
unfolding has_room
has_room_lem p list o q ms t s w =
    rw
    (le-ltb max_events (length list) s.list_is, le-ltb (length o) (length list) w.order, le-ltb (length q) (length p.points) w.places, le-ltb (length t.rows) (length list) w.rows)
    (le-leb (length list) (length t.at) w.points)

size-most : (p : Pool) → size p ≤ length p.points
unfolding size
size-most p = omega arith

within : {A : Type 0} (n : ℕ) (l : List A) → length (take n l) ≡ n → n ≤ length l
within n l e = omega (arith, e, length-take n l)

-- o', q' and t' are the arrays after `tabulate`, n the size that it told
module _ (p : Pool) (list o q o' q' ms : List ℕ) (t t' : Rows) (n : ℕ) (s : Small p list) (w : Spacious p list o q t ms) (e : tabulated o' q' t' n ≡ tabulate p list o q t) where
  st : Stands p list o' q' t' n
  st = stands p list o q o' q' t t' n (has_room_lem p list o q ms t s w) e

  few : length (table_in p list) ≤ length list
  few = omega (arith, count_most p list, size-table p list)

  pub in_order_lem : n ≤ length o'
  in_order_lem = within n o' (ap length st.ordered ∙ sym (size-table p list) ∙ sym st.size)

  pub in_rows : n ≤ length t'.rows
  in_rows = within n t'.rows st.rows

  pub in-at : n ≤ length t'.at
  in-at = within n t'.at st.points

  pub in-walked : n ≤ length ms
  in-walked = omega (arith, few, st.size, w.walked)

  module _ (k : length q' ≡ length q) where
    in-places : (r : ℕ) → r < size p → get_or q' r 0 ≡ place (ordered (row_at p) at_binary64 list) r
    unfolding place_in ordered_in
    in-places r h =
        let l : r < length q' = omega (arith, size-most p, w.places) in
        sym (ap (λ (b : Bool). cond b (get_or q' r 0) n) (lt-ltb r (length q') l)) ∙ st.placed r

    -- what the steps make of the first n places
    pub laid-is : (l : Lent) (x : After)
        → x ≡ laid_down (take n o') q' p (traced_on (R.lent (take n t'.rows) (take n t'.at)) (take n ms) l.corners l.contours l.holes) → x ≡ connect_accepted p list l
    laid-is l x f =
        f
        ∙ ap (λ (y : List ℕ). laid_down y q' p (traced_on T M l.corners l.contours l.holes)) st.ordered
        ∙ ap (laid_down (ordered_in p list) q' p) (of-table T (table_in p list) M l.corners l.contours l.holes (st.rows ∙ st.size) st.row (omega (arith, few, s.list_is)) marks)
        ∙ traced-is p list q' l (omega (arith, size-most p, w.places)) in-places
      where
        T : Rows
        T = R.lent (take n t'.rows) (take n t'.at)

        M : List ℕ
        M = take n ms

        marks : length M ≡ length (table_in p list)
        marks = length-take-le n ms in-walked ∙ st.size
