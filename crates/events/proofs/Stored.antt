-- Reading after writing: a record survives its two rows, new or over lent marks, and a write touches no other number and no size.
use Rattle.std.proofs.Common.{◌≡◌, ℕ, ◌<◌, ◌≢◌, List, [], length, get_or, arith, length-set, get_or-set_other, get_or-set_same, lt-ltb}
use Rattle.numbers.specs.declared.Point.{Point}
use Rattle.events.specs.Event.{Event}
use Rattle.events.specs.Store.{Store}
use Rattle.events.proofs.Codes.{flag, link, edge_type, transition}
use Rattle.events.proofs.Over.{over-says, link-says}
use Rattle.events.specs.Pool.{Pool, size, flag_of, flag_number, edge_type_of, edge_type_number, transition_of, transition_number, event_of, point_of, marks_of, marks_over, row_at, with_rows, enter, store, stored}

-- no two records share their rows
pub back : (e : Event Point) → event_of (point_of e) (marks_of e) ≡ e
unfolding event_of point_of marks_of
back e = rw (flag e.left, flag e.subject, flag e.in_out, flag e.other_in_out, link e.below, link e.contour, edge_type e.edge_type, transition e.transition)

-- .. nor over lent marks
pub back-over : (m : List ℕ) (e : Event Point) → event_of (point_of e) (marks_over m e) ≡ e
unfolding event_of point_of marks_over
back-over m e =
    rw
    (over-says flag_of flag_number flag (get_or m 0 0) e.left, over-says flag_of flag_number flag (get_or m 1 0) e.subject, over-says flag_of flag_number flag (get_or m 8 0) e.in_out, over-says flag_of flag_number flag (get_or m 9 0) e.other_in_out, link-says (get_or m 4 0) (get_or m 5 0) e.below, link-says (get_or m 10 0) (get_or m 11 0) e.contour, over-says edge_type_of edge_type_number edge_type (get_or m 6 0) e.edge_type, over-says transition_of transition_number transition (get_or m 7 0) e.transition)

-- ---- with any marks that are the record's own

module _ (p : Pool) (i : ℕ) (e : Event Point) (m : List ℕ) where
  size-rows : size (with_rows p i e m) ≡ size p
  unfolding size
  size-rows = rw (length-set p.points i (point_of e), length-set p.marks i m)

  here-rows : event_of (point_of e) m ≡ e → i < size p → row_at (with_rows p i e m) i ≡ e
  unfolding row_at size
  here-rows b h =
      rw
      (length-set p.points i (point_of e), length-set p.marks i m, lt-ltb i (length p.points) (omega arith), lt-ltb i (length p.marks) (omega arith), get_or-set_same p.points i (point_of e) [] (omega arith), get_or-set_same p.marks i m [] (omega arith))
      b

  away-rows : (j : ℕ) → j ≢ i → row_at (with_rows p i e m) j ≡ row_at p j
  unfolding row_at
  away-rows j h = rw (length-set p.points i (point_of e), length-set p.marks i m, get_or-set_other p.points i j (point_of e) [] h, get_or-set_other p.marks i j m [] h)

-- what every store of records owes: the pool is one
pub record Stored {P S : Type 0} (K : Store P S) : Type 0 where
  pub size-enter : (s : S) (i : ℕ) (e : Event P) → K.size (K.enter s i e) ≡ K.size s
  pub here-enter : (s : S) (i : ℕ) (e : Event P) → i < K.size s → K.row_at (K.enter s i e) i ≡ e
  pub away-enter : (s : S) (i j : ℕ) (e : Event P) → j ≢ i → K.row_at (K.enter s i e) j ≡ K.row_at s j
  pub size-store : (s : S) (i : ℕ) (e : Event P) → K.size (K.store s i e) ≡ K.size s
  pub here : (s : S) (i : ℕ) (e : Event P) → i < K.size s → K.row_at (K.store s i e) i ≡ e
  pub away : (s : S) (i j : ℕ) (e : Event P) → j ≢ i → K.row_at (K.store s i e) j ≡ K.row_at s j

pub pool-stored : Stored stored
unfolding stored enter store
pool-stored =
    record {
      size-enter = λ p i e. size-rows p i e (marks_of e);
      here-enter = λ p i e. here-rows p i e (marks_of e) (back e);
      away-enter = λ p i j e. away-rows p i e (marks_of e) j;
      size-store = λ p i e. size-rows p i e (marks_over (get_or p.marks i []) e);
      here = λ p i e. here-rows p i e (marks_over (get_or p.marks i []) e) (back-over (get_or p.marks i []) e);
      away = λ p i j e. away-rows p i e (marks_over (get_or p.marks i []) e) j;
    }
