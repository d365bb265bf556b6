-- The pool: the two lent arrays, whole. It fixes every number of them; an event is read from it and stored in it by number.
-- A flag is 1 for true and any other number for false; edge types and transitions are numbered as they are declared, the last one standing for all beyond.
use Rattle.std.specs.Prelude.{ℕ, min, Bool, true, false, cond, List, [], ◌∷◌, length, ◌==◌, nat_lt, slice_index, slice_index_or, slice_set, None, Option, Some}
use Rattle.numbers.specs.declared.Point.{Point}
use Rattle.events.specs.declared.EdgeType.{EdgeType}
use Rattle.events.specs.declared.EdgeType.TheVariants.{Normal, NonContributing, SameTransition, DifferentTransition}
use Rattle.events.specs.declared.ResultTransition.{ResultTransition}
use Rattle.events.specs.declared.ResultTransition.TheVariants.{None as NoTransition, InOut, OutIn}
use Rattle.events.specs.Event.{Event, fresh}
use Rattle.events.specs.Store.{Store}

pub record Pool : Type 0 where
  pub points : List (List ℕ)
  pub marks : List (List ℕ)

abbrev pub pool : List (List ℕ) → List (List ℕ) → Pool
pool p m = record { points = p; marks = m }

unfoldable pub size : Pool → ℕ
size p = min (length p.points) (length p.marks)

-- ---- numbers for what a record holds

abbrev pub flag_of : ℕ → Bool
flag_of n = n == 1

unfoldable pub flag_number : Bool → ℕ
flag_number b = cond b 1 0

-- a link takes two numbers: 1 and where it leads, or 0 and 0
unfoldable pub link_of : ℕ → ℕ → Option ℕ
link_of there n = cond (there == 1) (Some n) None

unfoldable pub there_number : Option ℕ → ℕ
there_number None = 0
there_number (Some n) = 1

unfoldable pub link_number : Option ℕ → ℕ
link_number None = 0
link_number (Some n) = n

unfoldable pub edge_type_of : ℕ → EdgeType
edge_type_of n = cond (n == 0) Normal (cond (n == 1) NonContributing (cond (n == 2) SameTransition DifferentTransition))

unfoldable pub edge_type_number : EdgeType → ℕ
edge_type_number Normal = 0
edge_type_number NonContributing = 1
edge_type_number SameTransition = 2
edge_type_number DifferentTransition = 3

unfoldable pub transition_of : ℕ → ResultTransition
transition_of n = cond (n == 0) NoTransition (cond (n == 1) InOut OutIn)

unfoldable pub transition_number : ResultTransition → ℕ
transition_number NoTransition = 0
transition_number InOut = 1
transition_number OutIn = 2

unfoldable pub same_link : Option ℕ → Option ℕ → Bool
same_link None None = true
same_link None (Some b) = false
same_link (Some a) None = false
same_link (Some a) (Some b) = a == b

-- ---- a record in its two rows

unfoldable pub event_of : List ℕ → List ℕ → Event Point
event_of q m =
    record {
      point = record { x = slice_index q 0; y = slice_index q 1 };
      left = flag_of (slice_index m 0);
      subject = flag_of (slice_index m 1);
      ring = slice_index m 2;
      partner = slice_index m 3;
      below = link_of (slice_index m 4) (slice_index m 5);
      edge_type = edge_type_of (slice_index m 6);
      transition = transition_of (slice_index m 7);
      in_out = flag_of (slice_index m 8);
      other_in_out = flag_of (slice_index m 9);
      contour = link_of (slice_index m 10) (slice_index m 11);
    }

unfoldable pub point_of : Event Point → List ℕ
point_of e = e.point.x ∷ e.point.y ∷ []

unfoldable pub marks_of : Event Point → List ℕ
marks_of e =
    flag_number e.left
    ∷ flag_number e.subject
    ∷ e.ring
    ∷ e.partner
    ∷ there_number e.below
    ∷ link_number e.below
    ∷ edge_type_number e.edge_type
    ∷ transition_number e.transition
    ∷ flag_number e.in_out
    ∷ flag_number e.other_in_out
    ∷ there_number e.contour
    ∷ link_number e.contour
    ∷ []

-- ---- the marks of a record that is there already: one that says what it should stays as lent, whatever its number

unfoldable pub over : {A : Type 0} → (ℕ → A) → (A → ℕ) → ℕ → A → ℕ
over says number m a = cond (number (says m) == number a) m (number a)

-- the two of a link stay or change together
unfoldable pub there_over : ℕ → ℕ → Option ℕ → ℕ
there_over there n l = cond (same_link (link_of there n) l) there (there_number l)

unfoldable pub link_over : ℕ → ℕ → Option ℕ → ℕ
link_over there n l = cond (same_link (link_of there n) l) n (link_number l)

unfoldable pub marks_over : List ℕ → Event Point → List ℕ
marks_over m e =
    over flag_of flag_number (slice_index m 0) e.left
    ∷ over flag_of flag_number (slice_index m 1) e.subject
    ∷ e.ring
    ∷ e.partner
    ∷ there_over (slice_index m 4) (slice_index m 5) e.below
    ∷ link_over (slice_index m 4) (slice_index m 5) e.below
    ∷ over edge_type_of edge_type_number (slice_index m 6) e.edge_type
    ∷ over transition_of transition_number (slice_index m 7) e.transition
    ∷ over flag_of flag_number (slice_index m 8) e.in_out
    ∷ over flag_of flag_number (slice_index m 9) e.other_in_out
    ∷ there_over (slice_index m 10) (slice_index m 11) e.contour
    ∷ link_over (slice_index m 10) (slice_index m 11) e.contour
    ∷ []

-- what is read outside the pool: its own partner, so that it means the same under every numbering
unfoldable pub blank : ℕ → Event Point
blank i = fresh (record { x = 0; y = 0 }) false false 0 i

-- ---- reading and storing by number

unfoldable pub row_at : Pool → ℕ → Event Point
row_at p i =
    cond (nat_lt i (length p.points))
    (cond (nat_lt i (length p.marks)) (event_of (slice_index_or p.points i []) (slice_index_or p.marks i [])) (blank i))
    (blank i)

-- a record's two rows, these marks being its own
abbrev pub with_rows : Pool → ℕ → Event Point → List ℕ → Pool
with_rows p i e m = record { points = slice_set p.points i (point_of e); marks = slice_set p.marks i m }

unfoldable pub enter : Pool → ℕ → Event Point → Pool
enter p i e = with_rows p i e (marks_of e)

unfoldable pub store : Pool → ℕ → Event Point → Pool
store p i e = with_rows p i e (marks_over (slice_index_or p.marks i []) e)

-- the pool as a store of records
unfoldable pub stored : Store Point Pool
stored = record { size = size; row_at = row_at; enter = enter; store = store; blank = blank }
