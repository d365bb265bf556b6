-- Connection, whole: the checks, then the contours of the table; contour numbers found in the pool are forgotten, and those given are written.
use Rattle.refusals.specs.Refusals.{Verdict}
use Rattle.std.specs.Prelude.{List, ℕ, zero, suc, length, get_or, Err, None, Ok, Some, Option}
use Rattle.refusals.specs.declared.Refusal.{Refusal}
use Rattle.events.specs.Coordinates.{Coordinates, same}
use Rattle.events.specs.Event.{Event}
use Rattle.events.specs.Store.{Store}
use Rattle.contours.specs.Result.{ordered}
use Rattle.contours.specs.Table.{Row, place, table, row_at}
use Rattle.contours.specs.Contours.{Contour, Answer, done, halted, trace}
use Rattle.contours.specs.Outline.{Outline, outlines}
use Rattle.contours.specs.Accept.{Room, accept}

-- ---- contour numbers in the pool

-- of a mark
unfoldable pub contour_of : ℕ → Option ℕ
contour_of zero = None
contour_of (suc c) = Some c

unfoldable pub with_contour : {P : Type 0} → Option ℕ → Event P → Event P
with_contour l e =
    record {
      point = e.point;
      left = e.left;
      subject = e.subject;
      ring = e.ring;
      partner = e.partner;
      below = e.below;
      edge_type = e.edge_type;
      transition = e.transition;
      in_out = e.in_out;
      other_in_out = e.other_in_out;
      contour = l;
    }

module _ {P S : Type 0} (K : Store P S) where
  -- nothing of the record but its contour number
  unfoldable pub settle : S → ℕ → Option ℕ → S
  settle s r l = K.store s r (with_contour l (K.row_at s r))

  -- the first k records
  unfoldable pub settled : (ℕ → Option ℕ) → ℕ → S → S
  settled number zero s = s
  settled number (suc k) s = settle (settled number k s) k (number k)

-- the contour number of a record: of the mark at its position among the ordered records; a record that is not among them has none
unfoldable pub number_in : List ℕ → List ℕ → ℕ → Option ℕ
number_in s ms r = contour_of (get_or ms (place s r) 0)

-- ---- the answer

-- the contours, and the pool with their numbers
pub record Finished (P S : Type 0) : Type 0 where
  pub outlines : List (Outline P)
  pub pool : S

pub data Outcome (P S : Type 0) : Type 0 where
  -- by 1, 2, 4, 8 or 5: all stays as lent
  refused : Refusal → Outcome P S
  -- by 9: what was finished before it
  stopped : Refusal → Finished P S → Outcome P S
  connected : Finished P S → Outcome P S

-- what is given, if anything is
unfoldable pub given : {P S : Type 0} → Outcome P S → Option (Finished P S)
given (refused r) = None
given (stopped r f) = Some f
given (connected f) = Some f

module _ {P S : Type 0} (C : Coordinates P) (K : Store P S) (s : S) where
  abbrev pub records : ℕ → Event P
  records r = K.row_at s r

  module _ (list : List ℕ) where
    abbrev pub rows : List (Row P)
    rows = table records C list

    abbrev pub rows_at : ℕ → Row P
    rows_at = row_at (K.blank 0).point rows

    unfoldable pub finished : List ℕ → List Contour → Finished P S
    finished ms cs =
        record {
          outlines = outlines (same C) (length rows) rows_at cs;
          pool = settled K (number_in (ordered records C list) ms) (K.size s) s;
        }

    -- a position is told as the record there
    unfoldable pub outcome_of : Answer → Outcome P S
    outcome_of (done ms cs) = connected (finished ms cs)
    outcome_of (halted reason i ms cs) = stopped (record { reason = reason; place = get_or (ordered records C list) i 0 }) (finished ms cs)

    unfoldable pub traced : Answer
    traced = trace (same C) (length rows) rows_at

    unfoldable pub after_checks : Verdict → Outcome P S
    after_checks (Ok _) = outcome_of traced
    after_checks (Err r) = refused r

  -- `points` and `marks` are the lengths of the pool's arrays
  unfoldable pub connect : (points marks : ℕ) → List ℕ → Room → Outcome P S
  connect points marks list room = after_checks list (accept C records (K.size s) points marks list room)
