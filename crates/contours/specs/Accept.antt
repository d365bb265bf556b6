-- The checks of connection, each over all listed records before the next: 1, 2, 4, 8, 5. A test of a record is true where it strikes, and the
-- lowest record that it strikes is told. Looked at are the records of the list, and what they link to where a test of `checks` says so; by 2 also their
-- partners, since event order of a listed record reads the points of both ends.
use Rattle.refusals.specs.declared.Reason.{Reason}
use Rattle.std.specs.Prelude.{Bool, false, not, cond, ◌&&◌, ◌||◌, List, [], ◌∷◌, ℕ, min, length, eqb, ltb, Err, Ok, Option, None, Some}
use Rattle.refusals.specs.declared.Reason.TheVariants as Reason
use Rattle.refusals.specs.Refusals.{Verdict}
use Rattle.events.specs.Coordinates.{Coordinates}
use Rattle.events.specs.Event.{Event}
use Rattle.checks.specs.Checks.{max_events, unfit_at, mistaken, named, and_then, sized}
use Rattle.contours.specs.Result.{in_result, results, result_edges}

-- ---- the lowest record that a test strikes

unfoldable pub at_most : ℕ → Option ℕ → ℕ
at_most r None = r
at_most r (Some q) = min r q

unfoldable pub lowest : (ℕ → Bool) → List ℕ → Option ℕ
lowest test [] = None
lowest test (r ∷ rs) = cond (test r) (Some (at_most r (lowest test rs))) (lowest test rs)

unfoldable pub refused_at : Reason → Option ℕ → Verdict
refused_at reason None = Ok tt
refused_at reason (Some place) = Err (record { reason = reason; place = place })

unfoldable pub told_lowest : Reason → (ℕ → Bool) → List ℕ → Verdict
told_lowest reason test list = refused_at reason (lowest test list)

-- ---- 1: the list longer than the most records of a pool, at place 0; then the pool's arrays, at place 1

unfoldable pub list_sized : List ℕ → Verdict
list_sized list = cond (ltb max_events (length list)) (Err (record { reason = Reason.Size; place = 0 })) (Ok tt)

-- ---- 4: a record twice in the list

unfoldable pub listed : List ℕ → ℕ → Bool
listed [] r = false
listed (x ∷ l) r = eqb x r || listed l r

unfoldable pub twice : List ℕ → ℕ → Bool
twice [] r = false
twice (x ∷ l) r = (eqb x r && listed l r) || twice l r

module _ {P : Type 0} (C : Coordinates P) (row : ℕ → Event P) (n : ℕ) (list : List ℕ) where
  -- a list entry outside the pool or twice, or one of the mistakes of a record
  unfoldable pub misplaced : ℕ → Bool
  misplaced r = twice list r || mistaken C row n r

  -- ---- 8: the edge is in the result and its other end is not listed; told at the end that is
  unfoldable pub half_listed : ℕ → Bool
  half_listed r = in_result row r && not (listed list (row r).partner)

-- ---- 5: the places of the lent arrays

pub record Room : Type 0 where
  pub points : ℕ
  pub contours : ℕ
  pub holes : ℕ

-- told with the places wanted
unfoldable pub room_for : ℕ → ℕ → Verdict
room_for wanted places = cond (ltb places wanted) (Err (record { reason = Reason.Room; place = wanted })) (Ok tt)

unfoldable pub roomy : Room → (events edges : ℕ) → Verdict
roomy room events edges =
    and_then (room_for events room.points) (and_then (room_for edges room.contours) (room_for edges room.holes))

-- ---- all, in their order: `points` and `marks` are the lengths of the pool's arrays, n the records that it holds

unfoldable pub accept : {P : Type 0} → Coordinates P → (ℕ → Event P) → (n points marks : ℕ) → List ℕ → Room → Verdict
accept C row n points marks list room =
    and_then (list_sized list)
    (and_then (sized points marks)
    (and_then (told_lowest Reason.Coordinate (unfit_at C row n) (named row n list))
    (and_then (told_lowest Reason.Link (misplaced C row n list) list)
    (and_then (told_lowest Reason.HalfEdge (half_listed C row n list) list)
    (roomy room (length (results row list)) (length (result_edges row list)))))))
