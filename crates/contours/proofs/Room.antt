-- Lent arrays that are never too short (refusal 5): a place for each listed event, and half as many for contours and for holes.
use Rattle.refusals.specs.Refusals.{number}
use mathlib.Core.Path.{ap}
use Rattle.refusals.specs.declared.Reason.TheVariants as Reason
use mathlib.Core.Logic.{◌≢◌}
use mathlib.Core.Bool.{true}
use mathlib.Core.List.{List}
use Prim.Native.Nat.{ℕ, ◌+◌, ◌≤◌}
use native.Mathlib.Omega.{arith}
use lib.ListN.{length, replicate, length-replicate}
use Rattle.refusals.specs.declared.Refusal.{Refusal}
use Rattle.events.specs.Coordinates.{Coordinates, same}
use Rattle.events.specs.Event.{Event}
use Rattle.order.proofs.Laws.{OrderLaws}
use Rattle.checks.specs.Checks.{named}
use Rattle.contours.specs.Result.{in_result, results, result_edges}
use Rattle.contours.specs.Table.{table, row_at}
use Rattle.contours.specs.Accept.{Room}
use Rattle.contours.proofs.Lists.{keep-few, length-perm}
use Rattle.contours.proofs.Marks.{open-le}
use Rattle.contours.proofs.Halves.{halves}
use Rattle.contours.proofs.Accepted.{none_told, Accepted, accepted-by}
use Rattle.contours.proofs.Good.{size, sorted, good, by_value, sides, lefts-open}
use Rattle.contours.proofs.Cause.{Short, short-points, short-contours, short-holes, Cause, list1, size1, unfit2, mistake4, half8, room5}

pub record Roomy (list : List ℕ) (room : Room) : Type 0 where
  pub points : length list ≤ room.points
  pub contours : length list ≤ room.contours + room.contours
  pub holes : length list ≤ room.holes + room.holes

module _ {P : Type 0} (C : Coordinates P) (row : ℕ → Event P) (L : OrderLaws C) (n : ℕ) (list : List ℕ) where
  results-few : length (results row list) ≤ length list
  unfolding results
  results-few = keep-few (in_result row) list

  -- each result edge has two events
  edges-half : P → Accepted C row n list → length (result_edges row list) + length (result_edges row list) ≤ length (results row list)
  edges-half void ok =
      let k = length (table row C list) in
      let at = row_at void (table row C list) in
      omega (arith, halves (same C) k at (good C row n void list ok) (by_value C row n void list ok L) (sides C row n void list ok), lefts-open C row void list, open-le (λ j. true) 0 (replicate k 0), length-replicate {A = ℕ} k 0, size C row void list, length-perm (sorted C row void list))

  module _ (points marks : ℕ) (room : Room) (h : Roomy list room) (x : Refusal) where
    pub cause-not-5 : Cause C row n points marks list room x → x.reason ≢ Reason.Room
    cause-not-5 (list1 l e) q = omega (arith, ap (λ (y : Refusal). number y.reason) e, ap number q)
    cause-not-5 (size1 l m e) q = omega (arith, ap (λ (y : Refusal). number y.reason) e, ap number q)
    cause-not-5 (unfit2 t) q = omega (arith, ap number t.reason_is, ap number q)
    cause-not-5 (mistake4 u t) q = omega (arith, ap number t.reason_is, ap number q)
    cause-not-5 (half8 u m t) q = omega (arith, ap number t.reason_is, ap number q)
    cause-not-5 (room5 u m t s) q = short s
      where
        half : length (result_edges row list) + length (result_edges row list) ≤ length (results row list)
        half = edges-half (row 0).point (accepted-by C row n list (none_told Reason.Coordinate _ (named row n list) u) (none_told Reason.Link _ list m) (none_told Reason.HalfEdge _ list t))

        short : Short room (length (results row list)) (length (result_edges row list)) x → ⊥
        short (short-points a e) = omega (arith, a, h.points, results-few)
        short (short-contours a b e) = omega (arith, b, h.contours, half, results-few)
        short (short-holes a b c e) = omega (arith, c, h.holes, half, results-few)
