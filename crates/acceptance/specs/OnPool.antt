-- The checks of connection on a lent pool, at binary64.
use Rattle.std.specs.Prelude.{Bool, true, false, List, ℕ, length, Err, Ok}
use Rattle.refusals.specs.declared.Reason.TheVariants as Reason
use Rattle.refusals.specs.Refusals.{Verdict}
use Rattle.events.specs.Binary64.{at_binary64}
use Rattle.events.specs.Pool.{Pool, size, row_at}
use Rattle.checks.specs.Checks.{and_then, unfit_at, named}
use Rattle.checks.specs.OnPool.{on}
use Rattle.contours.specs.Result.{results, result_edges}
use Rattle.contours.specs.Accept.{Room, misplaced, half_listed, told_lowest, roomy, accept}
use Rattle.acceptance.specs.declared.flaws.Flaw.{Flaw}
use Rattle.acceptance.specs.declared.flaws.Flaw.TheVariants.{Misplaced, HalfListed}
use Rattle.acceptance.specs.Flaws.{reason_of, flawed}

unfoldable pub room : (corners contours holes : ℕ) → Room
room corners contours holes = record { points = corners; contours = contours; holes = holes }

unfoldable pub accept_pool : Pool → List ℕ → (corners contours holes : ℕ) → Verdict
accept_pool p list corners contours holes =
    accept at_binary64 (row_at p) (size p) (length p.points) (length p.marks) list (room corners contours holes)

-- ---- as the code runs them

unfoldable pub room_refused : ℕ → Verdict
room_refused wanted = Err (record { reason = Reason.Room; place = wanted })

unfoldable pub is_refused : Verdict → Bool
is_refused (Ok _) = false
is_refused (Err r) = true

unfoldable pub told_unfit : Pool → List ℕ → Verdict
told_unfit p list = told_lowest Reason.Coordinate (on p (unfit_at at_binary64)) (on p named list)

unfoldable pub told_flaw : Pool → List ℕ → List ℕ → Flaw → Verdict
told_flaw p seen list flaw = told_lowest (reason_of flaw) (flawed p seen flaw) list

unfoldable pub told_room : Pool → List ℕ → (corners contours holes : ℕ) → Verdict
told_room p list corners contours holes =
    roomy (room corners contours holes) (length (results (row_at p) list)) (length (result_edges (row_at p) list))

-- after 1, where an array tells how often each record is listed
unfoldable pub accept_seen : Pool → List ℕ → List ℕ → (corners contours holes : ℕ) → Verdict
accept_seen p seen list corners contours holes =
    and_then (told_unfit p list)
    (and_then (told_flaw p seen list Misplaced)
    (and_then (told_flaw p seen list HalfListed)
    (told_room p list corners contours holes)))

-- after 1, as they are asked
unfoldable pub accept_sized : Pool → List ℕ → (corners contours holes : ℕ) → Verdict
accept_sized p list corners contours holes =
    and_then (told_unfit p list)
    (and_then (told_lowest Reason.Link (misplaced at_binary64 (row_at p) (size p) list) list)
    (and_then (told_lowest Reason.HalfEdge (half_listed at_binary64 (row_at p) (size p) list) list)
    (told_room p list corners contours holes)))
