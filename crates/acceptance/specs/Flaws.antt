-- The tests of a listed record, where an array tells how often each record is listed.
use Rattle.refusals.specs.declared.Reason.{Reason}
use Rattle.refusals.specs.declared.Reason.TheVariants as Reason
use Rattle.std.specs.Prelude.{Bool, ◌&&◌, ◌||◌, List, ℕ, eqb, ltb}
use Rattle.events.specs.Binary64.{at_binary64}
use Rattle.events.specs.Pool.{Pool, row_at}
use Rattle.checks.specs.Checks.{mistaken}
use Rattle.checks.specs.OnPool.{on}
use Rattle.contours.specs.Result.{in_result}
use Rattle.acceptance.specs.declared.flaws.Flaw.{Flaw}
use Rattle.acceptance.specs.declared.flaws.Flaw.TheVariants.{Misplaced, HalfListed}
use Rattle.acceptance.specs.Seen.{seen_at}

-- the reason of the refusal
unfoldable pub reason_of : Flaw → Reason
reason_of Misplaced = Reason.Link
reason_of HalfListed = Reason.HalfEdge

unfoldable pub misplaced_seen : Pool → List ℕ → ℕ → Bool
misplaced_seen p seen r = on p (mistaken at_binary64) r || ltb 1 (seen_at seen r)

unfoldable pub half_seen : Pool → List ℕ → ℕ → Bool
half_seen p seen r = in_result (row_at p) r && eqb (seen_at seen (row_at p r).partner) 0

unfoldable pub flawed : Pool → List ℕ → Flaw → ℕ → Bool
flawed p seen Misplaced = misplaced_seen p seen
flawed p seen HalfListed = half_seen p seen
