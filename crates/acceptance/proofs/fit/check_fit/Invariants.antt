-- From the list's end to its front, one record and its partner more each time.
use Rattle.std.proofs.Common.{◌≡◌, map, reverse}
use Rattle.refusals.specs.declared.Reason.TheVariants as Reason
use Rattle.events.specs.Binary64.{at_binary64}
use Rattle.events.specs.Pool.{pool, row_at}
use Rattle.checks.specs.Checks.{unfit_at, named}
use Rattle.contours.specs.Accept.{told_lowest}
use Rattle.acceptance.proofs.fit.check_fit.Given as goal

abbrev pub invariant-loop-r : goal.invariant-loop-r
invariant-loop-r l =
    l.told ≡ told_lowest Reason.Coordinate (unfit_at at_binary64 (row_at (pool l.points l.marks)) l.n) (named (row_at (pool l.points l.marks)) l.n (reverse (map (λ y. y.now) l.yielded)))
