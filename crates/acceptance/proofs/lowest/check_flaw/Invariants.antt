-- From the list's end to its front, one record more each time.
use Rattle.std.proofs.Common.{◌≡◌, map, reverse}
use Rattle.events.specs.Pool.{pool}
use Rattle.contours.specs.Accept.{told_lowest}
use Rattle.acceptance.specs.Flaws.{flawed}
use Rattle.acceptance.proofs.lowest.check_flaw.Given as goal

abbrev pub invariant-loop-r : goal.invariant-loop-r
invariant-loop-r l = l.told ≡ told_lowest l.reason (flawed (pool l.points l.marks) l.seen l.flaw) (reverse (map (λ y. y.now) l.yielded))
