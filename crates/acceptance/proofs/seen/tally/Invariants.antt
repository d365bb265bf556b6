-- From the list's end to its front, each record noted.
use Rattle.std.proofs.Common.{◌≡◌, map, reverse}
use Rattle.acceptance.specs.Seen.{tallied}
use Rattle.acceptance.proofs.seen.tally.Given as goal

abbrev pub invariant-loop-r : goal.invariant-loop-r
invariant-loop-r l = l.seen ≡ tallied l.initial.seen (reverse (map (λ y. y.now) l.yielded))
