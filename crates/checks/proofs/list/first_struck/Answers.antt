-- The place that the search finds is the first, and where it finds none the length stands for it.
use mathlib.Core.Path.{◌≡◌, ◌∙◌}
use mathlib.Core.Bool.{true, false}
use Rattle.std.proofs.Common.{rules, tests}
use Rattle.std.proofs.lemmas.Iterator.{IsFirst-from_position, YieldsList-from_slice}
use Rattle.events.specs.Pool.{pool}
use Rattle.checks.specs.OnPool.{strikes}
use Rattle.checks.proofs.First.{first-is}
use Rattle.checks.proofs.list.first_struck.Goals as goal

pub returns : goal.returns
returns c =
    let test = strikes (pool c.args.points.now c.args.marks.now) c.args.n c.args.fault in
    let list = c.args.list.now in
    let found = IsFirst-from_position _ _ c.position-struck.result (λ r. test r ≡ true) (λ r. test r ≡ false) c.position-struck.ensures.ran (YieldsList-from_slice list cc) (λ x q k. search (rules, tests)) (λ x q k. search (rules, tests)) in
    c.unwrap_or.ensures ∙ first-is test list c.position-struck.result found
