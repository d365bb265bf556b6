-- The search over the numbers finds the lowest, and where it finds none n stands for it.
use mathlib.Core.Path.{◌≡◌, ◌∙◌}
use mathlib.Core.Bool.{true, false}
use Rattle.std.proofs.Common.{rules, tests}
use Rattle.std.proofs.lemmas.Iterator.{first_from_Range}
use Rattle.events.specs.Pool.{pool}
use Rattle.checks.specs.OnPool.{strikes}
use Rattle.checks.proofs.Lowest.{lowest-is}
use Rattle.checks.proofs.loaded.lowest_struck.Goals as goal

pub returns : goal.returns
returns c =
    let test = strikes (pool c.args.points.now c.args.marks.now) c.args.n c.args.fault in
    c.unwrap_or.ensures ∙ lowest-is test c.args.n c.find-struck.result (first_from_Range _ _ _ _ (λ r. test r ≡ true) (λ r. test r ≡ false) c.find-struck.ensures.ran (λ x q k. search (rules, tests)) (λ x q k. search (rules, tests)))
