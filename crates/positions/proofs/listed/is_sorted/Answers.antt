-- Each is asked whether it is before the next, by the order of event keys.
use Rattle.std.proofs.Common.{rules}
use Rattle.std.proofs.lemmas.Fn.{always_returns_same}
use Rattle.events.specs.Pool.{pool}
use Rattle.order.specs.Keys.{key_at}
use Rattle.contours.specs.Result.{earlier}
use Rattle.positions.specs.Steps.{earlier_in}
use Rattle.positions.proofs.AsListed.{sorted-is}
use Rattle.positions.proofs.listed.is_sorted.Goals as goal

pub returns : goal.returns
unfolding earlier_in earlier key_at
returns c =
    let f = earlier_in (pool c.args.points.now c.args.marks.now) in
    sorted-is f _ _ (c.is_sorted_by.ensures.cases f (always_returns_same _ _ _ (λ a r q h. search rules)))
