-- The answer at each position.
use borrow.Author.Rules.{rules}
use mathlib.Core.Path.{refl, ◌∙◌}
use native.Mathlib.Nat.{sub-zero}
use Rattle.std.proofs.lemmas.Iterator.{YieldsList-from_range}
use Rattle.std.proofs.lemmas.Iterator.Search.{all_from_yields_List}
use Rattle.round.specs.Block.{stands}
use Rattle.round.proofs.Blocks.{order_is}
use Rattle.round.proofs.block.in_order.Goals as goal

pub returns : goal.returns
returns c =
    let a = c.args in
    all_from_yields_List (stands a.at.now) _ _ _ c.all.ensures.ran (YieldsList-from_range 0 a.n a.n refl (sub-zero a.n)) (λ x b q k. search rules)
    ∙ order_is a.at.now 0 a.n
