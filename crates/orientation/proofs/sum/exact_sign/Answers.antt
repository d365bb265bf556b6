-- The three cross products are added one after the other, and together they are the area.
use mathlib.Core.Path.{◌∙◌}
use Rattle.orientation.proofs.Areas.{and, area}
use Rattle.orientation.proofs.sum.exact_sign.Goals as goal

pub returns : goal.returns
returns c =
    let sum = and (and c.add_cross.ensures c.add_cross-2.ensures) c.add_cross-3.ensures in
    c.compare.ensures ∙ area c.args.p0 c.args.p1 c.args.p2 (c.nothing-pos.ensures, c.nothing-neg.ensures) sum
