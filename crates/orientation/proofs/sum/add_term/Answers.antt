-- The product goes to neg where the signs of the factors differ, else to pos; the other sum stays.
use mathlib.Core.Path.{sym}
use native.Mathlib.Nat.{add-zero}
use Rattle.orientation.proofs.Terms.{added}
use Rattle.orientation.proofs.sum.add_term.Goals as goal

pub returns-then-a-b : goal.returns-then-a-b
returns-then-a-b c =
    let y = c.part_of-b in
    let x = c.part_of-a in
    added x.ensures y.ensures c.if-a-b.true c.requires.0.long c.add_lent.ensures.long (sym (add-zero _)) c.add_lent.ensures.acc_after

pub returns-else-a-b : goal.returns-else-a-b
returns-else-a-b c =
    let y = c.part_of-b in
    let x = c.part_of-a in
    added x.ensures y.ensures c.if-a-b.false c.add_lent-else-a-b.ensures.long c.requires.1.long c.add_lent-else-a-b.ensures.acc_after (sym (add-zero _))
