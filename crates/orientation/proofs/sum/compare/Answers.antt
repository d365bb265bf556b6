use Rattle.std.proofs.Common.{sym, ap, ◌∙◌, arith, ◌≡◌}
use lib.ListN.{drop_of_length-le}
use Rattle.orientation.specs.Words.{value, words}
use Rattle.orientation.proofs.Orders.{larger, same_from}
use Rattle.orientation.proofs.Signs.{positive, negative, none}
use Rattle.orientation.proofs.Terms.{total-is}
use Rattle.orientation.proofs.sum.compare.Goals as goal

pub loop-i-init : goal.loop-i-init
loop-i-init c =
    let p-end = drop_of_length-le c.args.p.now {i = words} (omega (arith, c.requires.0.all)) in
    let n-end = drop_of_length-le c.args.n.now {i = words} (omega (arith, c.requires.1.all)) in
    ap value (p-end ∙ sym n-end)

pub returns-then-y-x : goal.returns-then-y-x
returns-then-y-x c =
    let l = c.loop-i in
    sym (positive (total-is _ _) (larger _ _ c.requires.0 c.requires.1 l.i (omega arith) (omega arith) l.invariant c.if-y-x.true))

pub returns-then-x-y : goal.returns-then-x-y
returns-then-x-y c =
    let l = c.loop-i in
    sym (negative (total-is _ _) (larger _ _ c.requires.1 c.requires.0 l.i (omega arith) (omega arith) (sym l.invariant) c.if-x-y.true))

pub loop-i-preserved : goal.loop-i-preserved
loop-i-preserved c =
    let l = c.loop-i in
    same_from _ _ c.requires.0 c.requires.1 l.i (omega arith) (omega arith) l.invariant (omega arith)

pub returns : goal.returns
returns c =
    let at-end : c.loop-i.i ≡ 0 = omega arith in
    sym (none (total-is _ _) (rw at-end at c.loop-i.invariant))
