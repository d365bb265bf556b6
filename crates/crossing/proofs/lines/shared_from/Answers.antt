-- The two tests of the first line come as a pair; what follows them is one rewriting for each answer.
use Rattle.crossing.specs.Lines.{shared_from}
use Rattle.crossing.proofs.lines.shared_from.Goals as goal
use Rattle.crossing.proofs.lines.shared_from.Goals.{else-smin-via-then-smin+else-smax, else-smin-via-else-smin}

pub returns-then-smin-2 : goal.returns-then-smin-2
unfolding shared_from
returns-then-smin-2 c = rw (c.if-smin.true, c.if-smax.true, c.if-smin-2.true, c.mid_point.ensures)

pub returns-then-smax-2 : goal.returns-then-smax-2
unfolding shared_from
returns-then-smax-2 c = rw (c.if-smin.true, c.if-smax.true, c.if-smin-2.false, c.if-smax-2.true, c.mid_point-then-smax-2.ensures)

pub returns-then-smax : goal.returns-then-smax
unfolding shared_from
returns-then-smax c =
    rw (c.if-smin.true, c.if-smax.true, c.if-smin-2.false, c.if-smax-2.false, c.mid_point-then-smax-3.ensures, c.mid_point-then-smax.ensures, c.min.ensures, c.max.ensures)

pub returns : goal.returns
unfolding shared_from
returns c =
    elim c.else-smin.branch [
      | else-smin-via-then-smin+else-smax w ↦ rw (w.if-smin.true, w.if-smax.false)
      | else-smin-via-else-smin w ↦ rw w.if-smin.false
    ]
