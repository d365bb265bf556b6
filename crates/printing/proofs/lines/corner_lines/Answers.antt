-- A corner within the part is there, and its line is the next.
use Rattle.std.proofs.Common.{arith, sym, ◌∙◌}
use Rattle.view.proofs.Parts.{none-beyond}
use Rattle.printing.proofs.Parts.{corner-each, corner-on}
use Rattle.printing.proofs.Goings.{begun}
use Rattle.printing.proofs.lines.corner_lines.Goals as goal
use Rattle.printing.proofs.lines.corner_lines.Goals.{in-Some, in_default}

pub loop-i-init : goal.loop-i-init
loop-i-init c = begun corner-each c.args.corners.now c.args.out.now c.args.at (omega arith)

pub loop-i-preserved : goal.loop-i-preserved
loop-i-preserved c =
    let l = c.loop-i in
    elim c.match-corner_shown.branch [
      | in-Some w ↦
          rw (w.out-is, w.place-is)
          (corner-on _ l.i _ (sym c.corner_shown.ensures ∙ w.in-Some.is) (omega arith) l.invariant w.corner_line-place.ensures)
      | in_default w ↦
          absurd (omega (arith, none-beyond _ l.i (sym c.corner_shown.ensures ∙ w.in_default.is), c.loop-i-test.true, c.count_shown-i-end.ensures))
    ]
