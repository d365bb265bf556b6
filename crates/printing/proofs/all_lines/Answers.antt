use native.Mathlib.Omega.{arith}
use mathlib.Core.List.{[]}
use Rattle.printing.specs.Arrays.{drawn_row}
use Rattle.printing.proofs.Parts.{contour-each}
use Rattle.printing.proofs.Goings.{begun, on, done}
use Rattle.printing.proofs.all_lines.Goals as goal

pub loop-row-init : goal.loop-row-init
loop-row-init c = begun (contour-each (drawn_row c.args.corners.now c.args.holes.now)) c.args.contours.now c.args.out.now c.args.at (omega arith)

pub loop-row-preserved : goal.loop-row-preserved
loop-row-preserved c = on (contour-each (drawn_row c.args.corners.now c.args.holes.now)) c.args.contours.now c.loop-row.row-index [] c.loop-row-test.true (omega arith) c.loop-row.invariant c.contour_lines-place.ensures

pub returns : goal.returns
returns c = done (contour-each (drawn_row c.args.corners.now c.args.holes.now)) c.args.contours.now c.loop-row.row-index c.loop-row-test.false c.loop-row.invariant
