use native.Mathlib.Omega.{arith}
use Rattle.printing.proofs.Parts.{hole-each}
use Rattle.printing.proofs.Goings.{begun, on, done}
use Rattle.printing.proofs.lines.hole_lines.Goals as goal

pub loop-hole-init : goal.loop-hole-init
loop-hole-init c = begun hole-each c.args.holes.now c.args.out.now c.args.at (omega arith)

pub loop-hole-preserved : goal.loop-hole-preserved
loop-hole-preserved c = on hole-each c.args.holes.now c.loop-hole.hole-index 0 c.loop-hole-test.true (omega arith) c.loop-hole.invariant c.line-place.ensures

pub returns : goal.returns
returns c = done hole-each c.args.holes.now c.loop-hole.hole-index c.loop-hole-test.false c.loop-hole.invariant
