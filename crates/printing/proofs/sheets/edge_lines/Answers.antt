use native.Mathlib.Omega.{arith}
use mathlib.Core.List.{[]}
use Rattle.printing.proofs.Layers.{edge-each}
use Rattle.printing.proofs.Goings.{begun, on, done}
use Rattle.printing.proofs.sheets.edge_lines.Goals as goal

pub loop-row-init : goal.loop-row-init
loop-row-init c = begun edge-each c.args.rows.now c.args.out.now c.args.at (omega arith)

pub loop-row-preserved : goal.loop-row-preserved
loop-row-preserved c = on edge-each c.args.rows.now c.loop-row.row-index [] c.loop-row-test.true (omega arith) c.loop-row.invariant c.edge_line-place.ensures

pub returns : goal.returns
returns c = done edge-each c.args.rows.now c.loop-row.row-index c.loop-row-test.false c.loop-row.invariant
