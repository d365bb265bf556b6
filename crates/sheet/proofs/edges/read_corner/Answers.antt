-- One number, and the next where the first ends.
use Rattle.sheet.proofs.Lines.{corner-first, corner-second, corner-read}
use Rattle.sheet.proofs.edges.read_corner.Goals as goal

pub returns-in_err-x : goal.returns-in_err-x
returns-in_err-x c = rw c.from_residual.ensures (corner-first c.args.s.now c.args.at _ c.read_number.ensures c.in_err-x.was)

pub returns-in_err-y : goal.returns-in_err-y
returns-in_err-y c =
    rw c.from_residual-in_err-y.ensures
    (corner-second c.args.s.now c.args.at _ c.read_number.ensures _ c.in_ok-x.was _ c.after.ensures _ c.read_number-2.ensures c.in_err-y.was)

pub returns : goal.returns
returns c = corner-read c.args.s.now c.args.at _ c.read_number.ensures _ c.in_ok-x.was _ c.after.ensures _ c.read_number-2.ensures _ c.in_ok-y.was
