-- Three pieces.
use native.Mathlib.Omega.{arith}
use Prim.Native.Nat.{◌≤◌}
use lib.ListN.{length}
use Rattle.printing.specs.Printing.{corner_line}
use Rattle.printing.proofs.Goings.{kept, then}
use Rattle.printing.proofs.lines.corner_line.Goals as goal

pub returns : goal.returns
unfolding corner_line
returns c =
    let room : length c.args.out.now ≤ 18446744073709551615 = omega arith in
    let first = c.bits-second.ensures in
    then room first (then (kept first room) c.word-end.ensures c.text.ensures)
