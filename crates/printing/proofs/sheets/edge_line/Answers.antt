-- Four pieces.
use native.Mathlib.Omega.{arith}
use Prim.Native.Nat.{◌≤◌}
use lib.ListN.{length}
use Rattle.sheet.specs.Sheet.{edge_line}
use Rattle.sheet.specs.Stored.{edge_of_row}
use Rattle.printing.proofs.Goings.{kept, then}
use Rattle.printing.proofs.sheets.edge_line.Goals as goal

pub returns : goal.returns
unfolding edge_line edge_of_row
returns c =
    let room : length c.args.out.now ≤ 18446744073709551615 = omega arith in
    let second = kept c.number-from.ensures room in
    let third = kept c.corner-to.ensures second in
    then room c.number-from.ensures (then second c.corner-to.ensures (then third c.corner-end.ensures c.text.ensures))
