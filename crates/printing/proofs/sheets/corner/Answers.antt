-- Two pieces.
use native.Mathlib.Omega.{arith}
use Prim.Native.Nat.{◌≤◌}
use lib.ListN.{length}
use Rattle.sheet.specs.Sheet.{corner_bytes}
use Rattle.printing.proofs.Goings.{then}
use Rattle.printing.proofs.sheets.corner.Goals as goal

pub returns : goal.returns
unfolding corner_bytes
returns c =
    let room : length c.args.out.now ≤ 18446744073709551615 = omega arith in
    then room c.word-second.ensures c.word.ensures
