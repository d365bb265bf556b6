-- Two pieces.
use native.Mathlib.Omega.{arith}
use Prim.Native.Nat.{◌≤◌}
use lib.ListN.{length}
use Rattle.sheet.specs.Sheet.{number_bytes}
use Rattle.printing.proofs.Goings.{then}
use Rattle.printing.proofs.puts.word.Goals as goal

pub returns : goal.returns
unfolding number_bytes
returns c =
    let room : length c.args.out.now ≤ 18446744073709551615 = omega arith in
    then room c.text-digits.ensures c.bits.ensures
