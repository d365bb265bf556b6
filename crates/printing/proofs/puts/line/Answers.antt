-- Three pieces.
use native.Mathlib.Omega.{arith}
use Prim.Native.Nat.{◌≤◌}
use lib.ListN.{length}
use Rattle.sheet.specs.Sheet.{count_line}
use Rattle.printing.proofs.Goings.{kept, then}
use Rattle.printing.proofs.puts.line.Goals as goal

pub returns : goal.returns
unfolding count_line
returns c =
    let room : length c.args.out.now ≤ 18446744073709551615 = omega arith in
    then room c.text-digits.ensures (then (kept c.text-digits.ensures room) c.number-end.ensures c.text.ensures)
