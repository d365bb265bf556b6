-- Three pieces.
use native.Mathlib.Omega.{arith}
use Prim.Native.Nat.{◌≤◌}
use lib.ListN.{length}
use Rattle.text.specs.Quoted.{quoted}
use Rattle.printing.specs.Printing.{refused_line}
use Rattle.printing.proofs.Goings.{kept, then}
use Rattle.printing.proofs.print_refusal.Goals as goal

pub returns : goal.returns
unfolding refused_line quoted
returns c =
    let room : length c.args.out.now ≤ 18446744073709551615 = omega arith in
    then room c.text-begun.ensures (then (kept c.text-begun.ensures room) c.number-end.ensures c.line.ensures)
