-- Three pieces.
use native.Mathlib.Omega.{arith}
use Prim.Native.Nat.{◌≤◌}
use lib.ListN.{length}
use Rattle.text.specs.Quoted.{quoted}
use Rattle.printing.specs.Printing.{head_line}
use Rattle.printing.proofs.Goings.{kept, then}
use Rattle.printing.proofs.lines.head_line.Goals as goal

pub returns : goal.returns
unfolding head_line quoted
returns c =
    let room : length c.args.out.now ≤ 18446744073709551615 = omega arith in
    then room c.text-word.ensures (then (kept c.text-word.ensures room) c.parent_word-end.ensures c.line.ensures)
