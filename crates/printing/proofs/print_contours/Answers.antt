-- The count, and then the contours of as many rows as there are.
use native.Mathlib.Omega.{arith}
use Prim.Native.Nat.{◌≤◌}
use lib.ListN.{length}
use Rattle.text.specs.Quoted.{quoted}
use Rattle.printing.proofs.Parts.{drawing-put}
use Rattle.printing.proofs.print_contours.Goals as goal

pub returns : goal.returns
unfolding quoted
returns c =
    let a = c.args in
    let room : length a.out.now ≤ 18446744073709551615 = omega arith in
    drawing-put a.corners.now a.contours.now a.holes.now a.count _ room c.min-n.ensures c.line-place.ensures c.all_lines.ensures
