-- Five pieces.
use native.Mathlib.Omega.{arith}
use Prim.Native.Nat.{◌≤◌}
use lib.ListN.{length}
use Rattle.text.specs.Quoted.{quoted}
use Rattle.printing.proofs.Parts.{contour-put}
use Rattle.printing.proofs.lines.contour_lines.Goals as goal

pub returns : goal.returns
unfolding quoted
returns c =
    let a = c.args in
    let room : length a.out.now ≤ 18446744073709551615 = omega (arith, c.well_formed.0.1) in
    contour-put a.corners.now a.holes.now a.row room c.part-inside.result.now _ c.part_of-shown.result.now
    c.part-inside.ensures c.part_of-shown.ensures c.count_shown.ensures
    c.head_line-counted.ensures c.line-listed.ensures c.hole_lines-points.ensures
    c.line-first.ensures c.corner_lines.ensures
