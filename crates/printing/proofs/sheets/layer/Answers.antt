-- Two pieces.
use native.Mathlib.Omega.{arith}
use Prim.Native.Nat.{◌≤◌}
use lib.ListN.{length}
use Rattle.printing.proofs.Layers.{layer-put}
use Rattle.printing.proofs.sheets.layer.Goals as goal

pub returns : goal.returns
returns c =
    let a = c.args in
    let room : length a.out.now ≤ 18446744073709551615 = omega arith in
    layer-put a.name.now a.rows.now room c.line-first.ensures c.edge_lines.ensures
