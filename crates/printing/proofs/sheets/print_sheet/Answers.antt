-- Three pieces.
use native.Mathlib.Omega.{arith}
use Prim.Native.Nat.{◌≤◌}
use lib.ListN.{length}
use Rattle.text.specs.Quoted.{quoted}
use Rattle.sheet.specs.Sheet.{subject_word, clip_word, written}
use Rattle.printing.specs.Rows.{sheet_of_rows}
use Rattle.printing.proofs.Goings.{kept, then}
use Rattle.printing.proofs.sheets.print_sheet.Goals as goal

pub returns : goal.returns
unfolding written sheet_of_rows subject_word clip_word quoted
returns c =
    let room : length c.args.out.now ≤ 18446744073709551615 = omega arith in
    let second = kept c.operation_line-first.ensures room in
    then room c.operation_line-first.ensures (then second c.layer-second.ensures c.layer.ensures)
