use mathlib.Core.Path.{◌≡◌, ◌∙◌}
use native.Mathlib.Omega.{arith}
use Rattle.sheet.specs.Stored.{row_of}
use Rattle.sheet.proofs.Sections.{next-list, stop-list, end_list, read-begun, rest-begun, read_again, rest-again, read-stop, rest-stop, read-end, rest_end}
use Rattle.sheet.proofs.Puts.{put-begun, put-again, put-end}
use Rattle.sheet.proofs.layers.read_edges.Goals as goal

pub loop-read-init : goal.loop-read-init
loop-read-init c =
    let a = c.args in (
      read-begun a.s.now a.count a.at,
      rest-begun a.s.now a.count a.at,
      put-begun row_of a.rows.now a.s.now a.place a.count a.at,
    )

pub returns-in_default : goal.returns-in_default
returns-in_default c =
    let a = c.args in
    let l = c.loop-read in
    let t = c.loop-read-test.true in
    let r = c.read_edge.ensures in
    let w = c.in_default.is in
    let none = stop-list a.s.now a.count l.read l.line t _ r w in record { count_value = read-stop a.s.now a.count l.read l.line t _ r w _ l.invariant.0; s_value = rest-stop a.s.now a.count l.read l.line t _ r w _ l.invariant.1; rows_after = put-end row_of _ _ a.place l.read _ l.invariant.2 none }

pub loop-read-preserved : goal.loop-read-preserved
loop-read-preserved c =
    let a = c.args in
    let l = c.loop-read in
    let t = c.loop-read-test.true in
    let r = c.read_edge.ensures in
    let w = c.in-Some.is in
    let row = c.put_row in
    let next = next-list a.s.now a.count l.read l.line t _ r _ _ w in (
      read_again a.s.now a.count l.read l.line t _ r _ _ w _ l.invariant.0,
      rest-again a.s.now a.count l.read l.line t _ r _ _ w _ l.invariant.1,
      put-again row_of _ _ a.place l.read _ l.invariant.2 _ _ next _ row.ensures,
    )

pub returns : goal.returns
returns c =
    let a = c.args in
    let l = c.loop-read in
    let t = c.loop-read-test.false in
    let whole : a.count ≡ l.read = omega arith in
    let none = end_list a.s.now a.count l.read l.line t in record { count_value = whole ∙ read-end a.s.now a.count l.read l.line t _ l.invariant.0; s_value = rest_end a.s.now a.count l.read l.line t _ l.invariant.1; rows_after = put-end row_of _ _ a.place l.read _ l.invariant.2 none }
