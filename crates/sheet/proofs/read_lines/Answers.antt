-- The operation's line, and then the subject's layer decide; an accepted sheet has both layers stored.
use Rattle.std.proofs.lemmas.Result.{err_from_is_err_and}
use mathlib.Core.Path.{ap, ◌∙◌}
use Rattle.text.specs.Quoted.{quoted}
use Rattle.sheet.specs.Sheet.{subject_word}
use Rattle.sheet.specs.Shown.{told}
use Rattle.sheet.specs.Stored.{row_of}
use Rattle.sheet.proofs.Sections.{counted-whole, section-few}
use Rattle.sheet.proofs.Puts.{no_line, sheet-on, sheet-broken, refused_none, both_stored}
use Rattle.sheet.proofs.read_lines.Goals as goal

pub after_subject-requires : goal.after_subject-requires
after_subject-requires c = section-few c.args.bytes.now _ 256 c.in-Some.at _ _ c.read_layer.ensures.counted_layer c.in_ok-subject.was

pub returns-in_default : goal.returns-in_default
returns-in_default c =
    let none = no_line c.args.bytes.now _ c.read_operation.ensures c.in_default.is in
    record { value = none; rows_after = λ x e. absurd (refused_none _ _ none x e) }

pub returns : goal.returns
unfolding subject_word quoted
returns c =
    let b = c.args.bytes.now in
    let r = c.read_layer.ensures in
    let y = c.in_ok-subject.subject in
    let x = c.in_ok-subject.was in
    let s = c.after_subject.ensures in
    let on = sheet-on b _ _ _ _ c.read_operation.ensures _ c.in-Some.is r.result_value _ x in
    let n = counted-whole _ _ _ r.counted_layer x in
    record { value = s.value _ n ∙ ap told on; rows_after = both_stored row_of row_of _ _ _ b _ _ y.count y.after n on r.rows_after s.rows_after }

pub returns-in_err-subject : goal.returns-in_err-subject
unfolding subject_word quoted
returns-in_err-subject c =
    let b = c.args.bytes.now in
    let p = err_from_is_err_and c.from_residual.result c.from_residual.ensures.1 in
    let broken = sheet-broken b _ _ _ _ c.read_operation.ensures _ c.in-Some.is c.read_layer.ensures.result_value _ c.in_err-subject.was in
    record { value = rw (p.1, p.2) broken; rows_after = λ x e. absurd (refused_none _ _ broken x e) }
