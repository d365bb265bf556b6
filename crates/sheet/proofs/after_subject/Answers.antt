-- The clip's layer decides.
use Rattle.std.proofs.lemmas.Result.{err_from_is_err_and}
use Rattle.text.specs.Quoted.{quoted}
use Rattle.sheet.specs.Sheet.{clip_word}
use Rattle.sheet.proofs.Sections.{counted-whole}
use Rattle.sheet.proofs.Puts.{subject-on, subject-broken}
use Rattle.sheet.proofs.after_subject.Goals as goal

pub returns : goal.returns
unfolding clip_word quoted
returns c =
    let a = c.args in
    let r = c.read_layer.ensures in
    let x = c.in_ok-clip.was in
    record { value = λ l h. subject-on a.bytes.now a.operation _ _ l a.subject.count a.subject.after h r.result_value _ x _ (c.after_clip.ensures l _ h (counted-whole _ _ _ r.counted_layer x)); rows_after = r.rows_after }

pub returns-in_err-clip : goal.returns-in_err-clip
unfolding clip_word quoted
returns-in_err-clip c =
    let a = c.args in
    let r = c.read_layer.ensures in
    let p = err_from_is_err_and c.from_residual.result c.from_residual.ensures.1 in
    record { value = λ l h. rw (p.1, p.2) (subject-broken a.bytes.now a.operation _ _ l a.subject.count a.subject.after h r.result_value _ c.in_err-clip.was); rows_after = r.rows_after }
