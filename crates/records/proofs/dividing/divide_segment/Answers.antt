-- What the check told picks the answer, and whether anything is divided.
use Rattle.std.proofs.lemmas.Result.{err_from_is_err_and}
use Rattle.records.specs.Dividing.{divide_segment}
use Rattle.records.proofs.dividing.divide_segment.Goals as goal

pub returns-in_err-check_one_in : goal.returns-in_err-check_one_in
unfolding divide_segment
returns-in_err-check_one_in c =
    let p = err_from_is_err_and c.from_residual.result c.from_residual.ensures.1 in
    rw (p.1, p.2, ← c.check_one_in.ensures, c.in_err-check_one_in.was)

pub returns : goal.returns
unfolding divide_segment
returns c =
    rw (← c.check_one_in.ensures, c.in_ok-check_one_in.was, c.divide_segment.ensures.value, c.divide_segment.ensures.marks_after)
