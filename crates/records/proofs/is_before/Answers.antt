-- What the check told picks the answer.
use Rattle.std.proofs.lemmas.Result.{err_from_is_err_and}
use Rattle.records.specs.Records.{is_before}
use Rattle.records.proofs.is_before.Goals as goal

pub returns-in_err-check_two : goal.returns-in_err-check_two
unfolding is_before
returns-in_err-check_two c =
    let p = err_from_is_err_and c.from_residual.result c.from_residual.ensures.1 in
    rw (p.1, p.2, ← c.check_two.ensures, c.in_err-check_two.was)

pub returns : goal.returns
unfolding is_before
returns c = rw (← c.check_two.ensures, c.in_ok-check_two.was, c.before_at.ensures)
