-- What the check told picks the answer.
use Rattle.std.proofs.lemmas.Result.{err_from_is_err_and}
use Rattle.records.specs.Records.{compare_segments}
use Rattle.records.proofs.compare_segments.Goals as goal

pub returns-in_err-check_left_two : goal.returns-in_err-check_left_two
unfolding compare_segments
returns-in_err-check_left_two c =
    let p = err_from_is_err_and c.from_residual.result c.from_residual.ensures.1 in
    rw (p.1, p.2, ← c.check_left_two.ensures, c.in_err-check_left_two.was)

pub returns : goal.returns
unfolding compare_segments
returns c = rw (← c.check_left_two.ensures, c.in_ok-check_left_two.was, c.compare_segments_at.ensures)
