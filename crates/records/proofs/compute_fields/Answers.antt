-- What the check told picks the answer, and whether the pool is changed.
use Rattle.std.proofs.lemmas.Result.{err_from_is_err_and}
use Rattle.records.specs.Records.{compute_fields}
use Rattle.records.proofs.compute_fields.Goals as goal

pub returns-in_err-check_with : goal.returns-in_err-check_with
unfolding compute_fields
returns-in_err-check_with c =
    let p = err_from_is_err_and c.from_residual.result c.from_residual.ensures.1 in
    rw (p.1, p.2, ← c.check_with.ensures, c.in_err-check_with.was)

pub returns : goal.returns
unfolding compute_fields
returns c =
    rw (← c.check_with.ensures, c.in_ok-check_with.was, c.compute_fields_at.ensures)
