-- All is checked first, then stored.
use Rattle.std.proofs.lemmas.Result.{err_from_is_err_and}
use Rattle.loading.proofs.Accepted.{few-edges, answer-refused, answer-done}
use Rattle.loading.proofs.load.Goals as goal

pub load_edges-used-requires : goal.load_edges-used-requires
load_edges-used-requires c =
    few-edges _ _ _ c.accept.ensures c.in_ok-accept.was

pub returns-in_err-accept : goal.returns-in_err-accept
returns-in_err-accept c =
    let p = err_from_is_err_and c.from_residual.result c.from_residual.ensures.1 in
    rw (p.1, p.2) (answer-refused _ _ _ c.accept.ensures _ c.in_err-accept.was)

pub returns : goal.returns
returns c =
    answer-done
    _
    _
    _
    c.accept.ensures
    c.in_ok-accept.was
    c.load_edges-used.ensures.0
    c.load_edges-used.ensures.1
