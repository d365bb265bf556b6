-- Two stores, the first end's and the second's.
use Rattle.loading.proofs.Turns.{both_ends}
use Rattle.loading.proofs.store.load_edge.Goals as goal

pub returns : goal.returns
returns c =
    both_ends
    _
    _
    _
    _
    _
    c.is_ahead-left.ensures
    c.end.ensures
    c.enter_event.ensures
    c.end-2.ensures
    c.enter_event-2.ensures
