-- Each check that passes hands on to the next.
use Rattle.acceptance.proofs.InTurn.{unfit-told, misplaced-told, half-told, room-told}
use Rattle.acceptance.proofs.check_list.Goals as goal

pub returns-then-is_refused : goal.returns-then-is_refused
returns-then-is_refused c = unfit-told _ _ _ _ _ _ c.check_fit-unfit.ensures c.is_refused.ensures c.if-is_refused.true

pub returns-then-is_refused-2 : goal.returns-then-is_refused-2
returns-then-is_refused-2 c =
    misplaced-told
    _
    _
    _
    _
    _
    _
    c.check_fit-unfit.ensures
    c.is_refused.ensures
    c.if-is_refused.false
    c.check_flaw-misplaced.ensures
    c.is_refused-2.ensures
    c.if-is_refused-2.true

pub returns-then-is_refused-3 : goal.returns-then-is_refused-3
returns-then-is_refused-3 c =
    half-told
    _
    _
    _
    _
    _
    _
    c.check_fit-unfit.ensures
    c.is_refused.ensures
    c.if-is_refused.false
    c.check_flaw-misplaced.ensures
    c.is_refused-2.ensures
    c.if-is_refused-2.false
    c.check_flaw-half.ensures
    c.is_refused-3.ensures
    c.if-is_refused-3.true

pub returns : goal.returns
returns c =
    room-told
    _
    _
    _
    _
    _
    _
    c.check_fit-unfit.ensures
    c.is_refused.ensures
    c.if-is_refused.false
    c.check_flaw-misplaced.ensures
    c.is_refused-2.ensures
    c.if-is_refused-2.false
    c.check_flaw-half.ensures
    c.is_refused-3.ensures
    c.if-is_refused-3.false
    c.check_room.ensures
