-- A place beyond the members, or beyond the array, holds none.
use Rattle.status.proofs.Members.{member-read, member-past, member-short}
use Rattle.status.proofs.member_at.Goals as goal

pub returns-then-n-k : goal.returns-then-n-k
returns-then-n-k c = member-past _ _ _ c.if-n-k.true

pub returns-then-status-k : goal.returns-then-status-k
returns-then-status-k c =
    let a = c.args in
    member-short a.status.now a.n a.k c.if-status-k.true

pub returns : goal.returns
returns c = member-read _ _ _ c.if-n-k.false c.if-status-k.false
