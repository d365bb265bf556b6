-- Below the lowest place there is none.
use native.Mathlib.Omega.{arith}
use Rattle.status.proofs.Members.{below-lowest, below-read}
use Rattle.status.proofs.below_at.Goals as goal

pub returns-then-k-eq0 : goal.returns-then-k-eq0
returns-then-k-eq0 c = below-lowest _ _ c.if-k-eq0.true

pub returns : goal.returns
returns c = below-read _ _ (omega arith) c.member_at.ensures
