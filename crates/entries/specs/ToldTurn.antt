-- What a C caller is told of an orientation. An output that the answer does not speak of is as it was lent.
use Rattle.orientation.specs.declared.Sign.{Sign}
use Rattle.refusals.specs.Refusals.{number}
use Rattle.std.specs.Prelude.{ℕ, ℤ, Err, Ok, Result}
use Rattle.refusals.specs.declared.Refusal.{Refusal}
use Rattle.orientation.specs.Orientation.{number_of}

-- the number of the refusal, 0 where there is none
unfoldable pub refusal : Result Sign Refusal → ℕ
refusal (Err why) = number why.reason
refusal (Ok turn) = 0

unfoldable pub place : Result Sign Refusal → ℕ → ℕ
place (Err why) lent = why.place
place (Ok turn) lent = lent

unfoldable pub sign : Result Sign Refusal → ℤ → ℤ
sign (Err why) lent = lent
sign (Ok turn) lent = number_of turn
