-- What a C caller is told of overlay's work and of arranging: which output gets which value of the answer (`specs.Answer` of both). An output that the
-- answer does not speak of is as it was lent.
use Rattle.std.specs.Prelude.{ℕ, get_or, Err, Ok, Result}
use Rattle.refusals.specs.declared.Refusal.{Refusal}
use Rattle.refusals.specs.Refusals.{Verdict}
use Rattle.arranging.specs.Answer as Arranging
use Rattle.overlay_work.specs.Answer.{values_of}

-- the bytes of the text
unfoldable pub length : Result ℕ Refusal → ℕ → ℕ
length (Ok n) lent = get_or (values_of (Ok n)) 0 lent
length (Err why) lent = lent

unfoldable pub place : Result ℕ Refusal → ℕ → ℕ
place (Ok n) lent = lent
place (Err why) lent = get_or (values_of (Err why)) 0 lent

-- of arranging
unfoldable pub arranged_place : Verdict → ℕ → ℕ
arranged_place (Ok _) lent = lent
arranged_place (Err why) lent = get_or (Arranging.values_of (Err why)) 0 lent
