-- What a C caller is told of a crossing. An output that the answer does not speak of is as it was lent.
use Rattle.crossing.specs.declared.LineIntersection.{LineIntersection}
use Rattle.refusals.specs.Refusals.{number}
use Rattle.std.specs.Prelude.{ℕ, List, map, Err, Ok, Result}
use Rattle.refusals.specs.declared.Refusal.{Refusal}
use Rattle.std.proofs.lemmas.List.Edits.{sets}
use Rattle.std.specs.Float.{binary64}
use Rattle.std.specs.Float.Ieee.{to_bits}
use Rattle.crossing.specs.Answer.{number_of, values_of}

-- the number of the refusal, 0 where there is none
unfoldable pub refusal : Result LineIntersection Refusal → ℕ
refusal (Err why) = number why.reason
refusal (Ok found) = 0

unfoldable pub place : Result LineIntersection Refusal → ℕ → ℕ
place (Err why) lent = why.place
place (Ok found) lent = lent

unfoldable pub kind : Result LineIntersection Refusal → ℕ → ℕ
kind (Err why) lent = lent
kind (Ok found) lent = number_of found

-- the words of the answer's values from place 0 on, the rest as lent
unfoldable pub corners : Result LineIntersection Refusal → List ℕ → List ℕ
corners (Err why) lent = lent
corners (Ok found) lent = sets lent 0 (map (to_bits binary64) (values_of found))
