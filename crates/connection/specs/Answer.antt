-- The number and the values that stand for how connection ends (01, end of 'Forms for each place'): 0, or the refusal's number with its place.
use Rattle.refusals.specs.Refusals.{number}
use Rattle.std.specs.Prelude.{ℕ, List, [], ◌∷◌, Err, Ok}
use Rattle.refusals.specs.Refusals.{Verdict}

unfoldable pub number_of : Verdict → ℕ
number_of (Ok _) = 0
number_of (Err why) = number why.reason

unfoldable pub values_of : Verdict → List ℕ
values_of (Ok _) = []
values_of (Err why) = why.place ∷ []
