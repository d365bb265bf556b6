-- The number and the values that stand for each answer of overlay's work (01, end of 'Forms for each place'): 0 with the bytes of the text, or the
-- refusal's number with its place.
use Rattle.refusals.specs.Refusals.{number}
use Rattle.std.specs.Prelude.{ℕ, List, [], ◌∷◌, Err, Ok, Result}
use Rattle.refusals.specs.declared.Refusal.{Refusal}

unfoldable pub number_of : Result ℕ Refusal → ℕ
number_of (Ok n) = 0
number_of (Err why) = number why.reason

unfoldable pub values_of : Result ℕ Refusal → List ℕ
values_of (Ok n) = n ∷ []
values_of (Err why) = why.place ∷ []
