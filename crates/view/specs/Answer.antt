-- The number and the values that stand for each answer of the view (01, end of 'Forms for each place'): 1 with the corner's x and y, or 0.
use Rattle.numbers.specs.declared.Point.{Point}
use Rattle.std.specs.Prelude.{ℕ, List, [], ◌∷◌, None, Option, Some}

unfoldable pub number_of : Option Point → ℕ
number_of (Some p) = 1
number_of None = 0

unfoldable pub values_of : Option Point → List ℕ
values_of (Some p) = p.x ∷ p.y ∷ []
values_of None = []
