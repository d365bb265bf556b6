-- Bytes at a place of a list.
use Rattle.std.specs.Prelude.{Bool, true, false, ◌&&◌, List, [], ◌∷◌, ℕ, zero, suc, ◌+◌, get_or, eqb}

-- the count bytes from a place on; 0 past the end
unfoldable pub bytes : List ℕ → ℕ → ℕ → List ℕ
bytes s at zero = []
bytes s at (suc count) = get_or s at 0 ∷ bytes s (at + 1) count

-- whether a list begins with a word
unfoldable pub begins : List ℕ → List ℕ → Bool
begins [] s = true
begins (b ∷ word) [] = false
begins (b ∷ word) (c ∷ s) = eqb c b && begins word s
