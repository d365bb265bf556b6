-- How often a record is listed, as far as it matters: 0 for not at all, 1 for once, 2 for more.
use Rattle.std.specs.Prelude.{cond, List, [], ◌∷◌, ℕ, zero, suc, eqb, get_or, set, replicate}

unfoldable pub again : ℕ → ℕ
again zero = 1
again (suc n) = 2

unfoldable pub seen_in : List ℕ → ℕ → ℕ
seen_in [] r = 0
seen_in (x ∷ l) r = cond (eqb x r) (again (seen_in l r)) (seen_in l r)

-- ---- the same in an array that has a place for each record

abbrev pub zeros : ℕ → List ℕ
zeros n = replicate n 0

unfoldable pub seen_at : List ℕ → ℕ → ℕ
seen_at seen r = get_or seen r 0

unfoldable pub noted : List ℕ → ℕ → List ℕ
noted seen r = set seen r (again (seen_at seen r))

-- a whole list, from its end
unfoldable pub tallied : List ℕ → List ℕ → List ℕ
tallied seen [] = seen
tallied seen (x ∷ l) = noted (tallied seen l) x
