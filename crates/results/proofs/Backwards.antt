-- A loop that goes from a list's end to its front: what it has come to, in the list's order, grows at its front.
use mathlib.Core.Path.{◌≡◌}
use mathlib.Core.List.{List, [], ◌∷◌, ◌++◌, map, reverse}
use Rattle.std.proofs.lemmas.List.{map-append, reverse-append}

pub one_back : {A B : Type 0} (f : A → B) (xs : List A) (x : A) → reverse (map f (xs ++ (x ∷ []))) ≡ f x ∷ reverse (map f xs)
one_back f xs x = simp (map-append, reverse-append)
