-- Lists looked at in their first places: a store is one store there, wherever it goes.
use mathlib.Core.Path.{◌≡◌, refl, sym, ap, ◌∙◌}
use mathlib.Core.List.{List, [], ◌∷◌}
use Prim.Native.Nat.{ℕ, zero, suc, ◌≤◌}
use native.Mathlib.Omega.{arith}
use lib.ListN.{get_or, set, take, replicate}
use lib.Seq.{sets}

pub take-set : {A : Type 0} (n : ℕ) (l : List A) (i : ℕ) (a : A) → take n (set l i a) ≡ set (take n l) i a
take-set zero l i a = refl
take-set (suc n) [] i a = refl
take-set (suc n) (x ∷ l) zero a = refl
take-set (suc n) (x ∷ l) (suc i) a = ap (λ m. x ∷ m) (take-set n l i a)

-- .. of what is made of the value that stands there
pub take-over : {A : Type 0} (n : ℕ) (l : List A) (i : ℕ) (d : A) (f : A → A) → take n (set l i (f (get_or l i d))) ≡ set (take n l) i (f (get_or (take n l) i d))
take-over zero l i d f = refl
take-over (suc n) [] i d f = refl
take-over (suc n) (x ∷ l) zero d f = refl
take-over (suc n) (x ∷ l) (suc i) d f = ap (λ m. x ∷ m) (take-over n l i d f)

pub take-sets : (n : ℕ) (l : List ℕ) (i : ℕ) (vs : List ℕ) → sets (take n l) i vs ≡ take n (sets l i vs)
take-sets n l i [] = refl
take-sets n l i (v ∷ vs) = ap (λ m. sets m (suc i) vs) (sym (take-set n l i v)) ∙ take-sets n (set l i v) (suc i) vs

-- all alike
pub take-alike : {A : Type 0} (n m : ℕ) (a : A) → n ≤ m → take n (replicate m a) ≡ replicate n a
take-alike zero m a h = refl
take-alike (suc n) zero a h = absurd (omega arith)
take-alike (suc n) (suc m) a h = ap (λ l. a ∷ l) (take-alike n m a (omega arith))
