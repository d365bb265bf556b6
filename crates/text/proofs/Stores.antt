-- Storing a list of bytes from a place on, its last byte and then those before it.
use mathlib.Core.Path.{◌≡◌, refl, sym, ap, ◌∙◌}
use mathlib.Core.List.{List, [], ◌∷◌, ◌++◌}
use Prim.Native.Nat.{ℕ, suc, ◌+◌, ◌≤◌}
use native.Mathlib.Nat.{add-zero}
use native.Mathlib.Omega.{arith}
use lib.ListN.{length, set}
use lib.Seq.{sets, set_comm}

-- a store behind a list of stores may come before it
set_past : (b : List ℕ) (i j x : ℕ) (d : List ℕ) → i + length d ≤ j → sets (set b j x) i d ≡ set (sets b i d) j x
set_past b i j x [] h = refl
set_past b i j x (y ∷ d) h =
    ap (λ (l : List ℕ). sets l (suc i) d) (set_comm b j i x y (λ e. omega arith))
    ∙ set_past (set b i y) (suc i) j x d (omega arith)

-- two lists stored one after the other
sets-append : (b : List ℕ) (i : ℕ) (c d : List ℕ) → sets b i (c ++ d) ≡ sets (sets b i c) (i + length c) d
sets-append b i [] d = ap (λ (n : ℕ). sets b n d) (sym (add-zero i))
sets-append b i (x ∷ c) d =
    sets-append (set b i x) (suc i) c d
    ∙ ap (λ (n : ℕ). sets (sets (set b i x) (suc i) c) n d) (omega arith)

-- the last byte may be stored first
pub last-first : (b : List ℕ) (at k x : ℕ) (d : List ℕ) → length d ≡ k → sets b at (d ++ (x ∷ [])) ≡ sets (set b (at + k) x) at d
last-first b at k x d h =
    sets-append b at d (x ∷ [])
    ∙ ap (λ (n : ℕ). set (sets b at d) (at + n) x) h
    ∙ sym (set_past b at (at + k) x d (omega arith))
