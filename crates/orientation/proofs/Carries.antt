-- A word is added to a long number by setting one word and carrying the rest one word up.
use mathlib.Core.Path.{◌≡◌, refl, ap}
use mathlib.Core.List.{List, [], ◌∷◌}
use Prim.Native.Nat.{ℕ, zero, suc, ◌+◌, ◌*◌, ◌^◌, ◌/◌, ◌%◌, ◌<◌}
use native.Mathlib.Nat.{mul_left_comm, mul_comm, mul_assoc, add-mul, mul-suc, div-add-mod', add_comm}
use native.Mathlib.Omega.{arith}
use lib.ListN.{get_or, set, length, replicate}
use lib.Pow.{pow-add}
use Rattle.orientation.specs.Words.{value, Small, weight}

pub weight-zero : weight 0 ≡ 1
unfolding weight
weight-zero = refl

pub weight-suc : (i : ℕ) → weight (suc i) ≡ 2 ^ 32 * weight i
unfolding weight
weight-suc i = rw (mul-suc, add_comm (32 * i) 32, pow-add)

-- one word is changed
pub value_set : (l : List ℕ) (i v : ℕ) → i < length l → value (set l i v) + get_or l i 0 * weight i ≡ value l + v * weight i
unfolding value
value_set [] i v h = omega arith
value_set (x ∷ xs) zero v h = rw weight-zero (omega arith)
value_set (x ∷ xs) (suc i) v h =
    let ih : value (set xs i v) + get_or xs i 0 * weight i ≡ value xs + v * weight i = value_set xs i v (omega arith) in
    rw (weight-suc, mul_left_comm (get_or xs i 0), mul_left_comm v) (omega arith)

-- a carry goes one word up: n is the number before, n' after, a the word, c the carry
pub carried : (n n' a c W S : ℕ) → n' + a * W ≡ n + (a + c) % 2 ^ 32 * W → n + c * W ≡ S → n' + (a + c) / 2 ^ 32 * (2 ^ 32 * W) ≡ S
carried n n' a c W S h k =
    let up = (a + c) / 2 ^ 32 in
    let split : (up * 2 ^ 32 + (a + c) % 2 ^ 32) * W ≡ (a + c) * W = ap (λ (y : ℕ). y * W) (div-add-mod' (a + c) (2 ^ 32)) in
    let moved : up * 2 ^ 32 * W ≡ 2 ^ 32 * (up * W) = rw (mul_comm up (2 ^ 32), mul_assoc) in
    rw (mul_left_comm up) (omega (arith, rw (add-mul (up * 2 ^ 32), add-mul a) at split, moved))

-- a small word keeps a list small
pub small-set : (l : List ℕ) (i v : ℕ) → v < 2 ^ 32 → Small l → Small (set l i v)
small-set [] i v h s k = s k
small-set (x ∷ xs) zero v h s zero = h
small-set (x ∷ xs) zero v h s (suc k) = s (suc k)
small-set (x ∷ xs) (suc i) v h s zero = s zero
small-set (x ∷ xs) (suc i) v h s (suc k) = small-set xs i v h (λ j. s (suc j)) k

-- nothing is carried out of a number that fits
pub no-carry : (n c W S : ℕ) → n + c * W ≡ S → S < W → c ≡ 0
no-carry n zero W S h l = refl
no-carry n (suc c) W S h l = absurd (omega (arith, rw one_more at h))
  where
    one_more : suc c * W ≡ W + c * W
    one_more = simp (mul_comm (suc c) W, mul-suc, add_comm, mul_comm)

pub value-zeros : (n : ℕ) → value (replicate n 0) ≡ 0
unfolding value
value-zeros zero = refl
value-zeros (suc n) = rw (value-zeros n)

pub small-zeros : (n : ℕ) → Small (replicate n 0)
small-zeros zero k = omega arith
small-zeros (suc n) zero = omega arith
small-zeros (suc n) (suc k) = small-zeros n k
