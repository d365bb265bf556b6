-- A product is the sum of the products of its words, each at its place, and six products fit.
use mathlib.Core.Path.{◌≡◌, sym, ap, ◌∙◌}
use Prim.Native.Nat.{ℕ, ◌+◌, ◌-◌, ◌*◌, ◌^◌, ◌/◌, ◌%◌, ◌<◌, ◌≤◌}
use native.Mathlib.Nat.{mul_left_comm, mul_comm, mul_assoc, add-mul, mul-add, mul-le-mul, le_of_lt, le_trans, div-add-mod', one-mul, mod-eq_of_lt}
use native.Mathlib.Omega.{arith}
use lib.Dec.{lit≤, lit<}
use lib.Pow.{pow-add, pow_mono, pow-lt}
use Rattle.orientation.specs.Words.{weight, cap, words, three}

weight-add : (q k : ℕ) → weight (q + k) ≡ weight q * weight k
unfolding weight
weight-add q k = rw (mul-add, pow-add)

-- a product of two words, and a word more, fits
pub word-product : {x a : ℕ} → x < 2 ^ 32 → a < 2 ^ 32 → x * a ≤ 2 ^ 64 - 2 ^ 32
word-product {x} {a} h k =
    let l : x ≤ 2 ^ 32 - 1 = omega arith in
    let m : a ≤ 2 ^ 32 - 1 = omega arith in
    le_trans (mul-le-mul l m) (lit≤ tt)

-- a word times three words
pub row_sum : (x a b c q : ℕ) → x * three a b c * weight q ≡ x * a * weight q + x * b * weight (q + 1) + x * c * weight (q + 2)
unfolding weight
row_sum x a b c q =
    let W = weight q in
    let e : x * three a b c * W ≡ x * a * W + 2 ^ 32 * (x * b * W) + 2 ^ 64 * (x * c * W) =
    rw (mul-add x, mul-add x a, add-mul, add-mul, mul_left_comm x (2 ^ 32) b, mul_left_comm x (2 ^ 64) c, mul_assoc (2 ^ 32), mul_assoc (2 ^ 64)) in
    let f : x * b * weight (q + 1) ≡ 2 ^ 32 * (x * b * W) = rw (weight-add q 1, ← mul_assoc (x * b) W) (omega arith) in
    let g : x * c * weight (q + 2) ≡ 2 ^ 64 * (x * c * W) = rw (weight-add q 2, ← mul_assoc (x * c) W) (omega arith) in
    e ∙ (rw (f, g))

pub shifted_one : (r : ℕ) → r < 32 → (1 * 2 ^ r) % 2 ^ 64 ≡ 2 ^ r
shifted_one r h = ap (λ (n : ℕ). n % 2 ^ 64) (one-mul (2 ^ r)) ∙ (let l : r < 64 = omega arith in mod-eq_of_lt (pow-lt l))

-- a number times p, by its two halves
pub halves : (y p : ℕ) → y * p ≡ y % 2 ^ 32 * p + 2 ^ 32 * (y / 2 ^ 32 * p)
halves y p =
    ap (λ (n : ℕ). n * p) (sym (div-add-mod' y (2 ^ 32))) ∙ rw (add-mul, mul_comm (y / 2 ^ 32) (2 ^ 32), mul_assoc) (omega arith)

-- each half, shifted by less than a word, fits
pub low_fits : (y : ℕ) {r : ℕ} → r < 32 → y % 2 ^ 32 * 2 ^ r ≤ (2 ^ 32 - 1) * 2 ^ 31
low_fits y {r} h =
    let a : y % 2 ^ 32 ≤ 2 ^ 32 - 1 = omega arith in
    let b : r ≤ 31 = omega arith in
    mul-le-mul a (pow_mono b)

pub high_fits : {y r : ℕ} → y < 2 ^ 53 → r < 32 → y / 2 ^ 32 * 2 ^ r ≤ (2 ^ 21 - 1) * 2 ^ 31
high_fits {y} {r} k h =
    let a : y / 2 ^ 32 ≤ 2 ^ 21 - 1 = omega arith in
    let b : r ≤ 31 = omega arith in
    mul-le-mul a (pow_mono b)

-- the three words of l + 2^32 * u
pub spread-sum : (l u n : ℕ) → n ≡ l + 2 ^ 32 * u → three (l % 2 ^ 32) ((u + l / 2 ^ 32) % 2 ^ 32) ((u + l / 2 ^ 32) / 2 ^ 32) ≡ n
spread-sum l u n e = omega arith

-- a shift is whole words and the rest
shift_split : (s : ℕ) → 2 ^ (s % 32) * weight (s / 32) ≡ 2 ^ s
unfolding weight
shift_split s =
    let e : s % 32 + 32 * (s / 32) ≡ s = omega arith in
    sym (pow-add 2 (s % 32) (32 * (s / 32))) ∙ ap (λ (n : ℕ). 2 ^ n) e

-- the rows of the two halves of x
pub product-sum : (x y s : ℕ) → x % 2 ^ 32 * (y * 2 ^ (s % 32)) * weight (s / 32) + x / 2 ^ 32 * (y * 2 ^ (s % 32)) * weight (s / 32 + 1) ≡ x * y * 2 ^ s
unfolding weight
product-sum x y s =
    let T = y * 2 ^ (s % 32) in
    let W = weight (s / 32) in
    let f : x / 2 ^ 32 * T * weight (s / 32 + 1) ≡ 2 ^ 32 * (x / 2 ^ 32 * T * W) = rw (weight-add (s / 32) 1, ← mul_assoc (x / 2 ^ 32 * T) W) (omega arith) in
    let h : x * T * W ≡ x % 2 ^ 32 * T * W + 2 ^ 32 * (x / 2 ^ 32 * T * W) = ap (λ (n : ℕ). n * W) (halves x T) ∙ rw (add-mul, mul_assoc (2 ^ 32)) in
    let g : x * T * W ≡ x * y * 2 ^ s = rw (← shift_split s, mul_assoc x T, mul_assoc y, ← mul_assoc x y) in
    rw f (sym h ∙ g)

pub product-cap : {x y s : ℕ} → x < 2 ^ 53 → y < 2 ^ 53 → s ≤ 4090 → x * y * 2 ^ s ≤ cap
unfolding cap
product-cap {x} {y} {s} h k l = le_trans (mul-le-mul (mul-le-mul (le_of_lt h) (le_of_lt k)) (pow_mono l)) (lit≤ tt)

pub six-caps : 6 * cap < weight words
unfolding cap weight
six-caps = lit< tt

-- the first of two parts, and the second after it, have room beside five products
pub room : (v t u p C W : ℕ) → v ≤ 5 * C → t + u ≡ p → p ≤ C → 6 * C < W → v + t + u < W
room v t u p C W a b c d = omega arith
