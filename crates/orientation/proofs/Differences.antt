-- A whole number as a difference of two naturals. `Diff z p n`, z is p - n, goes through plus, minus and times, and two numbers of one difference
-- are the same: so an equation of whole numbers becomes one of naturals, where `simp (add-mul, mul-add) (omega arith)` proves it.
use mathlib.Core.Path.{◌≡◌, refl, ap}
use mathlib.Core.Bool.{Bool, true, false, cond}
use Prim.Native.Nat.{ℕ, zero, suc, ◌+◌, ◌*◌, ◌-◌}
use native.Mathlib.Nat.{add-mul, mul-add, add-zero}
use native.Mathlib.Omega.{arith}
use borrow.Author.Tests.{ltb-true, ltb-false}
use lib.Dec.{ltb}
use lib.IntN.{ℤ, pos, negsuc, neg_ℤ, sub_ℕ, ◌+ℤ◌, ◌-ℤ◌, ◌*ℤ◌}
use lib.Ieee.{Float, unlike}
use Rattle.numbers.specs.Exact.{size, negative, whole}

abbrev pub Is : ℤ → ℕ → ℕ → Type 0
Is (pos a) p n = a + n ≡ p
Is (negsuc a) p n = suc a + p ≡ n

-- z is p - n
pub record Diff (z : ℤ) (p n : ℕ) : Type 0 where
  pub is : Is z p n

moved_at : (z : ℤ) (p n q m : ℕ) → p + m ≡ q + n → Is z p n → Is z q m
moved_at (pos a) p n q m e h = omega arith
moved_at (negsuc a) p n q m e h = omega arith

same_at : (z w : ℤ) (p n : ℕ) → Is z p n → Is w p n → z ≡ w
same_at (pos a) (pos b) p n h k = ap pos (omega arith)
same_at (pos a) (negsuc b) p n h k = absurd (omega arith)
same_at (negsuc a) (pos b) p n h k = absurd (omega arith)
same_at (negsuc a) (negsuc b) p n h k = ap negsuc (omega arith)

crossed-at : (z : ℤ) (p n q m : ℕ) → Is z p n → Is z q m → p + m ≡ q + n
crossed-at (pos a) p n q m h k = omega arith
crossed-at (negsuc a) p n q m h k = omega arith

sub_at : (a b : ℕ) → Is (sub_ℕ a b) a b
sub_at a b = go (ltb a b) refl
  where
    go : (t : Bool) → ltb a b ≡ t → Is (cond t (negsuc (b - suc a)) (pos (a - b))) a b
    go true h = omega (arith, ltb-true a b h)
    go false h = omega (arith, ltb-false a b h)

neg-at : (z : ℤ) (p n : ℕ) → Is z p n → Is (neg_ℤ z) n p
neg-at (pos zero) p n h = omega arith
neg-at (pos (suc a)) p n h = omega arith
neg-at (negsuc a) p n h = omega arith

add_at : (x y : ℤ) (p n q m : ℕ) → Is x p n → Is y q m → Is (x +ℤ y) (p + q) (n + m)
add_at (pos a) (pos b) p n q m h k = omega arith
add_at (pos a) (negsuc b) p n q m h k = moved_at (sub_ℕ a (suc b)) a (suc b) (p + q) (n + m) (omega arith) (sub_at a (suc b))
add_at (negsuc a) (pos b) p n q m h k = moved_at (sub_ℕ b (suc a)) b (suc a) (p + q) (n + m) (omega arith) (sub_at b (suc a))
add_at (negsuc a) (negsuc b) p n q m h k = omega arith

product : (a b n m p q : ℕ) → a + n ≡ p → b + m ≡ q → a * b + (p * m + n * q) ≡ p * q + n * m
product a b n m p q h k = rw (← h, ← k) (simp (add-mul, mul-add) (omega arith))

mul_at : (x y : ℤ) (p n q m : ℕ) → Is x p n → Is y q m → Is (x *ℤ y) (p * q + n * m) (p * m + n * q)
mul_at (pos a) (pos b) p n q m h k = product a b n m p q h k
mul_at (pos a) (negsuc b) p n q m h k = neg-at (pos (a * suc b)) _ _ (product a (suc b) n q p m h k)
mul_at (negsuc a) (pos b) p n q m h k = neg-at (pos (suc a * b)) (p * m + n * q) (p * q + n * m) (omega (arith, product (suc a) b p m n q h k))
mul_at (negsuc a) (negsuc b) p n q m h k = omega (arith, product (suc a) (suc b) p q n m h k)

pub moved : {z : ℤ} {p n : ℕ} (q m : ℕ) → p + m ≡ q + n → Diff z p n → Diff z q m
moved {z} {p} {n} q m e h = record { is = moved_at z p n q m e h.is }

pub same : {z w : ℤ} {p n q m : ℕ} → Diff z p n → Diff w q m → p + m ≡ q + n → z ≡ w
same {z} {w} {p} {n} {q} {m} h k e = same_at z w q m (moved_at z p n q m e h.is) k.is

pub crossed : {z : ℤ} {p n q m : ℕ} → Diff z p n → Diff z q m → p + m ≡ q + n
crossed {z} {p} {n} {q} {m} h k = crossed-at z p n q m h.is k.is

pub plus : {x y : ℤ} {p n q m : ℕ} → Diff x p n → Diff y q m → Diff (x +ℤ y) (p + q) (n + m)
plus {x} {y} {p} {n} {q} {m} h k = record { is = add_at x y p n q m h.is k.is }

pub minus : {x y : ℤ} {p n q m : ℕ} → Diff x p n → Diff y q m → Diff (x -ℤ y) (p + m) (n + q)
minus {x} {y} {p} {n} {q} {m} h k = record { is = add_at x (neg_ℤ y) p n m q h.is (neg-at y q m k.is) }

pub times : {x y : ℤ} {p n q m : ℕ} → Diff x p n → Diff y q m → Diff (x *ℤ y) (p * q + n * m) (p * m + n * q)
times {x} {y} {p} {n} {q} {m} h k = record { is = mul_at x y p n q m h.is k.is }

pub natural : (a : ℕ) → Diff (pos a) a 0
natural a = record { is = add-zero a }

-- a whole number by its parts above and below zero, one of which is 0
abbrev pub above : ℤ → ℕ
above (pos a) = a
above (negsuc a) = 0

abbrev pub below : ℤ → ℕ
below (pos a) = 0
below (negsuc a) = suc a

pub parts : (z : ℤ) → Diff z (above z) (below z)
parts (pos a) = natural a
parts (negsuc a) = record { is = add-zero (suc a) }

-- a sign and a size
pub signed : (s : Bool) (m : ℕ) → Diff (cond s (neg_ℤ (pos m)) (pos m)) (cond s 0 m) (cond s m 0)
signed true zero = record { is = refl }
signed true (suc m) = record { is = add-zero (suc m) }
signed false m = natural m

-- a product by the signs and sizes of its factors
pub signed-times : (s t : Bool) (m n : ℕ) {z w : ℤ} → Diff z (cond s 0 m) (cond s m 0) → Diff w (cond t 0 n) (cond t n 0)
    → Diff (z *ℤ w) (cond (unlike s t) 0 (m * n)) (cond (unlike s t) (m * n) 0)
signed-times true true m n h k = moved _ _ (omega arith) (times h k)
signed-times true false m n h k = moved _ _ (omega arith) (times h k)
signed-times false true m n h k = moved _ _ (omega arith) (times h k)
signed-times false false m n h k = moved _ _ (omega arith) (times h k)

pub whole_is : (x : Float) → Diff (whole x) (cond (negative x) 0 (size x)) (cond (negative x) (size x) 0)
whole_is x = signed (negative x) (size x)
