-- A finite number's place among the natural numbers: its units of 2^-1074, shifted up so that none is below zero. A comparison of two finite numbers
-- compares their places: both sides of the toolchain's test are scaled to units, and the shift keeps the order.
use mathlib.Core.Path.{◌≡◌, refl, sym, ap, ◌∙◌}
use mathlib.Core.Bool.{Bool, true, false, ◌&&◌, ◌||◌, cond, and-true}
use Prim.Native.Nat.{ℕ, ◌+◌, ◌-◌, ◌*◌, ◌^◌, ◌≤◌, ◌<◌}
use native.Mathlib.Nat.{le_of_lt, add-mul, zero-mul, mul_assoc, mul_right_comm, mul-pos, eq_of_mul-eq-mul_right, lt_of_mul-lt-mul_right, mul-lt-mul_of_pos_right}
use native.Mathlib.Omega.{arith}
use borrow.Author.Tests.{ltb-true, ltb-false, eqb-true, eqb-false, lt-ltb, le-ltb, eq-eqb, ne_eqb, le-leb, lt-leb}
use lib.Dec.{leb, ltb, eqb}
use lib.Pow.{pow_pos}
use lib.IntN.{ℤ}
use lib.Ieee as I
use lib.Ieee.{Float, nan, inf, fin, up, down, lt, eq, le}
use lib.Ieee.Fits.{down_pos}
use lib.Ieee.Exact.{HasValue}
use Rattle.numbers.specs.Binary64.{Finite}
use Rattle.numbers.specs.Exact.{size, negative}
use Rattle.numbers.proofs.Units.{exact, size_below}

-- no finite number is below minus this many units
unfoldable pub shift : ℕ
shift = 2 ^ 2098

-- a sign and a size, counted from b below zero
abbrev at : ℕ → Bool → ℕ → ℕ
at b s n = cond s (b - n) (b + n)

unfoldable pub place : Float → ℕ
place x = at shift (negative x) (size x)

-- ---- tests that agree
ltb_as : (a b c d : ℕ) → (a < b → c < d) → (c < d → a < b) → ltb a b ≡ ltb c d
ltb_as a b c d f g = go (ltb a b) refl
  where
    go : (t : Bool) → ltb a b ≡ t → t ≡ ltb c d
    go true e = sym (lt-ltb c d (f (ltb-true a b e)))
    go false e = other (ltb c d) refl
      where
        other : (t : Bool) → ltb c d ≡ t → false ≡ t
        other true k = sym e ∙ lt-ltb a b (g (ltb-true c d k))
        other false k = refl

eqb-as : (a b c d : ℕ) → (a ≡ b → c ≡ d) → (c ≡ d → a ≡ b) → eqb a b ≡ eqb c d
eqb-as a b c d f g = go (eqb a b) refl
  where
    go : (t : Bool) → eqb a b ≡ t → t ≡ eqb c d
    go true e = sym (eq-eqb c d (f (eqb-true a b e)))
    go false e = sym (ne_eqb c d (λ k. eqb-false a b e (g k)))

-- ---- the toolchain's tests of a sign and a size, scaled
module _ (k : ℕ) (K : 0 < k) where
  ltb-scaled : (a b : ℕ) → ltb a b ≡ ltb (a * k) (b * k)
  ltb-scaled a b = ltb_as a b (a * k) (b * k) (λ h. mul-lt-mul_of_pos_right h K) (λ h. lt_of_mul-lt-mul_right k h)

  eqb-scaled : (a b : ℕ) → eqb a b ≡ eqb (a * k) (b * k)
  eqb-scaled a b = eqb-as a b (a * k) (b * k) (λ h. ap (λ (n : ℕ). n * k) h) (λ h. eq_of_mul-eq-mul_right k K a b h)

  below-scaled : (s t : Bool) (a b : ℕ) → I.below s a t b ≡ I.below s (a * k) t (b * k)
  below-scaled false false a b = ltb-scaled a b
  below-scaled false true a b = refl
  below-scaled true false a b = ltb-scaled 0 (a + b) ∙ rw (zero-mul k, add-mul a b k)
  below-scaled true true a b = ltb-scaled b a

  level-scaled : (s t : Bool) (a b : ℕ) → I.level s a t b ≡ I.level s (a * k) t (b * k)
  level-scaled s t a b =
      let none : eqb a 0 ≡ eqb (a * k) 0 = eqb-scaled a 0 ∙ rw (zero-mul k) in
      rw (eqb-scaled a b, none)

-- ---- and by their places
module _ (b : ℕ) (m n : ℕ) (M : m ≤ b) (N : n ≤ b) where
  below_at : (s t : Bool) → I.below s m t n ≡ ltb (at b s m) (at b t n)
  below_at false false = ltb_as m n (b + m) (b + n) (λ h. omega arith) (λ h. omega arith)
  below_at false true = sym (le-ltb (b + m) (b - n) (omega arith))
  below_at true false = ltb_as 0 (m + n) (b - m) (b + n) (λ h. omega arith) (λ h. omega arith)
  below_at true true = ltb_as n m (b - m) (b - n) (λ h. omega arith) (λ h. omega arith)

  -- of unlike signs only zeros are equal
  zeros : (i j : ℕ) → (i ≡ j → m + n ≡ 0) → (m + n ≡ 0 → i ≡ j) → (eqb m n && eqb m 0) ≡ eqb i j
  zeros i j f g = go (eqb m n) refl (eqb m 0) refl
    where
      go : (u : Bool) → eqb m n ≡ u → (v : Bool) → eqb m 0 ≡ v → (u && v) ≡ eqb i j
      go true p true q =
          let m-n = eqb-true m n p in
          let m-0 = eqb-true m 0 q in
          sym (eq-eqb i j (g (omega arith)))
      go true p false q = sym (ne_eqb i j (λ e. let z = f e in eqb-false m 0 q (omega arith)))
      go false p v q = sym (ne_eqb i j (λ e. let z = f e in eqb-false m n p (omega arith)))

  level-at : (s t : Bool) → I.level s m t n ≡ eqb (at b s m) (at b t n)
  level-at false false = and-true (eqb m n) ∙ eqb-as m n (b + m) (b + n) (λ h. omega arith) (λ h. omega arith)
  level-at false true = zeros (b + m) (b - n) (λ h. omega arith) (λ h. omega arith)
  level-at true false = zeros (b - m) (b + n) (λ h. omega arith) (λ h. omega arith)
  level-at true true = and-true (eqb m n) ∙ eqb-as m n (b - m) (b - n) (λ h. omega arith) (λ h. omega arith)

-- ---- two numbers of m and n units of 1 / w
module _ (m n w : ℕ) (W : 0 < w) where
  module _ (a : ℕ) (e : ℤ) (b : ℕ) (d : ℤ) (h : a * up e * w ≡ m * down e) (k : b * up d * w ≡ n * down d) where
    abbrev common : ℕ
    common = down e * down d

    positive : 0 < common
    positive = mul-pos (down_pos e) (down_pos d)

    first : a * up e * down d * w ≡ m * common
    first = mul_right_comm (a * up e) (down d) w ∙ ap (λ (j : ℕ). j * down d) h ∙ mul_assoc m (down e) (down d)

    second : b * up d * down e * w ≡ n * common
    second = mul_right_comm (b * up d) (down e) w ∙ ap (λ (j : ℕ). j * down e) k ∙ mul_right_comm n (down d) (down e) ∙ mul_assoc n (down e) (down d)

    below-units : (s t : Bool) → I.below s (a * up e * down d) t (b * up d * down e) ≡ I.below s m t n
    below-units s t = below-scaled w W s t (a * up e * down d) (b * up d * down e) ∙ rw (first, second) (sym (below-scaled common positive s t m n))

    level-units : (s t : Bool) → I.level s (a * up e * down d) t (b * up d * down e) ≡ I.level s m t n
    level-units s t = level-scaled w W s t (a * up e * down d) (b * up d * down e) ∙ rw (first, second) (sym (level-scaled common positive s t m n))

  pub lt-units : (x y : Float) (s t : Bool) → HasValue x s m w → HasValue y t n w → lt x y ≡ I.below s m t n
  unfolding lt
  lt-units nan y s t h k = absurd h
  lt-units (inf r) y s t h k = absurd h
  lt-units (fin r a e) nan s t h k = absurd k
  lt-units (fin r a e) (inf q) s t h k = absurd k
  lt-units (fin r a e) (fin q b d) s t h k = rw (← h.0, ← k.0) (below-units a e b d h.1 k.1 r q)

  eq-units : (x y : Float) (s t : Bool) → HasValue x s m w → HasValue y t n w → eq x y ≡ I.level s m t n
  unfolding eq
  eq-units nan y s t h k = absurd h
  eq-units (inf r) y s t h k = absurd h
  eq-units (fin r a e) nan s t h k = absurd k
  eq-units (fin r a e) (inf q) s t h k = absurd k
  eq-units (fin r a e) (fin q b d) s t h k = rw (← h.0, ← k.0) (level-units a e b d h.1 k.1 r q)

-- ---- the comparisons of finite numbers
pub size-most : (x : Float) → Finite x → size x ≤ shift
unfolding shift
size-most x h = le_of_lt (size_below x h)

pub lt-place : (x y : Float) → Finite x → Finite y → lt x y ≡ ltb (place x) (place y)
unfolding place
lt-place x y h k =
    lt-units (size x) (size y) (2 ^ 1074) (pow_pos 1074) x y (negative x) (negative y) (exact x h) (exact y k)
    ∙ below_at shift (size x) (size y) (size-most x h) (size-most y k) (negative x) (negative y)

pub eq-place : (x y : Float) → Finite x → Finite y → eq x y ≡ eqb (place x) (place y)
unfolding place
eq-place x y h k =
    eq-units (size x) (size y) (2 ^ 1074) (pow_pos 1074) x y (negative x) (negative y) (exact x h) (exact y k)
    ∙ level-at shift (size x) (size y) (size-most x h) (size-most y k) (negative x) (negative y)

or-equal : (i j : ℕ) → (ltb i j || eqb i j) ≡ leb i j
or-equal i j = go (ltb i j) refl (eqb i j) refl
  where
    go : (u : Bool) → ltb i j ≡ u → (v : Bool) → eqb i j ≡ v → (u || v) ≡ leb i j
    go true p v q = let l = ltb-true i j p in sym (le-leb i j (omega arith))
    go false p true q = let l = eqb-true i j q in sym (le-leb i j (omega arith))
    go false p false q =
        let l = ltb-false i j p in
        let d = eqb-false i j q in
        sym (lt-leb i j (omega arith))

pub le-place : (x y : Float) → Finite x → Finite y → le x y ≡ leb (place x) (place y)
unfolding le
le-place x y h k = rw (lt-place x y h k, eq-place x y h k) (or-equal (place x) (place y))

-- the place is the number of units, shifted: what is above zero and what is below it
pub place_is : (x : Float) → Finite x → cond (negative x) 0 (size x) + shift ≡ place x + cond (negative x) (size x) 0
unfolding place
place_is x h = go (negative x) (size x) shift (size-most x h)
  where
    go : (s : Bool) (n b : ℕ) → n ≤ b → cond s 0 n + b ≡ at b s n + cond s n 0
    go true n b l = omega arith
    go false n b l = omega arith
