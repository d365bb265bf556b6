-- A bit pattern of a finite number is read by its fields: the sign, the exponent's field, the digits below the leading one. The size that it stands
-- for grows with the pattern, because one digit more is a larger size and so is the next field with no digits.
use mathlib.Core.Path.{◌≡◌, refl, sym, ap, ◌∙◌, subst}
use mathlib.Core.Logic.{◌⊎◌, inl, inr}
use mathlib.Core.Bool.{Bool, true, false, cond, true≢false}
use Prim.Native.Nat.{ℕ, zero, suc, ◌+◌, ◌-◌, ◌*◌, ◌/◌, ◌%◌, ◌^◌, ◌≤◌, ◌<◌}
use native.Mathlib.Nat.{mul-one, mul-div_cancel, mul-lt-mul_of_pos_right, pow-suc, eq-or-lt_of_le, lt_of_not-le}
use native.Mathlib.Omega.{arith}
use borrow.Author.Tests.{ltb-true, ltb-false, ne_eqb}
use lib.Dec.{leb, ltb, eqb, lit<}
use lib.Pow.{pow_pos}
use lib.Ieee.{Float, nan, inf, fin, binary64, down, odd, of_fields, of_bits, to_bits}
use lib.Ieee.Bits.{of_bits-to_bits, of_bits-fits}
use lib.Ieee.Exact.{HasValue, odd_sign}
use lib.Ieee.Fits.{down_pos}
use Rattle.numbers.specs.Binary64.{Finite, not_finite}
use Rattle.numbers.specs.Exact.{size, negative}

-- the size that an exponent's field and the digits stand for, in units of 2^-1074
unfoldable pub size_at : ℕ → ℕ → ℕ
size_at zero t = t
size_at (suc f) t = (2 ^ 52 + t) * 2 ^ f

-- of a pattern without its sign
unfoldable pub size_of : ℕ → ℕ
size_of n = size_at (n / 2 ^ 52) (n % 2 ^ 52)

-- the pattern of infinity: those below it are of finite numbers
abbrev pub infinite : ℕ
infinite = 0x7ff0_0000_0000_0000

-- ---- sizes grow with the patterns
digit-more : (f t : ℕ) → size_at f t < size_at f (t + 1)
unfolding size_at
digit-more zero t = omega arith
digit-more (suc f) t = mul-lt-mul_of_pos_right (omega arith) (pow_pos f)

doubled : (p : ℕ) → 0 < p → (2 ^ 52 + (2 ^ 52 - 1)) * p < (2 ^ 52 + 0) * (p * 2)
doubled p h = omega arith

next_field : (f : ℕ) → size_at f (2 ^ 52 - 1) < size_at (suc f) 0
unfolding size_at
next_field zero = lit< tt
next_field (suc f) = rw (pow-suc 2 f) (doubled (2 ^ f) (pow_pos f))

step : (n : ℕ) → size_of n < size_of (suc n)
unfolding size_of
step n = go (ltb (n % 2 ^ 52) (2 ^ 52 - 1)) refl
  where
    go : (b : Bool) → ltb (n % 2 ^ 52) (2 ^ 52 - 1) ≡ b → size_at (n / 2 ^ 52) (n % 2 ^ 52) < size_at (suc n / 2 ^ 52) (suc n % 2 ^ 52)
    go true e =
        let l = ltb-true (n % 2 ^ 52) (2 ^ 52 - 1) e in
        let field : suc n / 2 ^ 52 ≡ n / 2 ^ 52 = omega arith in
        let digits : suc n % 2 ^ 52 ≡ n % 2 ^ 52 + 1 = omega arith in
        rw (field, digits) (digit-more (n / 2 ^ 52) (n % 2 ^ 52))
    go false e =
        let l = ltb-false (n % 2 ^ 52) (2 ^ 52 - 1) e in
        let field : suc n / 2 ^ 52 ≡ suc (n / 2 ^ 52) = omega arith in
        let digits : suc n % 2 ^ 52 ≡ 0 = omega arith in
        let full : n % 2 ^ 52 ≡ 2 ^ 52 - 1 = omega arith in
        rw (field, digits, full) (next_field (n / 2 ^ 52))

pub size-grows : (n k : ℕ) → n < k → size_of n < size_of k
size-grows n zero h = absurd (omega arith)
size-grows n (suc k) h = go (eq-or-lt_of_le h) (size-grows n k) (step k)
  where
    go : (suc n ≡ suc k) ⊎ (suc n < suc k) → (n < k → size_of n < size_of k) → size_of k < size_of (suc k) → size_of n < size_of (suc k)
    go (inl e) below s = let n-k : n ≡ k = omega arith in rw n-k s
    go (inr l) below s = let m = below (omega arith) in omega arith

pub size-keeps : (n k : ℕ) → n ≤ k → size_of n ≤ size_of k
size-keeps n k h = go (eq-or-lt_of_le h)
  where
    go : (n ≡ k) ⊎ (n < k) → size_of n ≤ size_of k
    go (inl e) = rw e (omega arith)
    go (inr l) = let m = size-grows n k l in omega arith

pub size_none : size_of 0 ≡ 0
unfolding size_of size_at
size_none = refl

-- ---- the number of a pattern
fields_value : (s : Bool) (f t : ℕ) → f < 2047 → HasValue (of_fields binary64 s f t) s (size_at f t) (2 ^ 1074)
unfolding of_fields size_at
fields_value s zero t h = subst (λ (a : ℕ). HasValue (odd 53 s t 0 1074) s a (2 ^ 1074)) (mul-one t) (odd_sign 53 s t 0 1074)
fields_value s (suc f) t h = rw (ne_eqb (suc f) 2047 (omega arith)) (odd_sign 53 s (2 ^ 52 + t) f 1074)

digits_low : (n : ℕ) → n % 2 ^ 63 % 2 ^ 52 ≡ n % 2 ^ 52
digits_low n = omega arith

value : (n : ℕ) → n % 2 ^ 63 < infinite → HasValue (of_bits binary64 n) (leb (2 ^ 63) n) (size_of (n % 2 ^ 63)) (2 ^ 1074)
unfolding of_bits size_of
value n h = rw (digits_low n) (fields_value (leb (2 ^ 63) n) (n % 2 ^ 63 / 2 ^ 52) (n % 2 ^ 52) (omega arith))

-- what has a value is finite, and the value is its size and sign
valued-finite : (v : Float) (s : Bool) (a : ℕ) → HasValue v s a (2 ^ 1074) → not_finite v ≡ false
unfolding not_finite
valued-finite nan s a h = absurd h
valued-finite (inf t) s a h = absurd h
valued-finite (fin t m e) s a h = refl

valued-size : (v : Float) (s : Bool) (a : ℕ) → HasValue v s a (2 ^ 1074) → (size v ≡ a) × (negative v ≡ s)
unfolding size negative
valued-size nan s a h = absurd h
valued-size (inf t) s a h = absurd h
valued-size (fin t m e) s a h = (ap (λ (n : ℕ). n / down e) h.1 ∙ mul-div_cancel a (down_pos e), h.0)

pub pattern-finite : (n : ℕ) → n % 2 ^ 63 < infinite → Finite (of_bits binary64 n)
pattern-finite n h = record { held = of_bits-fits binary64 n; finite = valued-finite (of_bits binary64 n) (leb (2 ^ 63) n) (size_of (n % 2 ^ 63)) (value n h) }

pub pattern-size : (n : ℕ) → n % 2 ^ 63 < infinite → (size (of_bits binary64 n) ≡ size_of (n % 2 ^ 63)) × (negative (of_bits binary64 n) ≡ leb (2 ^ 63) n)
pattern-size n h = valued-size (of_bits binary64 n) (leb (2 ^ 63) n) (size_of (n % 2 ^ 63)) (value n h)

-- ---- the pattern of a finite number
full-field : (s : Bool) (t f : ℕ) → f ≡ 2047 → not_finite (of_fields binary64 s f t) ≡ true
unfolding of_fields not_finite
full-field s t f e = rw e (go (eqb t 0))
  where
    go : (b : Bool) → not_finite (cond b (inf s) nan) ≡ true
    go true = refl
    go false = refl

pub above-finite : (n : ℕ) → infinite ≤ n % 2 ^ 63 → not_finite (of_bits binary64 n) ≡ true
unfolding of_bits
above-finite n h = full-field (leb (2 ^ 63) n) (n % 2 ^ 52) (n % 2 ^ 63 / 2 ^ 52) (omega arith)

pub finite-pattern : (x : Float) → Finite x → to_bits binary64 x % 2 ^ 63 < infinite
finite-pattern x h =
    lt_of_not-le (λ (k : infinite ≤ to_bits binary64 x % 2 ^ 63).
    true≢false (sym (above-finite (to_bits binary64 x) k) ∙ ap not_finite (of_bits-to_bits binary64 x h.held) ∙ h.finite))
