-- What is told by a finite number's bits, and is one for both zeros, is one for numbers that are equal by value: the pattern is told by the sign and the
-- size in units, equal numbers have one size, and of unlike signs only zeros are equal. The first need not be written in the one way that the format holds.
use mathlib.Core.Path.{◌≡◌, refl, sym, ap, ◌∙◌}
use mathlib.Core.Logic.{◌⊎◌, inl, inr}
use mathlib.Core.Bool.{Bool, true, false, ◌&&◌, ◌||◌, beq, cond, true≢false, false≢true}
use Prim.Native.Nat.{ℕ, ◌+◌, ◌-◌, ◌*◌, ◌/◌, ◌^◌, ◌<◌}
use native.Mathlib.Nat.{mul_right_comm, mul-div_cancel, mul-pos, zero-mul, eq_of_mul-eq-mul_right, eq-zero-or-pos}
use native.Mathlib.Omega.{arith}
use borrow.Author.Tests.{eqb-true}
use lib.Dec.{eqb}
use lib.IntN.{ℤ}
use lib.Ieee as I
use lib.Ieee.{Float, nan, inf, fin, binary64, up, down, eq, span, climb, to_bits}
use lib.Ieee.Fits.{down_pos}
use Rattle.numbers.specs.Binary64.{Finite, not_finite}
use Rattle.numbers.specs.Exact.{size}
use Rattle.numbers.specs.Next.{minus_zero}
use Rattle.numbers.proofs.Units.{exact}

-- the pattern of a sign and a size in units
unfoldable pattern_of : Bool → ℕ → ℕ
pattern_of s n = cond s (2 ^ 63) 0 + (I.size n - 53) * 2 ^ 52 + n / 2 ^ (I.size n - 53)

pattern-is : (s : Bool) (m : ℕ) (e : ℤ) → to_bits binary64 (fin s m e) ≡ pattern_of s (size (fin s m e))
unfolding to_bits pattern_of size
pattern-is s m e = refl

-- n * w is a * d: where n is none, so is a
no_size : (a d : ℕ) → 0 < d → (w n e : ℕ) → 0 < e → n * w ≡ a * d → n * e ≡ 0 → a ≡ 0
no_size a d D w n e E h z = go (eq-zero-or-pos n) (eq-zero-or-pos a)
  where
    go : (n ≡ 0) ⊎ (0 < n) → (a ≡ 0) ⊎ (0 < a) → a ≡ 0
    go q (inl p) = p
    go (inl q) (inr p) =
        let k = mul-pos p D in
        let r : n * w ≡ 0 = ap (λ (v : ℕ). v * w) q ∙ zero-mul w in
        absurd (omega arith)
    go (inr q) (inr p) = let k = mul-pos q E in absurd (omega arith)

-- ---- the toolchain's test of equality
alike : (s t : Bool) → (beq s t || false) ≡ true → s ≡ t
alike true true h = refl
alike true false h = absurd (false≢true h)
alike false true h = absurd (false≢true h)
alike false false h = refl

pub level-true : (s t : Bool) (a b : ℕ) → I.level s a t b ≡ true → (a ≡ b) × ((s ≡ t) ⊎ (a ≡ 0))
level-true s t a b h = go (eqb a b) refl (eqb a 0) refl h
  where
    go : (u : Bool) → eqb a b ≡ u → (v : Bool) → eqb a 0 ≡ v → (u && (beq s t || v)) ≡ true → (a ≡ b) × ((s ≡ t) ⊎ (a ≡ 0))
    go false p v q h = absurd (false≢true h)
    go true p true q h = (eqb-true a b p, inr (eqb-true a 0 q))
    go true p false q h = (eqb-true a b p, inl (alike s t h))

module _ (s : Bool) (m : ℕ) (e : ℤ) (t : Bool) (n : ℕ) (d : ℤ) where
  abbrev units : ℕ
  units = size (fin t n d)

  module _ (own : n * up d * 2 ^ 1074 ≡ units * down d) (equal : m * up e * down d ≡ n * up d * down e) where
    scaled : m * up e * 2 ^ 1074 ≡ units * down e
    scaled =
        eq_of_mul-eq-mul_right (down d) (down_pos d) (m * up e * 2 ^ 1074) (units * down e)
        (mul_right_comm (m * up e) (2 ^ 1074) (down d)
        ∙ ap (λ (w : ℕ). w * 2 ^ 1074) equal
        ∙ mul_right_comm (n * up d) (down e) (2 ^ 1074)
        ∙ ap (λ (w : ℕ). w * down e) own
        ∙ mul_right_comm units (down d) (down e))

    one_size : size (fin s m e) ≡ units
    unfolding size
    one_size = ap (λ (k : ℕ). k / down e) scaled ∙ mul-div_cancel units (down_pos e)

    same_sign : (s ≡ t) ⊎ (m * up e * down d ≡ 0) → (s ≡ t) ⊎ (units ≡ 0)
    same_sign (inl p) = inl p
    same_sign (inr z) = inr (no_size units (down d) (down_pos d) (2 ^ 1074) (n * up d) (down e) (down_pos e) own (sym equal ∙ z))

-- f is told by the bits of a finite number: it is g of them
abbrev pub ByBits : {A : Type 0} → (Float → A) → (ℕ → A) → Type 0
ByBits f g = (s : Bool) (m : ℕ) (e : ℤ) → f (fin s m e) ≡ g (to_bits binary64 (fin s m e))

module _ {A : Type 0} (f : Float → A) (g : ℕ → A) (by_bits : ByBits f g) (zeros : g minus_zero ≡ g 0) where
  at-zeros : (s t : Bool) → g (pattern_of s 0) ≡ g (pattern_of t 0)
  unfolding pattern_of I.size span climb
  at-zeros true true = refl
  at-zeros true false = zeros
  at-zeros false true = sym zeros
  at-zeros false false = refl

  at-equals : (s t : Bool) (n : ℕ) → (s ≡ t) ⊎ (n ≡ 0) → g (pattern_of s n) ≡ g (pattern_of t n)
  at-equals s t n (inl e) = rw e
  at-equals s t n (inr e) = rw e (at-zeros s t)

  by_size : (s : Bool) (m : ℕ) (e : ℤ) → f (fin s m e) ≡ g (pattern_of s (size (fin s m e)))
  by_size s m e = by_bits s m e ∙ ap g (pattern-is s m e)

  pub same-of-equals : (x y : Float) → Finite y → eq x y ≡ true → f x ≡ f y
  unfolding eq not_finite
  same-of-equals nan y k q = absurd (false≢true q)
  same-of-equals (inf s) nan k q = absurd (false≢true q)
  same-of-equals (inf s) (inf t) k q = absurd (true≢false k.finite)
  same-of-equals (inf s) (fin t n d) k q = absurd (false≢true q)
  same-of-equals (fin s m e) nan k q = absurd (false≢true q)
  same-of-equals (fin s m e) (inf t) k q = absurd (false≢true q)
  same-of-equals (fin s m e) (fin t n d) k q =
      let l = level-true s t (m * up e * down d) (n * up d * down e) q in
      let own = (exact (fin t n d) k).1 in
      by_size s m e
      ∙ ap (λ (w : ℕ). g (pattern_of s w)) (one_size s m e t n d own l.0)
      ∙ at-equals s t (size (fin t n d)) (same_sign s m e t n d own l.0 l.1)
      ∙ sym (by_size t n d)
