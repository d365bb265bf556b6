-- A finite number is what its bits say, field by field; a number that is not finite counts as 0.
use mathlib.Core.Path.{◌≡◌, refl, sym, ap, ◌∙◌, subst}
use mathlib.Core.Bool.{Bool, true, false, not, cond, true≢false}
use Prim.Native.Nat.{ℕ, suc, ◌+◌, ◌-◌, ◌*◌, ◌^◌, ◌/◌, ◌%◌, ◌<◌, ◌≤◌}
use native.Mathlib.Nat.{mul-div_cancel}
use native.Mathlib.Omega.{arith}
use borrow.Author.Tests.{eqb-false}
use lib.Dec.{T, leb, eqb}
use lib.Ieee.{Float, nan, inf, fin, binary64, is_nan, fits, of_bits, to_bits, of_fields, odd, down}
use lib.Ieee.Exact.{HasValue, odd_sign}
use lib.Ieee.Fits.{down_pos}
use lib.Ieee.Bits.{of_bits-to_bits}
use Rattle.numbers.specs.Binary64.{not_finite}
use Rattle.numbers.specs.Exact.{size, negative}
use Rattle.orientation.specs.Parts.{PartOf}

pub no_nan : (x : Float) → not_finite x ≡ false → T (not (is_nan x))
unfolding not_finite is_nan
no_nan nan h = absurd (true≢false h)
no_nan (inf s) h = tt
no_nan (fin s m e) h = tt

pub not_finite_lem : (x : Float) → not_finite x ≡ true → PartOf x false 0 0
unfolding not_finite size negative
not_finite_lem nan h = record { sign = refl; small = omega arith; near = omega arith; is = refl }
not_finite_lem (inf s) h = record { sign = refl; small = omega arith; near = omega arith; is = refl }
not_finite_lem (fin s m e) h = absurd (true≢false (sym h))

exact : (v : Float) (s : Bool) (a : ℕ) → HasValue v s a (2 ^ 1074) → (size v ≡ a) × (negative v ≡ s)
unfolding size negative
exact nan s a h = absurd h
exact (inf t) s a h = absurd h
exact (fin t m e) s a h = (ap (λ (n : ℕ). n / down e) h.1 ∙ mul-div_cancel a (down_pos e), h.0)

-- an exponent of ones is no finite number's
picked : (b c s : Bool) (v : Float) → not_finite (cond b (cond c (inf s) nan) v) ≡ false → (b ≡ false) × (cond b (cond c (inf s) nan) v ≡ v)
unfolding not_finite
picked true true s v h = absurd (true≢false h)
picked true false s v h = absurd (true≢false h)
picked false c s v h = (refl, refl)

abbrev bits : Float → ℕ
bits x = to_bits binary64 x

abbrev sign : Float → Bool
sign x = leb (2 ^ 63) (bits x)

module _ (x : Float) (h : fits binary64 x ≡ true) where
  by-fields : (f : ℕ) → bits x % 2 ^ 63 / 2 ^ 52 ≡ f → of_fields binary64 (sign x) f (bits x % 2 ^ 52) ≡ x
  unfolding of_bits
  by-fields f e = subst (λ (n : ℕ). of_fields binary64 (sign x) n (bits x % 2 ^ 52) ≡ x) e (of_bits-to_bits binary64 x (subst T (sym h) tt))

  part : (m k : ℕ) → m < 2 ^ 53 → k ≤ 2045 → odd 53 (sign x) m k 1074 ≡ x → PartOf x (sign x) m k
  part m k l n e =
      let v = exact (odd 53 (sign x) m k 1074) (sign x) (m * 2 ^ k) (odd_sign 53 (sign x) m k 1074) in
      record { sign = sym v.1 ∙ ap negative e; small = l; near = n; is = sym v.0 ∙ ap size e }

  pub low_field : bits x % 2 ^ 63 / 2 ^ 52 ≡ 0 → PartOf x (sign x) (bits x % 2 ^ 52) 0
  unfolding of_fields
  low_field z = part (bits x % 2 ^ 52) 0 (omega arith) (omega arith) (by-fields 0 z)

  -- the leading digit is not written
  pub high_field : not_finite x ≡ false → 0 < bits x % 2 ^ 63 / 2 ^ 52 → PartOf x (sign x) (2 ^ 52 + bits x % 2 ^ 52) (bits x % 2 ^ 63 / 2 ^ 52 - 1)
  unfolding of_fields
  high_field u some =
      let f = bits x % 2 ^ 63 / 2 ^ 52 - 1 in
      let z : bits x % 2 ^ 63 / 2 ^ 52 ≡ suc f = omega arith in
      let t = bits x % 2 ^ 52 in
      let e : of_fields binary64 (sign x) (suc f) t ≡ x = by-fields (suc f) z in
      let p = picked (eqb (suc f) 2047) (eqb t 0) (sign x) (odd 53 (sign x) (2 ^ 52 + t) f 1074) (ap not_finite e ∙ u) in
      let q : suc f ≡ 2047 → ⊥ = eqb-false (suc f) 2047 p.0 in
      part (2 ^ 52 + t) f (omega arith) (omega arith) (sym p.1 ∙ e)
