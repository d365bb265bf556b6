-- Without the sign of its zeros a number is as finite as before; and finite numbers that are equal by value become the same data.
use mathlib.Core.Path.{◌≡◌, refl, sym, ap, ◌∙◌}
use mathlib.Core.Bool.{Bool, true, false, cond}
use Prim.Native.Nat.{ℕ}
use native.Mathlib.Omega.{arith}
use borrow.Author.Tests.{ltb-false, eq-eqb}
use lib.Ieee.{Float, nan, inf, fin, binary64, lt, eq, of_bits, to_bits}
use lib.Ieee.Bits.{of_bits-to_bits}
use Rattle.numbers.specs.Binary64.{Finite, zero, unsigned, not_finite}
use Rattle.numbers.proofs.Place.{place, lt-place, eq-place}
use Rattle.numbers.proofs.Equal.{same-of-equals}

-- ---- what stays
pub not_finite-unsigned : (x : Float) → not_finite (unsigned x) ≡ not_finite x
unfolding unsigned not_finite eq of_bits
not_finite-unsigned nan = refl
not_finite-unsigned (inf s) = refl
not_finite-unsigned (fin s m e) = go (eq (fin s m e) zero)
  where
    go : (b : Bool) → not_finite (cond b zero (fin s m e)) ≡ false
    go true = refl
    go false = refl

-- ---- what becomes the same: numbers that are equal
pub unsigned-same : (x y : Float) → Finite x → Finite y → eq x y ≡ true → unsigned x ≡ unsigned y
unfolding unsigned eq of_bits
unsigned-same x y h k e =
    sym (ap unsigned (of_bits-to_bits binary64 x h.held))
    ∙ same-of-equals (λ (v : Float). read (to_bits binary64 v)) read (λ s m d. refl) refl x y k e
    ∙ ap unsigned (of_bits-to_bits binary64 y k.held)
  where
    read : ℕ → Float
    read b = unsigned (of_bits binary64 b)

-- and so numbers of which neither is less
pub unsigned-level : (x y : Float) → Finite x → Finite y → lt x y ≡ false → lt y x ≡ false → unsigned x ≡ unsigned y
unsigned-level x y h k p q =
    let least = ltb-false (place x) (place y) (sym (lt-place x y h k) ∙ p) in
    let most = ltb-false (place y) (place x) (sym (lt-place y x k h) ∙ q) in
    unsigned-same x y h k (eq-place x y h k ∙ eq-eqb (place x) (place y) (omega arith))
