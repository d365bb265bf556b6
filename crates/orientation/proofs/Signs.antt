-- Which of two numbers is the larger tells the sign of their difference.
use mathlib.Core.Path.{◌≡◌, refl}
use Prim.Native.Nat.{ℕ, zero, suc, ◌<◌}
use native.Mathlib.Omega.{arith}
use lib.IntN.{ℤ, pos, negsuc}
use Rattle.orientation.specs.declared.Sign.TheVariants.{Negative, Zero, Positive}
use Rattle.orientation.specs.Orientation.{sign_of}
use Rattle.orientation.proofs.Differences.{Is, Diff}

positive-at : (z : ℤ) (p n : ℕ) → n < p → Is z p n → sign_of z ≡ Positive
unfolding sign_of
positive-at (pos zero) p n l h = absurd (omega arith)
positive-at (pos (suc a)) p n l h = refl
positive-at (negsuc a) p n l h = absurd (omega arith)

negative-at : (z : ℤ) (p n : ℕ) → p < n → Is z p n → sign_of z ≡ Negative
unfolding sign_of
negative-at (pos a) p n l h = absurd (omega arith)
negative-at (negsuc a) p n l h = refl

zero-at : (z : ℤ) (p n : ℕ) → p ≡ n → Is z p n → sign_of z ≡ Zero
unfolding sign_of
zero-at (pos zero) p n e h = refl
zero-at (pos (suc a)) p n e h = absurd (omega arith)
zero-at (negsuc a) p n e h = absurd (omega arith)

module _ {z : ℤ} {p n : ℕ} (d : Diff z p n) where
  pub positive : n < p → sign_of z ≡ Positive
  positive l = positive-at z p n l d.is

  pub negative : p < n → sign_of z ≡ Negative
  negative l = negative-at z p n l d.is

  pub none : p ≡ n → sign_of z ≡ Zero
  none e = zero-at z p n e d.is
