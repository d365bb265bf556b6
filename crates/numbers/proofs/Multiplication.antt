-- A product rounds the exact product: as a fraction of units it is size x * size y / 2^1074. Where it overflows it keeps its sign.
use mathlib.Core.Path.{◌≡◌, sym, ap, ◌∙◌, subst}
use mathlib.Core.Bool.{Bool, false}
use mathlib.Core.Logic.{◌⊎◌}
use Prim.Native.Nat.{ℕ, ◌*◌, ◌^◌, ◌<◌}
use native.Mathlib.Nat.{mul-mul-mul_comm, mul-pos}
use lib.Pow.{pow_pos}
use lib.Ieee.{Float, nan, inf, fin, binary64, up, down, unlike, round, mul}
use lib.Ieee.Fits.{down_pos}
use lib.Ieee.Exact.{HasValue}
use lib.Ieee.Scale.{round_same}
use Rattle.numbers.specs.Binary64.{Finite, not_finite}
use Rattle.numbers.specs.Exact.{size, negative}
use Rattle.numbers.proofs.Units.{exact}
use Rattle.numbers.proofs.Rounding.{Rounded, rounded, rounded-cancel, overflowed}

module _ (w : ℕ) (W : 0 < w) where
  mul-values : (x y : Float) (s t : Bool) (a b : ℕ) → HasValue x s a w → HasValue y t b w → mul binary64 x y ≡ round binary64 (unlike s t) (a * b) (w * w)
  unfolding mul
  mul-values nan y s t a b h k = absurd h
  mul-values (inf r) y s t a b h k = absurd h
  mul-values (fin r m e) nan s t a b h k = absurd k
  mul-values (fin r m e) (inf q) s t a b h k = absurd k
  mul-values (fin r m e) (fin q n d) s t a b h k =
      rw (← h.0, ← k.0)
      (round_same binary64 (unlike r q) (m * up e * (n * up d)) (down e * down d) (a * b) (w * w) (mul-pos (down_pos e) (down_pos d)) (mul-pos W W)
      (mul-mul-mul_comm (m * up e) (n * up d) w w ∙ ap (λ (j : ℕ). j * (n * up d * w)) h.1 ∙ ap (λ (j : ℕ). a * down e * j) k.1 ∙ mul-mul-mul_comm a (down e) b (down d)))

module _ (x y : Float) (X : Finite x) (Y : Finite y) where
  mul_is : mul binary64 x y ≡ round binary64 (unlike (negative x) (negative y)) (size x * size y) (2 ^ 1074 * 2 ^ 1074)
  mul_is = mul-values (2 ^ 1074) (pow_pos 1074) x y (negative x) (negative y) (size x) (size y) (exact x X) (exact y Y)

  pub mul-rounded : not_finite (mul binary64 x y) ≡ false → Rounded (mul binary64 x y) (unlike (negative x) (negative y)) (size x * size y) (2 ^ 1074)
  mul-rounded f =
      let s = unlike (negative x) (negative y) in
      let n = size x * size y in
      rounded-cancel n (2 ^ 1074) (2 ^ 1074) (pow_pos 1074)
      (subst (λ (v : Float). Rounded v s (n * 2 ^ 1074) (2 ^ 1074 * 2 ^ 1074)) (sym mul_is)
      (rounded s n (2 ^ 1074 * 2 ^ 1074) (mul-pos (pow_pos 1074) (pow_pos 1074)) (subst (λ (v : Float). not_finite v ≡ false) mul_is f)))

  pub mul-overflow : (not_finite (mul binary64 x y) ≡ false) ⊎ (mul binary64 x y ≡ inf (unlike (negative x) (negative y)))
  mul-overflow =
      let s = unlike (negative x) (negative y) in
      subst (λ (v : Float). (not_finite v ≡ false) ⊎ (v ≡ inf s)) (sym mul_is) (overflowed s (size x * size y) (2 ^ 1074 * 2 ^ 1074))
