-- A finite number is exactly `size` units of 2^-1074, because its lowest digit is not below one unit; and of units there are fewer than 2^2098.
use mathlib.Core.Path.{◌≡◌, refl, sym, ap, ◌∙◌, subst}
use mathlib.Core.Bool.{Bool, true, false, ◌&&◌, true≢false}
use Prim.Native.Nat.{ℕ, zero, suc, ◌+◌, ◌-◌, ◌*◌, ◌/◌, ◌%◌, ◌^◌, ◌≤◌, ◌<◌}
use native.Mathlib.Nat.{lt_of_not-le, not-le_of_lt, mul-one, div-one, mul_assoc, mul_right_comm, mul-pos, zero-mul, mul-div_cancel, lt_of_mul-lt-mul_right, mul-lt-mul_of_pos_right}
use native.Mathlib.Omega.{arith}
use lib.Dec.{T, leb, ltb, eqb, leb→le, ltb→lt}
use lib.Pow.{pow-add, pow_pos, pow-lt}
use lib.IntN.{ℤ, pos, negsuc}
use lib.Ieee.{Float, nan, inf, fin, binary64, up, down, fits, lt, le, eq, neg, of_bits}
use lib.Ieee.Fits.{down_pos, and_l, and_r}
use lib.Ieee.Exact.{HasValue}
use Rattle.numbers.specs.Binary64.{Finite, Held, not_finite, unfit}
use Rattle.numbers.specs.Exact.{size, negative}

-- what refusal 2 passes is finite
pub fit-finite : (x : Float) → Held x → unfit x ≡ false → Finite x
unfolding unfit not_finite fits lt le eq neg of_bits
fit-finite nan h u = absurd (true≢false u)
fit-finite (inf true) h u = absurd (true≢false u)
fit-finite (inf false) h u = absurd (true≢false u)
fit-finite (fin s m e) h u = record { held = h; finite = refl }

-- ---- the size in units is exact
whole_part : (n q d : ℕ) → 0 < d → n ≡ q * d → n ≡ n / d * d
whole_part n q d D e = e ∙ ap (λ (k : ℕ). k * d) (sym (ap (λ (k : ℕ). k / d) e ∙ mul-div_cancel q D))

exponent : (k : ℕ) → 2 ^ suc k ≤ 2 ^ 1074 → suc k ≤ 1074
exponent k h = lt_of_not-le (λ (g : 1074 ≤ k). let more : 1074 < suc k = omega arith in not-le_of_lt (pow-lt more) h)

in-units : (m : ℕ) (e : ℤ) → down e ≤ 2 ^ 1074 → m * up e * 2 ^ 1074 ≡ m * up e * 2 ^ 1074 / down e * down e
in-units m (pos k) h = sym (mul-one (m * 2 ^ k * 2 ^ 1074 / 1) ∙ div-one (m * 2 ^ k * 2 ^ 1074))
in-units m (negsuc k) h =
    let back : 1074 - suc k + suc k ≡ 1074 = omega (arith, exponent k h) in
    let split : 2 ^ 1074 ≡ 2 ^ (1074 - suc k) * 2 ^ suc k = ap (λ (j : ℕ). 2 ^ j) (sym back) ∙ pow-add 2 (1074 - suc k) (suc k) in
    whole_part (m * 1 * 2 ^ 1074) (m * 1 * 2 ^ (1074 - suc k)) (2 ^ suc k) (pow_pos (suc k))
    (ap (λ (j : ℕ). m * 1 * j) split ∙ sym (mul_assoc (m * 1) (2 ^ (1074 - suc k)) (2 ^ suc k)))

-- the tests of `fits` on a number that is not zero
module _ (s : Bool) (m : ℕ) (e : ℤ) (h : T (fits binary64 (fin s (suc m) e))) where
  abbrev short : Bool
  short = eqb (suc m % 2) 1 && ltb (suc m) (2 ^ 53)

  abbrev coarse : Bool
  coarse = leb (down e) (2 ^ 1074)

  abbrev near : Bool
  near = ltb (suc m * up e) (2 ^ 1024 * down e)

  is-coarse : down e ≤ 2 ^ 1074
  unfolding fits
  is-coarse = leb→le (down e) (2 ^ 1074) (and_r short coarse (and_l (short && coarse) near h))

  is-near : suc m * up e < 2 ^ 1024 * down e
  unfolding fits
  is-near = ltb→lt (suc m * up e) (2 ^ 1024 * down e) (and_r (short && coarse) near h)

pub exact : (x : Float) → Finite x → HasValue x (negative x) (size x) (2 ^ 1074)
unfolding not_finite size negative
exact nan h = absurd (true≢false h.finite)
exact (inf s) h = absurd (true≢false h.finite)
exact (fin s zero e) h = (refl, whole_part (0 * up e * 2 ^ 1074) 0 (down e) (down_pos e) (rw (zero-mul (up e), zero-mul (2 ^ 1074), zero-mul (down e))))
exact (fin s (suc m) e) h = (refl, in-units (suc m) e (is-coarse s m e h.held))

-- ---- how many units there are at most
reach : (s : Bool) (m : ℕ) (e : ℤ) → T (fits binary64 (fin s m e)) → m * up e < 2 ^ 1024 * down e
reach s zero e h = rw zero-mul (mul-pos (pow_pos 1024) (down_pos e))
reach s (suc m) e h = is-near s m e h

-- n / w is a / d, and a / d is below k
scaled : (n a d k w : ℕ) → 0 < w → a < k * d → a * w ≡ n * d → n < k * w
scaled n a d k w W h e = lt_of_mul-lt-mul_right d (rw (← e, mul_right_comm k w d) (mul-lt-mul_of_pos_right h W))

below : (x : Float) → T (fits binary64 x) → HasValue x (negative x) (size x) (2 ^ 1074) → size x < 2 ^ 1024 * 2 ^ 1074
below nan h v = absurd v
below (inf s) h v = absurd v
below (fin s m e) h v = scaled (size (fin s m e)) (m * up e) (down e) (2 ^ 1024) (2 ^ 1074) (pow_pos 1074) (reach s m e h) v.1

pub size_below : (x : Float) → Finite x → size x < 2 ^ 2098
size_below x h = subst (λ (k : ℕ). size x < k) (sym (pow-add 2 1024 1074)) (below x h.held (exact x h))
