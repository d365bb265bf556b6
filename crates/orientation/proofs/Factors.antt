-- A product of two differences, rounded three times, beside the exact one; and that the margin is wider than what three roundings on each side and its
-- own come to. A finite product has finite factors, and a finite difference finite ends: so nothing is asked of the four numbers.
use mathlib.Core.Path.{◌≡◌, refl, ap, ◌∙◌, subst}
use mathlib.Core.Bool.{Bool, true, false, cond}
use mathlib.Core.Logic.{◌⊎◌, inl, inr}
use Prim.Native.Nat.{ℕ, zero, suc, ◌+◌, ◌-◌, ◌*◌, ◌^◌, ◌≤◌, ◌<◌}
use native.Mathlib.Nat.{le_trans, lt_irrefl, zero-mul, mul-zero, mul_comm, mul-pos, mul-le-mul, mul-le-mul_left, mul-le-mul_right}
use native.Mathlib.Omega.{arith}
use lib.Dec.{T, lit≤, lit<}
use lib.IntN.{ℤ, ◌-ℤ◌, ◌*ℤ◌}
use lib.Ieee.{Float, inf, binary64, unlike, odd, sub, mul, lt, fits, of_bits, of_fields}
use lib.Ieee.Fits.{sub-fits, mul-fits}
use Rattle.numbers.specs.Binary64.{Finite, not_finite}
use Rattle.numbers.specs.Exact.{size, negative, whole}
use Rattle.numbers.proofs.Place.{place_is}
use Rattle.numbers.proofs.Between.{not-below, not-above, sub-finite, mul-finite}
use Rattle.numbers.proofs.Rounding.{Near, none-near, Rounded}
use Rattle.numbers.proofs.Subtraction.{Subtracted, sub-near}
use Rattle.numbers.proofs.Multiplication.{mul-rounded, mul-overflow}
use Rattle.orientation.specs.Quick.{margin}
use Rattle.orientation.proofs.Differences.{Diff, moved, minus, signed-times, whole_is}
use Rattle.orientation.proofs.Margins.{over-three, under-three, margin-holds}

-- a product of two differences, rounded at each step, and exact
abbrev pub product : Float → Float → Float → Float → Float
product a b c d = mul binary64 (sub binary64 a b) (sub binary64 c d)

abbrev pub exact : Float → Float → Float → Float → ℤ
exact a b c d = (whole a -ℤ whole b) *ℤ (whole c -ℤ whole d)

-- numbers that binary64 holds, infinities and not-a-number among them
pub record Held (a b c d : Float) : Type 0 where
  pub first : T (fits binary64 a)
  pub second : T (fits binary64 b)
  pub third : T (fits binary64 c)
  pub fourth : T (fits binary64 d)

-- ---- the exact difference, by its sign and size
pub apart-is : {x y : Float} → Finite x → Finite y → (d : Subtracted x y) → Diff (whole x -ℤ whole y) (cond d.below 0 d.apart) (cond d.below d.apart 0)
apart-is {x} {y} X Y d =
    moved (cond d.below 0 d.apart) (cond d.below d.apart 0) (omega (arith, place_is x X, place_is y Y, d.exact)) (minus (whole_is x) (whole_is y))

-- ---- the exact product beside the rounded one
pub record Factors (a b c d : Float) : Type 0 where
  pub sign : Bool
  pub left : ℕ
  pub right : ℕ
  pub is : Diff (exact a b c d) (cond sign 0 (left * right)) (cond sign (left * right) 0)
  pub finite : Finite (product a b c d)
  pub near-left : Near (size (sub binary64 a b)) left
  pub near-right : Near (size (sub binary64 c d)) right
  pub rounded : Rounded (product a b c d) sign (size (sub binary64 a b) * size (sub binary64 c d)) (2 ^ 1074)

pub factors : (a b c d : Float) → Held a b c d → not_finite (product a b c d) ≡ false → Factors a b c d
factors a b c d h f =
    let u = sub binary64 a b in
    let v = sub binary64 c d in
    let uv = mul-finite u v f in
    let ab = sub-finite a b uv.0 in
    let cd = sub-finite c d uv.1 in
    let A : Finite a = record { held = h.first; finite = ab.0 } in
    let B : Finite b = record { held = h.second; finite = ab.1 } in
    let C : Finite c = record { held = h.third; finite = cd.0 } in
    let D : Finite d = record { held = h.fourth; finite = cd.1 } in
    let Fu : Finite u = record { held = sub-fits binary64 a b; finite = uv.0 } in
    let Fv : Finite v = record { held = sub-fits binary64 c d; finite = uv.1 } in
    let l = sub-near a b A B uv.0 in
    let r = sub-near c d C D uv.1 in
    record {
      sign = unlike l.below r.below;
      left = l.apart;
      right = r.apart;
      is = signed-times l.below r.below l.apart r.apart (apart-is A B l) (apart-is C D r);
      finite = record { held = mul-fits binary64 u v; finite = f };
      near-left = l.near;
      near-right = r.near;
      rounded = rw (← l.sign, ← r.sign) (mul-rounded u v Fu Fv f);
    }

module _ {a b c d : Float} (P : Factors a b c d) where
  pub some : 0 < size (product a b c d) → 0 < P.left * P.right
  some h = go (size (sub binary64 a b)) (size (sub binary64 c d)) P.left P.right P.near-left P.near-right (P.rounded.some h)
    where
      go : (m n l r : ℕ) → Near m l → Near n r → 0 < m * n → 0 < l * r
      go m n zero r i j p = absurd (lt_irrefl 0 (subst (λ (x : ℕ). 0 < x) (ap (λ (x : ℕ). x * n) (none-near m i) ∙ zero-mul n) p))
      go m n (suc l) zero i j p = absurd (lt_irrefl 0 (subst (λ (x : ℕ). 0 < x) (ap (λ (x : ℕ). m * x) (none-near n j) ∙ mul-zero m) p))
      go m n (suc l) (suc r) i j p = mul-pos (omega arith) (omega arith)

-- ---- a number by the margin
finite-margin : Finite margin
unfolding not_finite fits of_bits of_fields odd
finite-margin = record { held = tt; finite = refl }

-- it is wide enough: three roundings up and its own one against three down, and a unit that underflow may have taken
wide_enough : (2 ^ 53 + 1) * (2 ^ 53 + 1) * (2 ^ 53 + 1) * (2 ^ 53 * 2 ^ 1074 + 2 ^ 1075) < (2 ^ 53 - 1) * (2 ^ 53 - 1) * (2 ^ 53 - 1) * ((2 ^ 53 - 1) * size margin)
unfolding size of_bits of_fields odd
wide_enough = lit< tt

below_two : size margin ≤ 2 ^ 1075
unfolding size of_bits of_fields odd
below_two = lit≤ tt

module _ (y : Float) (Y : Finite y) where
  same_sign : unlike (negative y) (negative margin) ≡ negative y
  unfolding negative of_bits of_fields odd
  same_sign = go (negative y)
    where
      go : (s : Bool) → unlike s false ≡ s
      go true = refl
      go false = refl

  by-margin : not_finite (mul binary64 y margin) ≡ false → Rounded (mul binary64 y margin) (negative y) (size y * size margin) (2 ^ 1074)
  by-margin f = subst (λ (s : Bool). Rounded (mul binary64 y margin) s (size y * size margin) (2 ^ 1074)) same_sign (mul-rounded y margin Y finite-margin f)

  pub margin-sign : Finite (mul binary64 y margin) → negative (mul binary64 y margin) ≡ negative y
  margin-sign F = (by-margin F.finite).sign

  -- it is finite where another number lies beyond it
  within : (mul binary64 y margin ≡ inf (negative y) → ⊥) → Finite (mul binary64 y margin)
  within not-inf = go (mul-overflow y margin Y finite-margin)
    where
      go : (not_finite (mul binary64 y margin) ≡ false) ⊎ (mul binary64 y margin ≡ inf (unlike (negative y) (negative margin))) → Finite (mul binary64 y margin)
      go (inl f) = record { held = mul-fits binary64 y margin; finite = f }
      go (inr e) = absurd (not-inf (e ∙ ap inf same_sign))

  pub margin-below : (x : Float) → negative y ≡ false → lt (mul binary64 y margin) x ≡ true → Finite (mul binary64 y margin)
  margin-below x s t = within (λ e. not-below x (subst (λ (v : Float). lt v x ≡ true) (e ∙ ap inf s) t))

  pub margin-above : (x : Float) → negative y ≡ true → lt x (mul binary64 y margin) ≡ true → Finite (mul binary64 y margin)
  margin-above x s t = within (λ e. not-above x (subst (λ (v : Float). lt x v ≡ true) (e ∙ ap inf s) t))

-- a product that is larger by the margin, and not tiny, is the larger exactly
pub larger : {a b c d e f g h : Float} (P : Factors a b c d) (R : Factors e f g h) → Finite (mul binary64 (product e f g h) margin)
    → 2 ^ 53 < size (product a b c d) → size (mul binary64 (product e f g h) margin) < size (product a b c d) → R.left * R.right < P.left * P.right
larger {a} {b} {c} {d} {e} {f} {g} {h} P R F big l =
    let p = size (product a b c d) in
    let q = size (product e f g h) in
    let t = size (mul binary64 (product e f g h) margin) in
    let all_digits : 2 ^ 52 < p = omega arith in
    let any : 0 < p = omega arith in
    let next : t + 1 ≤ p = omega arith in
    let many : 2 ^ 53 - 1 ≤ p = omega arith in
    margin-holds (2 ^ 53 - 1) (2 ^ 53) (2 ^ 53 + 1) (2 ^ 1074) (size margin) (2 ^ 1075) (2 ^ 1074) q p (P.left * P.right) (R.left * R.right) (some P any)
    (under-three (2 ^ 53 - 1) (2 ^ 53) (size (sub binary64 e f)) (size (sub binary64 g h)) R.left R.right ((q + 1) * 2 ^ 1074) R.near-left.under R.near-right.under R.rounded.low)
    (le_trans (by-margin (product e f g h) R.finite F.finite).low (mul-le-mul_left (2 ^ 53) (mul-le-mul_right (2 ^ 1074) next)))
    (rw (mul_comm (2 ^ 1075) p) (mul-le-mul many below_two))
    (over-three (2 ^ 53) (2 ^ 53 + 1) (size (sub binary64 a b)) (size (sub binary64 c d)) P.left P.right (p * 2 ^ 1074) P.near-left.over P.near-right.over (P.rounded.near all_digits).over)
    wide_enough
