-- A difference rounds the exact difference, which is a whole number of units of 2^-1074: so it has the exact sign, is off by 1 part in 2^53 at most,
-- and is zero only where the two numbers are equal.
use mathlib.Core.Path.{◌≡◌, sym, ap, ◌∙◌, subst}
use mathlib.Core.Bool.{Bool, true, false, not, cond}
use Prim.Native.Nat.{ℕ, ◌+◌, ◌-◌, ◌*◌, ◌^◌, ◌≤◌, ◌<◌}
use native.Mathlib.Nat.{le_trans, le_of_eq, le_of_lt, le_of_mul-le-mul_right, mul_comm, mul_assoc, mul_right_comm, mul-pos, add-mul, mul-sub, mul-le-mul_right}
use native.Mathlib.Omega.{arith}
use lib.Dec.{T, ltb, ltb→lt, nltb→le}
use lib.Pow.{pow_pos}
use lib.Ieee.{Float, nan, inf, fin, binary64, up, down, round, sum, add, sub, neg}
use lib.Ieee.Fits.{down_pos}
use lib.Ieee.Exact.{HasValue}
use lib.Ieee.Scale.{round_same}
use Rattle.numbers.specs.Binary64.{Finite, not_finite}
use Rattle.numbers.specs.Exact.{size, negative}
use Rattle.numbers.proofs.Units.{exact}
use Rattle.numbers.proofs.Place.{place, place_is}
use Rattle.numbers.proofs.Rounding.{Near, whole-near}

-- ---- the sum of two signed numbers of m and n units of 1 / w: v is the exact sum, by its sign and its size, rounded once
record Sum (v : Float) (s t : Bool) (m n w : ℕ) : Type 0 where
  pub sign : Bool
  pub apart : ℕ
  pub is : v ≡ round binary64 sign apart w
  pub exact : cond s 0 m + cond t 0 n + cond sign apart 0 ≡ cond sign 0 apart + (cond s m 0 + cond t n 0)

-- from fractions i / c and j / c to k / w and l / w
module _ (c w : ℕ) (C : 0 < c) (i j k l : ℕ) (e : i * w ≡ k * c) (f : j * w ≡ l * c) where
  sums : (i + j) * w ≡ (k + l) * c
  sums = rw (add-mul i j w, add-mul k l c, e, f)

  differences : (i - j) * w ≡ (k - l) * c
  differences = rw (mul_comm (i - j) w, mul_comm (k - l) c, mul-sub w i j, mul-sub c k l, mul_comm w i, mul_comm w j, mul_comm c k, mul_comm c l, e, f)

  order : i ≤ j → k ≤ l
  order h = le_of_mul-le-mul_right (le_trans (le_of_eq (sym e)) (le_trans (mul-le-mul_right w h) (le_of_eq f))) C

-- the sum of ±a / c and ±b / c
module _ (a b c m n w : ℕ) (C : 0 < c) (W : 0 < w) (ea : a * w ≡ m * c) (eb : b * w ≡ n * c) where
  together : (s : Bool) → round binary64 s (a + b) c ≡ round binary64 s (m + n) w
  together s = round_same binary64 s (a + b) c (m + n) w C W (sums c w C a b m n ea eb)

  less : (s : Bool) → round binary64 s (b - a) c ≡ round binary64 s (n - m) w
  less s = round_same binary64 s (b - a) c (n - m) w C W (differences c w C b a n m eb ea)

  rest : (s : Bool) → round binary64 s (a - b) c ≡ round binary64 s (m - n) w
  rest s = round_same binary64 s (a - b) c (m - n) w C W (differences c w C a b m n ea eb)

  rises : a ≤ b → m ≤ n
  rises h = order c w C a b m n ea eb h

  falls : b ≤ a → n ≤ m
  falls h = order c w C b a n m eb ea h

  sum_is : (s t : Bool) → Sum (sum binary64 s a t b c) s t m n w
  unfolding sum
  sum_is true true = record { sign = true; apart = m + n; is = together true; exact = omega arith }
  sum_is false false = record { sign = false; apart = m + n; is = together false; exact = omega arith }
  sum_is false true = go (ltb a b) (λ h. rises (le_of_lt (ltb→lt a b h))) (λ h. falls (nltb→le a b h))
    where
      go : (p : Bool) → (T p → m ≤ n) → (T (not p) → n ≤ m) → Sum (cond p (round binary64 true (b - a) c) (round binary64 false (a - b) c)) false true m n w
      go true h k = let l = h tt in record { sign = true; apart = n - m; is = less true; exact = omega arith }
      go false h k = let l = k tt in record { sign = false; apart = m - n; is = rest false; exact = omega arith }
  sum_is true false = go (ltb a b) (ltb b a) (λ h. rises (le_of_lt (ltb→lt a b h))) (λ h. falls (nltb→le a b h)) (λ h. rises (nltb→le b a h))
    where
      go : (p q : Bool) → (T p → m ≤ n) → (T (not p) → n ≤ m) → (T (not q) → m ≤ n) → Sum (cond p (round binary64 false (b - a) c) (round binary64 q (a - b) c)) true false m n w
      go true q h k l = let i = h tt in record { sign = false; apart = n - m; is = less false; exact = omega arith }
      go false true h k l = let i = k tt in record { sign = true; apart = m - n; is = rest true; exact = omega arith }
      go false false h k l =
          let i = k tt in
          let j = l tt in
          record { sign = false; apart = m - n; is = rest false; exact = omega arith }

sub-values : (x y : Float) (s t : Bool) (m n w : ℕ) → 0 < w → HasValue x s m w → HasValue y t n w → Sum (sub binary64 x y) s (not t) m n w
unfolding sub add neg
sub-values nan y s t m n w W h k = absurd h
sub-values (inf r) y s t m n w W h k = absurd h
sub-values (fin r i e) nan s t m n w W h k = absurd k
sub-values (fin r i e) (inf q) s t m n w W h k = absurd k
sub-values (fin r i e) (fin q j d) s t m n w W h k =
    rw (← h.0, ← k.0)
    (sum_is (i * up e * down d) (j * up d * down e) (down e * down d) m n w (mul-pos (down_pos e) (down_pos d)) W
    (mul_right_comm (i * up e) (down d) w ∙ ap (λ (l : ℕ). l * down d) h.1 ∙ mul_assoc m (down e) (down d))
    (mul_right_comm (j * up d) (down e) w ∙ ap (λ (l : ℕ). l * down e) k.1 ∙ mul_right_comm n (down d) (down e) ∙ mul_assoc n (down e) (down d))
    r (not q))

-- ---- the rounded difference beside the exact one, which is how far apart the two places are
pub record Subtracted (x y : Float) : Type 0 where
  pub below : Bool
  pub apart : ℕ
  pub exact : place x + cond below apart 0 ≡ place y + cond below 0 apart
  pub sign : negative (sub binary64 x y) ≡ below
  pub near : Near (size (sub binary64 x y)) apart

pub sub-near : (x y : Float) → Finite x → Finite y → not_finite (sub binary64 x y) ≡ false → Subtracted x y
sub-near x y X Y f =
    let r = sub-values x y (negative x) (negative y) (size x) (size y) (2 ^ 1074) (pow_pos 1074) (exact x X) (exact y Y) in
    let own = whole-near r.sign r.apart (subst (λ (v : Float). not_finite v ≡ false) r.is f) in
    record {
      below = r.sign;
      apart = r.apart;
      exact = placed (negative x) (negative y) r.sign (size x) (size y) r.apart _ _ _ (place_is x X) (place_is y Y) r.exact;
      sign = rw r.is own.0;
      near = rw r.is own.1;
    }
  where
    placed : (s t b : Bool) (m n a p q k : ℕ) → cond s 0 m + k ≡ p + cond s m 0 → cond t 0 n + k ≡ q + cond t n 0
        → cond s 0 m + cond (not t) 0 n + cond b a 0 ≡ cond b 0 a + (cond s m 0 + cond (not t) n 0) → p + cond b a 0 ≡ q + cond b 0 a
    placed s true b m n a p q k h i j = omega arith
    placed s false b m n a p q k h i j = omega arith
