-- How far a fraction moves when it is rounded: by half a unit in its last place at most, so by 1 part in 2^53 where it has all its 53 digits; and a
-- whole number of units of 2^-1074 always has them, or is exact.
use mathlib.Core.Path.{◌≡◌, refl, sym, ap, ◌∙◌, subst}
use mathlib.Core.Bool.{Bool, true, false, not, cond, true≢false}
use mathlib.Core.Logic.{◌⊎◌, inl, inr}
use Prim.Native.Nat.{ℕ, zero, suc, ◌+◌, ◌-◌, ◌*◌, ◌/◌, ◌%◌, ◌^◌, ◌≤◌, ◌<◌, compare, Ordering}
use native.Mathlib.Nat.{le_trans, le_of_eq, lt_of_lt_of_le, lt_irrefl, mul_comm, mul_assoc, mul-pos, mul-one, add-mul, suc-mul, one-mul, zero-mul, mul-le-mul_right, div-add-mod', mod-lt, mul-div_cancel, le-div_iff_mul-le, le_of_mul-le-mul_right, eq-zero-or-pos}
use native.Mathlib.Omega.{arith}
use lib.Dec.{T, is_le, compare_is_eq, eqb, ltb, leb→le, nleb→lt, ltb→lt, nltb→le, eqb→eq, eqb_refl, lit≤}
use lib.Arith.{lt_of_le-ne}
use lib.Pow.{pow-add, pow_pos}
use lib.Ieee as I
use lib.Ieee.{Float, nan, inf, fin, binary64, down, nearest, odd, units, round}
use lib.Ieee.Digits.{size_reaches}
use lib.Ieee.Fits.{down_pos, round_is}
use lib.Ieee.Exact.{HasValue, odd_sign, round_exact}
use lib.Ieee.Nearest.{closest}
use lib.Ieee.Order.{drop, kept}
use lib.Ieee.Scale.{normal_of_fraction, normal_of_rounded}
use Rattle.numbers.specs.Binary64.{not_finite}
use Rattle.numbers.specs.Exact.{size, negative}

-- ---- half a unit in the last place
abbrev Compared : Ordering → ℕ → ℕ → Type 0
Compared Ordering.lt a b = a < b
Compared Ordering.eq a b = a ≡ b
Compared Ordering.gt a b = b < a

compared : (a b : ℕ) → Compared (compare a b) a b
compared a b = go (compare a b) (leb→le a b) (nleb→lt a b) (eqb→eq a b) (λ (e : a ≡ b). subst (λ (x : ℕ). T (eqb a x)) e (eqb_refl a))
  where
    go : (o : Ordering) → (T (is_le o) → a ≤ b) → (T (not (is_le o)) → b < a) → (T (compare_is_eq o) → a ≡ b) → (a ≡ b → T (compare_is_eq o)) → Compared o a b
    go Ordering.lt h k e n = lt_of_le-ne (h tt) n
    go Ordering.eq h k e n = e tt
    go Ordering.gt h k e n = k tt

-- g is a, to within half of b
record Half (a b g : ℕ) : Type 0 where
  pub over : 2 * g ≤ 2 * a + b
  pub under : 2 * a ≤ 2 * g + b

half_at : (q r b : ℕ) (o : Ordering) → Compared o (r * 2) b → r < b → Half (q * b + r) b (nearest q o * b)
half_at q r b Ordering.lt h l = record { over = omega arith; under = omega arith }
half_at q r b Ordering.eq h l = rw add-mul (go (q % 2) (omega arith))
  where
    go : (t : ℕ) → t < 2 → Half (q * b + r) b (q * b + t * b)
    go zero s = rw zero-mul (record { over = omega arith; under = omega arith })
    go (suc zero) s = rw one-mul (record { over = omega arith; under = omega arith })
    go (suc (suc t)) s = absurd (omega arith)
half_at q r b Ordering.gt h l = rw suc-mul (record { over = omega arith; under = omega arith })

half : (a b : ℕ) → 0 < b → Half a b (closest a b * b)
half a b B = subst (λ (x : ℕ). Half x b (closest a b * b)) (div-add-mod' a b) (half_at (a / b) (a % b) b (compare (a % b * 2) b) (compared (a % b * 2) b) (mod-lt a B))

-- ---- 1 part in 2^53
pub record Near (g n : ℕ) : Type 0 where
  pub over : 2 ^ 53 * g ≤ (2 ^ 53 + 1) * n
  pub under : (2 ^ 53 - 1) * n ≤ 2 ^ 53 * g

near-at : (n u g : ℕ) → Half n u g → 2 ^ 52 * u ≤ n → Near g n
near-at n u g h l = record { over = omega (arith, h.over); under = omega (arith, h.under) }

near-self : (n : ℕ) → Near n n
near-self n = record { over = omega arith; under = omega arith }

pub near_none : (n : ℕ) → Near 0 n → n ≡ 0
near_none n h = omega (arith, h.under)

pub none-near : (g : ℕ) → Near g 0 → g ≡ 0
none-near g h = omega (arith, h.over)

-- a common factor taken out
near-cancel : (g n k : ℕ) → 0 < k → Near (g * k) (n * k) → Near g n
near-cancel g n k K h = record {
  over = le_of_mul-le-mul_right (le_trans (le_of_eq (mul_assoc (2 ^ 53) g k)) (le_trans h.over (le_of_eq (sym (mul_assoc (2 ^ 53 + 1) n k))))) K;
  under = le_of_mul-le-mul_right (le_trans (le_of_eq (mul_assoc (2 ^ 53 - 1) n k)) (le_trans h.under (le_of_eq (sym (mul_assoc (2 ^ 53) g k))))) K;
}

-- ---- n / c rounded to 53 digits, or to a whole number where it has fewer
abbrev grid : ℕ → ℕ → ℕ
grid n c = kept 53 n c * 2 ^ drop 53 n c

module _ (n c : ℕ) (C : 0 < c) where
  abbrev last : ℕ
  last = c * 2 ^ drop 53 n c

  last-pos : 0 < last
  last-pos = mul-pos C (pow_pos (drop 53 n c))

  grid-half : Half n last (grid n c * c)
  grid-half =
      let e : kept 53 n c * last ≡ grid n c * c = rw (mul_comm c (2 ^ drop 53 n c), mul_assoc) in
      subst (λ (x : ℕ). Half n last x) e (half n last last-pos)

  grid-near : 53 ≤ I.size (n / c) → Near (grid n c * c) n
  grid-near N =
      let k = drop 53 n c in
      let reached : 52 + k < I.size (n / c) = omega arith in
      let w : 2 ^ (52 + k) * c ≤ n = (le-div_iff_mul-le C).0 (size_reaches (n / c) (52 + k) reached) in
      let e : 2 ^ (52 + k) * c ≡ 2 ^ 52 * last = ap (λ (x : ℕ). x * c) (pow-add 2 52 k) ∙ mul_assoc (2 ^ 52) (2 ^ k) c ∙ ap (λ (x : ℕ). 2 ^ 52 * x) (mul_comm (2 ^ k) c) in
      near-at n last (grid n c * c) grid-half (le_trans (le_of_eq (sym e)) w)

  grid-low : (2 ^ 53 - 1) * n ≤ 2 ^ 53 * ((grid n c + 1) * c)
  grid-low = rw (add-mul, one-mul) (go (ltb (I.size (n / c)) 53) (ltb→lt (I.size (n / c)) 53) (nltb→le (I.size (n / c)) 53))
    where
      few : (z : ℕ) → z < 53 → z - 53 ≡ 0
      few z h = omega arith

      low_half : (x : ℕ) → 2 * n ≤ 2 * x + c → (2 ^ 53 - 1) * n ≤ 2 ^ 53 * (x + c)
      low_half x h = omega arith

      low_near : (x : ℕ) → (2 ^ 53 - 1) * n ≤ 2 ^ 53 * x → (2 ^ 53 - 1) * n ≤ 2 ^ 53 * (x + c)
      low_near x h = omega arith

      go : (b : Bool) → (T b → I.size (n / c) < 53) → (T (not b) → 53 ≤ I.size (n / c)) → (2 ^ 53 - 1) * n ≤ 2 ^ 53 * (grid n c * c + c)
      go true h k =
          let e : last ≡ c = ap (λ (x : ℕ). c * 2 ^ x) (few (I.size (n / c)) (h tt)) ∙ mul-one c in
          low_half (grid n c * c) (subst (λ (x : ℕ). 2 * n ≤ 2 * (grid n c * c) + x) e grid-half.under)
      go false h k = low_near (grid n c * c) (grid-near (k tt)).under

  grid-some : 0 < grid n c → 0 < n
  grid-some h = go (eq-zero-or-pos n)
    where
      no-half : (g u : ℕ) → 0 < u → 2 * (g * u) ≤ u → g ≡ 0
      no-half zero u U h = refl
      no-half (suc g) u U h = absurd (omega (arith, suc-mul g u))

      go : (n ≡ 0) ⊎ (0 < n) → 0 < n
      go (inr p) = p
      go (inl e) =
          let none : kept 53 n c ≡ 0 = no-half (kept 53 n c) last last-pos (omega (arith, (half n last last-pos).over, e)) in
          absurd (lt_irrefl 0 (subst (λ (x : ℕ). 0 < x) (ap (λ (x : ℕ). x * 2 ^ drop 53 n c) none ∙ zero-mul (2 ^ drop 53 n c)) h))

-- ---- a rounded number by its units
units_of : (v : Float) (s : Bool) (g : ℕ) → HasValue v s g (2 ^ 1074) → (negative v ≡ s) × (size v ≡ g)
unfolding size negative
units_of nan s g h = absurd h
units_of (inf r) s g h = absurd h
units_of (fin r m e) s g h = (h.0, ap (λ (x : ℕ). x / down e) h.1 ∙ mul-div_cancel g (down_pos e))

units-finite : (s : Bool) (q k : ℕ) → not_finite (units binary64 s q k) ≡ false → HasValue (units binary64 s q k) s (q * 2 ^ k) (2 ^ 1074)
unfolding units not_finite
units-finite s q k = go (ltb (q * 2 ^ k) (2 ^ 2098))
  where
    go : (b : Bool) → not_finite (cond b (odd 54 s q k 1074) (inf s)) ≡ false → HasValue (cond b (odd 54 s q k 1074) (inf s)) s (q * 2 ^ k) (2 ^ 1074)
    go true t = odd_sign 54 s q k 1074
    go false t = absurd (true≢false t)

units-over : (s : Bool) (q k : ℕ) → (not_finite (units binary64 s q k) ≡ false) ⊎ (units binary64 s q k ≡ inf s)
unfolding units not_finite
units-over s q k = go (ltb (q * 2 ^ k) (2 ^ 2098))
  where
    held : (v : Float) → HasValue v s (q * 2 ^ k) (2 ^ 1074) → not_finite v ≡ false
    held nan h = absurd h
    held (inf r) h = absurd h
    held (fin r m e) h = refl

    go : (b : Bool) → (not_finite (cond b (odd 54 s q k 1074) (inf s)) ≡ false) ⊎ (cond b (odd 54 s q k 1074) (inf s) ≡ inf s)
    go true = inl (held (odd 54 s q k 1074) (odd_sign 54 s q k 1074))
    go false = inr refl

-- a / c rounded
value_of : (s : Bool) (a c : ℕ) → not_finite (round binary64 s a c) ≡ false → (negative (round binary64 s a c) ≡ s) × (size (round binary64 s a c) ≡ grid (a * 2 ^ 1074) c)
value_of s a c f =
    let n = a * 2 ^ 1074 in
    let finite = units-finite s (kept 53 n c) (drop 53 n c) (subst (λ (v : Float). not_finite v ≡ false) (round_is binary64 s a c) f) in
    units_of (round binary64 s a c) s (grid n c) (subst (λ (v : Float). HasValue v s (grid n c) (2 ^ 1074)) (sym (round_is binary64 s a c)) finite)

-- v is n / c units of 2^-1074, rounded: near where it has all its digits, and nowhere a whole unit too small
pub record Rounded (v : Float) (s : Bool) (n c : ℕ) : Type 0 where
  pub sign : negative v ≡ s
  pub near : 2 ^ 52 < size v → Near (size v * c) n
  pub low : (2 ^ 53 - 1) * n ≤ 2 ^ 53 * ((size v + 1) * c)
  pub some : 0 < size v → 0 < n

pub rounded : (s : Bool) (a c : ℕ) → 0 < c → not_finite (round binary64 s a c) ≡ false → Rounded (round binary64 s a c) s (a * 2 ^ 1074) c
rounded s a c C f =
    let n = a * 2 ^ 1074 in
    let own = value_of s a c f in
    record {
      sign = own.0;
      near = λ h. rw own.1 (grid-near n c C (normal_of_rounded binary64 a c (rw own.1 at h)));
      low = rw own.1 (grid-low n c C);
      some = λ h. grid-some n c C (rw own.1 at h);
    }

-- the same fraction in lower terms
pub rounded-cancel : {v : Float} {s : Bool} (n c k : ℕ) → 0 < k → Rounded v s (n * k) (c * k) → Rounded v s n c
rounded-cancel {v} {s} n c k K h = record {
  sign = h.sign;
  near = λ l. near-cancel (size v * c) n k K (subst (λ (x : ℕ). Near x (n * k)) (sym (mul_assoc (size v) c k)) (h.near l));
  low = le_of_mul-le-mul_right (le_trans (le_of_eq (mul_assoc (2 ^ 53 - 1) n k)) (le_trans h.low (le_of_eq (simp (mul_assoc))))) K;
  some = λ l. some n (h.some l);
}
  where
    some : (n : ℕ) → 0 < n * k → 0 < n
    some zero l = absurd (lt_irrefl 0 (subst (λ (x : ℕ). 0 < x) (zero-mul k) l))
    some (suc n) l = omega arith

-- n units, rounded: never further off than 1 part in 2^53
pub whole-near : (s : Bool) (n : ℕ) → not_finite (round binary64 s n (2 ^ 1074)) ≡ false → (negative (round binary64 s n (2 ^ 1074)) ≡ s) × Near (size (round binary64 s n (2 ^ 1074))) n
whole-near s n f = go (ltb n (2 ^ 53)) (ltb→lt n (2 ^ 53)) (nltb→le n (2 ^ 53))
  where
    v : Float
    v = round binary64 s n (2 ^ 1074)

    go : (b : Bool) → (T b → n < 2 ^ 53) → (T (not b) → 2 ^ 53 ≤ n) → (negative v ≡ s) × Near (size v) n
    go true h k =
        let few : n * 1 < 2 ^ 53 = rw (mul-one n) (h tt) in
        let own = units_of v s n (round_exact binary64 s n (2 ^ 1074) n 0 (pow_pos 1074) (h tt) (lt_of_lt_of_le few (lit≤ tt)) (ap (λ (x : ℕ). x * 2 ^ 1074) (sym (mul-one n)))) in
        (own.0, rw own.1 (near-self n))
    go false h k =
        let many : 2 ^ 52 ≤ n = omega (arith, k tt) in
        let normal : 53 ≤ I.size (n * 2 ^ 1074 / 2 ^ 1074) = normal_of_fraction binary64 n (2 ^ 1074) (pow_pos 1074) (mul-le-mul_right (2 ^ 1074) many) in
        let own = value_of s n (2 ^ 1074) f in
        (own.0, rw own.1 (near-cancel (grid (n * 2 ^ 1074) (2 ^ 1074)) n (2 ^ 1074) (pow_pos 1074) (grid-near (n * 2 ^ 1074) (2 ^ 1074) (pow_pos 1074) normal)))

-- what is not finite has overflowed, and keeps its sign
pub overflowed : (s : Bool) (a c : ℕ) → (not_finite (round binary64 s a c) ≡ false) ⊎ (round binary64 s a c ≡ inf s)
overflowed s a c = rw (round_is binary64 s a c) (units-over s (kept 53 (a * 2 ^ 1074) c) (drop 53 (a * 2 ^ 1074) c))
