-- Forth: bytes that are read as a number are that number's digits, and no others. Each digit read leaves one quotient less.
use Rattle.std.proofs.Common.{None, Some}
use mathlib.Core.Path.{◌≡◌, refl, sym, ap, ◌∙◌}
use mathlib.Core.Bool.{Bool, true, false, cond}
use mathlib.Core.List.{List, [], ◌∷◌, ◌++◌}
use Prim.Native.Nat.{ℕ, zero, suc, ◌+◌, ◌-◌, ◌*◌, ◌/◌, ◌%◌, ◌^◌, ◌≤◌, ◌<◌}
use native.Mathlib.Decide.{dec_lt}
use native.Mathlib.Nat.{pow-zero, pow-suc, pow-succ', pow-le-pow_right, div-one, div-div-eq-div-mul, div-lt_iff_lt-mul}
use native.Mathlib.Omega.{arith}
use borrow.Author.Tests.{ltb-true}
use lib.Arith.{digits_div, digits_mod}
use lib.Dec.{ltb}
use lib.ListN.{length, get_or, take, drop, take-append-drop, get_or-eq_default}
use lib.Seq.{drop-drop}
use Rattle.text.specs.Digits.{digit, digits, digit_of, value}
use Rattle.text.specs.Words.{bytes}
use Rattle.text.proofs.Writing.{digit_low, digit-high}
use Rattle.text.proofs.Reading.{below-0, to-9, below-a, to-f, above-f}
use Rattle.text.proofs.Back.{bytes-there}

-- a byte that stands for a digit is that digit's byte
pub digit-forth : (b : ℕ) → digit_of b < 16 → digit (digit_of b) ≡ b
digit-forth b h = go (dec_lt b 48) (dec_lt b 58) (dec_lt b 97) (dec_lt b 103)
  where
    go : Dec (b < 48) → Dec (b < 58) → Dec (b < 97) → Dec (b < 103) → digit (digit_of b) ≡ b
    go (yes p) q r s = absurd (omega (arith, below-0 b p))
    go (no p) (yes q) r s = ap digit (sym (to-9 b (omega arith) q)) ∙ sym (digit_low (b - 48) (omega arith)) ∙ omega arith
    go (no p) (no q) (yes r) s = absurd (omega (arith, below-a b (omega arith) r))
    go (no p) (no q) (no r) (yes s) = ap digit (sym (to-f b (omega arith) s)) ∙ sym (digit-high (b - 87) (omega arith)) ∙ omega arith
    go (no p) (no q) (no r) (no s) = absurd (omega (arith, above-f b (omega arith)))

pub power-positive : (base k : ℕ) → 0 < base → 0 < base ^ k
power-positive base k h = omega (arith, pow-zero base, pow-le-pow_right {n = base} h {i = 0} {j = k} (omega arith))

-- the first of the digits
pub first-digit : (base k w : ℕ) → digits base (suc k) w ≡ digit (w / base ^ k % base) ∷ digits base k w
unfolding digits
first-digit base zero w = rw (pow-zero, div-one)
first-digit base (suc k) w =
    ap (λ (l : List ℕ). l ++ (digit (w % base) ∷ [])) (first-digit base k (w / base))
    ∙ ap (λ (n : ℕ). digit (n % base) ∷ digits base (suc k) w) (div-div-eq-div-mul w base (base ^ k) ∙ ap (λ (n : ℕ). w / n) (sym (pow-succ' base k)))

module _ (base : ℕ) (two : 1 < base) (most : base ≤ 16) where
  -- one digit d of a number w before the k digits s
  one-forth : (b v w : ℕ) (s : List ℕ) → digit_of b < base → digits base (length s) w ≡ s → w / base ^ length s ≡ v * base + digit_of b → (digits base (suc (length s)) w ≡ b ∷ s) × (w / base ^ suc (length s) ≡ v)
  one-forth b v w s h i j =
      let k = length s in
      let whole : w / base ^ k % base ≡ digit_of b = rw j (digits_mod v h) in
      let front : digit (w / base ^ k % base) ≡ b = rw whole (digit-forth b (omega arith)) in (
        first-digit base k w ∙ ap (λ (n : ℕ). n ∷ digits base k w) front ∙ ap (λ (l : List ℕ). b ∷ l) i,
        ap (λ (n : ℕ). w / n) (pow-suc base k) ∙ sym (div-div-eq-div-mul w (base ^ k) base) ∙ ap (λ (n : ℕ). n / base) j ∙ digits_div v h,
      )

  pub forth : (l : List ℕ) (v w : ℕ) → value base v l ≡ Some w → (digits base (length l) w ≡ l) × (w / base ^ length l ≡ v)
  unfolding value digits
  forth [] v w e = let q : v ≡ w = cc in (refl, rw (pow-zero, div-one) (sym q))
  forth (b ∷ s) v w e = go (ltb (digit_of b) base) refl e (λ u. forth s u w)
    where
      go : (t : Bool) → ltb (digit_of b) base ≡ t → cond t (value base (v * base + digit_of b) s) None ≡ Some w → ((u : ℕ) → value base u s ≡ Some w → (digits base (length s) w ≡ s) × (w / base ^ length s ≡ u)) → (digits base (length (b ∷ s)) w ≡ b ∷ s) × (w / base ^ length (b ∷ s) ≡ v)
      go true h f r = let p = r (v * base + digit_of b) f in one-forth b v w s (ltb-true (digit_of b) base h) p.0 p.1
      go false h f r = let z : ◌≡◌ {A = ℕ} 0 1 = cc in absurd (omega arith)

  -- such a number has no more digits
  pub value-below : (l : List ℕ) (w : ℕ) → value base 0 l ≡ Some w → w < base ^ length l
  value-below l w e =
      let p : 0 < base ^ length l = power-positive base (length l) (omega arith) in
      let q : w < 1 * base ^ length l = (div-lt_iff_lt-mul {k = base ^ length l} {x = w} {y = 1} p).0 (omega (arith, (forth l 0 w e).1)) in
      omega arith

  -- bytes past the end are no digits
  pub within : (s : List ℕ) (at k v w : ℕ) → value base v (bytes s at k) ≡ Some w → k ≤ length s - at
  unfolding value bytes digit_of
  within s at zero v w e = omega arith
  within s at (suc k) v w e = go (ltb (digit_of (get_or s at 0)) base) refl (dec_lt at (length s)) e (λ u. within s (at + 1) k u w)
    where
      go : (t : Bool) → ltb (digit_of (get_or s at 0)) base ≡ t → Dec (at < length s) → cond t (value base (v * base + digit_of (get_or s at 0)) (bytes s (at + 1) k)) None ≡ Some w → ((u : ℕ) → value base u (bytes s (at + 1) k) ≡ Some w → k ≤ length s - (at + 1)) → suc k ≤ length s - at
      go true h (yes l) f r = omega (arith, r (v * base + digit_of (get_or s at 0)) f)
      go true h (no l) f r =
          let z : get_or s at 0 ≡ 0 = get_or-eq_default s 0 (omega arith) in
          let low : digit_of 0 < base = ltb-true (digit_of 0) base (rw z at h) in absurd (omega arith)
      go false h l f r = let z : ◌≡◌ {A = ℕ} 0 1 = cc in absurd (omega arith)

  pub bytes-length : (s : List ℕ) (at k : ℕ) → length (bytes s at k) ≡ k
  unfolding bytes
  bytes-length s at zero = refl
  bytes-length s at (suc k) = ap suc (bytes-length s (at + 1) k)

  -- the digits stand at the place
  pub digits-there : (s : List ℕ) (at k w : ℕ) → at ≤ length s → value base 0 (bytes s at k) ≡ Some w → drop at s ≡ digits base k w ++ drop (at + k) s
  digits-there s at k w h e =
      let room : at + k ≤ length s = omega (arith, within s at k 0 w e) in
      let same : digits base k w ≡ take k (drop at s) = ap (λ (n : ℕ). digits base n w) (sym (bytes-length s at k)) ∙ (forth (bytes s at k) 0 w e).0 ∙ bytes-there s at k room in
      sym (ap (λ (l : List ℕ). l ++ drop (at + k) s) same ∙ ap (λ (l : List ℕ). take k (drop at s) ++ l) (sym (drop-drop k at s)) ∙ take-append-drop k (drop at s))

  pub value-small : (s : List ℕ) (at k w : ℕ) → value base 0 (bytes s at k) ≡ Some w → w < base ^ k
  value-small s at k w e = rw (bytes-length s at k) at (value-below (bytes s at k) w e)
