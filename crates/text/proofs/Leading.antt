-- Without leading zeros a number has one digit, or its first digit is another than 0: then it has as many digits as it needs.
use Rattle.std.proofs.Common.{None, Some}
use mathlib.Core.Path.{◌≡◌, refl, sym, ap, ◌∙◌}
use mathlib.Core.Bool.{Bool, true, false, cond}
use mathlib.Core.List.{List, [], ◌∷◌, ◌++◌}
use Prim.Native.Nat.{ℕ, zero, suc, ◌+◌, ◌*◌, ◌/◌, ◌%◌, ◌^◌, ◌≤◌, ◌<◌}
use native.Mathlib.Decide.{dec_lt}
use native.Mathlib.Nat.{pow-zero, pow-suc, pow-succ', le-div_iff_mul-le, div-lt_iff_lt-mul, mod-eq_of_lt}
use native.Mathlib.Omega.{arith}
use borrow.Author.Tests.{ltb-true, ne_eqb}
use lib.Dec.{ltb}
use lib.ListN.{length}
use Rattle.text.specs.Digits.{digit, digits, digit_of, value, places, decimal}
use Rattle.text.specs.Words.{begins}
use Rattle.text.proofs.Writing.{digit_low, digits-length, places-on, places-end, fewer, places_is}
use Rattle.text.proofs.Back.{places-hold}
use Rattle.text.proofs.Forth.{digit-forth, power-positive, first-digit, forth, value-below}

-- a number has one digit, or it is at least the power of one less than it has
pub places-low : (base n w : ℕ) → 1 < base → (k : ℕ) × (places base n w ≡ suc k) × (0 < k → base ^ k ≤ w)
unfolding places
places-low base zero w h = (0, refl, λ l. absurd (omega arith))
places-low base (suc n) w h = go (dec_lt w base) (places-low base n (w / base) h)
  where
    go : Dec (w < base) → (k : ℕ) × (places base n (w / base) ≡ suc k) × (0 < k → base ^ k ≤ w / base) → (k : ℕ) × (places base (suc n) w ≡ suc k) × (0 < k → base ^ k ≤ w)
    go (yes l) r = (0, places-end base (suc n) w l, λ z. absurd (omega arith))
    go (no l) r =
        (suc r.0, places-on base n w (omega arith) ∙ ap suc r.1, λ z. rw (pow-suc base r.0) ((le-div_iff_mul-le {k = base} {x = base ^ r.0} {y = w} (omega arith)).0 (lower r.0 r.2)))
      where
        quotient : 1 ≤ w / base
        quotient = (le-div_iff_mul-le {k = base} {x = 1} {y = w} (omega arith)).1 (omega arith)

        lower : (k : ℕ) → (0 < k → base ^ k ≤ w / base) → base ^ k ≤ w / base
        lower zero f = rw (pow-zero base) quotient
        lower (suc k) f = f (omega arith)

-- ---- decimal

positive : (n : ℕ) → (n ≡ 0 → ⊥) → 0 < n
positive zero f = absurd (f refl)
positive (suc n) f = omega arith

-- a first digit other than 0 makes the number as large as its place
large : (b w : ℕ) (s : List ℕ) → (b ≡ 48 → ⊥) → value 10 0 (b ∷ s) ≡ Some w → 10 ^ length s ≤ w
unfolding value
large b w s z e = go (ltb (digit_of b) 10) refl e
  where
    go : (t : Bool) → ltb (digit_of b) 10 ≡ t → cond t (value 10 (0 * 10 + digit_of b) s) None ≡ Some w → 10 ^ length s ≤ w
    go true h f =
        let q : w / 10 ^ length s ≡ 0 * 10 + digit_of b = (forth 10 (omega arith) (omega arith) s (0 * 10 + digit_of b) w f).1 in
        let d : digit (digit_of b) ≡ b = digit-forth b (omega (arith, ltb-true (digit_of b) 10 h)) in
        let p : 0 < 10 ^ length s = power-positive 10 (length s) (omega arith) in
        let some : 0 < digit_of b = positive (digit_of b) (λ i. z (sym d ∙ ap digit i ∙ sym (digit_low 0 (omega arith)))) in
        omega (arith, (le-div_iff_mul-le {k = 10 ^ length s} {x = 1} {y = w} p).0 (omega arith))
    go false h f = let c : ◌≡◌ {A = ℕ} 0 1 = cc in absurd (omega arith)

-- digits without leading zeros are the number's own
pub decimal-forth : (b w : ℕ) (s : List ℕ) → length s < 20 → (0 < length s → b ≡ 48 → ⊥) → value 10 0 (b ∷ s) ≡ Some w → b ∷ s ≡ decimal w
unfolding decimal
decimal-forth b w [] h z e =
    let small : w < 10 ^ 1 = value-below 10 (omega arith) (omega arith) (b ∷ []) w e in
    sym (ap (λ (n : ℕ). digits 10 n w) (places-end 10 20 w (omega arith)) ∙ (forth 10 (omega arith) (omega arith) (b ∷ []) 0 w e).0)
decimal-forth b w (c ∷ s) h z e =
    let k = length (c ∷ s) in
    sym (ap (λ (n : ℕ). digits 10 n w) (places_is 10 k 20 w (omega arith) (omega arith) (large b w (c ∷ s) (z (omega arith)) e) (value-below 10 (omega arith) (omega arith) (b ∷ c ∷ s) w e)) ∙ (forth 10 (omega arith) (omega arith) (b ∷ c ∷ s) 0 w e).0)

-- the first digit of a number of several is another than 0
pub decimal-first : (w : ℕ) (s : List ℕ) → w < 10 ^ 20 → 1 < length (decimal w) → begins (48 ∷ []) (decimal w ++ s) ≡ false
unfolding decimal begins
decimal-first w s h l = first (places-low 10 20 w (omega arith))
  where
    first : (k : ℕ) × (places 10 20 w ≡ suc k) × (0 < k → 10 ^ k ≤ w) → begins (48 ∷ []) (digits 10 (places 10 20 w) w ++ s) ≡ false
    first r =
        let k = r.0 in
        let more : 0 < k = omega (arith, r.1, digits-length 10 (places 10 20 w) w) in
        let p : 0 < 10 ^ k = power-positive 10 k (omega arith) in
        let low : 1 ≤ w / 10 ^ k = (le-div_iff_mul-le {k = 10 ^ k} {x = 1} {y = w} p).1 (omega (arith, r.2 more)) in
        let hold : w < 10 ^ suc k = rw r.1 at (places-hold 10 20 w (omega arith) (omega arith)) in
        let high : w / 10 ^ k < 10 = (div-lt_iff_lt-mul {k = 10 ^ k} {x = w} {y = 10} p).1 (rw pow-succ' at hold) in
        let d : digit (w / 10 ^ k % 10) ≡ 48 + w / 10 ^ k = ap digit (mod-eq_of_lt high) ∙ sym (digit_low (w / 10 ^ k) high) in
        rw (r.1, first-digit 10 k w, d, ne_eqb (48 + w / 10 ^ k) 48 (λ q. omega arith))

places-none : (base w : ℕ) → places base 0 w ≡ 1
unfolding places
places-none base w = refl

-- a number below a power has no more digits than that
pub places-most : (base k n w : ℕ) → 1 < base → w < base ^ suc k → places base n w ≤ suc k
places-most base zero n w h l = let q : base ^ 1 ≡ base = rw (pow-suc, pow-zero) (omega arith) in omega (arith, places-end base n w (omega arith))
places-most base (suc k) n w h l = go n (dec_lt w base) (λ m. places-most base k m (w / base) h (fewer base (suc k) w (omega arith) l))
  where
    go : (m : ℕ) → Dec (w < base) → ((i : ℕ) → places base i (w / base) ≤ suc k) → places base m w ≤ suc (suc k)
    go m (yes d) r = omega (arith, places-end base m w d)
    go zero (no d) r = omega (arith, places-none base w)
    go (suc m) (no d) r = omega (arith, places-on base m w (omega arith), r m)
