-- Digits are stored from the last to the first; how many a number has is counted by divisions.
use mathlib.Core.Path.{◌≡◌, refl, sym, ap, ◌∙◌}
use mathlib.Core.List.{List, [], ◌∷◌}
use Prim.Native.Nat.{ℕ, zero, suc, ◌+◌, ◌-◌, ◌*◌, ◌/◌, ◌%◌, ◌^◌, ◌≤◌, ◌<◌}
use native.Mathlib.Nat.{mod-lt, pow-zero, pow-suc, pow-succ', pow-le-pow_right, mul_comm, div-lt_iff_lt-mul, le-div_iff_mul-le}
use native.Mathlib.Numerals.{sub-one, add-one}
use native.Mathlib.Omega.{arith}
use borrow.Author.Tests.{lt-ltb, le-ltb}
use lib.ListN.{length, set, length-append}
use lib.Seq.{sets}
use Rattle.text.specs.Digits.{digit, digits, places}
use Rattle.text.proofs.Stores.{last-first}

-- the two runs of digits
pub digit_low : (d : ℕ) → d < 10 → 48 + d ≡ digit d
unfolding digit
digit_low d h = rw (lt-ltb d 10 h)

pub digit-high : (d : ℕ) → 10 ≤ d → 87 + d ≡ digit d
unfolding digit
digit-high d h = rw (le-ltb d 10 h)

pub digits-length : (base k w : ℕ) → length (digits base k w) ≡ k
unfolding digits
digits-length base zero w = refl
digits-length base (suc k) w =
    length-append (digits base k (w / base)) (digit (w % base) ∷ []) ∙ omega (arith, digits-length base k (w / base))

pub ruleset lengths = (digits-length)

-- one digit of k stored
pub digit-on : (b : List ℕ) (at base k w : ℕ) → 0 < k → sets b at (digits base k w) ≡ sets (set b (at + (k - 1)) (digit (w % base))) at (digits base (k - 1) (w / base))
unfolding digits
digit-on b at base zero w h = absurd (omega arith)
digit-on b at base (suc k) w h =
    rw sub-one (last-first b at k (digit (w % base)) (digits base k (w / base)) (digits-length base k (w / base)))

-- no digit left
pub digit-end : (b : List ℕ) (at base k w : ℕ) → k ≤ 0 → sets b at (digits base k w) ≡ b
unfolding digits
digit-end b at base zero w h = refl
digit-end b at base (suc k) w h = absurd (omega arith)

pub remainder-small : (v base : ℕ) → 1 < base → base ≤ 16 → v % base < 16
remainder-small v base h l = let q : v % base < base = mod-lt v (omega arith) in omega arith

-- one division leaves a number with one digit less
pub fewer : (base n w : ℕ) → 0 < base → w < base ^ suc n → w / base < base ^ n
fewer base n w h l = (div-lt_iff_lt-mul {k = base} {x = w} {y = base ^ n} h).1 (rw (pow-succ', mul_comm base (base ^ n)) at l)

-- a number has one digit more than its quotient, down to a single digit
pub places-on : (base n w : ℕ) → base ≤ w → places base (suc n) w ≡ suc (places base n (w / base))
unfolding places
places-on base n w h = rw (le-ltb w base h)

pub places-end : (base n w : ℕ) → w < base → places base n w ≡ 1
unfolding places
places-end base zero w h = refl
places-end base (suc n) w h = rw (lt-ltb w base h)

-- a number between two powers has as many digits as the upper one says
pub places_is : (base k n w : ℕ) → 1 < base → k ≤ n → base ^ k ≤ w → w < base ^ suc k → places base n w ≡ suc k
places_is base zero n w h l low high = let q : base ^ 1 ≡ base = rw (pow-suc, pow-zero) (omega arith) in places-end base n w (omega arith)
places_is base (suc k) zero w h l low high = absurd (omega arith)
places_is base (suc k) (suc n) w h l low high =
    let p : base ^ 1 ≤ base ^ suc k = pow-le-pow_right {n = base} (omega arith) {i = 1} {j = suc k} (omega arith) in
    let q : base ^ 1 ≡ base = rw (pow-suc, pow-zero) (omega arith) in
    let lower : base ^ k ≤ w / base = (le-div_iff_mul-le {k = base} {x = base ^ k} {y = w} (omega arith)).1 (rw (pow-suc base k) at low) in
    places-on base n w (omega arith) ∙ ap suc (places_is base k n (w / base) h (omega arith) lower (fewer base (suc k) w (omega arith) high))

-- the library's logarithm of a decimal number is one less than it has digits
pub decimal_places_is : (k w : ℕ) → 10 ^ k ≤ w → w < 10 * 10 ^ k → k < 20 → k + 1 ≡ places 10 20 w
decimal_places_is k w low high h = rw add-one (sym (places_is 10 k 20 w (omega arith) (omega arith) low (rw pow-succ' high)))

pub no_places : (w : ℕ) → w ≡ 0 → 1 ≡ places 10 20 w
no_places w e = sym (places-end 10 20 w (omega arith))

pub ruleset decimal_counts = (decimal_places_is, no_places)
