-- There and back: the digits of a number, read again, give the number. Each digit read undoes one division.
use Rattle.std.proofs.Common.{Some}
use mathlib.Core.Path.{◌≡◌, refl, sym, ap, ◌∙◌}
use mathlib.Core.List.{List, [], ◌∷◌, ◌++◌, append_assoc, append-nil}
use Prim.Native.Nat.{ℕ, zero, suc, ◌+◌, ◌*◌, ◌/◌, ◌%◌, ◌^◌, ◌≤◌, ◌<◌}
use native.Mathlib.Decide.{dec_lt}
use native.Mathlib.Nat.{mod-lt, mod-one, mod-eq_of_lt, pow-succ', pow-zero, mul_comm, div-lt_iff_lt-mul, pow-le-pow_right}
use native.Mathlib.Numerals.{add-one}
use native.Mathlib.Omega.{arith}
use borrow.Author.Tests.{lt-ltb, le-ltb}
use lib.Arith.{mod-mul}
use lib.ListN.{length, take, drop, get_or}
use lib.Seq.{sets, sets-eq, length-sets, drop-cons, drop_at, take-append_seam, length-take-le}
use Rattle.text.specs.Digits.{digit, digits, hex, digit_of, value, hex_at, places, decimal}
use Rattle.text.specs.Words.{bytes}
use Rattle.text.proofs.Writing.{digit_low, digit-high, digits-length, fewer}
use Rattle.text.proofs.Reading.{to-9, to-f}

-- the byte of a digit stands for it
pub digit-back : (d : ℕ) → d < 16 → digit_of (digit d) ≡ d
digit-back d h = go (dec_lt d 10)
  where
    go : Dec (d < 10) → digit_of (digit d) ≡ d
    go (yes l) = ap digit_of (sym (digit_low d l)) ∙ sym (to-9 (48 + d) (omega arith) (omega arith)) ∙ omega arith
    go (no l) = ap digit_of (sym (digit-high d (omega arith))) ∙ sym (to-f (87 + d) (omega arith) (omega arith)) ∙ omega arith

module _ (base : ℕ) (two : 1 < base) (most : base ≤ 16) where
  -- a digit of the base, read after v
  digit-read : (v d : ℕ) (s : List ℕ) → d < base → value base v (digit d ∷ s) ≡ value base (v * base + d) s
  unfolding value
  digit-read v d s h = rw (digit-back d (omega arith), lt-ltb d base h)

  -- the last k digits, read before the rest
  digits-read : (k w : ℕ) (s : List ℕ) → value base 0 (digits base k w ++ s) ≡ value base (w % base ^ k) s
  unfolding digits
  digits-read zero w s = rw (pow-zero, mod-one)
  digits-read (suc k) w s =
      let small : w % base < base = mod-lt w (omega arith) in
      let positive : 0 < base ^ k = omega (arith, pow-zero base, pow-le-pow_right {n = base} (omega arith) {i = 0} {j = k} (omega arith)) in
      let whole : w % base ^ suc k ≡ (w / base % base ^ k) * base + w % base = rw (pow-succ', mul_comm base (base ^ k)) (mod-mul w {m = base ^ k} {c = base} positive (omega arith)) in
      rw (append_assoc, digits-read k (w / base), whole) (digit-read (w / base % base ^ k) (w % base) s small)

  -- the digits of a number are read as the number
  pub back : (k w : ℕ) → w < base ^ k → value base 0 (digits base k w) ≡ Some w
  unfolding value
  back k w h =
      ap (value base 0) (sym (append-nil (digits base k w)))
      ∙ digits-read k w []
      ∙ ap Some (mod-eq_of_lt h)

-- bytes that are there are a part of the list
pub bytes-there : (s : List ℕ) (at k : ℕ) → at + k ≤ length s → bytes s at k ≡ take k (drop at s)
unfolding bytes
bytes-there s at zero h = refl
bytes-there s at (suc k) h =
    rw (drop-cons s at 0 (omega arith), add-one) (ap (λ (l : List ℕ). get_or s at 0 ∷ l) (bytes-there s (suc at) k (omega arith)))

-- what was stored stands there
pub stored : (b : List ℕ) (at : ℕ) (d : List ℕ) → at + length d ≤ length b → bytes (sets b at d) at (length d) ≡ d
stored b at d h =
    let long : at + length d ≤ length (sets b at d) = omega (arith, length-sets b at d) in
    bytes-there (sets b at d) at (length d) long
    ∙ ap (λ (l : List ℕ). take (length d) (drop at l)) (sets-eq d b at h ∙ append_assoc (take at b) d (drop (at + length d) b))
    ∙ ap (take (length d)) (drop_at (take at b) (d ++ drop (at + length d) b) at (length-take-le at b (omega arith)))
    ∙ take-append_seam d (drop (at + length d) b)

-- a number's digits, stored and read again, give the number, in any base and at any length that holds it
pub there_and_back : (base k w : ℕ) (b : List ℕ) (at : ℕ) → 1 < base → base ≤ 16 → w < base ^ k → at + k ≤ length b → value base 0 (bytes (sets b at (digits base k w)) at k) ≡ Some w
there_and_back base k w b at two most h room =
    let long : length (digits base k w) ≡ k = digits-length base k w in
    let same : bytes (sets b at (digits base k w)) at (length (digits base k w)) ≡ digits base k w = stored b at (digits base k w) (omega arith) in
    ap (value base 0) (ap (bytes (sets b at (digits base k w)) at) (sym long) ∙ same) ∙ back base two most k w h

-- a number has as many digits as hold it
pub places-hold : (base n w : ℕ) → 0 < base → w < base ^ suc n → w < base ^ places base n w
unfolding places
places-hold base zero w h l = l
places-hold base (suc n) w h l = go (dec_lt w base) (places-hold base n (w / base) h (fewer base (suc n) w h l))
  where
    go : Dec (w < base) → w / base < base ^ places base n (w / base) → w < base ^ places base (suc n) w
    go (yes s) i = rw (lt-ltb w base s) (rw (pow-succ', pow-zero) (omega arith))
    go (no s) i =
        rw (le-ltb w base (omega arith), pow-succ', mul_comm base (base ^ places base n (w / base)))
        ((div-lt_iff_lt-mul {k = base} {x = w} {y = base ^ places base n (w / base)} h).0 i)

-- the two forms in use: a word in hex at a place, and a number in decimal
pub hex-back : (w : ℕ) (b : List ℕ) (at : ℕ) → w < 18446744073709551616 → at + 16 ≤ length b → hex_at (sets b at (hex w)) at ≡ Some w
hex-back w b at h room = there_and_back 16 16 w b at (omega arith) (omega arith) h room

pub decimal-back : (w : ℕ) → w < 10 ^ 20 → value 10 0 (decimal w) ≡ Some w
unfolding decimal
decimal-back w h = back 10 (omega arith) (omega arith) (places 10 20 w) w (places-hold 10 20 w (omega arith) (omega arith))
