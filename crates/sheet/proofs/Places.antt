-- A place of the bytes and what stands from there on: what is read at the place is read at the front of the rest.
use mathlib.Core.Path.{◌≡◌, refl, sym, ap, ◌∙◌}
use mathlib.Core.List.{List, ◌∷◌}
use Prim.Native.Nat.{ℕ, zero, suc, ◌+◌, ◌<◌, min}
use native.Mathlib.Decide.{dec_lt}
use native.Mathlib.Nat.{add-zero}
use native.Mathlib.Omega.{arith}
use lib.ListN.{length, get_or, drop, drop_of_length-le}
use lib.Seq.{get_or-drop, drop-drop}
use Rattle.text.specs.Words.{bytes}
use Rattle.text.specs.Digits.{value, hex_at, decimal_at}

-- n places further on
pub further : (s : List ℕ) (at n : ℕ) → drop (min (at + n) (length s)) s ≡ drop n (drop at s)
further s at n = go (dec_lt (at + n) (length s))
  where
    go : Dec (at + n < length s) → drop (min (at + n) (length s)) s ≡ drop n (drop at s)
    go (yes l) = let e : min (at + n) (length s) ≡ at + n = omega arith in rw e (sym (drop-drop n at s))
    go (no l) =
        let e : min (at + n) (length s) ≡ length s = omega arith in
        rw (e, drop-drop, drop_of_length-le s {i = length s} (omega arith), drop_of_length-le s {i = at + n} (omega arith))

bytes_drop : (s : List ℕ) (at i k : ℕ) → bytes s (at + i) k ≡ bytes (drop at s) i k
unfolding bytes
bytes_drop s at i zero = refl
bytes_drop s at i (suc k) =
    rw get_or-drop (ap (λ (l : List ℕ). get_or s (at + i) 0 ∷ l) (ap (λ (n : ℕ). bytes s n k) (omega arith) ∙ bytes_drop s at (i + 1) k))

pub front : (s : List ℕ) (at k : ℕ) → bytes s at k ≡ bytes (drop at s) 0 k
front s at k = ap (λ (n : ℕ). bytes s n k) (sym (add-zero at)) ∙ bytes_drop s at 0 k

-- a number in decimal
pub decimal-front : (s : List ℕ) (at n : ℕ) → decimal_at s at n ≡ decimal_at (drop at s) 0 n
unfolding decimal_at
decimal-front s at n = rw (front s at n)

-- a number in hex after one byte
pub hex-front : (s : List ℕ) (at : ℕ) → hex_at s (min (at + 1) (length s)) ≡ hex_at (drop at s) 1
hex-front s at =
    ap (value 16 0) (front s (min (at + 1) (length s)) 16 ∙ ap (λ (l : List ℕ). bytes l 0 16) (further s at 1) ∙ sym (front (drop at s) 1 16))
