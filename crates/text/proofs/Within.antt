-- Digits that end within the bytes are all there; others are none.
use Rattle.std.proofs.Common.{None, Option, Some}
use mathlib.Core.Path.{◌≡◌, refl}
use mathlib.Core.Bool.{Bool, true, false, cond, true≢false}
use mathlib.Core.List.{List}
use Prim.Native.Nat.{ℕ, ◌+◌, ◌-◌, ◌≤◌, ◌<◌}
use native.Mathlib.Decide.{dec_lt}
use native.Mathlib.Omega.{arith}
use borrow.Author.Tests.{lt-ltb, le-ltb, ltb-true, ltb-false}
use lib.Dec.{ltb}
use lib.ListN.{length}
use Rattle.text.specs.Digits.{value}
use Rattle.text.specs.Words.{bytes}
use Rattle.text.proofs.Forth.{within}

-- none, or the last one is there
abbrev pub is_within : ℕ → ℕ → ℕ → Bool
is_within at count len = cond (ltb 0 count) (ltb (at + (count - 1)) len) true

pub there : (at count len i : ℕ) → is_within at count len ≡ true → i < count → at + i < len
there at count len i h l =
    let some : ltb 0 count ≡ true = lt-ltb 0 count (omega arith) in
    let last : at + (count - 1) < len = ltb-true _ _ (rw some at h) in omega arith

past : (at count len : ℕ) → is_within at count len ≡ false → (0 < count) × (len ≤ at + (count - 1))
past at count len h = go (dec_lt 0 count)
  where
    go : Dec (0 < count) → (0 < count) × (len ≤ at + (count - 1))
    go (yes l) = (l, ltb-false _ _ (rw (lt-ltb 0 count l) at h))
    go (no l) = absurd (true≢false (rw (le-ltb 0 count (omega arith)) at h))

pub none-there : (s : List ℕ) (at base count : ℕ) → 1 < base → base ≤ 16 → is_within at count (length s) ≡ false → value base 0 (bytes s at count) ≡ None
none-there s at base count two most h = go (value base 0 (bytes s at count)) refl
  where
    go : (r : Option ℕ) → value base 0 (bytes s at count) ≡ r → r ≡ None
    go None e = refl
    go (Some w) e =
        let p = past at count (length s) h in
        let room : count ≤ length s - at = within base two most s at count 0 w e in absurd (omega arith)
