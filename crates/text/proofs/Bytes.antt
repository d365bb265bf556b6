-- The bytes of the digits, listed: each is the digit's at its place.
use mathlib.Core.Path.{◌≡◌, sym, ap, ◌∙◌}
use mathlib.Core.List.{List, [], ◌∷◌}
use Prim.Native.Nat.{ℕ, zero, suc, ◌+◌, ◌<◌}
use native.Mathlib.Nat.{add-zero, zero-add}
use native.Mathlib.Omega.{arith}
use lib.ListN.{get_or}
use Rattle.text.specs.Digits.{digit}

-- the bytes of n digits from i on
unfoldable pub listed : ℕ → ℕ → List ℕ
listed i zero = []
listed i (suc n) = digit i ∷ listed (suc i) n

listed-from : (n i d : ℕ) → d < n → get_or (listed i n) d 0 ≡ digit (i + d)
unfolding listed
listed-from zero i d h = absurd (omega arith)
listed-from (suc n) i zero h = ap digit (sym (add-zero i))
listed-from (suc n) i (suc d) h = listed-from n (suc i) d (omega arith) ∙ ap digit (omega arith)

pub byte_of : (d : ℕ) → d < 16 → get_or (listed 0 16) d 0 ≡ digit d
byte_of d h = listed-from 16 0 d h ∙ ap digit (zero-add d)
