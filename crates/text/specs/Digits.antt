-- Digits: a number as bytes in a base from 2 to 16, '0' to '9' and then 'a' to 'f', the highest first.
use Rattle.std.specs.Prelude.{◌≡◌, cond, List, [], ◌∷◌, ◌++◌, ℕ, zero, suc, ◌+◌, ◌-◌, ◌*◌, ◌/◌, ◌%◌, ◌<◌, ltb, get_or, None, Option, Some}
use Rattle.text.specs.Words.{bytes}

-- the byte of a digit
unfoldable pub digit : ℕ → ℕ
digit d = cond (ltb d 10) (48 + d) (87 + d)

-- the last count digits of a number
unfoldable pub digits : ℕ → ℕ → ℕ → List ℕ
digits base zero w = []
digits base (suc count) w = digits base count (w / base) ++ (digit (w % base) ∷ [])

-- a 64-bit word in hex
abbrev pub hex : ℕ → List ℕ
hex w = digits 16 16 w

-- how many digits a number below base ^ turns has without leading zeros: one, and one for each division that leaves something
unfoldable pub places : ℕ → ℕ → ℕ → ℕ
places base zero w = 1
places base (suc turns) w = cond (ltb w base) 1 (suc (places base turns (w / base)))

-- a 64-bit number in decimal without leading zeros
unfoldable pub decimal : ℕ → List ℕ
decimal w = digits 10 (places 10 20 w) w

-- the digit that a byte stands for; 16, a digit in no base, where it is none
unfoldable pub digit_of : ℕ → ℕ
digit_of b = cond (ltb b 48) 16 (cond (ltb b 58) (b - 48) (cond (ltb b 97) 16 (cond (ltb b 103) (b - 87) 16)))

-- a table that has at each byte the digit that it stands for
unfoldable pub IsTable : List ℕ → Type 0
IsTable t = (b : ℕ) → b < 256 → get_or t b 0 ≡ digit_of b

-- the number that bytes stand for after v: nothing where one of them is no digit of the base
unfoldable pub value : ℕ → ℕ → List ℕ → Option ℕ
value base v [] = Some v
value base v (b ∷ s) = cond (ltb (digit_of b) base) (value base (v * base + digit_of b) s) None

-- the 64-bit word in hex at a place
abbrev pub hex_at : List ℕ → ℕ → Option ℕ
hex_at s at = value 16 0 (bytes s at 16)

-- the number in decimal at a place, by its first count digits; nothing beyond the most of which every number is a 64-bit word
unfoldable pub decimal_at : List ℕ → ℕ → ℕ → Option ℕ
decimal_at s at count = cond (ltb 19 count) None (value 10 0 (bytes s at count))
