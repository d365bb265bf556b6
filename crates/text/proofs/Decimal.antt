-- What std writes of a number is the number in decimal.
use mathlib.Core.Path.{◌≡◌}
use mathlib.Core.List.{List}
use Prim.Native.Nat.{ℕ, suc, ◌%◌, ◌^◌, ◌<◌}
use native.Mathlib.Omega.{arith}
use Rattle.std.specs.Fmt.{decimal as std_decimal}
use Rattle.std.proofs.lemmas.Fmt.{AppendsLastDigit, decimal_from_appends, length-decimal-le}
use Rattle.text.specs.Digits.{digits, places, decimal}
use Rattle.text.proofs.Writing.{digit_low, places-on, places-end}

-- by a count that bounds the divisions
by : ℕ → ℕ → List ℕ
by k n = digits 10 (places 10 k n) n

appends : AppendsLastDigit by
unfolding by digits
appends = record {
  one = λ k n h. let e : n % 10 ≡ n = omega arith in rw (places-end 10 (suc k) n h, e, ← digit_low n h);
  more = λ k n h. rw (places-on 10 k n h, ← digit_low (n % 10) (omega arith));
}

pub decimal-std : (w : ℕ) → w < 2 ^ 64 → decimal w ≡ std_decimal w
unfolding decimal by
decimal-std w h = decimal_from_appends by appends 20 w h (length-decimal-le 20 w (omega arith) (omega arith) h)
