-- The invariant: what is left to read decides, by whether all bytes so far are digits, and the number so far is below base ^ i.
use mathlib.Core.Path.{◌≡◌}
use Prim.Native.Nat.{◌^◌, ◌<◌}
use Rattle.text.specs.Digits.{value}
use Rattle.text.specs.Words.{bytes}
use Rattle.text.proofs.Reading.{left_by}
use Rattle.text.proofs.digits.read_digits.Given as goal

abbrev pub invariant-loop-i : goal.invariant-loop-i
invariant-loop-i l = (left_by l.s l.at l.base l.count l.i l.all l.v ≡ value l.base 0 (bytes l.s l.at l.count)) × (l.v < l.base ^ l.i)
