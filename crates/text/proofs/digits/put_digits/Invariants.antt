-- The invariant: the digits that are left, stored in front, give the whole store.
use mathlib.Core.Path.{◌≡◌}
use lib.Seq.{sets}
use Rattle.text.specs.Digits.{digits}
use Rattle.text.proofs.digits.put_digits.Given as goal

abbrev pub invariant-loop-k : goal.invariant-loop-k
invariant-loop-k l = sets l.buf l.at (digits l.base l.k l.v) ≡ sets l.initial.buf l.at (digits l.base l.count l.w)
