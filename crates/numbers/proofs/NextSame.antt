-- Numbers that are equal by value have one next_up, -0 and +0 too: it is told by the bits, and after either zero comes the least positive.
use mathlib.Core.Path.{◌≡◌, refl}
use mathlib.Core.Bool.{true}
use Prim.Native.Nat.{ℕ}
use lib.Ieee.{Float, binary64, eq, of_bits}
use Rattle.numbers.specs.Binary64.{Finite}
use Rattle.numbers.specs.Next.{next_pattern, next_up}
use Rattle.numbers.proofs.Equal.{same-of-equals}

pub next-same : (x y : Float) → Finite y → eq x y ≡ true → next_up x ≡ next_up y
unfolding next_pattern next_up
next-same = same-of-equals next_up (λ (b : ℕ). of_bits binary64 (next_pattern b)) (λ s m e. refl) refl
