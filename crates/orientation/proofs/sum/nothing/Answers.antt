-- Words of zero are small and come to zero.
use Prim.Native.Nat.{ℕ}
use native.Mathlib.Omega.{arith}
use lib.ListN.{length-replicate}
use Rattle.orientation.specs.Words.{words}
use Rattle.orientation.proofs.Carries.{value-zeros, small-zeros}
use Rattle.orientation.proofs.sum.nothing.Goals as goal

pub returns : goal.returns
returns c = record {
  long = record { all = length-replicate {A = ℕ} words 0; small = small-zeros words };
  room = omega (arith, value-zeros words);
}
