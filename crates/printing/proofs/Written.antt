-- A refusal is printed as it is written by `{}`, with a line feed after it.
use mathlib.Core.Path.{◌≡◌, refl}
use mathlib.Core.List.{[], ◌∷◌, ◌++◌, append_assoc}
use Prim.Native.Nat.{◌<◌, ◌^◌}
use native.Mathlib.Omega.{arith}
use Rattle.refusals.specs.declared.Refusal.{Refusal}
use Rattle.refusals.specs.Refusals.{number, refusal_text}
use Rattle.refusals.proofs.Numbers.{number-small}
use Rattle.text.specs.Quoted.{quoted}
use Rattle.text.proofs.Decimal.{decimal-std}
use Rattle.sheet.specs.Sheet.{count_line}
use Rattle.printing.specs.Printing.{refused_line, refusal_line}

pub refusal-written : (r : Refusal) → r.place < 2 ^ 64 → refusal_line r ≡ refusal_text r ++ (10 ∷ [])
unfolding refusal_line refused_line count_line quoted
refusal-written r h = rw (decimal-std (number r.reason) (omega (arith, number-small r.reason)), decimal-std r.place h) (simp append_assoc refl)
