-- What a refused call tells.
use Rattle.std.specs.Prelude.{ℕ, Bool, List, eqb, Result, Ok, codes, ◌++◌}
use Rattle.std.specs.Fmt.{decimal}
use Rattle.refusals.specs.declared.Reason.{Reason}
use Rattle.refusals.specs.declared.Refusal.{Refusal}

-- the number by which C and the printed line tell a reason
abbrev pub number : Reason → ℕ
number Reason.Size = 1
number Reason.Coordinate = 2
number Reason.Ends = 3
number Reason.Link = 4
number Reason.Room = 5
number Reason.Full = 6
number Reason.Cut = 7
number Reason.HalfEdge = 8
number Reason.Loose = 9
number Reason.Malformed = 10

-- whether two reasons are one
abbrev pub same_reason : Reason → Reason → Bool
same_reason a b = eqb (number a) (number b)

-- what a call without a result of its own tells: it is done, or refused
abbrev pub Verdict : Type 0
Verdict = Result (Unit {0}) Refusal

-- it is done
abbrev pub passed : Verdict
passed = Ok tt

-- how a refusal is written
abbrev pub refusal_text : Refusal → List ℕ
refusal_text r = codes "refused " ++ (decimal (number r.reason) ++ (codes " at " ++ decimal r.place))
