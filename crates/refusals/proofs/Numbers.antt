-- No two reasons have one number, and each is a 64-bit word.
use Rattle.std.proofs.Common.{◌≡◌, ℕ, ◌<◌, ◌≢◌, cond, eqb, refl, sym, ap, ◌∙◌, arith}
use Rattle.refusals.specs.declared.Reason.{Reason}
use Rattle.refusals.specs.Refusals.{number}

-- the reason that a number tells
reason_of : ℕ → Reason
reason_of n =
    cond (eqb n 1) Reason.Size
    (cond (eqb n 2) Reason.Coordinate
    (cond (eqb n 3) Reason.Ends
    (cond (eqb n 4) Reason.Link
    (cond (eqb n 5) Reason.Room
    (cond (eqb n 6) Reason.Full
    (cond (eqb n 7) Reason.Cut
    (cond (eqb n 8) Reason.HalfEdge
    (cond (eqb n 9) Reason.Loose Reason.Malformed))))))))

told-again : (reason : Reason) → reason_of (number reason) ≡ reason
unfolding reason_of
told-again Reason.Size = refl
told-again Reason.Coordinate = refl
told-again Reason.Ends = refl
told-again Reason.Link = refl
told-again Reason.Room = refl
told-again Reason.Full = refl
told-again Reason.Cut = refl
told-again Reason.HalfEdge = refl
told-again Reason.Loose = refl
told-again Reason.Malformed = refl

pub number-apart : (a b : Reason) → number a ≡ number b → a ≡ b
number-apart a b e = sym (told-again a) ∙ ap reason_of e ∙ told-again b

pub number-small : (reason : Reason) → number reason < 18446744073709551616
number-small Reason.Size = omega arith
number-small Reason.Coordinate = omega arith
number-small Reason.Ends = omega arith
number-small Reason.Link = omega arith
number-small Reason.Room = omega arith
number-small Reason.Full = omega arith
number-small Reason.Cut = omega arith
number-small Reason.HalfEdge = omega arith
number-small Reason.Loose = omega arith
number-small Reason.Malformed = omega arith

-- reasons of other numbers are other reasons
pub reason-ne : {a b : Reason} → number a ≢ number b → a ≢ b
reason-ne h e = h (ap number e)
