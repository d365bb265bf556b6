-- The checks of records of a lent pool, at binary64.
use Rattle.std.specs.Prelude.{Bool, List, [], ◌∷◌, ℕ, length}
use Rattle.refusals.specs.declared.Reason.{Reason}
use Rattle.refusals.specs.Refusals.{Verdict}
use Rattle.numbers.specs.declared.Point.{Point}
use Rattle.events.specs.Event.{Event}
use Rattle.events.specs.Binary64.{at_binary64}
use Rattle.events.specs.Pool.{Pool, size, row_at}
use Rattle.checks.specs.declared.Fault.{Fault}
use Rattle.checks.specs.declared.Fault.TheVariants.{Unfit, Mistaken, MistakenOrRight}
use Rattle.checks.specs.Checks.{unfit_at, mistaken, mistaken_or_right, told, and_then, sized, checked, named, checked_left}

-- a definition at the records and the places of a pool
abbrev pub on : {A : Type 0} → Pool → ((ℕ → Event Point) → ℕ → A) → A
on p f = f (row_at p) (size p)

-- the reason of the refusal
unfoldable pub reason_of : Fault → Reason
reason_of Unfit = Reason.Coordinate
reason_of Mistaken = Reason.Link
reason_of (MistakenOrRight a b) = Reason.Link

-- the test for it, where the records are those below n
unfoldable pub strikes : Pool → ℕ → Fault → ℕ → Bool
strikes p n Unfit = unfit_at at_binary64 (row_at p) n
strikes p n Mistaken = mistaken at_binary64 (row_at p) n
strikes p n (MistakenOrRight a b) = mistaken_or_right at_binary64 (row_at p) n (a ∷ b ∷ [])

-- 1 for the pool, then 2 and this fault over a list of records
unfoldable pub checked_for : Pool → Fault → List ℕ → Verdict
checked_for p fault rs =
    and_then (sized (length p.points) (length p.marks))
    (and_then (told (reason_of Unfit) (strikes p (size p) Unfit) rs) (told (reason_of fault) (strikes p (size p) fault) rs))

-- 1 for the pool, then 2 and 4 over a list of records
unfoldable pub checked_at : Pool → List ℕ → Verdict
checked_at p rs = and_then (sized (length p.points) (length p.marks)) (on p (checked at_binary64) rs)

-- what an entry checks for the single records that it names
abbrev pub checked_named : Pool → List ℕ → Verdict
checked_named p rs = checked_at p (on p named rs)

-- the same where it wants each of them left
unfoldable pub checked_left_named : Pool → List ℕ → Verdict
checked_left_named p rs = and_then (sized (length p.points) (length p.marks)) (on p (checked_left at_binary64) rs)
