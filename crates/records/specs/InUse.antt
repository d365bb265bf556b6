-- The checks where only the first `used` places of a pool are in use. A record named or linked to beyond them is outside, as if the pool ended there.
use Rattle.std.specs.Prelude.{Bool, cond, ◌||◌, List, ℕ, ltb, length, take, Err}
use Rattle.refusals.specs.Refusals.{Verdict}
use Rattle.events.specs.Pool.{Pool, pool}
use Rattle.checks.specs.Checks.{missized, size_refusal}
use Rattle.checks.specs.OnPool.{checked_named, checked_left_named}

-- the records in use, as a pool of their own
unfoldable pub part_in_use : Pool → ℕ → Pool
part_in_use p used = pool (take used p.points) (take used p.marks)

-- refusal 1: of the arrays, or more places in use than there are
unfoldable pub overused : Pool → ℕ → Bool
overused p used = missized (length p.points) (length p.marks) || ltb (length p.points) used

-- 1, then 2 and 4 for the records named and their partners
unfoldable pub checked_in : Pool → ℕ → List ℕ → Verdict
checked_in p used rs = cond (overused p used) (Err size_refusal) (checked_named (part_in_use p used) rs)

-- the same where each of them is wanted left
unfoldable pub checked_left_in : Pool → ℕ → List ℕ → Verdict
checked_left_in p used rs = cond (overused p used) (Err size_refusal) (checked_left_named (part_in_use p used) rs)
