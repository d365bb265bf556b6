-- The sweep of a lent pool, at binary64 and in a mode of crossing: checks 1, 2 and 4 over all loaded records, then the run. What the lent arrays hold afterwards, refused or not.
use Rattle.std.specs.Prelude.{false, not, cond, ◌||◌, List, ℕ, length, eqb, ltb, Err, Ok}
use Rattle.refusals.specs.Refusals.{Verdict}
use Rattle.std.proofs.lemmas.List.Edits.{sets}
use Rattle.refusals.specs.declared.Refusal.{Refusal}
use Rattle.events.specs.Binary64.{at_binary64, in_mode}
use Rattle.events.specs.Pool.{Pool, row_at, stored}
use Rattle.class.specs.declared.Operation.{Operation}
use Rattle.checks.specs.Checks.{missized, size_refusal, checked, and_then}
use Rattle.checks.specs.Numbers.{numbers_from}
use Rattle.sweep.specs.declared.Swept.{Swept}
use Rattle.sweep.specs.declared.turn.Stop as D
use Rattle.sweep.specs.declared.turn.Stop.TheVariants as Stops
use Rattle.sweep.specs.State.{State}
use Rattle.sweep.specs.Run.{subdivide, divisions}

-- the answer, and what the lent arrays hold
pub record After : Type 0 where
  pub answer : Swept
  pub pool : Pool
  pub taken : List ℕ

abbrev pub after : Swept → Pool → List ℕ → After
after x p taken = record { answer = x; pool = p; taken = taken }

-- 1: the pool's arrays, of which the taken list is one, unequal or above the limit, or more records loaded than there are places
unfoldable pub sizes : (points marks taken loaded : ℕ) → Verdict
sizes points marks taken loaded =
    cond (missized points marks || (not (eqb points taken) || ltb points loaded)) (Err size_refusal) (Ok tt)

unfoldable pub accept : Pool → ℕ → List ℕ → Verdict
accept p n taken =
    and_then (sizes (length p.points) (length p.marks) (length taken) n) (checked at_binary64 (row_at p) n (numbers_from 0 n))

unfoldable pub outcome_of : D.Stop → Verdict
outcome_of Stops.Going = Ok tt
outcome_of Stops.Ended = Ok tt
outcome_of (Stops.Refused r) = Err r

-- the counts, from the taken list and the pool's growth
unfoldable pub answer_of : State Pool → ℕ → Swept
answer_of s n =
    record { taken = length s.taken; divisions = divisions s n; used = s.used; tied = s.tied; outcome = outcome_of s.stop }

-- the taken events from the first place on, the others as lent
unfoldable pub after_run : State Pool → ℕ → List ℕ → After
after_run s n lent = record { answer = answer_of s n; pool = s.store; taken = sets lent 0 s.taken }

unfoldable pub as_lent : Refusal → Pool → ℕ → List ℕ → After
as_lent r p n lent =
    record { answer = record { taken = 0; divisions = 0; used = n; tied = false; outcome = Err r }; pool = p; taken = lent }

unfoldable pub after_checks : Verdict → Operation → (mode : ℕ) → Pool → ℕ → List ℕ → After
after_checks (Ok _) op mode p n lent = after_run (subdivide at_binary64 stored (in_mode mode) op p n) n lent
after_checks (Err r) op mode p n lent = as_lent r p n lent

unfoldable pub subdivide_pool : Operation → (mode : ℕ) → Pool → ℕ → List ℕ → After
subdivide_pool op mode p n taken = after_checks (accept p n taken) op mode p n taken
