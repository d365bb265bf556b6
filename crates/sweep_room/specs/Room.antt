-- A larger pool and its first places, and what a call leaves in them.
use Rattle.refusals.specs.declared.Reason.TheVariants as Reason
use Rattle.refusals.specs.Refusals.{same_reason}
use Rattle.std.specs.Prelude.{◌≡◌, Bool, false, List, ℕ, ◌≤◌, length, take, eqb, Err, Ok}
use Rattle.refusals.specs.Refusals.{Verdict}
use Rattle.events.specs.Pool.{Pool, pool}
use Rattle.checks.specs.Checks.{max_events}
use Rattle.loading.specs.OnPool as Loads
use Rattle.sweep.specs.OnPool as Sweeps

-- the first n places
abbrev pub first_places : ℕ → Pool → Pool
first_places n p = pool (take n p.points) (take n p.marks)

-- a pool and a taken list for its events, of at least n places
pub record Larger (n : ℕ) (p : Pool) (taken : List ℕ) : Type 0 where
  pub within : n ≤ length p.points
  pub marks : length p.marks ≡ length p.points
  pub takes : length taken ≡ length p.points
  pub few : length p.points ≤ max_events

-- a run that wanted more places
unfoldable pub wants_room : Verdict → Bool
wants_room (Ok _) = false
wants_room (Err r) = same_reason r.reason Reason.Full

-- ---- what a call leaves, looked at in the first n places

unfoldable pub first_of_loaded : ℕ → Loads.After → Loads.After
first_of_loaded n a = Loads.after a.answer (first_places n a.pool)

unfoldable pub first_of_swept : ℕ → Sweeps.After → Sweeps.After
first_of_swept n a = Sweeps.after a.answer (first_places n a.pool) (take n a.taken)
