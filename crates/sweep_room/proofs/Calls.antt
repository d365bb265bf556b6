-- What the two calls leave in the first places of a larger pool is what they leave in a pool of those places alone, unless the sweep of that one wants room.
use Rattle.std.proofs.Common.{Err, Ok}
use Rattle.refusals.specs.Refusals.{Verdict}
use mathlib.Core.Path.{◌≡◌, refl, sym, ap, ◌∙◌}
use mathlib.Core.Bool.{false}
use mathlib.Core.List.{List}
use Prim.Native.Nat.{ℕ, ◌*◌, ◌≤◌}
use native.Mathlib.Omega.{arith}
use lib.ListN.{length, take}
use lib.Seq.{length-take-le}
use borrow.Author.Tests.{eq-eqb, le-ltb}
use Rattle.numbers.specs.declared.Point.{Point}
use Rattle.events.specs.Binary64.{at_binary64, in_mode}
use Rattle.events.specs.Pool.{Pool, size, row_at, stored}
use Rattle.events.proofs.Stored.{pool-stored}
use Rattle.class.specs.declared.Operation.{Operation}
use Rattle.checks.specs.Checks.{max_events, missized, and_then}
use Rattle.loading.specs.Loading.{Edge}
use Rattle.loading.specs.OnPool as Loads
use Rattle.loading.specs.OnPool.{load}
use Rattle.sweep.specs.declared.turn.Stop.{Stop}
use Rattle.sweep.specs.declared.turn.Stop.TheVariants.{Going, Ended, Refused}
use Rattle.sweep.specs.State.{State}
use Rattle.sweep.specs.Run.{divisions}
use Rattle.sweep.specs.OnPool as Sweeps
use Rattle.sweep.specs.OnPool.{sizes, accept, outcome_of, answer_of, after_run, as_lent, after_checks, subdivide_pool}
use Rattle.sweep_room.specs.Room.{first_places, Larger, wants_room, first_of_loaded, first_of_swept}
use Rattle.sweep_room.proofs.Places.{take-sets}
use Rattle.sweep_room.proofs.Runs.{stop_full, front_state}
use Rattle.sweep_room.proofs.Sweeps.{subdivide-front}
use Rattle.sweep_room.proofs.Loaded.{loaded-front}
use Rattle.sweep_room.proofs.Pools.{wide-pool, points-first, marks-first, row_first, pool-front}
use Rattle.sweep_room.proofs.Checked.{checked-alike}

-- ---- loading

-- two arrays of one size within the limit, with two places for each edge
room-passes : (points marks edges : ℕ) → marks ≡ points → points ≤ max_events → 2 * edges ≤ points → Loads.pool_sized points marks edges ≡ Ok tt
unfolding Loads.pool_sized missized
room-passes points marks edges e few room = rw (e, eq-eqb points points refl, le-ltb max_events points few, le-ltb points (2 * edges) room)

module _ (n : ℕ) (p : Pool) where
  after-loading : (c : Verdict) (edges : List (Edge Point)) → Loads.after_checks c edges (first_places n p) ≡ first_of_loaded n (Loads.after_checks c edges p)
  unfolding Loads.after_checks first_of_loaded pool-front
  after-loading (Ok _) edges = ap (Loads.after _) (loaded-front at_binary64 (pool-front n) edges p 0)
  after-loading (Err r) edges = refl

pub load-room : (n : ℕ) (ends : List (List ℕ)) (labels : List (List ℕ)) (p : Pool)
    → n ≤ length p.points → length p.marks ≡ length p.points → length p.points ≤ max_events → 2 * length ends ≤ n
    → load ends labels (first_places n p) ≡ first_of_loaded n (load ends labels p)
unfolding load Loads.accept
load-room n ends labels p within marks few room =
    let large = room-passes (length p.points) (length p.marks) (length ends) marks few (omega arith) in
    let small = room-passes n n (length ends) refl (omega arith) room in
    let wide = wide-pool n p within marks in
    rw (points-first n p wide, marks-first n p wide, small, large) (after-loading n p _ (Loads.edges_of ends labels))

-- ---- the sweep

stop-wants : (x : Stop) → wants_room (outcome_of x) ≡ stop_full x
unfolding wants_room outcome_of stop_full
stop-wants Going = refl
stop-wants Ended = refl
stop-wants (Refused r) = refl

-- three arrays of one size within the limit, with a place for each record
sizes-pass : (points marks taken k : ℕ) → marks ≡ points → taken ≡ points → points ≤ max_events → k ≤ points → sizes points marks taken k ≡ Ok tt
unfolding sizes missized
sizes-pass points marks taken k e f few room = rw (e, f, eq-eqb points points refl, le-ltb max_events points few, le-ltb points k room)

module _ (op : Operation) (mode n : ℕ) (p : Pool) (k : ℕ) (taken : List ℕ) (a : Larger n p taken) (in-first : k ≤ n) where
  wide : n ≤ size p
  wide = wide-pool n p a.within a.marks

  same_check : accept (first_places n p) k (take n taken) ≡ accept p k taken
  unfolding accept and_then
  same_check =
      let w = a.within in
      let few = a.few in
      let large = sizes-pass (length p.points) (length p.marks) (length taken) k a.marks a.takes few (omega arith) in
      let small = sizes-pass n n n k refl refl (omega arith) in-first in
      rw (points-first n p wide, marks-first n p wide, length-take-le n taken (rw a.takes w), small, large)
      (checked-alike at_binary64 (row_at p) (row_at (first_places n p)) k (λ r l. row_first n p wide r (omega arith)))

  after_run_lem : (s s' : State Pool) → s' ≡ front_state (pool-front n) s → after_run s' k (take n taken) ≡ first_of_swept n (after_run s k taken)
  unfolding after_run answer_of divisions first_of_swept front_state pool-front
  after_run_lem s s' e =
      ap (λ (t : State Pool). after_run t k (take n taken)) e
      ∙ ap (Sweeps.after (answer_of s k) (first_places n s.store)) (take-sets n taken 0 s.taken)

  after_first : (c : Verdict) → wants_room (after_checks c op mode (first_places n p) k (take n taken)).answer.outcome ≡ false
      → after_checks c op mode (first_places n p) k (take n taken) ≡ first_of_swept n (after_checks c op mode p k taken)
  unfolding after_checks after_run answer_of as_lent first_of_swept pool-front stored
  after_first (Ok _) h =
      after_run_lem _ _ (subdivide-front at_binary64 pool-stored (pool-front n) (in_mode mode) op p k (record { wide = wide; fits = in-first }) (sym (stop-wants _) ∙ h))
  after_first (Err r) h = refl

pub sweep-room : (op : Operation) (mode n : ℕ) (p : Pool) (k : ℕ) (taken : List ℕ) → Larger n p taken → k ≤ n
    → wants_room (subdivide_pool op mode (first_places n p) k (take n taken)).answer.outcome ≡ false
    → subdivide_pool op mode (first_places n p) k (take n taken) ≡ first_of_swept n (subdivide_pool op mode p k taken)
unfolding subdivide_pool
sweep-room op mode n p k taken a in-first h =
    let same = same_check op mode n p k taken a in-first in
    rw same (after_first op mode n p k taken a in-first (accept p k taken) (rw same at h))
