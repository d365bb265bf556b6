-- The queue in the code's arrays, at binary64: what it tells of a state, and that it stays a queue.
use Rattle.std.proofs.Common.{Ok, Some}
use mathlib.Core.Path.{◌≡◌, sym, ap, ◌∙◌, subst}
use mathlib.Core.Bool.{Bool, true}
use mathlib.Core.List.{List, []}
use Prim.Native.Nat.{ℕ, zero, suc, ◌-◌, ◌<◌, ◌≤◌}
use native.Mathlib.Nat.{zero-add}
use native.Mathlib.Omega.{arith}
use lib.ListN.{length, take, replicate}
use lib.Seq.{length-take-le, take-take}
use Rattle.numbers.specs.declared.Point.{Point}
use Rattle.events.specs.Binary64.{at_binary64}
use Rattle.events.specs.Coordinates.{Crossing}
use Rattle.events.specs.Pool.{Pool, row_at, stored}
use Rattle.events.specs.Store.{look}
use Rattle.events.proofs.Stored.{pool-stored}
use Rattle.events.proofs.Looks.{pool-blanks}
use Rattle.class.specs.declared.Operation.{Operation}
use Rattle.checks.specs.Checks.{max_events}
use Rattle.checks.specs.Numbers.{numbers_from}
use Rattle.checks.specs.Sound as Checked
use Rattle.checks.proofs.Told.{both-passed}
use Rattle.checks.proofs.Passed.{checked-passed}
use Rattle.checks.proofs.Lowest.{length-numbers, number_at}
use Rattle.division.proofs.AtBinary64.{move-laws}
use Rattle.status.specs.Status.{below}
use Rattle.waiting.specs.Waiting.{flagged, before_used}
use Rattle.waiting.specs.Queue.{ties_with, requeued}
use Rattle.sweep.specs.declared.turn.Turn.{Turn}
use Rattle.sweep.specs.State.{State, start, takes}
use Rattle.sweep.specs.Event.{turn}
use Rattle.sweep.specs.Run.{is_before, next, is_tied, step_by, step}
use Rattle.sweep.specs.Lined.{Good, Lined}
use Rattle.sweep.specs.OnPool.{sizes, accept}
use Rattle.sweep.specs.Turn.{state, start_turn, ended_turn, lined_turn, Queues}
use Rattle.sweep.proofs.Growth.{turn-size}
use Rattle.sweep.proofs.Good.{good-checked}
use Rattle.sweep.proofs.Sweeps.{loaded-within}
use Rattle.sweep.proofs.Lines.{lined-next, lined-tie, lined-step, lined-start}

-- ---- what the checks leave

module _ (p : Pool) (n : ℕ) (taken : List ℕ) (h : accept p n taken ≡ Ok tt) where
  each-sound : (r : ℕ) → r < n → Checked.Sound at_binary64 (row_at p) n r
  unfolding accept
  each-sound r l =
      let all = checked-passed at_binary64 (row_at p) n (numbers_from 0 n) (both-passed (sizes (length p.points) (length p.marks) (length taken) n) _ h).1 in
      let long = length-numbers 0 n in
      subst (Checked.Sound at_binary64 (row_at p) n) (number_at 0 n r l ∙ zero-add r) (all r (omega arith))

  pub good-accepted : Good at_binary64 stored p n
  unfolding stored
  good-accepted = good-checked at_binary64 stored p n (loaded-within p n taken h) each-sound

-- the queue after the records from `from` up to `used` came into use
abbrev pub relined : (p : Pool) (w : List Bool) (from used room : ℕ) → List ℕ → List ℕ
relined p w from used room l = requeued (λ i. (look stored p used i).partner) from (flagged w) (before_used p used) room (used - from) l

-- ---- what the queue tells, whatever the status holds and was taken

module _ {p : Pool} {w : List Bool} {queue : List ℕ} {t : Turn} (q : Queues p w queue t) (status taken : List ℕ) where
  abbrev here : State Pool
  here = state p w status taken t

  abbrev line : List ℕ
  line = take t.waiting queue

  lined-here : Lined at_binary64 stored here line
  unfolding is_before
  lined-here = let h = q.lined in record { good = h.good; queued = h.queued; fresh = h.fresh }

  as_many : length line ≡ t.waiting
  as_many = length-take-le t.waiting queue q.within

  pub next-at : below line t.waiting ≡ next at_binary64 stored here
  next-at = ap (below line) (sym as_many) ∙ lined-next move-laws pool-stored pool-blanks lined-here

  pub tie-at : (e : ℕ) → next at_binary64 stored here ≡ Some e → ties_with (before_used p t.used) e (below line (t.waiting - 1)) ≡ is_tied at_binary64 stored here e
  unfolding is_before before_used
  tie-at e n = ap (λ k. ties_with (before_used p t.used) e (below line (k - 1))) (sym as_many) ∙ lined-tie move-laws pool-stored pool-blanks lined-here e n

  -- where an event is to be taken, the queue is not empty
  pub some-wait : (e : ℕ) → next at_binary64 stored here ≡ Some e → 0 < t.waiting
  unfolding below
  some-wait e n = go t.waiting (next-at ∙ n)
    where
      go : (k : ℕ) → below line k ≡ Some e → 0 < k
      go zero h = absurd (let z : ◌≡◌ {A = ℕ} 0 1 = cc in omega arith)
      go (suc k) h = omega arith

  -- ---- after a step in which event e is taken

  module _ (crossing : Crossing Point) (op : Operation) (past : Point → Bool) (e : ℕ) (n : next at_binary64 stored here ≡ Some e) where
    abbrev there : State Pool
    there = turn at_binary64 stored crossing op past (takes here e (is_tied at_binary64 stored here e)) e

    same_size : stored.size there.store ≡ stored.size p
    unfolding takes
    same_size = turn-size at_binary64 stored pool-stored crossing op past (takes here e (is_tied at_binary64 stored here e)) e

    lined-there : Lined at_binary64 stored there (relined there.store there.waits t.used there.used (length queue) (take (t.waiting - 1) queue))
    unfolding is_before before_used
    lined-there =
        let shorter : take (length line - 1) line ≡ take (t.waiting - 1) queue = ap (λ k. take (k - 1) line) as_many ∙ take-take (t.waiting - 1) t.waiting queue (omega arith) in
        subst (λ l. Lined at_binary64 stored there (relined there.store there.waits t.used there.used (length queue) l)) shorter
        (lined-step move-laws pool-stored pool-blanks crossing op past here line (length queue) lined-here q.room e (is_tied at_binary64 stored here e) n)

    pub step-at : (p' : Pool) (w' : List Bool) (queue' status' taken' : List ℕ) (r : Turn) → state p' w' status' taken' r ≡ step at_binary64 stored crossing op past here
        → take r.waiting queue' ≡ relined p' w' t.used r.used (length queue) (take (t.waiting - 1) queue) → r.waiting ≤ length queue' → length queue' ≡ length queue → Queues p' w' queue' r
    unfolding step step_by is_before
    step-at p' w' queue' status' taken' r is line' within long =
        let same : there ≡ state p' w' status' taken' r = sym (is ∙ ap (step_by at_binary64 stored crossing op past here) n) in
        let x = subst (λ (z : State Pool). Lined at_binary64 stored z (relined z.store z.waits t.used z.used (length queue) (take (t.waiting - 1) queue))) same lined-there in
        let size = ap (λ (z : State Pool). stored.size z.store) (sym same) ∙ same_size in
        let room = q.room in
        let few = q.few in
        record {
          lined = subst (Lined at_binary64 stored (state p' w' [] [] r)) (sym line') (record { good = x.good; queued = x.queued; fresh = x.fresh });
          within = within;
          room = omega arith;
          few = omega arith;
        }

-- the run has ended
pub ended_at : {p : Pool} {w : List Bool} {queue : List ℕ} {t : Turn} → Queues p w queue t → Queues p w queue (ended_turn t)
unfolding ended_turn is_before
ended_at q = let h = q.lined in record { lined = record { good = h.good; queued = h.queued; fresh = h.fresh }; within = q.within; room = q.room; few = q.few }

-- ---- at the start

module _ (p : Pool) (n : ℕ) (taken : List ℕ) (h : accept p n taken ≡ Ok tt) where
  lined-first : (room m : ℕ) → stored.size p ≤ room → let w = replicate (stored.size p) true in Lined at_binary64 stored (state p w [] [] (lined_turn (start_turn n) m)) (relined p w 0 n room [])
  unfolding start start_turn lined_turn is_before before_used
  lined-first room m fits =
      let x = lined-start move-laws pool-stored pool-blanks p n room (good-accepted p n taken h) fits in
      let none : n - 0 ≡ n = omega arith in
      rw none (record { good = x.good; queued = x.queued; fresh = x.fresh })

  pub start-at : (queue queue' : List ℕ) (w : List Bool) (m : ℕ) (r : Turn) → w ≡ replicate (stored.size p) true → r ≡ lined_turn (start_turn n) m
      → take m queue' ≡ relined p w 0 n (length queue) (take 0 queue) → m ≤ length queue' → length queue' ≡ length queue → (stored.size p ≤ length queue) × (length queue ≤ max_events) → Queues p w queue' r
  unfolding lined_turn
  start-at queue queue' w m r all is told within same fits =
      let x = subst (λ v. Lined at_binary64 stored (state p v [] [] (lined_turn (start_turn n) m)) (relined p v 0 n (length queue) [])) (sym all) (lined-first (length queue) m fits.0) in
      rw is (record { lined = rw told x; within = within; room = omega (arith, same, fits.0); few = omega (arith, same, fits.1) })
