-- One step and the run: events are taken until none waits, one lies past all that matters, or one is refused.
use Rattle.std.specs.Prelude.{Bool, ℕ, zero, suc, ◌-◌, ◌/◌, None, Option, Some}
use Rattle.events.specs.Coordinates.{Coordinates, Crossing}
use Rattle.events.specs.Store.{Store}
use Rattle.order.specs.Order.{before}
use Rattle.order.specs.Keys.{key_used}
use Rattle.class.specs.declared.Operation.{Operation}
use Rattle.waiting.specs.Waiting.{first, rivalled, flagged}
use Rattle.sweep.specs.declared.turn.Stop.TheVariants.{Ended}
use Rattle.sweep.specs.State.{State, start, halt, takes, go_on}
use Rattle.sweep.specs.Bounds.{past}
use Rattle.sweep.specs.Event.{turn}

module _ {P S : Type 0} (C : Coordinates P) (K : Store P S) where
  unfoldable pub is_before : State S → ℕ → ℕ → Bool
  is_before s a b = before C (key_used K s.store s.used a) (key_used K s.store s.used b)

  -- the event to be taken
  unfoldable pub next : State S → Option ℕ
  next s = first (flagged s.waits) (is_before s) s.used

  -- another waiting event ties with e
  unfoldable pub is_tied : State S → ℕ → Bool
  is_tied s e = rivalled (flagged s.waits) (is_before s) e s.used

  module _ (crossing : Crossing P) (op : Operation) (past : P → Bool) where
    unfoldable pub step_by : State S → Option ℕ → State S
    step_by s None = halt s Ended
    step_by s (Some e) = turn C K crossing op past (takes s e (is_tied s e)) e

    unfoldable pub step : State S → State S
    step s = step_by s (next s)

    -- at most k steps
    unfoldable pub run : ℕ → State S → State S
    run zero s = s
    run (suc k) s = go_on s.stop s (λ t. run k (step t))

  -- The sweep of the first n records. Each step but the last takes an event, and each place is taken once, so that a run of one step more than there
  -- are places has come to its end (proofs/Ends.antt).
  unfoldable pub subdivide : Crossing P → Operation → S → ℕ → State S
  subdivide crossing op s n = run crossing op (past C op (K.row_at s) n) (suc (K.size s)) (start s (K.size s) n)

-- the divisions made: the pool has grown by two records for each (proofs/Ends.antt)
unfoldable pub divisions : {S : Type 0} → State S → ℕ → ℕ
divisions s n = (s.used - n) / 2
