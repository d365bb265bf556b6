-- What the sweep carries from event to event, over any store.
use Rattle.std.specs.Prelude.{Bool, true, false, ◌||◌, List, [], ◌∷◌, ◌++◌, ℕ, set, replicate, Err, Ok, Result}
use Rattle.refusals.specs.declared.Refusal.{Refusal}
use Rattle.neighbours.specs.Neighbours.{Meeting}
use Rattle.sweep.specs.declared.turn.Stop.{Stop}
use Rattle.sweep.specs.declared.turn.Stop.TheVariants.{Going, Ended, Refused}

pub record State (S : Type 0) : Type 0 where
  pub store : S
  -- how many places are in use
  pub used : ℕ
  -- for each place, whether an event there has not been taken; one waits if its place is in use as well
  pub waits : List Bool
  -- left records, from the bottom
  pub status : List ℕ
  -- the events taken, in their order
  pub taken : List ℕ
  -- at some taking another waiting event tied with the one taken
  pub tied : Bool
  pub stop : Stop

-- nothing is taken yet; the first n places are in use
unfoldable pub start : {S : Type 0} → S → (size n : ℕ) → State S
start s size n = record { store = s; used = n; waits = replicate size true; status = []; taken = []; tied = false; stop = Going }

module _ {S : Type 0} (s : State S) where
  unfoldable pub halt : Stop → State S
  halt x = record { store = s.store; used = s.used; waits = s.waits; status = s.status; taken = s.taken; tied = s.tied; stop = x }

  -- another status
  unfoldable pub ranked : List ℕ → State S
  ranked l = record { store = s.store; used = s.used; waits = s.waits; status = l; taken = s.taken; tied = s.tied; stop = s.stop }

  -- event e is taken; whether another ties with it
  unfoldable pub takes : ℕ → Bool → State S
  takes e rival =
      record {
        store = s.store;
        used = s.used;
        waits = set s.waits e false;
        status = s.status;
        taken = s.taken ++ (e ∷ []);
        tied = s.tied || rival;
        stop = s.stop;
      }

-- the next step, unless the run has stopped
unfoldable pub go_on : {S : Type 0} → Stop → State S → (State S → State S) → State S
go_on Going s next = next s
go_on Ended s next = s
go_on (Refused r) s next = s

unfoldable pub and_then : {S : Type 0} → State S → (State S → State S) → State S
and_then s next = go_on s.stop s next

-- ---- what neighbours leave

unfoldable pub stop_by : Result ℕ Refusal → Stop
stop_by (Ok c) = Going
stop_by (Err r) = Refused r

unfoldable pub meets : {S : Type 0} → State S → Meeting S → State S
meets s m = record { store = m.store; used = m.used; waits = s.waits; status = s.status; taken = s.taken; tied = s.tied; stop = stop_by m.met }
