-- The code's turn beside its arrays, as a state of the sweep, and the turns that it makes.
use Rattle.std.specs.Prelude.{Bool, true, false, cond, ◌||◌, List, [], ◌∷◌, ◌≡◌, ℕ, zero, suc, ◌+◌, ◌≤◌, length, take, drop, replicate, Result}
use Rattle.refusals.specs.declared.Refusal.{Refusal}
use Rattle.events.specs.Binary64.{at_binary64}
use Rattle.events.specs.Pool.{Pool, stored}
use Rattle.checks.specs.Checks.{max_events}
use Rattle.sweep.specs.declared.turn.Turn.{Turn}
use Rattle.sweep.specs.declared.turn.Stop.{Stop}
use Rattle.sweep.specs.declared.turn.Stop.TheVariants.{Going, Ended, Refused}
use Rattle.sweep.specs.State.{State, stop_by}
use Rattle.sweep.specs.Lined.{Lined}

-- with the members of the status and the events taken
abbrev pub state : Pool → List Bool → List ℕ → List ℕ → Turn → State Pool
state p waits status taken t =
    record { store = p; used = t.used; waits = waits; status = status; taken = taken; tied = t.tied; stop = t.stop }

-- ---- the turns

-- nothing is taken yet
unfoldable pub start_turn : ℕ → Turn
start_turn n = record { used = n; members = 0; waiting = 0; count = 0; tied = false; stop = Going }

-- the run has come to its end
unfoldable pub ended_turn : Turn → Turn
ended_turn t = record { used = t.used; members = t.members; waiting = t.waiting; count = t.count; tied = t.tied; stop = Ended }

-- an event is taken; whether another ties with it
unfoldable pub taken_turn : Turn → Bool → Turn
taken_turn t rival = record { used = t.used; members = t.members; waiting = t.waiting; count = t.count + 1; tied = t.tied || rival; stop = t.stop }

-- after a meeting, with this many members
unfoldable pub met_turn : Turn → ℕ → ℕ → Result ℕ Refusal → Turn
met_turn t members used met = record { used = used; members = members; waiting = t.waiting; count = t.count; tied = t.tied; stop = stop_by met }

-- with this many in the queue
unfoldable pub lined_turn : Turn → ℕ → Turn
lined_turn t n = record { used = t.used; members = t.members; waiting = n; count = t.count; tied = t.tied; stop = t.stop }

unfoldable pub is_stopped : Stop → Bool
is_stopped Going = false
is_stopped Ended = true
is_stopped (Refused r) = true

-- ---- what keeps within the arrays

-- the flags that are true
unfoldable pub trues : List Bool → ℕ
trues [] = zero
trues (b ∷ l) = cond b (suc (trues l)) (trues l)

-- Each place is taken or still waits, and no more are in the status than were taken.
pub record Fits (waits : List Bool) (status taken : List ℕ) (t : Turn) : Type 0 where
  pub counted : trues waits + t.count ≡ length taken
  pub ranked : t.members ≤ t.count
  pub room : length taken ≤ length status
  pub few : length status ≤ max_events

-- The queue stands in the first places of its array, which has one for every place of the pool and no more than a pool can have.
pub record Queues (p : Pool) (waits : List Bool) (queue : List ℕ) (t : Turn) : Type 0 where
  pub lined : Lined at_binary64 stored (state p waits [] [] t) (take t.waiting queue)
  pub within : t.waiting ≤ length queue
  pub room : stored.size p ≤ length queue
  pub few : length queue ≤ max_events

-- Arrays for the run of a pool of n places: of one length, at least n and no more than a pool can have; every flag is set.
pub record Lends (n : ℕ) (waits : List Bool) (queue status : List ℕ) : Type 0 where
  pub places : ℕ
  pub room : n ≤ places
  pub few : places ≤ max_events
  pub flags : waits ≡ replicate places true
  pub queued : length queue ≡ places
  pub ranked : length status ≡ places

-- A change of pool, status and turn is the definition's, whatever waits and was taken.
pub record Does (f : State Pool → State Pool) (p : Pool) (status : List ℕ) (t : Turn) (p' : Pool) (status' : List ℕ) (t' : Turn) : Type 0 where
  pub is : (waits : List Bool) (taken : List ℕ) → state p' waits status' taken t' ≡ f (state p waits status taken t)

-- one event's work: none is taken, and at most one segment enters
pub record Worked (t r : Turn) : Type 0 where
  pub count : r.count ≡ t.count
  pub members : r.members ≤ t.members + 1

-- the places of the taken list beyond its events are as they were
pub record Beyond (before after : List ℕ) (t r : Turn) : Type 0 where
  pub more : t.count ≤ r.count
  pub rest : drop r.count after ≡ drop r.count before
