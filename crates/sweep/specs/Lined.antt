-- What holds at each event of a sweep of accepted records, so that a queue tells what the scans over all waiting events would.
use Rattle.std.specs.Prelude.{◌≡◌, true, List, ℕ, ◌<◌, ◌≤◌}
use Rattle.events.specs.Coordinates.{Coordinates}
use Rattle.events.specs.Event.{Event}
use Rattle.events.specs.Store.{Store, look}
use Rattle.order.specs.Order.{on_side}
use Rattle.order.specs.Keys.{key_of}
use Rattle.division.specs.Records.{Paired}
use Rattle.waiting.specs.Waiting.{flagged}
use Rattle.waiting.specs.Queue.{Queued}
use Rattle.sweep.specs.State.{State}
use Rattle.sweep.specs.Run.{is_before}

-- record r of the first n: its partner is mutual and on its proper side, and its point fits
pub record Sound {P : Type 0} (C : Coordinates P) (row : ℕ → Event P) (n r : ℕ) : Type 0 where
  pub paired : Paired row n r
  pub side : on_side C (key_of row r) ≡ true
  pub fit : C.fit (row r).point ≡ true

pub record Good {P S : Type 0} (C : Coordinates P) (K : Store P S) (s : S) (used : ℕ) : Type 0 where
  pub fits : used ≤ K.size s
  pub sound : (r : ℕ) → r < used → Sound C (look K s used) used r

-- l is the queue of what waits, and whatever comes into use waits
pub record Lined {P S : Type 0} (C : Coordinates P) (K : Store P S) (s : State S) (l : List ℕ) : Type 0 where
  pub good : Good C K s.store s.used
  pub queued : Queued (flagged s.waits) (is_before C K s) s.used l
  pub fresh : (r : ℕ) → s.used ≤ r → r < K.size s.store → flagged s.waits r ≡ true
