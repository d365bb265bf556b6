-- What one event does, over any kind of coordinate, any store and any crossing: its segment enters the status or leaves it, and new neighbours meet.
use Rattle.std.specs.Prelude.{Bool, cond, ℕ, suc, ◌-◌, length, eqb, ltb}
use Rattle.lists.specs.Lists.{slot, insert_at, remove_at}
use Rattle.events.specs.Coordinates.{Coordinates, Crossing}
use Rattle.events.specs.Store.{Store, look}
use Rattle.class.specs.declared.Operation.{Operation}
use Rattle.status.specs.Status.{member, below}
use Rattle.sweep_events.specs.Event.{between, close_up, is_below}
use Rattle.sweep.specs.declared.turn.Stop.TheVariants.{Ended}
use Rattle.sweep.specs.State.{State, halt, ranked, and_then, meets}

module _ {P S : Type 0} (C : Coordinates P) (K : Store P S) (crossing : Crossing P) where
  -- the member at a place goes when its neighbours have met
  unfoldable pub leave_at : State S → ℕ → State S
  leave_at s k =
      let l = s.status in
      and_then (meets s (close_up C K crossing s.store s.used (below l k) (member l (suc k)))) (λ t. ranked t (remove_at l k))

  -- left record o, if it is a member
  unfoldable pub leave : State S → ℕ → State S
  leave s o = let k = slot (λ x. eqb x o) s.status in cond (ltb k (length s.status)) (leave_at s k) s

  module _ (op : Operation) where
    -- below the first member, from the bottom, that it compares less than
    unfoldable pub enter : State S → ℕ → State S
    enter s e =
        let l = s.status in
        let k = slot (is_below C K crossing s.store s.used e) l in
        meets (ranked s (insert_at l k e)) (between C K op crossing s.store s.used e (below l k) (member l k) (below l (k - 1)))

    -- ---- either, unless the event lies past all that matters

    module _ (past : P → Bool) where
      unfoldable pub turn : State S → ℕ → State S
      turn s e =
          let f = look K s.store s.used e in
          cond (past f.point) (halt s Ended) (cond f.left (enter s e) (leave s f.partner))
