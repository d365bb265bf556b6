-- What one event does to the records, over any kind of coordinate, any store and any crossing: its class, and its meetings with its neighbours in the
-- status; and which members of the status it lies below.
use Rattle.std.specs.Prelude.{Bool, true, false, cond, ℕ, eqb, Option, Some, None, Err, Ok, Result}
use Rattle.refusals.specs.declared.Refusal.{Refusal}
use Rattle.std.specs.declared.cmp.Ordering.{Ordering}
use Rattle.std.specs.declared.cmp.Ordering.TheVariants.{Equal, Greater, Less}
use Rattle.events.specs.Coordinates.{Coordinates, Crossing}
use Rattle.events.specs.Store.{Store, look}
use Rattle.order.specs.Keys.{key_used}
use Rattle.segments.specs.Segments.{compare_segments}
use Rattle.class.specs.declared.Operation.{Operation}
use Rattle.class.specs.Class.{Neighbour, fields}
use Rattle.neighbours.specs.Neighbours.{Meeting, meeting, meet}

-- code 2 tells that edge types have changed
unfoldable pub is_two : Result ℕ Refusal → Bool
is_two (Ok c) = eqb c 2
is_two (Err r) = false

-- what follows a meeting that was not refused
unfoldable pub afterwards : {S : Type 0} → Result ℕ Refusal → Meeting S → (S → ℕ → Meeting S) → Meeting S
afterwards (Ok c) m next = next m.store m.used
afterwards (Err r) m next = m

unfoldable pub is_less : Ordering → Bool
is_less Less = true
is_less Equal = false
is_less Greater = false

module _ {P S : Type 0} (C : Coordinates P) (K : Store P S) where
  -- ---- class: record e anew from its lower neighbour

  unfoldable pub neighbour_in : S → ℕ → ℕ → Neighbour P
  neighbour_in s used n =
      let f = look K s used n in
      record { number = n; event = f; vertical = C.same_x f.point (look K s used f.partner).point }

  unfoldable pub lower_in : S → ℕ → Option ℕ → Option (Neighbour P)
  lower_in s used None = None
  lower_in s used (Some n) = Some (neighbour_in s used n)

  module _ (op : Operation) where
    unfoldable pub classified : S → ℕ → ℕ → Option ℕ → S
    classified s used e lower = K.store s e (fields op (look K s used e) (lower_in s used lower))

    -- both classed again from the bottom up: a from its lower neighbour, then b from a
    abbrev pub both_classified : S → ℕ → ℕ → Option ℕ → ℕ → S
    both_classified s used a lower b = classified (classified s used a lower) used b (Some a)

    -- after code 2
    unfoldable pub reclassed : Meeting S → ℕ → Option ℕ → ℕ → Meeting S
    reclassed m a lower b = cond (is_two m.met) (meeting (both_classified m.store m.used a lower b) m.used m.met) m

    -- the store alone, whatever tells that edge types have changed
    unfoldable pub classed_again : Bool → S → ℕ → ℕ → Option ℕ → ℕ → S
    classed_again changed s used a lower b = cond changed (both_classified s used a lower b) s

    module _ (crossing : Crossing P) where
      -- ---- a left event e and its neighbours in the status

      -- the neighbour above
      unfoldable pub with_upper : S → ℕ → ℕ → Option ℕ → Option ℕ → Meeting S
      with_upper s used e lower None = meeting s used (Ok 0)
      with_upper s used e lower (Some n) = reclassed (meet C K crossing s used e n) e lower n

      -- the neighbour below, whose own lower neighbour is `lowest`
      unfoldable pub with_lower : S → ℕ → ℕ → Option ℕ → Option ℕ → Meeting S
      with_lower s used e None lowest = meeting s used (Ok 0)
      with_lower s used e (Some p) lowest = reclassed (meet C K crossing s used p e) p lowest e

      unfoldable pub between : S → ℕ → ℕ → Option ℕ → Option ℕ → Option ℕ → Meeting S
      between s used e lower upper lowest =
          let m = with_upper (classified s used e lower) used e lower upper in
          afterwards m.met m (λ t n. with_lower t n e lower lowest)

  module _ (crossing : Crossing P) where
    -- ---- the two neighbours of a segment that leaves

    unfoldable pub close_up : S → ℕ → Option ℕ → Option ℕ → Meeting S
    close_up s used None upper = meeting s used (Ok 0)
    close_up s used (Some p) None = meeting s used (Ok 0)
    close_up s used (Some p) (Some n) = meet C K crossing s used p n

    -- left record e compares less than member x
    unfoldable pub is_below : S → ℕ → ℕ → ℕ → Bool
    is_below s used e x = cond (eqb e x) false (is_less (compare_segments C crossing (key_used K s used e) (key_used K s used x)))
