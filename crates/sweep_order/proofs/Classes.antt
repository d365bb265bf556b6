-- Class follows a renaming: of a renamed record and its renamed lower neighbour, the fields are the renamed fields.
use Rattle.std.proofs.Common.{Option, Some, None}
use mathlib.Core.Path.{◌≡◌, refl}
use mathlib.Core.Bool.{Bool, true, false, cond}
use Prim.Native.Nat.{ℕ}
use Rattle.events.specs.Event.{Event, has_transition}
use Rattle.events.specs.Renaming.{rename_link, rename}
use Rattle.class.specs.declared.Operation.{Operation}
use Rattle.class.specs.Class.{Neighbour, written, below_above, set_from_lower, direction, transition_in, fields}

unfoldable pub rename_neighbour : {P : Type 0} → (ℕ → ℕ) → Neighbour P → Neighbour P
rename_neighbour f k = record { number = f k.number; event = rename f k.event; vertical = k.vertical }

unfoldable pub rename_lower : {P : Type 0} → (ℕ → ℕ) → Option (Neighbour P) → Option (Neighbour P)
rename_lower f None = None
rename_lower f (Some k) = Some (rename_neighbour f k)

module _ {P : Type 0} (f : ℕ → ℕ) (op : Operation) where
  below_above-to : (k : Neighbour P) → below_above (rename_neighbour f k) ≡ rename_link f (below_above k)
  unfolding below_above rename_neighbour rename rename_link
  below_above-to k = go k.vertical (has_transition k.event.transition)
    where
      go : (v t : Bool) → cond v (rename_link f k.event.below) (cond t (Some (f k.number)) (rename_link f k.event.below))
          ≡ rename_link f (cond v k.event.below (cond t (Some k.number) k.event.below))
      go true t = refl
      go false true = refl
      go false false = refl

  pub fields-to : (e : Event P) (lower : Option (Neighbour P)) → fields op (rename f e) (rename_lower f lower) ≡ rename f (fields op e lower)
  unfolding fields set_from_lower written transition_in direction rename_lower rename_neighbour rename rename_link
  fields-to e None = refl
  fields-to e (Some k) = rw (below_above-to k)
