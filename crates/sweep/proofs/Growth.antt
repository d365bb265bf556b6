-- What one event's work leaves as it was: what waits, what was taken and tied, but for one member the status; and but for two places for each division how
-- many places are in use.
use mathlib.Core.Path.{◌≡◌, refl}
use mathlib.Core.Bool.{Bool, true, false, cond}
use mathlib.Core.List.{List}
use Prim.Native.Nat.{ℕ, ◌+◌, ◌≤◌}
use native.Mathlib.Omega.{arith}
use lib.Dec.{eqb, ltb}
use lib.ListN.{length, length-take, length-append, length-drop}
use Rattle.lists.specs.Lists.{slot, remove_at}
use Rattle.lists.proofs.Members.{length-insert}
use Rattle.events.specs.Coordinates.{Coordinates, Crossing}
use Rattle.events.specs.Store.{Store, look}
use Rattle.events.proofs.Stored.{Stored}
use Rattle.class.specs.declared.Operation.{Operation}
use Rattle.neighbours.proofs.Growth.{Grows, grows-still, grows-kept}
use Rattle.sweep.specs.declared.turn.Stop.{Stop}
use Rattle.sweep.specs.declared.turn.Stop.TheVariants.{Going, Ended, Refused}
use Rattle.sweep.specs.State.{State, halt, ranked, go_on, and_then, meets}
use Rattle.sweep_events.specs.Event.{is_below}
use Rattle.sweep.specs.Event.{enter, leave_at, leave, turn}
use Rattle.sweep.proofs.Kept.{store-turn}

-- beside the store
pub record Beside {S : Type 0} (s s' : State S) : Type 0 where
  pub waits : s'.waits ≡ s.waits
  pub taken : s'.taken ≡ s.taken
  pub tied : s'.tied ≡ s.tied
  pub status : length s'.status ≤ length s.status + 1

beside-still : {S : Type 0} (s : State S) → Beside s s
beside-still s = record { waits = refl; taken = refl; tied = refl; status = omega arith }

beside-cond : {S : Type 0} (s : State S) (b : Bool) (x y : State S) → Beside s x → Beside s y → Beside s (cond b x y)
beside-cond s true x y a d = a
beside-cond s false x y a d = d

beside-ranked : {S : Type 0} (s x : State S) (l : List ℕ) → length l ≤ length s.status + 1 → Beside s x → Beside s (and_then x (λ t. ranked t l))
unfolding and_then go_on ranked
beside-ranked s x l h a = go x.stop
  where
    go : (y : Stop) → Beside s (go_on y x (λ t. ranked t l))
    go Going = record { waits = a.waits; taken = a.taken; tied = a.tied; status = h }
    go Ended = a
    go (Refused r) = a

less : (l : List ℕ) (k : ℕ) → length (remove_at l k) ≤ length l + 1
unfolding remove_at
less l k = rw (length-append, length-take, length-drop) (omega arith)

pub beside : {P S : Type 0} (C : Coordinates P) (K : Store P S) (crossing : Crossing P) (op : Operation) (past : P → Bool) (s : State S) (e : ℕ) → Beside s (turn C K crossing op past s e)
unfolding turn halt enter leave leave_at meets ranked
beside C K crossing op past s e =
    let more = length-insert s.status (slot (is_below C K crossing s.store s.used e) s.status) e in
    let k = slot (λ x. eqb x (look K s.store s.used e).partner) s.status in
    beside-cond s (past (look K s.store s.used e).point) _ _ (record { waits = refl; taken = refl; tied = refl; status = omega arith })
    (beside-cond s (look K s.store s.used e).left _ _ (record { waits = refl; taken = refl; tied = refl; status = omega (arith, more) })
    (beside-cond s (ltb k (length s.status)) _ _ (beside-ranked s _ _ (less s.status k) (record { waits = refl; taken = refl; tied = refl; status = omega arith })) (beside-still s)))

-- the store: two places for each division
pub turn-grows : {P S : Type 0} (C : Coordinates P) (K : Store P S) (L : Stored K) (crossing : Crossing P) (op : Operation) (past : P → Bool) (s : S) (n : ℕ) (z : State S) (e : ℕ)
    → Grows K s n z.store z.used → Grows K s n (turn C K crossing op past z e).store (turn C K crossing op past z e).used
turn-grows C K L crossing op past s n z e g = store-turn (λ m t. Grows K s n t m) (grows-kept C K crossing L s n) op past z e g

pub turn-size : {P S : Type 0} (C : Coordinates P) (K : Store P S) (L : Stored K) (crossing : Crossing P) (op : Operation) (past : P → Bool) (s : State S) (e : ℕ)
    → K.size (turn C K crossing op past s e).store ≡ K.size s.store
turn-size C K L crossing op past s e = (turn-grows C K L crossing op past s.store s.used s e (grows-still K s.store s.used)).size
