-- Two runs side by side: where what one event does is alike (`sweep_events`), and the event taken at each step is, so are the runs. The walk's last part.
use Rattle.std.proofs.Common.{None, Some}
use mathlib.Core.Path.{◌≡◌, refl, ap}
use mathlib.Core.Bool.{Bool, false, ◌||◌}
use mathlib.Core.List.{List}
use Prim.Native.Nat.{ℕ, zero, suc, ◌-◌}
use lib.ListN.{length, set}
use lib.Dec.{eqb, ltb}
use Rattle.lists.specs.Lists.{slot}
use Rattle.events.specs.Coordinates.{Coordinates, Crossing}
use Rattle.events.specs.Event.{Key, key}
use Rattle.events.specs.Store.{Store, look}
use Rattle.order.specs.Keys.{key_of, key_used}
use Rattle.class.specs.declared.Operation.{Operation}
use Rattle.neighbours.proofs.Likeness.{Likeness, StoresAlike, NumbersAlike}
use Rattle.neighbours.proofs.Keyed.{Keyed}
use Rattle.sweep_events.specs.Event.{is_below}
use Rattle.sweep_events.proofs.Walk.{EventLaws, alike-close_up, alike-between}
use Rattle.sweep_events.proofs.Adapters.{ClassesAlike, keyed-events}
use Rattle.sweep.specs.declared.turn.Stop.{Stop}
use Rattle.sweep.specs.declared.turn.Stop.TheVariants.{Going}
use Rattle.sweep.specs.State.{State, halt, ranked, takes, go_on}
use Rattle.sweep.specs.Event.{enter, leave_at, leave, turn}
use Rattle.sweep.specs.Run.{next, is_tied, step_by, step, run}
use Rattle.sweep.proofs.Abreast.{empty, joined, lists-long, lists-member, lists-below, lists-append, lists-insert, lists-remove, lists-slot, going, ended, refused, Abreast, on, StatesAlike, together, gone, states-cond, abreast-ranked, states-meet, states-ranked}

-- ---- what is asked

-- the event to be taken, in two states
pub data NextAlike {P S P' S' : Type 0} (B : Likeness P S P' S') (C : Coordinates P) (K : Store P S) (C' : Coordinates P') (K' : Store P' S') (z : State S) (z' : State S') : Type 0 where
  over : next C K z ≡ None → next C' K' z' ≡ None → NextAlike B C K C' K' z z'
  takes-up : {e e' : ℕ} → next C K z ≡ Some e → next C' K' z' ≡ Some e' → NumbersAlike B z.used e e' → is_tied C' K' z' e' ≡ is_tied C K z e → NextAlike B C K C' K' z z'

-- what one event asks beside classes and meetings
pub record TurnLaws {P S P' S' : Type 0} (B : Likeness P S P' S') (op : Operation) (C : Coordinates P) (K : Store P S) (crossing : Crossing P) (past : P → Bool)
    (op' : Operation) (C' : Coordinates P') (K' : Store P' S') (crossing' : Crossing P') (past' : P' → Bool) : Type 0 where
  pub events : EventLaws B op C K crossing op' C' K' crossing'
  pub lefts : {n : ℕ} {s : S} {s' : S'} {e e' : ℕ} → StoresAlike B n s s' → NumbersAlike B n e e' → (look K' s' n e').left ≡ (look K s n e).left
  pub lates : {n : ℕ} {s : S} {s' : S'} {e e' : ℕ} → StoresAlike B n s s' → NumbersAlike B n e e' → past' (look K' s' n e').point ≡ past (look K s n e).point
  pub mates : {n : ℕ} {s : S} {s' : S'} {e e' x x' : ℕ} → StoresAlike B n s s' → NumbersAlike B n e e' → NumbersAlike B n x x' → eqb x' (look K' s' n e').partner ≡ eqb x (look K s n e).partner

-- .. and what a run asks, while `Calm` holds of the first with so many steps to go
pub record RunLaws {P S P' S' : Type 0} (B : Likeness P S P' S') (F : List Bool → List Bool → Type 0) (op : Operation) (C : Coordinates P) (K : Store P S) (crossing : Crossing P) (past : P → Bool)
    (op' : Operation) (C' : Coordinates P') (K' : Store P' S') (crossing' : Crossing P') (past' : P' → Bool) (Calm : ℕ → State S → Type 0) : Type 0 where
  pub turns : TurnLaws B op C K crossing past op' C' K' crossing' past'
  pub downs : {n : ℕ} {w w' : List Bool} {e e' : ℕ} → F w w' → NumbersAlike B n e e' → F (set w e false) (set w' e' false)
  pub nexts : {k : ℕ} {z : State S} {z' : State S'} → Abreast B F z z' → z.stop ≡ Going → Calm (suc k) z → NextAlike B C K C' K' z z'
  pub calm : {k : ℕ} {z : State S} → z.stop ≡ Going → Calm (suc k) z → Calm k (step C K crossing op past z)

-- ---- one event

module _ {P S P' S' : Type 0} {B : Likeness P S P' S'} {F : List Bool → List Bool → Type 0} {op : Operation} {C : Coordinates P} {K : Store P S} {crossing : Crossing P} {past : P → Bool}
    {op' : Operation} {C' : Coordinates P'} {K' : Store P' S'} {crossing' : Crossing P'} {past' : P' → Bool} (T : TurnLaws B op C K crossing past op' C' K' crossing' past') where
  alike-leave_at : {z : State S} {z' : State S'} (k : ℕ) → Abreast B F z z' → StatesAlike B F (leave_at C K crossing z k) (leave_at C' K' crossing' z' k)
  unfolding leave_at
  alike-leave_at k (on b v f h g y) = states-ranked (on b v f h g y) (lists-remove k h) (alike-close_up T.events v (lists-below k h) (lists-member (suc k) h))

  alike-leave : {z : State S} {z' : State S'} (o o' : ℕ) → ((r r' : ℕ) → NumbersAlike B z.used r r' → eqb r' o' ≡ eqb r o) → Abreast B F z z' → StatesAlike B F (leave C K crossing z o) (leave C' K' crossing' z' o')
  unfolding leave
  alike-leave o o' e (on {l = l} b v f h g y) =
      let k = slot (λ r. eqb r o) l in
      rw (lists-slot (λ r. eqb r o) (λ r. eqb r o') e h, lists-long h) (states-cond (ltb k (length l)) (ltb k (length l)) refl (alike-leave_at k (on b v f h g y)) (together (on b v f h g y)))

  alike-enter : {z : State S} {z' : State S'} {e e' : ℕ} → NumbersAlike B z.used e e' → Abreast B F z z' → StatesAlike B F (enter C K crossing op z e) (enter C' K' crossing' op' z' e')
  unfolding enter ranked
  alike-enter {z} {z'} {e} {e'} at (on {n} {s} {s'} {l = l} b v f h g y) =
      let k = slot (is_below C K crossing s n e) l in
      rw (lists-slot (is_below C K crossing s n e) (is_below C' K' crossing' s' n e') (λ r r' i. T.events.belows v at i) h)
      (states-meet (abreast-ranked (on b v f h g y) (lists-insert k h at)) (alike-between T.events v at (lists-below k h) (lists-member k h) (lists-below (k - 1) h)))

  pub alike-turn : {z : State S} {z' : State S'} {e e' : ℕ} → NumbersAlike B z.used e e' → Abreast B F z z' → StatesAlike B F (turn C K crossing op past z e) (turn C' K' crossing' op' past' z' e')
  unfolding turn halt
  alike-turn at (on b v f h g y) =
      states-cond _ _ (T.lates v at) (together (on b v f h g ended))
      (states-cond _ _ (T.lefts v at) (alike-enter at (on b v f h g y)) (alike-leave _ _ (λ r r' i. T.mates v at i) (on b v f h g y)))

-- ---- the run

-- one that has not stopped makes its next step
pub onward : {P S : Type 0} (C : Coordinates P) (K : Store P S) (crossing : Crossing P) (op : Operation) (past : P → Bool) (k : ℕ) (z : State S) → z.stop ≡ Going
    → run C K crossing op past (suc k) z ≡ run C K crossing op past k (step C K crossing op past z)
unfolding run go_on
onward C K crossing op past k z e = ap (λ (x : Stop). go_on x z (λ t. run C K crossing op past k (step C K crossing op past t))) e

module _ {P S P' S' : Type 0} {B : Likeness P S P' S'} {F : List Bool → List Bool → Type 0} {op : Operation} {C : Coordinates P} {K : Store P S} {crossing : Crossing P} {past : P → Bool}
    {op' : Operation} {C' : Coordinates P'} {K' : Store P' S'} {crossing' : Crossing P'} {past' : P' → Bool} {Calm : ℕ → State S → Type 0} (R : RunLaws B F op C K crossing past op' C' K' crossing' past' Calm) where
  alike-takes : {z : State S} {z' : State S'} {e e' : ℕ} {t t' : Bool} → t' ≡ t → NumbersAlike B z.used e e' → Abreast B F z z' → Abreast B F (takes z e t) (takes z' e' t')
  unfolding takes
  alike-takes {z} {z'} {e} {e'} {t} q at (on b v f h g y) = rw q (on (b || t) v (R.downs f at) h (lists-append g (joined at empty)) y)

  alike-step : {z : State S} {z' : State S'} → Abreast B F z z' → NextAlike B C K C' K' z z' → StatesAlike B F (step C K crossing op past z) (step C' K' crossing' op' past' z')
  unfolding step step_by halt takes
  alike-step (on b v f h g y) (over p q) = rw (p, q) (together (on b v f h g ended))
  alike-step (on b v f h g y) (takes-up p q at t) = rw (p, q) (alike-turn R.turns at (alike-takes t at (on b v f h g y)))

  pub alike-run : (k : ℕ) (z : State S) (z' : State S') → Calm k z → StatesAlike B F z z' → StatesAlike B F (run C K crossing op past k z) (run C' K' crossing' op' past' k z')
  unfolding run go_on
  alike-run zero z z' c h = h
  alike-run (suc k) z z' c (gone o) = gone o
  alike-run (suc k) z z' c (together (on b v f h g going)) =
      let here = on b v f h g going in
      alike-run k _ _ (R.calm refl c) (alike-step here (R.nexts here refl c))
  alike-run (suc k) z z' c (together (on b v f h g ended)) = together (on b v f h g ended)
  alike-run (suc k) z z' c (together (on b v f h g (refused t))) = together (on b v f h g (refused t))

-- ---- what one event asks, where the keys are equal

pub keyed-turns : {P S S' : Type 0} {B : Likeness P S P S'} {C : Coordinates P} {K : Store P S} {K' : Store P S'} (k : Keyed B C K K') (crossing : Crossing P) (op op' : Operation) (past : P → Bool)
    → ClassesAlike B C K op K' op' → TurnLaws B op C K crossing past op' C K' crossing past
unfolding key_used key_of key
keyed-turns {P = P} k crossing op op' past classes =
    record {
      events = keyed-events k crossing op op' classes;
      lefts = λ w h. ap (λ (x : Key P). x.left) (k.keys w h);
      lates = λ w h. ap (λ (x : Key P). past x.point) (k.keys w h);
      mates = λ w h l. k.one_number w l (k.mates w h);
    }
