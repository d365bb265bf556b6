-- One run, as two that are the same: an invariant that is kept (`neighbours`) is known after every event, after the run and after the sweep.
use Rattle.std.proofs.Common.{None, Option, Some}
use mathlib.Core.Path.{◌≡◌, refl, ap, ◌∙◌}
use mathlib.Core.Bool.{Bool, false}
use mathlib.Core.List.{List, [], ◌∷◌}
use Prim.Native.Nat.{ℕ, suc, ◌<◌}
use lib.ListN.{set}
use lib.Dec.{eqb}
use Rattle.refusals.specs.declared.Refusal.{Refusal}
use Rattle.events.specs.Coordinates.{Coordinates, Crossing}
use Rattle.events.specs.Store.{Store, look}
use Rattle.class.specs.declared.Operation.{Operation}
use Rattle.neighbours.proofs.Invariants.{Invariant, Kept, Agrees, store_alone}
use Rattle.neighbours.proofs.Kept.{same, is, known, diagonal}
use Rattle.waiting.specs.Waiting.{flagged}
use Rattle.waiting.proofs.First.{found}
use Rattle.sweep_events.proofs.Adapters.{kept-events}
use Rattle.sweep.specs.declared.turn.Stop.{Stop}
use Rattle.sweep.specs.declared.turn.Stop.TheVariants.{Going, Ended, Refused}
use Rattle.sweep.specs.State.{State, start}
use Rattle.sweep.specs.Bounds.{past}
use Rattle.sweep.specs.Event.{turn}
use Rattle.sweep.specs.Run.{is_before, next, is_tied, run, subdivide}
use Rattle.sweep.proofs.Abreast.{ListsAlike, empty, joined, lists-equal, stops-equal, StopsAlike, going, ended, refused, state, Abreast, on, StatesAlike, together, gone}
use Rattle.sweep.proofs.Walk.{NextAlike, over, takes-up, TurnLaws, RunLaws, alike-turn, alike-run}

-- ---- what is known of a state

-- of each number of a list
abbrev pub All : (ℕ → Type 0) → List ℕ → Type 0
All N [] = Unit {0}
All N (x ∷ l) = N x × All N l

-- of the refusal, if there is one
abbrev pub IfRefused : (Refusal → Type 0) → Stop → Type 0
IfRefused T Going = Unit {0}
IfRefused T Ended = Unit {0}
IfRefused T (Refused r) = T r

-- of its store, of the members of its status and the events taken, of its refusal
pub record Keeping {P S : Type 0} (I : Invariant P S) (z : State S) : Type 0 where
  pub store : I.OfStore z.used z.store
  pub members : All (I.OfNumber z.used) z.status
  pub events : All (I.OfNumber z.used) z.taken
  pub told : IfRefused I.OfRefusal z.stop

-- the flags of what waits are the same
abbrev Equal : List Bool → List Bool → Type 0
Equal w w' = w' ≡ w

-- ---- to two states that are the same, and back

module _ {P S : Type 0} (I : Invariant P S) where
  lists_of : (n : ℕ) (l : List ℕ) → All (I.OfNumber n) l → ListsAlike (diagonal I) n l l
  unfolding diagonal
  lists_of n [] h = empty
  lists_of n (x ∷ l) h = joined (record { alike = same h.0 }) (lists_of n l h.1)

  of-lists : {n : ℕ} {l l' : List ℕ} → ListsAlike (diagonal I) n l l' → All (I.OfNumber n) l
  unfolding diagonal
  of-lists empty = tt
  of-lists (joined x l) = (known x.alike, of-lists l)

  stops-of : (x : Stop) → IfRefused I.OfRefusal x → StopsAlike (diagonal I) x x
  unfolding diagonal
  stops-of Going h = going
  stops-of Ended h = ended
  stops-of (Refused r) h = refused (same h)

  of-stops : {x x' : Stop} → StopsAlike (diagonal I) x x' → IfRefused I.OfRefusal x
  unfolding diagonal
  of-stops going = tt
  of-stops ended = tt
  of-stops (refused t) = known t

  abreast : (z : State S) → Keeping I z → Abreast (diagonal I) Equal z z
  unfolding diagonal
  abreast z h = on z.tied (record { alike = same h.store }) refl (lists_of z.used z.status h.members) (lists_of z.used z.taken h.events) (stops-of z.stop h.told)

  keeping : {z z' : State S} → StatesAlike (diagonal I) Equal z z' → Keeping I z
  unfolding diagonal
  keeping (together (on b v f h g y)) = record { store = known v.alike; members = of-lists h; events = of-lists g; told = of-stops y }
  keeping (gone o) = absurd o

  abreast-is : {z z' : State S} → Abreast (diagonal I) Equal z z' → z' ≡ z
  unfolding diagonal
  abreast-is (on {n} b v f h g y) = λ i. state (is v.alike i) n (f i) (lists-equal (λ r r' k. is k.alike) h i) (lists-equal (λ r r' k. is k.alike) g i) b (stops-equal (λ r r' t. is t) y i)

  states-are : {z z' : State S} → StatesAlike (diagonal I) Equal z z' → z' ≡ z
  unfolding diagonal
  states-are (together a) = abreast-is a
  states-are (gone o) = absurd o

-- ---- one event, and the run

module _ {P S : Type 0} {C : Coordinates P} {K : Store P S} {crossing : Crossing P} (I : Invariant P S) (k : Kept I C K crossing) (op : Operation) (past : P → Bool) where
  module _ (crossing' : Crossing P) (agree : Agrees I C K crossing crossing') where
    turns-alike : TurnLaws (diagonal I) op C K crossing past op C K crossing' past
    unfolding diagonal
    turns-alike =
        record {
          events = kept-events I k crossing' agree op;
          lefts = λ {n} w h. λ i. (look K (is w.alike i) n (is h.alike i)).left;
          lates = λ {n} w h. λ i. past (look K (is w.alike i) n (is h.alike i)).point;
          mates = λ {n} w h l. λ i. eqb (is l.alike i) (look K (is w.alike i) n (is h.alike i)).partner;
        }

    module _ (at-hand : (n e : ℕ) → e < n → I.OfNumber n e) where
      next-alike : (z z' : State S) → z' ≡ z → NextAlike (diagonal I) C K C K z z'
      unfolding diagonal next
      next-alike z z' q = go (next C K z) refl
        where
          go : (o : Option ℕ) → next C K z ≡ o → NextAlike (diagonal I) C K C K z z'
          go None p = over p (ap (next C K) q ∙ p)
          go (Some e) p =
              takes-up p (ap (next C K) q ∙ p) (record { alike = same (at-hand z.used e (found (flagged z.waits) (is_before C K z) z.used e p).below) }) (ap (λ y. is_tied C K y e) q)

      runs-alike : RunLaws (diagonal I) Equal op C K crossing past op C K crossing' past (λ j z. Unit {0})
      unfolding diagonal
      runs-alike =
          record {
            turns = turns-alike;
            downs = λ f h. λ i. set (f i) (is h.alike i) false;
            nexts = λ {z} {z'} h q c. next-alike z z' (abreast-is I h);
            calm = λ q c. tt;
          }

      run-alike : (j : ℕ) (z : State S) → Keeping I z → StatesAlike (diagonal I) Equal (run C K crossing op past j z) (run C K crossing' op past j z)
      run-alike j z h = alike-run runs-alike j z z tt (together (abreast I z h))

      -- another crossing, that tells the same where the invariant is known, makes the same run
      pub same-run : (j : ℕ) (z : State S) → Keeping I z → run C K crossing' op past j z ≡ run C K crossing op past j z
      same-run j z h = states-are I (run-alike j z h)

  pub kept-turn : (z : State S) (e : ℕ) → Keeping I z → I.OfNumber z.used e → Keeping I (turn C K crossing op past z e)
  unfolding diagonal
  kept-turn z e h at = keeping I (alike-turn (turns-alike crossing (λ n s a b x y w. refl)) (record { alike = same at }) (abreast I z h))

  pub kept_run : ((n e : ℕ) → e < n → I.OfNumber n e) → (j : ℕ) (z : State S) → Keeping I z → Keeping I (run C K crossing op past j z)
  kept_run at-hand j z h = keeping I (run-alike crossing (λ n s a b x y w. refl) at-hand j z h)

-- nothing is taken and nobody is in the status
pub keeping_start : {P S : Type 0} (I : Invariant P S) (s : S) (size n : ℕ) → I.OfStore n s → Keeping I (start s size n)
unfolding start
keeping_start I s size n h = record { store = h; members = tt; events = tt; told = tt }

pub kept-sweep : {P S : Type 0} {C : Coordinates P} {K : Store P S} {crossing : Crossing P} (I : Invariant P S) → Kept I C K crossing → ((n e : ℕ) → e < n → I.OfNumber n e) → (op : Operation) (s : S) (n : ℕ)
    → I.OfStore n s → Keeping I (subdivide C K crossing op s n)
unfolding subdivide
kept-sweep {C = C} {K} I k at-hand op s n h = kept_run I k op (past C op (K.row_at s) n) at-hand (suc (K.size s)) _ (keeping_start I s (K.size s) n h)

-- ---- an invariant of the store alone

all_any : (l : List ℕ) → All (λ r. Unit {0}) l
all_any [] = tt
all_any (x ∷ l) = (tt, all_any l)

refused-any : (x : Stop) → IfRefused (λ r. Unit {0}) x
refused-any Going = tt
refused-any Ended = tt
refused-any (Refused r) = tt

module _ {P S : Type 0} {C : Coordinates P} {K : Store P S} {crossing : Crossing P} (H : ℕ → S → Type 0) (k : Kept (store_alone H) C K crossing) (op : Operation) (past : P → Bool) where
  keeping-store : (z : State S) → H z.used z.store → Keeping (store_alone {P = P} H) z
  unfolding store_alone
  keeping-store z h = record { store = h; members = all_any z.status; events = all_any z.taken; told = refused-any z.stop }

  pub store-turn : (z : State S) (e : ℕ) → H z.used z.store → H (turn C K crossing op past z e).used (turn C K crossing op past z e).store
  unfolding store_alone
  store-turn z e h = (kept-turn (store_alone H) k op past z e (keeping-store z h) tt).store
