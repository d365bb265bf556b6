-- Runs in the front of a store: the same event is taken at each step, so that a run there leaves what the run in the whole leaves, or wants room.
use Rattle.refusals.specs.declared.Reason.TheVariants as Reason
use Rattle.refusals.specs.Refusals.{same_reason}
use Rattle.std.proofs.Common.{None, Option, Some}
use mathlib.Core.Path.{◌≡◌, refl, sym, ap, ap₂, ◌∙◌}
use mathlib.Core.Logic.{◌≢◌}
use mathlib.Core.Bool.{Bool, true, false}
use mathlib.Core.List.{List, [], ◌∷◌}
use Prim.Native.Nat.{ℕ, zero, suc, ◌<◌, ◌≤◌}
use native.Mathlib.Omega.{arith}
use lib.ListN.{take, set}
use lib.Seq.{get_or-take}
use lib.Dec.{eqb}
use Rattle.events.specs.Coordinates.{Coordinates, Crossing}
use Rattle.events.specs.Event.{Key}
use Rattle.events.specs.Store.{Store}
use Rattle.events.proofs.Stored.{Stored}
use Rattle.order.specs.Order.{before}
use Rattle.class.specs.declared.Operation.{Operation}
use Rattle.neighbours.proofs.Kept.{same, is}
use Rattle.waiting.specs.Waiting.{first, rivalled, flagged}
use Rattle.sweep.specs.declared.turn.Stop.{Stop}
use Rattle.sweep.specs.declared.turn.Stop.TheVariants.{Going, Ended, Refused}
use Rattle.sweep.specs.State.{State, go_on}
use Rattle.sweep.specs.Run.{is_before, next, is_tied, step, run}
use Rattle.sweep.proofs.Abreast.{ListsAlike, empty, joined, lists-equal, StopsAlike, going, ended, refused, stops-equal, state, Abreast, on, StatesAlike, together, gone}
use Rattle.sweep.proofs.Walk.{NextAlike, over, takes-up, RunLaws, alike-run}
use Rattle.sweep_room.proofs.Places.{take-set}
use Rattle.sweep_room.proofs.Fronts.{Front, Within, key-front}
use Rattle.sweep_room.proofs.Scans.{first_alike, rivalled-alike}
use Rattle.sweep_room.proofs.Alike.{Fronted, front, fronts, turns-front}

-- ---- runs that are over

module _ {P S : Type 0} (C : Coordinates P) (K : Store P S) (crossing : Crossing P) (op : Operation) (past : P → Bool) where
  -- where a run has come to its end more steps change nothing
  pub run_more : (j k : ℕ) (s : State S) → j ≤ k → (run C K crossing op past j s).stop ≢ Going → run C K crossing op past k s ≡ run C K crossing op past j s
  unfolding run go_on
  run_more zero zero s l h = refl
  run_more zero (suc k) s l h = go s.stop refl
    where
      go : (x : Stop) → s.stop ≡ x → go_on x s (λ t. run C K crossing op past k (step C K crossing op past t)) ≡ s
      go Going e = absurd (h e)
      go Ended e = refl
      go (Refused r) e = refl
  run_more (suc j) zero s l h = absurd (omega arith)
  run_more (suc j) (suc k) s l h = go s.stop h (run_more j k (step C K crossing op past s) (omega arith))
    where
      go : (x : Stop) → (go_on x s (λ t. run C K crossing op past j (step C K crossing op past t))).stop ≢ Going
          → ((run C K crossing op past j (step C K crossing op past s)).stop ≢ Going → run C K crossing op past k (step C K crossing op past s) ≡ run C K crossing op past j (step C K crossing op past s))
          → go_on x s (λ t. run C K crossing op past k (step C K crossing op past t)) ≡ go_on x s (λ t. run C K crossing op past j (step C K crossing op past t))
      go Going g more = more g
      go Ended g more = refl
      go (Refused r) g more = refl

-- ---- states

-- refused by 6
unfoldable pub stop_full : Stop → Bool
stop_full Going = false
stop_full Ended = false
stop_full (Refused r) = same_reason r.reason Reason.Full

module _ {P S : Type 0} {K : Store P S} {n : ℕ} (F : Front K n) where
  unfoldable pub front_state : State S → State S
  front_state s =
      record { store = F.front s.store; used = s.used; waits = take n s.waits; status = s.status; taken = s.taken; tied = s.tied; stop = s.stop }

  abbrev pub First : List Bool → List Bool → Type 0
  First w w' = w' ≡ take n w

  -- what a run leaves in the whole and in the front: the same, looked at in the front, or the one in the front has stopped for want of room
  pub data StateFits (whole part : State S) : Type 0 where
    agree : Within K n whole.store whole.used → part ≡ front_state whole → StateFits whole part
    wants : stop_full part.stop ≡ true → StateFits whole part

  is_front : {m : ℕ} {s s' : S} → Fronted F m s s' → s' ≡ F.front s
  is_front (front w) = refl

  is_within_lem : {m : ℕ} {s s' : S} → Fronted F m s s' → Within K n s m
  is_within_lem (front w) = w

  is-abreast : {z z' : State S} → Abreast (fronts F) First z z' → z' ≡ front_state z
  unfolding fronts front_state
  is-abreast (on {n = m} b v f h g y) =
      λ i. state (is_front v.alike i) m (f i) (lists-equal (λ r r' k. is k.alike) h i) (lists-equal (λ r r' k. is k.alike) g i) b (stops-equal (λ r r' t. is t) y i)

  abreast-within : {z z' : State S} → Abreast (fronts F) First z z' → Within K n z.store z.used
  unfolding fronts
  abreast-within (on b v f h g y) = is_within_lem v.alike

  fits : {z z' : State S} → StatesAlike (fronts F) First z z' → StateFits z z'
  unfolding fronts stop_full
  fits (together a) = agree (abreast-within a) (is-abreast a)
  fits (gone o) = wants o

  any-list : (m : ℕ) (l : List ℕ) → ListsAlike (fronts F) m l l
  unfolding fronts
  any-list m [] = empty
  any-list m (x ∷ l) = joined (record { alike = same tt }) (any-list m l)

  any-stop : (x : Stop) → StopsAlike (fronts F) x x
  unfolding fronts
  any-stop Going = going
  any-stop Ended = ended
  any-stop (Refused r) = refused (same tt)

  abreast : (z : State S) → Within K n z.store z.used → Abreast (fronts F) First z (front_state z)
  unfolding fronts front_state
  abreast z w = on z.tied (record { alike = front w }) refl (any-list z.used z.status) (any-list z.used z.taken) (any-stop z.stop)

-- ---- steps

module _ {P S : Type 0} (C : Coordinates P) {K : Store P S} (st : Stored K) {n : ℕ} (F : Front K n) where
  module _ (s : State S) (w : Within K n s.store s.used) where
    flags : (r : ℕ) → r < s.used → flagged (front_state F s).waits r ≡ flagged s.waits r
    unfolding flagged front_state
    flags r l = let f = w.fits in get_or-take n s.waits r false (omega arith)

    before-front : is_before C K (front_state F s) ≡ is_before C K s
    unfolding is_before front_state
    before-front = ap {B = ℕ → ℕ → Bool} (λ (key : ℕ → Key P) (a b : ℕ). before C (key a) (key b)) (key-front F w)

    next-front : next C K (front_state F s) ≡ next C K s
    unfolding next front_state
    next-front = ap (λ b. first (flagged (front_state F s).waits) b s.used) before-front ∙ first_alike _ _ (is_before C K s) s.used flags

    tied-front : (e : ℕ) → is_tied C K (front_state F s) e ≡ is_tied C K s e
    unfolding is_tied front_state
    tied-front e = ap (λ b. rivalled (flagged (front_state F s).waits) b e s.used) before-front ∙ rivalled-alike _ _ (is_before C K s) e s.used flags

    next-alike : (s' : State S) → s' ≡ front_state F s → NextAlike (fronts F) C K C K s s'
    unfolding fronts
    next-alike s' q = go (next C K s) refl
      where
        go : (o : Option ℕ) → next C K s ≡ o → NextAlike (fronts F) C K C K s s'
        go None p = over p (ap (next C K) q ∙ next-front ∙ p)
        go (Some e) p = takes-up p (ap (next C K) q ∙ next-front ∙ p) (record { alike = same tt }) (ap (λ z. is_tied C K z e) q ∙ tied-front e)

  runs-front : (crossing : Crossing P) (op : Operation) (past : P → Bool) → RunLaws (fronts F) (First F) op C K crossing past op C K crossing past (λ k z. Unit {0})
  unfolding fronts
  runs-front crossing op past =
      record {
        turns = turns-front C st F crossing op past;
        downs = λ {w = w} {e = e} f h. ap₂ (λ l r. set l r false) f (is h.alike) ∙ sym (take-set n w e false);
        nexts = λ {z} {z'} a q c. next-alike z (abreast-within F a) z' (is-abreast F a);
        calm = λ q c. tt;
      }

  pub fits-run : (crossing : Crossing P) (op : Operation) (past : P → Bool) (k : ℕ) (s : State S) → Within K n s.store s.used
      → StateFits F (run C K crossing op past k s) (run C K crossing op past k (front_state F s))
  fits-run crossing op past k s w = fits F (alike-run (runs-front crossing op past) k s (front_state F s) tt (together (abreast F s w)))
