-- A run that no event ends early takes every event: a flag is down where an event was taken, and it ends where no flag is up.
use Rattle.std.proofs.Common.{Err, None, Ok, Result, Some, Option}
use Rattle.refusals.specs.declared.Refusal.{Refusal}
use mathlib.Core.Path.{◌≡◌, refl, sym, ◌∙◌}
use mathlib.Core.Logic.{◌≢◌}
use mathlib.Core.Bool.{Bool, true, false, cond, false≢true}
use mathlib.Core.List.Memᴰ
use mathlib.Core.List.{List, [], ◌∷◌, ◌++◌, Memᴰ}
use Prim.Native.Nat.{ℕ, zero, suc, ◌≤◌, ◌<◌}
use native.Mathlib.Omega.{arith}
use borrow.Author.Tests.{eqb-true, lt-ltb}
use lib.Dec.{eqb, ltb}
use lib.ListN.{length, set}
use Rattle.lists.specs.Lists.{slot}
use Rattle.events.specs.Coordinates.{Coordinates, Crossing}
use Rattle.events.specs.Store.{Store, look}
use Rattle.events.proofs.Stored.{Stored}
use Rattle.class.specs.declared.Operation.{Operation}
use Rattle.neighbours.specs.Neighbours.{Meeting}
use Rattle.waiting.specs.Waiting.{flagged}
use Rattle.waiting.proofs.First.{found_none}
use Rattle.sweep.specs.declared.turn.Stop.{Stop}
use Rattle.sweep.specs.declared.turn.Stop.TheVariants.{Going, Ended, Refused}
use Rattle.sweep.specs.State.{State, start, halt, ranked, takes, go_on, and_then, stop_by, meets}
use Rattle.sweep.specs.Bounds.{is_past, past}
use Rattle.sweep.specs.Event.{turn, enter, leave_at, leave}
use Rattle.sweep.specs.Run.{is_before, next, is_tied, step_by, step, run, subdivide}
use Rattle.sweep.proofs.Flags.{all-flagged, down}
use Rattle.sweep.proofs.Growth.{beside}
use Rattle.sweep.proofs.Ends.{used-within}

-- ---- an event's work does not end the run

met-on : (m : Result ℕ Refusal) → stop_by m ≢ Ended
unfolding stop_by
met-on (Ok c) h = let z : ◌≡◌ {A = ℕ} 0 1 = cc in omega arith
met-on (Err r) h = let z : ◌≡◌ {A = ℕ} 0 1 = cc in omega arith

going_on : Going ≢ Ended
going_on h = let z : ◌≡◌ {A = ℕ} 0 1 = cc in omega arith

record On {S : Type 0} (s : State S) : Type 0 where
  on : s.stop ≢ Ended

module _ {S : Type 0} where
  meets_on : (s : State S) (m : Meeting S) → On (meets s m)
  unfolding meets
  meets_on s m = record { on = met-on m.met }

  ranked-on : (x : State S) (l : List ℕ) → On x → On (and_then x (λ t. ranked t l))
  unfolding and_then go_on ranked
  ranked-on x l h = go x.stop
    where
      go : (y : Stop) → On (go_on y x (λ t. ranked t l))
      go Going = record { on = h.on }
      go Ended = h
      go (Refused r) = h

  either-on : (b : Bool) (x y : State S) → On x → On y → On (cond b x y)
  either-on true x y h k = h
  either-on false x y h k = k

module _ {P S : Type 0} (C : Coordinates P) (K : Store P S) where
  module _ (crossing : Crossing P) (op : Operation) (late : P → Bool) (never : (p : P) → late p ≡ false) where
    turn_on : (s : State S) (e : ℕ) → On s → On (turn C K crossing op late s e)
    unfolding turn enter leave leave_at
    turn_on s e h =
        let f = look K s.store s.used e in
        let k = slot (λ x. eqb x f.partner) s.status in
        rw (never f.point) (either-on f.left _ _ (meets_on _ _) (either-on (ltb k (length s.status)) _ _ (ranked-on _ _ (meets_on _ _)) h))

    -- ---- the run of a pool of this size

    module _ (size : ℕ) where
      record Whole (z : State S) : Type 0 where
        -- a place that does not wait was taken
        listed : (r : ℕ) → r < size → flagged z.waits r ≡ false → Memᴰ r z.taken
        -- none waits at the end
        over : z.stop ≡ Ended → next C K z ≡ None

      listed-too : (waits : List Bool) (taken : List ℕ) (e r : ℕ) → (flagged waits r ≡ false → Memᴰ r taken) → flagged (set waits e false) r ≡ false → Memᴰ r (taken ++ (e ∷ []))
      listed-too waits taken e r h q = go (eqb r e) refl (sym (down waits e r) ∙ q)
        where
          go : (b : Bool) → eqb r e ≡ b → cond b false (flagged waits r) ≡ false → Memᴰ r (taken ++ (e ∷ []))
          go true i q = Memᴰ.append_right taken (Memᴰ.head (eqb-true r e i))
          go false i q = Memᴰ.append_left (e ∷ []) (h q)

      whole-turn : (z : State S) (e : ℕ) (rival : Bool) → z.stop ≢ Ended → Whole z → Whole (turn C K crossing op late (takes z e rival) e)
      unfolding takes
      whole-turn z e rival on w =
          let work = beside C K crossing op late (takes z e rival) e in
          record {
            listed = λ r l q. rw work.taken (listed-too z.waits z.taken e r (w.listed r l) (rw work.waits at q));
            over = λ q. absurd ((turn_on (takes z e rival) e (record { on = on })).on q);
          }

      whole-step : (z : State S) → z.stop ≢ Ended → Whole z → Whole (step C K crossing op late z)
      unfolding step step_by halt next is_before
      whole-step z on w = go (next C K z) refl
        where
          go : (x : Option ℕ) → next C K z ≡ x → Whole (step_by C K crossing op late z x)
          go None h = record { listed = w.listed; over = λ q. h }
          go (Some e) h = whole-turn z e (is_tied C K z e) on w

      whole_run : (k : ℕ) (z : State S) → Whole z → Whole (run C K crossing op late k z)
      unfolding run go_on
      whole_run zero z w = w
      whole_run (suc k) z w = go z.stop refl (λ on. whole_run k (step C K crossing op late z) (whole-step z on w))
        where
          go : (x : Stop) → z.stop ≡ x → (z.stop ≢ Ended → Whole (run C K crossing op late k (step C K crossing op late z))) → Whole (go_on x z (λ t. run C K crossing op late k (step C K crossing op late t)))
          go Going e more = more (λ h. going_on (sym e ∙ h))
          go Ended e more = w
          go (Refused r) e more = w

      whole-start : (s : S) (n : ℕ) → Whole (start s size n)
      unfolding start
      whole-start s n =
          record {
            listed = λ r l q. absurd (false≢true (sym q ∙ all-flagged size r ∙ lt-ltb r size l));
            over = λ h. absurd (going_on h);
          }

  -- ---- the sweep

  -- Where no point lies past all that matters, a sweep that comes to its end has taken every place in use.
  pub all-taken : Stored K → (crossing : Crossing P) (op : Operation) → ((a b : Option P) (p : P) → is_past C op a b p ≡ false) → (s : S) (n : ℕ) → n ≤ K.size s
      → (subdivide C K crossing op s n).stop ≡ Ended → (r : ℕ) → r < (subdivide C K crossing op s n).used → Memᴰ r (subdivide C K crossing op s n).taken
  unfolding subdivide past next
  all-taken L crossing op never s n fits e r l =
      let w = whole_run crossing op (past C op (K.row_at s) n) (λ p. never _ _ p) (K.size s) (suc (K.size s)) _ (whole-start crossing op (past C op (K.row_at s) n) (λ p. never _ _ p) (K.size s) s n) in
      w.listed r (omega (arith, l, used-within C K L crossing op s n fits)) (found_none _ _ _ (w.over e) r l)
