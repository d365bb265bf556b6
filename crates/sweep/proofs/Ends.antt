-- Every run ends, and its counts are true of its list and its pool. Each place waits or was taken, so that the flags and the list together have the
-- pool's size; each step but the last turns one flag off, and there are more steps than flags.
use Rattle.std.proofs.Common.{None, Option, Some}
use mathlib.Core.Path.{◌≡◌, refl, sym, ◌∙◌}
use mathlib.Core.Logic.{◌≢◌}
use mathlib.Core.Bool.{Bool}
use mathlib.Core.List.{List, [], ◌∷◌, ◌++◌}
use Prim.Native.Nat.{ℕ, zero, suc, ◌+◌, ◌*◌, ◌<◌, ◌≤◌}
use native.Mathlib.Omega.{arith}
use lib.ListN.{length, length-append}
use Rattle.refusals.specs.declared.Refusal.{Refusal}
use Rattle.events.specs.Coordinates.{Coordinates, Crossing}
use Rattle.events.specs.Store.{Store}
use Rattle.events.proofs.Stored.{Stored}
use Rattle.class.specs.declared.Operation.{Operation}
use Rattle.neighbours.proofs.Growth.{Grows, grows-still}
use Rattle.waiting.specs.Waiting.{flagged}
use Rattle.sweep.specs.declared.turn.Stop.{Stop}
use Rattle.sweep.specs.declared.turn.Stop.TheVariants.{Going, Ended, Refused}
use Rattle.sweep.specs.State.{State, start, halt, takes, go_on}
use Rattle.sweep.specs.Bounds.{past}
use Rattle.sweep.specs.Event.{turn}
use Rattle.sweep.specs.Run.{next, is_tied, step_by, step, run, subdivide, divisions}
use Rattle.sweep.specs.Turn.{trues}
use Rattle.sweep.proofs.Flags.{first-waits, one_less, trues-all}
use Rattle.sweep.proofs.Growth.{beside, turn-grows}

-- of a sweep of n records of store s, in a state on its way
pub record Counted {P S : Type 0} (K : Store P S) (s : S) (n : ℕ) (z : State S) : Type 0 where
  -- each place waits or was taken
  pub places : trues z.waits + length z.taken ≡ K.size s
  -- no more segments in the status than events taken
  pub members : length z.status ≤ length z.taken
  -- two places more for each division, and none beyond the pool
  pub grows : Grows K s n z.store z.used

module _ {P S : Type 0} (C : Coordinates P) (K : Store P S) (L : Stored K) where
  module _ (crossing : Crossing P) (op : Operation) (late : P → Bool) where
    -- ---- one step

    -- it ends, or turns one flag off
    data Stepped (z z' : State S) : Type 0 where
      ended : z'.stop ≡ Ended → Stepped z z'
      onward : suc (trues z'.waits) ≡ trues z.waits → Stepped z z'

    taken-once : (z : State S) (e : ℕ) (rival : Bool) → next C K z ≡ Some e → suc (trues (takes z e rival).waits) ≡ trues z.waits
    unfolding next takes
    taken-once z e rival h = one_less z.waits e (first-waits (flagged z.waits) _ z.used e h)

    stepped : (z : State S) → Stepped z (step C K crossing op late z)
    unfolding step step_by halt
    stepped z = go (next C K z) refl
      where
        go : (x : Option ℕ) → next C K z ≡ x → Stepped z (step_by C K crossing op late z x)
        go None h = ended refl
        go (Some e) h =
            let work = beside C K crossing op late (takes z e (is_tied C K z e)) e in
            onward (rw work.waits (taken-once z e (is_tied C K z e) h))

    one_more : (l : List ℕ) (e : ℕ) → length (l ++ (e ∷ [])) ≡ length l + 1
    one_more l e = rw length-append (omega arith)

    module _ (s : S) (n : ℕ) where
      counted-to : (z : State S) (e : ℕ) (rival : Bool) → Counted K s n z → next C K z ≡ Some e → Counted K s n (turn C K crossing op late (takes z e rival) e)
      unfolding takes
      counted-to z e rival k h =
          let work = beside C K crossing op late (takes z e rival) e in
          let off = taken-once z e rival h in
          let on = one_more z.taken e in
          record {
            places = rw (work.waits, work.taken) (omega (arith, off, on, k.places));
            members = rw work.taken (omega (arith, on, k.members, work.status));
            grows = turn-grows C K L crossing op late s n (takes z e rival) e k.grows;
          }

      counted_step : (z : State S) → Counted K s n z → Counted K s n (step C K crossing op late z)
      unfolding step step_by halt
      counted_step z k = go (next C K z) refl
        where
          go : (x : Option ℕ) → next C K z ≡ x → Counted K s n (step_by C K crossing op late z x)
          go None h = record { places = k.places; members = k.members; grows = k.grows }
          go (Some e) h = counted-to z e (is_tied C K z e) k h

      -- ---- the run

      counted-run : (k : ℕ) (z : State S) → Counted K s n z → Counted K s n (run C K crossing op late k z)
      unfolding run go_on
      counted-run zero z c = c
      counted-run (suc k) z c = go z.stop (counted-run k (step C K crossing op late z) (counted_step z c))
        where
          go : (x : Stop) → Counted K s n (run C K crossing op late k (step C K crossing op late z)) → Counted K s n (go_on x z (λ t. run C K crossing op late k (step C K crossing op late t)))
          go Going more = more
          go Ended more = c
          go (Refused r) more = c

    not_going : Ended ≡ Going → ⊥
    not_going h = let q : ◌≡◌ {A = ℕ} 0 1 = cc in omega arith

    refused-not-going : (r : Refusal) → Refused r ≡ Going → ⊥
    refused-not-going r h = let q : ◌≡◌ {A = ℕ} 0 1 = cc in omega arith

    stays : (k : ℕ) (z : State S) → z.stop ≡ Ended → (run C K crossing op late k z).stop ≡ Ended
    unfolding run go_on
    stays zero z h = h
    stays (suc k) z h = rw h

    run_ends : (k : ℕ) (z : State S) → trues z.waits < k → (run C K crossing op late k z).stop ≢ Going
    unfolding run go_on
    run_ends zero z h = λ g. omega arith
    run_ends (suc k) z h = by z.stop refl (after (λ l. run_ends k (step C K crossing op late z) l) (stepped z))
      where
        z' : State S
        z' = step C K crossing op late z

        after : (trues z'.waits < k → (run C K crossing op late k z').stop ≢ Going) → Stepped z z' → (run C K crossing op late k z').stop ≢ Going
        after more (ended e) = λ g. not_going (sym (stays k z' e) ∙ g)
        after more (onward e) = more (omega (arith, e, h))

        by : (x : Stop) → z.stop ≡ x → (run C K crossing op late k z').stop ≢ Going → (go_on x z (λ t. run C K crossing op late k (step C K crossing op late t))).stop ≢ Going
        by Going e more = more
        by Ended e more = λ g. not_going (sym e ∙ g)
        by (Refused r) e more = λ g. refused-not-going r (sym e ∙ g)

  -- ---- the sweep

  module _ (crossing : Crossing P) (op : Operation) (s : S) (n : ℕ) where
    counted_start : Counted K s n (start s (K.size s) n)
    unfolding start
    counted_start =
        let all = trues-all (K.size s) in
        record { places = omega (arith, all); members = omega arith; grows = grows-still K s n }

    -- each place of the pool waits or was taken, the status has its room, and the pool's growth is the divisions'
    pub counted : Counted K s n (subdivide C K crossing op s n)
    unfolding subdivide
    counted = counted-run crossing op (past C op (K.row_at s) n) s n (suc (K.size s)) _ counted_start

    pub ends : (subdivide C K crossing op s n).stop ≢ Going
    unfolding subdivide start
    ends =
        let all = trues-all (K.size s) in
        run_ends crossing op (past C op (K.row_at s) n) (suc (K.size s)) _ (omega (arith, all))

    -- the loaded records and two for each division are in use
    pub used-is : (subdivide C K crossing op s n).used ≡ n + 2 * divisions (subdivide C K crossing op s n) n
    unfolding divisions
    used-is = let g = counted.grows.used in omega (arith, g)

    pub used-within : n ≤ K.size s → (subdivide C K crossing op s n).used ≤ K.size s
    used-within h = counted.grows.within h
