-- The theorem, over any kind of coordinate, any store and any crossing: where the edges load and the run tells no tie, another order of the edges changes
-- record numbers and nothing else. And 01's hypothesis is enough: where no two waiting events ever tie, the run tells no tie.
use Rattle.std.proofs.Common.{None, Ok, Option, Some}
use mathlib.Core.Path.{◌≡◌, refl, sym, ap, ap₂, ◌∙◌, subst}
use mathlib.Core.Bool.{Bool, false, ◌||◌}
use mathlib.Core.List.{List, Permᴰ}
use Prim.Native.Nat.{ℕ, zero, suc, ◌<◌, ◌≤◌, ◌*◌}
use lib.ListN.{length}
use Rattle.events.specs.Coordinates.{Coordinates, Crossing}
use Rattle.events.specs.Renaming.{rename}
use Rattle.events.specs.Store.{Store}
use Rattle.events.proofs.Stored.{Stored}
use Rattle.events.proofs.Looks.{Blanks, look_in}
use Rattle.class.specs.declared.Operation.{Operation}
use Rattle.division.proofs.Sides.{MoveLaws}
use Rattle.loading.specs.Loading.{Edge, loaded, checked_edges}
use Rattle.waiting.specs.Waiting.{flagged}
use Rattle.waiting.proofs.First.{found, none-rivals}
use Rattle.sweep.specs.declared.turn.Stop.{Stop}
use Rattle.sweep.specs.declared.turn.Stop.TheVariants.{Going, Ended, Refused}
use Rattle.sweep.specs.State.{State, start, halt, go_on}
use Rattle.sweep.specs.Bounds.{past}
use Rattle.sweep.specs.Run.{is_before, next, is_tied, step_by, step, run, subdivide}
use Rattle.sweep.specs.Lined.{Good}
use Rattle.sweep.proofs.Walk.{onward}
use Rattle.sweep_order.specs.SameBut.{Renaming, SameBut}
use Rattle.sweep_order.specs.Loadings.{NoTwoTie, after, NeverTie, OnlyNumbers, OrderFree}
use Rattle.sweep_order.proofs.Renamings.{below-to}
use Rattle.sweep_order.proofs.Twins.{Twin}
use Rattle.sweep_order.proofs.Farthest.{same-past}
use Rattle.sweep_order.proofs.Told.{tied-taken}
use Rattle.sweep_order.proofs.Runs.{sim-run, same-but}
use Rattle.sweep_order.proofs.Permuted.{as_many}
use Rattle.sweep_order.proofs.Started.{sim-start, twin-loaded, good-loaded}

module _ {P S : Type 0} {C : Coordinates P} {K : Store P S} (M : MoveLaws C) (st : Stored K) (bl : Blanks K) (crossing : Crossing P) (op : Operation) where
  module _ {n : ℕ} {ρ : Renaming n} {s s' : S} (t : Twin K ρ s s' n) (g : Good C K s n) where
    rows : (r : ℕ) → r < n → K.row_at s' (ρ.to r) ≡ rename ρ.to (K.row_at s r)
    rows r l = sym (look_in K s' n (ρ.to r) (below-to ρ n r t.grown l)) ∙ t.looks r ∙ ap (rename ρ.to) (look_in K s n r l)

    bound : (p : P) → past C op (K.row_at s') n p ≡ past C op (K.row_at s) n p
    bound p = same-past M.order p ρ (K.row_at s) (K.row_at s') rows op

    each : (k : ℕ) → (after C K crossing op k s n).tied ≡ false → SameBut K ρ.to (after C K crossing op k s n) (after C K crossing op k s' n)
    unfolding after start
    each k h = same-but M st bl ρ (sim-run M st bl crossing op ρ (past C op (K.row_at s) n) (past C op (K.row_at s') n) bound k _ _ (sim-start M st bl ρ t g) h)

    only-numbers : (subdivide C K crossing op s n).tied ≡ false → OnlyNumbers C K crossing op n s s'
    unfolding subdivide after
    only-numbers h =
        let whole = each (suc (K.size s)) h in
        record {
          renaming = ρ;
          at_first = rows;
          each_step = each;
          at_last = subst (λ k. SameBut K ρ.to (subdivide C K crossing op s n) (after C K crossing op (suc k) s' n)) (sym t.size) whole;
        }

  -- 01's sentence, by what the run itself tells
  pub order-free : {l m : List (Edge P)} → Permᴰ l m → (s s' : S) → K.size s' ≡ K.size s → 2 * length l ≤ K.size s → checked_edges C 0 l ≡ Ok tt
      → (subdivide C K crossing op (loaded C K s 0 l) (2 * length l)).tied ≡ false → OrderFree C K crossing op l m s s'
  order-free {l} {m} p s s' e room c h = only-numbers (twin-loaded C st bl p s s' e room (as_many p)) (good-loaded C st bl M s l room c) h

-- ---- 01's hypothesis

module _ {P S : Type 0} (C : Coordinates P) (K : Store P S) (crossing : Crossing P) (op : Operation) (past : P → Bool) where
  no-two-untied : (s : State S) (e : ℕ) → next C K s ≡ Some e → NoTwoTie C K s → is_tied C K s e ≡ false
  unfolding next is_tied
  no-two-untied s e h t =
      let f = found (flagged s.waits) (is_before C K s) s.used e h in
      none-rivals (flagged s.waits) (is_before C K s) e s.used (λ r l w d. t e r (record { in_use = f.below; untaken = f.waiting }) (record { in_use = l; untaken = w }) (λ q. d (sym q)))

  untied-by : (s : State S) (o : Option ℕ) → next C K s ≡ o → NoTwoTie C K s → s.tied ≡ false → (step_by C K crossing op past s o).tied ≡ false
  unfolding step_by halt
  untied-by s None q t h = h
  untied-by s (Some e) q t h = tied-taken C K crossing op past s e ∙ ap₂ (λ x y. x || y) h (no-two-untied s e q t)

  -- from a state on, at each taking
  abbrev Apart : State S → Type 0
  Apart s = (k : ℕ) → (run C K crossing op past k s).stop ≡ Going → NoTwoTie C K (run C K crossing op past k s)

  never-tied : (k : ℕ) (s : State S) → Apart s → s.tied ≡ false → (run C K crossing op past k s).tied ≡ false
  unfolding run go_on step
  never-tied zero s t h = h
  never-tied (suc k) s t h = go s.stop refl (never-tied k)
    where
      Rest : Type 0
      Rest = (u : State S) → Apart u → u.tied ≡ false → (run C K crossing op past k u).tied ≡ false

      go : (x : Stop) → s.stop ≡ x → Rest → (go_on x s (λ u. run C K crossing op past k (step C K crossing op past u))).tied ≡ false
      go Going e ih = ih (step C K crossing op past s) (λ j. subst (λ (u : State S). u.stop ≡ Going → NoTwoTie C K u) (onward C K crossing op past j s e) (t (suc j))) (untied-by s (next C K s) refl (t 0 e) h)
      go Ended e ih = h
      go (Refused r) e ih = h

module _ {P S : Type 0} {C : Coordinates P} {K : Store P S} (crossing : Crossing P) (op : Operation) where
  pub never-tie : (s : S) (n : ℕ) → NeverTie C K crossing op s n → (subdivide C K crossing op s n).tied ≡ false
  unfolding subdivide after start
  never-tie s n t = never-tied C K crossing op (past C op (K.row_at s) n) (suc (K.size s)) (start s (K.size s) n) t refl
