-- A tie once told stays told: a turn tells none, and a step tells what it found beside what was told before. So a run that ends untied was never tied.
use Rattle.std.proofs.Common.{None, Option, Some}
use mathlib.Core.Path.{◌≡◌, sym, ◌∙◌}
use mathlib.Core.Bool.{Bool, false, ◌||◌}
use Prim.Native.Nat.{ℕ, zero, suc}
use Rattle.events.specs.Coordinates.{Coordinates, Crossing}
use Rattle.events.specs.Store.{Store}
use Rattle.class.specs.declared.Operation.{Operation}
use Rattle.sweep.specs.declared.turn.Stop.{Stop}
use Rattle.sweep.specs.declared.turn.Stop.TheVariants.{Going, Ended, Refused}
use Rattle.sweep.specs.State.{State, halt, takes, go_on}
use Rattle.sweep.specs.Run.{next, is_tied, step_by, step, run}
use Rattle.sweep.proofs.Growth.{beside}
use Rattle.checks.proofs.Unstruck.{neither}

module _ {P S : Type 0} (C : Coordinates P) (K : Store P S) (crossing : Crossing P) (op : Operation) (past : P → Bool) where
  -- what a step tells of ties
  pub tied-taken : (s : State S) (e : ℕ) → (step_by C K crossing op past s (Some e)).tied ≡ (s.tied || is_tied C K s e)
  unfolding step_by takes
  tied-taken s e = (beside C K crossing op past (takes s e (is_tied C K s e)) e).tied

  -- ---- a tie once told stays told
  untied-step : (s : State S) (o : Option ℕ) → (step_by C K crossing op past s o).tied ≡ false → s.tied ≡ false
  unfolding step_by halt
  untied-step s None h = h
  untied-step s (Some e) h = (neither s.tied (is_tied C K s e) (sym (tied-taken s e) ∙ h)).0

  pub untied-run : (k : ℕ) (s : State S) → (run C K crossing op past k s).tied ≡ false → s.tied ≡ false
  unfolding run go_on step
  untied-run zero s h = h
  untied-run (suc k) s h = go s.stop (untied-run k) h
    where
      go : (x : Stop) → ((t : State S) → (run C K crossing op past k t).tied ≡ false → t.tied ≡ false)
          → (go_on x s (λ t. run C K crossing op past k (step C K crossing op past t))).tied ≡ false → s.tied ≡ false
      go Going ih h = untied-step s (next C K s) (ih (step C K crossing op past s) h)
      go Ended ih h = h
      go (Refused r) ih h = h

  -- no waiting event tied with the one that a step took
  pub untied-at : (k : ℕ) (s : State S) (e : ℕ) → (run C K crossing op past k (step_by C K crossing op past s (Some e))).tied ≡ false → is_tied C K s e ≡ false
  untied-at k s e h = (neither s.tied (is_tied C K s e) (sym (tied-taken s e) ∙ untied-run k _ h)).1
