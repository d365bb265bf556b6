-- What two calls of the sweep leave in the lent arrays, from what their runs leave.
use Rattle.std.proofs.Common.{Ok}
use mathlib.Core.Path.{◌≡◌, refl, sym, ap, ◌∙◌, subst}
use mathlib.Core.List.{List, []}
use Prim.Native.Nat.{ℕ, suc, ◌-◌, ◌/◌}
use lib.ListN.{length, get_or, length-map}
use lib.Seq.{sets}
use Rattle.events.specs.Binary64.{at_binary64, in_mode}
use Rattle.events.specs.Pool.{Pool, stored}
use Rattle.events.proofs.Stored.{pool-stored}
use Rattle.events.proofs.Looks.{pool-blanks}
use Rattle.events.proofs.Lent.{points-away, marks-away, points-away-enter, marks-away-enter}
use Rattle.class.specs.declared.Operation.{Operation}
use Rattle.division.proofs.AtBinary64.{move-laws}
use Rattle.sweep.specs.declared.turn.Stop.{Stop}
use Rattle.sweep.specs.declared.turn.Stop.TheVariants.{Going, Ended, Refused}
use Rattle.sweep.specs.State.{State}
use Rattle.sweep.specs.Run.{subdivide, divisions}
use Rattle.sweep.specs.OnPool.{After, accept, outcome_of, answer_of, after_run, after_checks, subdivide_pool}
use Rattle.sweep.specs.Lined.{Good}
use Rattle.sweep_order.specs.SameBut.{rename_stop, SameBut}
use Rattle.sweep_order.specs.Loadings.{after}
use Rattle.sweep_order.specs.OnPool.{rename_outcome, rename_swept, AsLent, SameAfter}
use Rattle.sweep_order.proofs.Unused.{unused}

-- ---- places that are not in use

rest-as-lent : (op : Operation) (mode : ℕ) (p : Pool) (n : ℕ) → Good at_binary64 stored p n → AsLent (subdivide at_binary64 stored (in_mode mode) op p n).used p (subdivide at_binary64 stored (in_mode mode) op p n).store
unfolding subdivide after
rest-as-lent op mode p n g =
    record {
      points = unused move-laws pool-stored pool-blanks (in_mode mode) op (λ q r. get_or q.points r []) points-away-enter points-away p n g (suc (stored.size p));
      marks = unused move-laws pool-stored pool-blanks (in_mode mode) op (λ q r. get_or q.marks r []) marks-away-enter marks-away p n g (suc (stored.size p));
    }

-- ---- the answer

outcome-to : (ρ : ℕ → ℕ) (x : Stop) → outcome_of (rename_stop ρ x) ≡ rename_outcome ρ (outcome_of x)
unfolding outcome_of rename_stop rename_outcome
outcome-to ρ Going = refl
outcome-to ρ Ended = refl
outcome-to ρ (Refused r) = refl

module _ (ρ : ℕ → ℕ) (n : ℕ) (s s' : State Pool) (b : SameBut stored ρ s s') where
  answer-to : answer_of s' n ≡ rename_swept ρ (answer_of s n)
  unfolding answer_of rename_swept divisions
  answer-to =
      let count = ap length b.taken ∙ length-map s.taken ρ in
      let outcome = ap outcome_of b.stop ∙ outcome-to ρ s.stop in
      let used = b.used in
      let tied = b.tied in
      λ i. record { taken = count i; divisions = (used i - n) / 2; used = used i; tied = tied i; outcome = outcome i }

  same_after : (p p' : Pool) (lent lent' : List ℕ) → AsLent s.used p s.store → AsLent s'.used p' s'.store → SameAfter ρ p lent (after_run s n lent) p' lent' (after_run s' n lent')
  unfolding after_run answer_of stored
  same_after p p' lent lent' u u' =
      record { answer = answer-to; records = b.records; unused = u; unused' = u'; events = s.taken; counted = refl; told = refl; told' = ap (sets lent' 0) b.taken }

-- ---- the calls, where the checks pass

module _ (op : Operation) (mode n : ℕ) where
  pub called : (p : Pool) (lent : List ℕ) → accept p n lent ≡ Ok tt → subdivide_pool op mode p n lent ≡ after_run (subdivide at_binary64 stored (in_mode mode) op p n) n lent
  unfolding subdivide_pool after_checks
  called p lent h = ap (λ c. after_checks c op mode p n lent) h

  pub same-calls : (ρ : ℕ → ℕ) (p p' : Pool) (lent lent' : List ℕ) → accept p n lent ≡ Ok tt → accept p' n lent' ≡ Ok tt → Good at_binary64 stored p n → Good at_binary64 stored p' n
      → SameBut stored ρ (subdivide at_binary64 stored (in_mode mode) op p n) (subdivide at_binary64 stored (in_mode mode) op p' n) → SameAfter ρ p lent (subdivide_pool op mode p n lent) p' lent' (subdivide_pool op mode p' n lent')
  same-calls ρ p p' lent lent' h h' g g' b =
      let x = same_after ρ n _ _ b p p' lent lent' (rest-as-lent op mode p n g) (rest-as-lent op mode p' n g') in
      subst (λ (a' : After). SameAfter ρ p lent (subdivide_pool op mode p n lent) p' lent' a') (sym (called p' lent' h'))
      (subst (λ (a : After). SameAfter ρ p lent a p' lent' (after_run (subdivide at_binary64 stored (in_mode mode) op p' n) n lent')) (sym (called p lent h)) x)
