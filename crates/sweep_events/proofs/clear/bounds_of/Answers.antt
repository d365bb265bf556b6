-- Each run tells what its law says of the segment's own word.
use mathlib.Core.Path.{◌≡◌, sym, ap, subst, ◌∙◌}
use mathlib.Core.Bool.{true}
use native.Mathlib.Omega.{arith}
use Rattle.numbers.specs.declared.Point.{Point}
use Rattle.events.specs.Binary64.{at_binary64}
use Rattle.events.specs.Runs.{in_run}
use Rattle.events.proofs.Runs as Runs
use Rattle.sweep_events.proofs.clear.bounds_of.Goals as goal

pub returns : goal.returns
returns c =
    record {
      lower = λ p h i. subst (λ (q : Point). at_binary64.less_y p q ≡ true) c.lower_of-low.ensures
          (Runs.lower-y p c.lower_of-low.result (omega (arith, c.lower_of-low.type_inv)) h (sym (ap (λ r. in_run r p.y) c.lower_y.ensures) ∙ i));
      reached = λ p h i. Runs.at-most-x p c.args.key.point (omega (arith, c.well_formed.0)) h (sym (ap (λ r. in_run r p.x) c.at_most_x.ensures) ∙ i);
      beyond = λ p h i. Runs.higher-x p c.args.key.point (omega (arith, c.well_formed.0)) h (sym (ap (λ r. in_run r p.x) c.higher_x.ensures) ∙ i);
    }
