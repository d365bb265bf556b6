-- Ends of two sorts decide; else the direction does.
use mathlib.Core.Path.{◌≡◌, refl, ◌∙◌}
use mathlib.Core.Bool.{Bool, true, false, not, beq, true≢false, false≢true}
use Rattle.order.specs.Order.{by_end}
use Rattle.order.proofs.before_there.Goals as goal

unlike : (a b rest : Bool) → not (beq a b) ≡ true → b ≡ by_end a b rest
unfolding by_end
unlike true true rest h = absurd (false≢true h)
unlike true false rest h = refl
unlike false true rest h = refl
unlike false false rest h = absurd (false≢true h)

alike : (a b rest : Bool) → not (beq a b) ≡ false → rest ≡ by_end a b rest
unfolding by_end
alike true true rest h = refl
alike true false rest h = absurd (true≢false h)
alike false true rest h = absurd (true≢false h)
alike false false rest h = refl

pub returns-then-a-b : goal.returns-then-a-b
returns-then-a-b c = unlike _ _ _ c.if-a-b.true

pub returns : goal.returns
returns c = c.before_by_direction.ensures ∙ alike _ _ _ c.if-a-b.false
