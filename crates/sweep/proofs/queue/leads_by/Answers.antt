-- A member left or right of x is told by its word; else the two records decide.
use mathlib.Core.Path.{sym, ◌∙◌}
use native.Mathlib.Omega.{arith}
use Rattle.sweep.proofs.Sided.{leads-left, led-right}
use Rattle.sweep.proofs.queue.leads_by.Goals as goal

pub returns-then-has_x : goal.returns-then-has_x
returns-then-has_x c =
    sym (leads-left _ _ _ _ _ _ c.requires (rw (← c.read_used-e.ensures) (omega (arith, c.read_used-e.type_inv))) (rw (← c.read_used-e.ensures) (sym c.has_x.ensures ∙ c.if-has_x.true)))

pub returns-then-has_x-2 : goal.returns-then-has_x-2
returns-then-has_x-2 c =
    sym (led-right _ _ _ _ _ _ c.requires (rw (← c.read_used-e.ensures) (omega (arith, c.read_used-e.type_inv))) (rw (← c.read_used-e.ensures) (sym c.has_x-2.ensures ∙ c.if-has_x-2.true)))
