-- The division's answer decides.
use mathlib.Core.Path.{sym, ◌∙◌}
use native.Mathlib.Omega.{arith}
use Rattle.neighbours.proofs.Steps.{counted, cut-done, cut-refused}
use Rattle.neighbours.proofs.step.cut.Goals as goal

pub overflow_add-result : goal.overflow_add-result
overflow_add-result c =
    omega (arith, counted _ _ _ _ _ _ _ (sym c.in-Ok.is ∙ c.divide_segment.ensures.value))

pub returns-in-Ok : goal.returns-in-Ok
returns-in-Ok c =
    cut-done _ _ _ _ _ _ _ (sym c.in-Ok.is ∙ c.divide_segment.ensures.value) _ c.divide_segment.ensures.marks_after

pub returns-in-Err : goal.returns-in-Err
returns-in-Err c =
    cut-refused _ _ _ _ _ _ _ _ (sym c.in-Err.is ∙ c.divide_segment.ensures.value) c.divide_segment.ensures.marks_after
