-- Both parts are as long as there are places in use: the check of that pool decides.
use mathlib.Core.Path.{sym}
use lib.Seq.{length-take-le}
use Rattle.records.specs.InUse.{part_in_use, checked_left_in}
use Rattle.records.proofs.InUse.{within}
use Rattle.records.proofs.in_use.check_left_two_in.Goals as goal

pub returns-then-is_overused : goal.returns-then-is_overused
unfolding checked_left_in
returns-then-is_overused c = rw (← c.is_overused.ensures, c.if-is_overused.true, c.size_refused.ensures)

pub slice_bounds-check_left_two-end : goal.slice_bounds-check_left_two-end
slice_bounds-check_left_two-end c = sym (length-take-le _ _ (within _ _ _ c.is_overused.ensures c.if-is_overused.false).points)

pub slice_bounds-check_left_two-end-2 : goal.slice_bounds-check_left_two-end-2
slice_bounds-check_left_two-end-2 c = sym (length-take-le _ _ (within _ _ _ c.is_overused.ensures c.if-is_overused.false).marks)

pub returns : goal.returns
unfolding checked_left_in part_in_use
returns c = rw (← c.is_overused.ensures, c.if-is_overused.false, c.check_left_two.ensures)
