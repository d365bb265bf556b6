-- The four tests of words are the law's; words fit.
use mathlib.Core.Path.{sym, ◌∙◌}
use native.Mathlib.Omega.{arith}
use Rattle.events.proofs.Parted.{both}
use Rattle.sweep_events.proofs.Passing.{clear_above}
use Rattle.sweep_events.proofs.clear.is_clear.Goals as goal

pub returns : goal.returns
returns c t =
    let two = both _ _ t in
    let y = both _ _ two.0 in
    let x = both _ _ two.1 in
    clear_above c.args.bounds c.args.point c.args.mate (omega (arith, c.well_formed.1.0)) (omega (arith, c.well_formed.1.0)) (omega (arith, c.well_formed.1.1.0)) (omega (arith, c.well_formed.1.1.0))
    (sym c.has_y.ensures ∙ y.0)
    (sym c.has_y-2.ensures ∙ y.1)
    (sym c.has_x.ensures ∙ x.0)
    (sym c.has_x-2.ensures ∙ x.1)
