-- The layer that goes first is printed first.
use mathlib.Core.Path.{ap, ◌∙◌}
use lib.Seq.{sets}
use Rattle.sheet.specs.Sheet.{Sheet, written}
use Rattle.arranging.proofs.Chosen.{sheet-clip, sheet-subject}
use Rattle.arranging.proofs.print_arranged.Goals as goal

pub returns-then-arrange_layers : goal.returns-then-arrange_layers
returns-then-arrange_layers c =
    let a = c.args in
    let l = c.arrange_layers.ensures in
    c.print_sheet.ensures.stored ∙ ap (λ (s : Sheet). sets a.bytes.now 0 (written s)) (sheet-clip a.operation a.subject.now a.clip.now _ _ l.subject_after l.clip_after _ l.value c.if-arrange_layers.true)

pub returns : goal.returns
returns c =
    let a = c.args in
    let l = c.arrange_layers.ensures in
    c.print_sheet-2.ensures.stored ∙ ap (λ (s : Sheet). sets a.bytes.now 0 (written s)) (sheet-subject a.operation a.subject.now a.clip.now _ _ l.subject_after l.clip_after _ l.value c.if-arrange_layers.false)
