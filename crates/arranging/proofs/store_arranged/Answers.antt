-- The layer that goes first is stored first.
use mathlib.Core.Path.{◌∙◌}
use Rattle.arranging.proofs.Chosen.{stored-clip, stored-subject}
use Rattle.arranging.proofs.store_arranged.Goals as goal

pub returns-then-arrange_layers : goal.returns-then-arrange_layers
returns-then-arrange_layers c =
    let a = c.args in
    let l = c.arrange_layers.ensures in
    c.store_layers.ensures ∙ stored-clip a.operation a.subject.now a.clip.now _ _ l.subject_after l.clip_after _ l.value c.if-arrange_layers.true a.ends.now a.labels.now

pub returns : goal.returns
returns c =
    let a = c.args in
    let l = c.arrange_layers.ensures in
    c.store_layers-2.ensures ∙ stored-subject a.operation a.subject.now a.clip.now _ _ l.subject_after l.clip_after _ l.value c.if-arrange_layers.false a.ends.now a.labels.now
