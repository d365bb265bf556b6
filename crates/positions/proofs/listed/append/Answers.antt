-- One more record, behind the others or passed over.
use mathlib.Core.Path.{sym, ◌∙◌}
use Rattle.positions.proofs.AsListed.{append-yes, append-no}
use Rattle.positions.proofs.listed.append.Goals as goal

pub returns-then-in_result : goal.returns-then-in_result
returns-then-in_result c = append-yes _ _ _ _ c.requires (sym c.in_result.ensures ∙ c.if-in_result.true)

pub returns : goal.returns
returns c = append-no _ _ _ _ (sym c.in_result.ensures ∙ c.if-in_result.false)
