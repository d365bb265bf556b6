-- The places of the numbers, minus zeros turned, the earlier end's first.
use mathlib.Core.Path.{sym, ap, ◌∙◌}
use Rattle.arranging.specs.Order.{rank}
use Rattle.arranging.proofs.KeyRows.{key-kept, key-turned}
use Rattle.arranging.proofs.rows.key_of.Goals as goal

pub returns-then-is_earlier : goal.returns-then-is_earlier
returns-then-is_earlier c = key-kept c.args.row _ _ _ _ (c.rank-px.ensures ∙ ap rank c.unsigned_word.ensures) (c.rank-py.ensures ∙ ap rank c.unsigned_word-2.ensures) (c.rank-qx.ensures ∙ ap rank c.unsigned_word-3.ensures) (c.rank-qy.ensures ∙ ap rank c.unsigned_word-4.ensures) (sym c.if-is_earlier.true ∙ c.is_earlier.ensures)

pub returns : goal.returns
returns c = key-turned c.args.row _ _ _ _ (c.rank-px.ensures ∙ ap rank c.unsigned_word.ensures) (c.rank-py.ensures ∙ ap rank c.unsigned_word-2.ensures) (c.rank-qx.ensures ∙ ap rank c.unsigned_word-3.ensures) (c.rank-qy.ensures ∙ ap rank c.unsigned_word-4.ensures) (sym c.if-is_earlier.false ∙ c.is_earlier.ensures)
