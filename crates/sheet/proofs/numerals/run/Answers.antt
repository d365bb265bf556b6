-- The digits counted are those that stand in front of the rest.
use borrow.Author.Rules.{rules}
use mathlib.Core.Path.{◌∙◌}
use lib.ListN.{drop}
use Rattle.std.specs.Char.{is_ascii_digit}
use Rattle.std.proofs.lemmas.Iterator.{YieldsList-from_slice}
use Rattle.std.proofs.lemmas.Iterator.Consumers.{count_from_yields_List}
use Rattle.std.proofs.lemmas.Iterator.Search.{YieldsList-from_take_while}
use Rattle.std.proofs.lemmas.List.Folds.{length-prefix_len}
use Rattle.sheet.proofs.Digits.{run_is}
use Rattle.sheet.proofs.numerals.run.Goals as goal

pub returns : goal.returns
returns c =
    let rest = drop c.args.at c.args.s.now in
    count_from_yields_List _ _ c.count.ensures.ran (YieldsList-from_take_while _ is_ascii_digit (YieldsList-from_slice rest (search rules)) c.take_while.ensures.closure c.take_while.ensures.done (λ x b q k. search rules))
    ∙ length-prefix_len is_ascii_digit rest
    ∙ run_is rest
