use Rattle.std.proofs.Common.{◌≡◌, rules, tests}
use Rattle.std.specs.List.{position}
use Rattle.std.proofs.lemmas.Iterator.{YieldsList-from_slice}
use Rattle.std.proofs.lemmas.Iterator.Search.{position_from_yields_List}
use Rattle.numbers.specs.Binary64.{not_finite}
use Rattle.numbers.proofs.First.{position_is_first}
use Rattle.numbers.proofs.first_not_finite.Goals as goal

pub returns : goal.returns
returns c =
    let xs = c.args.numbers.now in
    let found : c.position.result ≡ position not_finite xs =
    position_from_yields_List not_finite _ _ c.position.result c.position.ensures.ran (YieldsList-from_slice xs cc) (λ x b q k. search (rules, tests)) in
    rw (c.unwrap_or.ensures, found) (position_is_first xs)
