-- The tally stands before the checks.
use Rattle.acceptance.proofs.Accepting.{by-tally}
use Rattle.acceptance.proofs.check_in.Goals as goal

pub returns : goal.returns
returns c =
    by-tally _ _ _ _ _ c.requires c.tally.ensures c.check_list.ensures
