-- A turn comes one position further.
use Rattle.starts.proofs.Steps.{deep_of, made-within}
use Rattle.starts.proofs.start.start_at.Goals as goal

pub returns-clause-within : goal.returns-clause-within
returns-clause-within c =
    made-within _ _ _ _ _ _ _ _ _ _ _ _ _ c.make.ensures (deep_of _ _ _ _ _ _ _ c.context_of-place.ensures c.requires.0.deep) c.requires.0 c.requires.2
