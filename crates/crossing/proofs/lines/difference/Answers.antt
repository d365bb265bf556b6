-- The two differences are the definition.
use Rattle.crossing.specs.Lines.{minus}
use mathlib.Core.Path.{refl}
use Rattle.crossing.proofs.lines.difference.Goals as goal

pub returns : goal.returns
unfolding minus
returns c = refl
