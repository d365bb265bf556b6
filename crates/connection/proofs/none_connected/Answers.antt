-- Nothing has no corners and no holes.
use mathlib.Core.Path.{refl}
use Rattle.contours.specs.Outline.{open_count, corner_count, hole_count}
use Rattle.contours.specs.Result.{keep}
use Rattle.connection.specs.Connection.{told}
use Rattle.connection.proofs.none_connected.Goals as goal

pub returns : goal.returns
unfolding told open_count corner_count hole_count keep
returns c = refl
