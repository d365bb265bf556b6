-- What the search of the queue takes from two runs of words: an event whose x is in one of them lies left, or right, of a point. A reader of the sweep's
-- promise need not read this: the search finds the place of the definition.
use Rattle.std.specs.Prelude.{◌≡◌, true, ◌^◌, ◌<◌}
use Rattle.numbers.specs.declared.Point.{Point}
use Rattle.events.specs.declared.points.Run.{Run}
use Rattle.events.specs.Binary64.{at_binary64}
use Rattle.events.specs.Runs.{in_run}

pub record SidesOf (q : Point) (left right : Run) : Type 0 where
  pub to_left : (p : Point) → p.x < 2 ^ 64 → in_run left p.x ≡ true → at_binary64.less_x p q ≡ true
  pub to_right : (p : Point) → p.x < 2 ^ 64 → in_run right p.x ≡ true → at_binary64.less_x q p ≡ true
