-- What a kind of coordinate supplies. Event order, segment order, edge class and all that stands on them are defined over this record, and so over
-- any kind; binary64 is the one that the code uses (`Binary64`).
use Rattle.std.specs.Prelude.{Bool, true, false, cond, ◌&&◌}
use Rattle.orientation.specs.declared.Sign.{Sign}

pub record Coordinates (P : Type 0) : Type 0 where
  -- refusal 2 does not strike the point
  pub fit : P → Bool
  -- the first point has the smaller x, the smaller y
  pub less_x : P → P → Bool
  pub less_y : P → P → Bool
  -- by value
  pub same_x : P → P → Bool
  pub same_y : P → P → Bool
  -- the sign of the exact orientation: positive where the third point lies left of the line from the first to the second
  pub turn : P → P → P → Sign
  -- the point one step further in x: IEEE 754's next_up at binary64
  pub next_x : P → P

-- one point by value
unfoldable pub same : {P : Type 0} → Coordinates P → P → P → Bool
same C p q = C.same_x p q && C.same_y p q

-- earlier by x, then y
unfoldable pub ahead : {P : Type 0} → Coordinates P → P → P → Bool
ahead C p q = cond (C.less_x p q) true (cond (C.less_x q p) false (C.less_y p q))

-- what two segments have in common, over any kind of point
pub data Cross (P : Type 0) : Type 0 where
  none lost : Cross P
  point : P → Cross P
  overlap : P → P → Cross P

-- A way to compute a crossing: of the first segment's ends and the second's. Whatever needs a crossing takes one as an argument.
abbrev pub Crossing : Type 0 → Type 0
Crossing P = P → P → P → P → Cross P
