-- A test in plain comparisons, over any kind of coordinate. A reader of the promises need not read this: what it tells is said in `proofs/Parted.antt`.
use Rattle.std.specs.Prelude.{Bool, ◌&&◌}
use Rattle.events.specs.Coordinates.{Coordinates}

-- in y all of the segment from a to b lies below all of that from c to d
unfoldable pub under : {P : Type 0} → Coordinates P → P → P → P → P → Bool
under C a b c d = C.less_y a c && (C.less_y a d && (C.less_y b c && C.less_y b d))
