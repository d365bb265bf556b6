-- Connection of a lent pool, at binary64.
use Rattle.std.specs.Prelude.{List, ℕ, length}
use Rattle.numbers.specs.declared.Point.{Point}
use Rattle.events.specs.Binary64.{at_binary64}
use Rattle.events.specs.Pool.{Pool, stored}
use Rattle.contours.specs.Accept.{Room}
use Rattle.contours.specs.Connect.{Outcome, connect}

unfoldable pub connect_pool : Pool → List ℕ → Room → Outcome Point Pool
connect_pool p list room = connect at_binary64 stored p (length p.points) (length p.marks) list room
