-- Segment order of two records of a pool, at binary64 with the crossing of a mode.
use Rattle.std.specs.Prelude.{cond, ℕ, eqb}
use Rattle.std.specs.declared.cmp.Ordering.{Ordering}
use Rattle.std.specs.declared.cmp.Ordering.TheVariants.{Equal}
use Rattle.events.specs.Binary64.{at_binary64, in_mode}
use Rattle.events.specs.Pool.{Pool}
use Rattle.order.specs.Keys.{key_at}
use Rattle.segments.specs.Segments.{compare_segments}

-- a record is equal to itself, and to no other
unfoldable pub compare_at : ℕ → Pool → ℕ → ℕ → Ordering
compare_at mode p a b = cond (eqb a b) Equal (compare_segments at_binary64 (in_mode mode) (key_at p a) (key_at p b))
