-- Edge class on the pool: the record `e` is computed anew from the one that `lower` names, and stored. Every number has an answer, since a record
-- outside the pool reads as a blank one and is not stored.
use Rattle.std.specs.Prelude.{Bool, ℕ, Option, Some, None}
use Rattle.numbers.specs.declared.Point.{Point}
use Rattle.events.specs.Binary64.{at_binary64}
use Rattle.events.specs.Pool.{Pool, row_at, store}
use Rattle.class.specs.declared.Operation.{Operation}
use Rattle.class.specs.Class.{Neighbour, fields}

-- a record and its partner have one x, by value
abbrev pub vertical_at : Pool → ℕ → Bool
vertical_at p n = at_binary64.same_x (row_at p n).point (row_at p (row_at p n).partner).point

unfoldable pub neighbour_at : Pool → ℕ → Neighbour Point
neighbour_at p n = record { number = n; event = row_at p n; vertical = vertical_at p n }

unfoldable pub lower_at : Pool → Option ℕ → Option (Neighbour Point)
lower_at p None = None
lower_at p (Some n) = Some (neighbour_at p n)

unfoldable pub classified_at : Operation → Pool → ℕ → Option ℕ → Pool
classified_at op p e lower = store p e (fields op (row_at p e) (lower_at p lower))
