-- A record that stands for an edge of the result.
use Rattle.std.specs.Prelude.{Bool, ◌&&◌, ℕ}
use Rattle.events.specs.Event.{Event}
use Rattle.contours.specs.Result.{in_result}

-- the left end of an edge in the result
unfoldable pub is_edge : {P : Type 0} → (ℕ → Event P) → ℕ → Bool
is_edge row r = in_result row r && (row r).left
