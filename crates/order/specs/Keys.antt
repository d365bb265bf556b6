-- What the orders see of a record at binary64: as the code's struct holds it, and as it is read from a pool.
use Rattle.std.specs.Prelude.{ℕ}
use Rattle.numbers.specs.declared.Point.{Point}
use Rattle.events.specs.Event.{Event, Key, key}
use Rattle.events.specs.Pool.{Pool, row_at}
use Rattle.events.specs.Store.{Store, look}
use Rattle.order.specs.declared.Key as D

abbrev pub shown_key : D.Key → Key Point
shown_key k = record { point = k.point; left = k.left; subject = k.subject; ring = k.ring; mate = k.mate }

-- of the record with a number and its partner's point, where `row` tells the record with a number
unfoldable pub key_of : {P : Type 0} → (ℕ → Event P) → ℕ → Key P
key_of row i = key (row i) (row (row i).partner).point

-- in a pool; and in any store of which the first `used` places are in use
unfoldable pub key_at : Pool → ℕ → Key Point
key_at p i = key_of (row_at p) i

unfoldable pub key_used : {P S : Type 0} → Store P S → S → ℕ → ℕ → Key P
key_used K s used i = key_of (look K s used) i
