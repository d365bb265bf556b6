-- Which waiting event is taken (01, 'Sweep': the first in event order of all waiting at that moment, on a tie the lower number), and whether
-- another that waits ties with it. Numbers wait or do not; `before` is an order of numbers that may be true both ways, and that is a tie.
use Rattle.std.specs.Prelude.{Bool, false, not, cond, ◌&&◌, ◌||◌, List, ℕ, zero, suc, get_or, eqb, None, Option, Some}
use Rattle.events.specs.Binary64.{at_binary64}
use Rattle.events.specs.Pool.{Pool, stored}
use Rattle.order.specs.Order as Order
use Rattle.order.specs.Keys.{key_used}

-- of the first one so far and a higher number; on a tie the lower stays
unfoldable pub choose : (ℕ → ℕ → Bool) → Option ℕ → ℕ → Option ℕ
choose before None r = Some r
choose before (Some q) r = cond (before q r) (Some q) (Some r)

-- the first of those below n that wait
unfoldable pub first : (ℕ → Bool) → (ℕ → ℕ → Bool) → ℕ → Option ℕ
first waits before zero = None
first waits before (suc n) = cond (waits n) (choose before (first waits before n) n) (first waits before n)

-- another number than e, which waits and ties with it
unfoldable pub rivals : (ℕ → Bool) → (ℕ → ℕ → Bool) → ℕ → ℕ → Bool
rivals waits before e r = waits r && (not (eqb r e) && (before e r && before r e))

-- .. among those below n
unfoldable pub rivalled : (ℕ → Bool) → (ℕ → ℕ → Bool) → ℕ → ℕ → Bool
rivalled waits before e zero = false
rivalled waits before e (suc n) = rivals waits before e n || rivalled waits before e n

-- ---- on a lent pool, at binary64; one flag for each place tells whether an event there waits

unfoldable pub flagged : List Bool → ℕ → Bool
flagged waits r = get_or waits r false

unfoldable pub before_used : Pool → ℕ → ℕ → ℕ → Bool
before_used p used a b = Order.before at_binary64 (key_used stored p used a) (key_used stored p used b)
