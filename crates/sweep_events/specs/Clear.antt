-- What the search of the status passes by plain comparisons: a member that lies clear below. A reader of the search's promise need not read this: what
-- is passed compares greater.
use Rattle.std.specs.Prelude.{◌≡◌, Bool, true, false, cond, List, [], ℕ, ◌^◌, ◌<◌, ◌≤◌, length, get_or}
use Rattle.std.specs.declared.cmp.Ordering.TheVariants.{Greater}
use Rattle.numbers.specs.declared.Point.{Point}
use Rattle.events.specs.Coordinates.{Coordinates}
use Rattle.events.specs.Binary64.{at_binary64, in_mode}
use Rattle.events.specs.Event.{Key}
use Rattle.events.specs.Pool.{Pool, stored}
use Rattle.events.specs.Runs.{in_run}
use Rattle.order.specs.Keys.{key_used}
use Rattle.segments.specs.Segments.{compare_segments}
use Rattle.sweep_events.specs.declared.clear.Bounds.{Bounds}

module _ {P : Type 0} (C : Coordinates P) where
  -- the lower of a segment's two ends
  unfoldable pub lower_of : P → P → P
  lower_of p q = cond (C.less_y p q) p q

-- what it tells of a point, against a segment, that its word is in one of these runs
pub record BoundsOf (k : Key Point) (b : Bounds) : Type 0 where
  pub lower : (p : Point) → p.y < 2 ^ 64 → in_run b.lower p.y ≡ true → at_binary64.less_y p (lower_of at_binary64 k.point k.mate) ≡ true
  pub reached : (p : Point) → p.x < 2 ^ 64 → in_run b.reached p.x ≡ true → at_binary64.less_x k.point p ≡ false
  pub beyond : (p : Point) → p.x < 2 ^ 64 → in_run b.beyond p.x ≡ true → at_binary64.less_x k.point p ≡ true

-- a point and a partner's number as the arrays hold them
abbrev pub point_at : List (List ℕ) → ℕ → Point
point_at points i = record { x = get_or (get_or points i []) 0 0; y = get_or (get_or points i []) 1 0 }

abbrev pub mate_at : List (List ℕ) → ℕ → ℕ
mate_at marks i = get_or (get_or marks i []) 3 0

-- records below this number are in use and in both arrays
abbrev pub Ready : Pool → (used ready : ℕ) → Type 0
Ready p used ready = (ready ≤ used) × (ready ≤ length p.points) × (ready ≤ length p.marks)

-- a segment of these bounds compares greater than one between these points, in every mode and whatever else that one is
abbrev pub Above : Bounds → (point mate : Point) → Type 0
Above b p q = (k : Key Point) → BoundsOf k b → (mode : ℕ) (left subject : Bool) (ring : ℕ) → compare_segments at_binary64 (in_mode mode) k (record { point = p; left = left; subject = subject; ring = ring; mate = q }) ≡ Greater

-- .. than record x of a pool; than each of the members at these places
abbrev pub Passed : Pool → ℕ → Bounds → ℕ → Type 0
Passed p used b x = (k : Key Point) → BoundsOf k b → (mode : ℕ) → compare_segments at_binary64 (in_mode mode) k (key_used stored p used x) ≡ Greater

abbrev pub AllPassed : Pool → ℕ → Bounds → List ℕ → (from to : ℕ) → Type 0
AllPassed p used b status from to = (j : ℕ) → from ≤ j → j < to → Passed p used b (get_or status j 0)
