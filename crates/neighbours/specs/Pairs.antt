-- What a meeting makes of its two segments, told in laws that the definition does not mention: `row` reads a record before the meeting, `row'` after it.
use Rattle.std.specs.Prelude.{◌≡◌, Bool, true, false, cond, ◌||◌, ℕ, ◌+◌}
use Rattle.events.specs.declared.EdgeType.{EdgeType}
use Rattle.events.specs.declared.EdgeType.TheVariants.{NonContributing, SameTransition, DifferentTransition}
use Rattle.events.specs.Coordinates.{Coordinates, same, Cross, point}
use Rattle.events.specs.Event.{Event}
use Rattle.class.specs.declared.Operation.{Operation}
use Rattle.class.specs.Class.{in_result}
use Rattle.class.specs.Truth.{Place, changes, across_both, Together, Oppositely}
use Rattle.division.specs.Division.{moved}
use Rattle.division.specs.Records.{Paired}
use Rattle.neighbours.specs.Neighbours.{type_by}

-- r is the left end of a segment, both of whose records are among the first n
pub record LeftEnd {P : Type 0} (row : ℕ → Event P) (n r : ℕ) : Type 0 where
  pub paired : Paired row n r
  pub left : (row r).left ≡ true
  pub right : (row (row r).partner).left ≡ false

-- ---- code 2: two coinciding edges of two layers

-- the first is typed by the flags of both, the second does not count
pub record FirstTyped {P : Type 0} (row row' : ℕ → Event P) (a b : ℕ) : Type 0 where
  pub first : (row' a).edge_type ≡ type_by (row a) (row b)
  pub second : (row' b).edge_type ≡ NonContributing

-- t tells exactly how the layers change across a pair above the place p
pub record TypeTells (p : Place) (t : EdgeType) : Type 0 where
  pub same : t ≡ SameTransition → Together (across_both p)
  pub same_back : Together (across_both p) → t ≡ SameTransition
  pub different : t ≡ DifferentTransition → Oppositely (across_both p)
  pub different_back : Oppositely (across_both p) → t ≡ DifferentTransition

-- Of the pair exactly one counts, the first: its type tells how the layers change, and it is in the result exactly if the operation's value changes across
-- both. The second never is.
pub record FirstCounts {P : Type 0} (p : Place) (row' : ℕ → Event P) (a b : ℕ) : Type 0 where
  pub first_tells : TypeTells p (row' a).edge_type
  pub first_counts : (op : Operation) → in_result op (row' a) ≡ changes op (across_both p)
  pub second_silent : (op : Operation) → in_result op (row' b) ≡ false

-- ---- code 1: a crossing at the point p

-- p is an end of the segment of record r
abbrev pub ends_at : {P : Type 0} → Coordinates P → (ℕ → Event P) → P → ℕ → Bool
ends_at C row p r = same C (row r).point p || same C (row (row r).partner).point p

-- The segment of record r is whole where p is an end of it. Else it is cut at p, moved by the rule of its own left end, and both halves end there.
pub record CutAt {P : Type 0} (C : Coordinates P) (row row' : ℕ → Event P) (p : P) (r : ℕ) : Type 0 where
  pub end : (row' (row' r).partner).point ≡ cond (ends_at C row p r) (row (row r).partner).point (moved C (row r).point p)
  pub second_half : ends_at C row p r ≡ false → (row' ((row' r).partner + 1)).point ≡ moved C (row r).point p

-- they cross at a point, and each is cut there by its own rule
pub record EachCut {P : Type 0} (C : Coordinates P) (found : Cross P) (row row' : ℕ → Event P) (a b : ℕ) : Type 0 where
  pub p : P
  pub is : found ≡ point p
  pub first : CutAt C row row' p a
  pub second : CutAt C row row' p b
