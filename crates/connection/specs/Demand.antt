-- Demand 3 as one statement about the call: a list of event records that connection accepts and connects, with no two result edges from a shared end
-- in one direction, gives the same contours, corners, parents and depths, bit for bit, however its records are numbered and listed. If every point ends
-- an even number of result edges, every contour closes and each result edge is walked in exactly one contour, once.
use Rattle.std.specs.Prelude.{◌≡◌, ◌≢◌, true, ℕ, ◌<◌, ◌≤◌, length, Err, Ok}
use Rattle.refusals.specs.declared.Reason.TheVariants as Reason
use Rattle.refusals.specs.Refusals.{Verdict}
use mathlib.Core.List.{List, [], Memᴰ}
use Rattle.refusals.specs.declared.Refusal.{Refusal}
use Rattle.numbers.specs.declared.Point.{Point}
use Rattle.events.specs.Coordinates.{same}
use Rattle.events.specs.Binary64.{at_binary64}
use Rattle.events.specs.Renaming.{rename}
use Rattle.events.specs.Pool.{Pool, size, row_at}
use Rattle.contours.specs.Outline.{Outline, closes, corner_count, hole_count}
use Rattle.contours.specs.Renaming.{RenumberedPool, Relisted, NoneOneWay, EvenEnds}
use Rattle.contours.specs.Walls.{told_of, unclosed_among, OneToOne}
use Rattle.connection.specs.declared.Connected.{Connected}
use Rattle.connection.specs.Connection.{Lent, written, told, After, left, connect_edges}

-- ---- a call that is done; x is what is left of it

-- the lent arrays have a place for each corner, contour and hole
pub record Holds (os : List (Outline Point)) (l : Lent) : Type 0 where
  pub corners : corner_count os ≤ length l.corners
  pub contours : length os ≤ length l.contours
  pub holes : hole_count os ≤ length l.holes

-- the first and the last corner of each are one point, by value
abbrev pub AllClose : List (Outline Point) → Type 0
AllClose os = (o : Outline Point) → Memᴰ o os → closes (same at_binary64) o.corners ≡ true

pub record Outlined (p : Pool) (list : List ℕ) (l : Lent) (x : After) : Type 0 where
  pub outlines : List (Outline Point)
  -- the answer counts them, their corners, their holes and the open ones
  pub answer : x.answer ≡ told outlines (Ok tt)
  -- and the arrays hold all of them
  pub arrays : x.outlines ≡ written outlines l
  pub room : Holds outlines l
  -- each two neighbouring corners are the two ends of a result edge, and each result edge is at one place of one contour
  pub walls : OneToOne at_binary64 (row_at p) list (told_of outlines).corners
  -- counted open are those whose first and last corners differ
  pub unclosed : x.answer.«open» ≡ unclosed_among (same at_binary64) (told_of outlines).corners
  -- none, if every point ends an even number of result edges
  pub closing : EvenEnds at_binary64 (row_at p) list → AllClose outlines × (x.answer.«open» ≡ 0)

-- ---- another numbering and another listing; x is left of the one call and y of the other, with the same arrays lent

-- a refusal while contours are made tells the renamed record
unfoldable pub renamed_in : (ℕ → ℕ) → Verdict → Verdict
renamed_in ρ (Ok _) = Ok tt
renamed_in ρ (Err r) = Err (record { reason = r.reason; place = ρ r.place })

unfoldable pub renamed : (ℕ → ℕ) → Connected → Connected
renamed ρ a = record { contours = a.contours; corners = a.corners; holes = a.holes; «open» = a.«open»; outcome = renamed_in ρ a.outcome }

-- the same counts and the same three arrays; in a pool of n records each has the same contour number
pub record SameCall (ρ : ℕ → ℕ) (n : ℕ) (x y : After) : Type 0 where
  pub answer : y.answer ≡ renamed ρ x.answer
  pub outlines : y.outlines ≡ x.outlines
  pub pool : (r : ℕ) → r < n → row_at y.pool (ρ r) ≡ rename ρ (row_at x.pool r)

-- refused by one number; both pools and the arrays stay as lent
pub record SameRefusal (p p' : Pool) (l : Lent) (r : Refusal) (x y : After) : Type 0 where
  pub other : Refusal
  pub reason : other.reason ≡ r.reason
  pub first : x ≡ left (told [] (Err r)) p l
  pub second : y ≡ left (told [] (Err other)) p' l

pub record AnyOrder (ρ : ℕ → ℕ) (p p' : Pool) (list : List ℕ) (l : Lent) (x y : After) : Type 0 where
  -- no two result edges from a shared end in one direction: done, or refused by 9, as it is
  pub done : NoneOneWay at_binary64 (row_at p) list → x.answer.outcome ≡ Ok tt → SameCall ρ (size p) x y
  pub by_9 : NoneOneWay at_binary64 (row_at p) list → (r : Refusal) → x.answer.outcome ≡ Err r → r.reason ≡ Reason.Loose → SameCall ρ (size p) x y
  -- whatever the directions: refused by 1, 2, 4, 8 or 5, as it is
  pub by_checks : (r : Refusal) → x.answer.outcome ≡ Err r → r.reason ≢ Reason.Loose → SameRefusal p p' l r x y

-- ---- the call

pub record Demand (p : Pool) (list : List ℕ) (l : Lent) : Type 0 where
  pub outlined : (connect_edges p list l).answer.outcome ≡ Ok tt → Outlined p list l (connect_edges p list l)
  pub any_order : (ρ : ℕ → ℕ) (p' : Pool) (list' : List ℕ) → RenumberedPool ρ p p' → Relisted ρ list list'
      → AnyOrder ρ p p' list l (connect_edges p list l) (connect_edges p' list' l)
