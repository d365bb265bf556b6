-- What demand 3 speaks of: another numbering and another listing of the records, directions, ends at a point, edges walked.
use Rattle.std.specs.Prelude.{◌≡◌, ◌≢◌, Bool, false, ◌||◌, ℕ, ◌+◌, ◌<◌, ◌%◌, length, get_or, eqb, ltb}
use mathlib.Core.List.{List, [], ◌∷◌, map, Memᴰ, Permᴰ}
use Rattle.refusals.specs.declared.Refusal.{Refusal}
use Rattle.events.specs.Coordinates.{Coordinates, same}
use Rattle.events.specs.Event.{Event}
use Rattle.events.specs.Renaming.{rename}
use Rattle.events.specs.Store.{Store}
use Rattle.events.specs.Pool.{Pool, size, row_at}
use Rattle.order.specs.Order.{is_one_way}
use Rattle.order.specs.Keys.{key_of}
use Rattle.contours.specs.Result.{keep, results}
use Rattle.contours.specs.Outline.{Outline}
use Rattle.contours.specs.Connect.{with_contour, Finished, Outcome, refused, stopped, connected}

-- ---- another numbering

-- Record r is called ρ r; the contour numbers found may be any, for they are forgotten. Numbers outside the pool are renamed too, and stay outside.
pub record Renumbered {P : Type 0} (ρ : ℕ → ℕ) (n : ℕ) (row row' : ℕ → Event P) : Type 0 where
  pub injective : (a b : ℕ) → ρ a ≡ ρ b → a ≡ b
  pub within : (r : ℕ) → ltb (ρ r) n ≡ ltb r n
  pub kept : (r : ℕ) → r < n → row' (ρ r) ≡ with_contour (row' (ρ r)).contour (rename ρ (row r))

-- of two lent pools: as many places, and record r is called ρ r
pub record RenumberedPool (ρ : ℕ → ℕ) (p p' : Pool) : Type 0 where
  pub points : length p'.points ≡ length p.points
  pub marks : length p'.marks ≡ length p.marks
  pub records : Renumbered ρ (size p) (row_at p) (row_at p')

-- the renamed list, in any order
abbrev pub Relisted : (ℕ → ℕ) → List ℕ → List ℕ → Type 0
Relisted ρ list list' = Permᴰ (map ρ list) list'

module _ {P : Type 0} (C : Coordinates P) (row : ℕ → Event P) (list : List ℕ) where
  -- no two result edges run from a shared end in one direction
  abbrev pub NoneOneWay : Type 0
  NoneOneWay = (r q : ℕ) → Memᴰ r (results row list) → Memᴰ q (results row list) → r ≢ q → is_one_way C (key_of row r) (key_of row q) ≡ false

  -- how many result edges end at a point, by value
  unfoldable pub ends_at : P → ℕ
  ends_at p = length (keep (λ r. same C p (row r).point) (results row list))

  -- every point ends an even number of result edges; one that ends none does so
  abbrev pub EvenEnds : Type 0
  EvenEnds = (r : ℕ) → Memᴰ r (results row list) → ends_at (row r).point % 2 ≡ 0

-- ---- edges walked; s holds the ordered records

module _ {P : Type 0} (row : ℕ → Event P) (s : List ℕ) (r : ℕ) where
  -- the edge walked from position i is that of record r
  unfoldable pub is_edge_of : ℕ → Bool
  is_edge_of i = eqb (get_or s i 0) r || eqb (row (get_or s i 0)).partner r

  -- in all contours
  unfoldable pub times_walked : List (Outline P) → ℕ
  times_walked [] = 0
  times_walked (o ∷ os) = length (keep is_edge_of o.trail) + times_walked os

-- ---- two outcomes, of a list and of another numbering and listing of it

-- the same contours, and in the pool the same contour numbers
pub record SameFinished {P S : Type 0} (K : Store P S) (ρ : ℕ → ℕ) (n : ℕ) (f g : Finished P S) : Type 0 where
  pub outlines : g.outlines ≡ f.outlines
  pub pool : (r : ℕ) → r < n → K.row_at g.pool (ρ r) ≡ rename ρ (K.row_at f.pool r)

-- refusals keep their number, and 9 tells the renamed record
pub data Alike {P S : Type 0} (K : Store P S) (ρ : ℕ → ℕ) (n : ℕ) : Outcome P S → Outcome P S → Type 0 where
  refused_alike : {x y : Refusal} → y.reason ≡ x.reason → Alike K ρ n (refused x) (refused y)
  stopped_alike : {x y : Refusal} {f g : Finished P S} → y ≡ record { reason = x.reason; place = ρ x.place } → SameFinished K ρ n f g → Alike K ρ n (stopped x f) (stopped y g)
  connected_alike : {f g : Finished P S} → SameFinished K ρ n f g → Alike K ρ n (connected f) (connected g)
