-- Is every wall in exactly one outline? Here a contour is its corners and a wall is a result edge, named by its left record. Several walls may have the
-- same two ends, so the answer is a matching: one wall for each two neighbouring corners, and each wall at one place.
use Rattle.std.specs.Prelude.{◌≡◌, Bool, true, not, ◌&&◌, ◌||◌, ℕ, suc, ◌<◌, length, get_or, Option}
use mathlib.Core.List.{List, [], map, Memᴰ}
use Rattle.events.specs.Coordinates.{Coordinates, same}
use Rattle.events.specs.Event.{Event}
use Rattle.contours.specs.Result.{keep, result_edges}
use Rattle.contours.specs.Outline.{Outline, closes, open_count}

-- ---- what a reader is told of all contours, in their order

pub record Told (P : Type 0) : Type 0 where
  -- bit for bit
  pub corners : List (List P)
  pub parents : List (Option ℕ)
  pub depths : List ℕ
  pub holes : List (List ℕ)
  -- the count of open contours
  pub unclosed : ℕ

unfoldable pub told_of : {P : Type 0} → List (Outline P) → Told P
told_of os =
    record {
      corners = map (λ o. o.corners) os;
      parents = map (λ o. o.parent) os;
      depths = map (λ o. o.depth) os;
      holes = map (λ o. o.holes) os;
      unclosed = open_count os;
    }

-- how many of some contours do not close
unfoldable pub unclosed_among : {P : Type 0} → (P → P → Bool) → List (List P) → ℕ
unclosed_among same contours = length (keep (λ c. not (closes same c)) contours)

-- ---- places

module _ {P : Type 0} (contours : List (List P)) where
  -- contour c has a corner k and one after it
  abbrev pub IsPlace : ℕ → ℕ → Type 0
  IsPlace c k = suc k < length (get_or contours c [])

  -- corner k of contour c; d where there is none
  unfoldable pub corner : P → ℕ → ℕ → P
  corner d c k = get_or (get_or contours c []) k d

-- ---- walls

module _ {P : Type 0} (C : Coordinates P) (row : ℕ → Event P) where
  -- the edge of record r runs from a to b, by value
  unfoldable pub runs : ℕ → P → P → Bool
  runs r a b = same C a (row r).point && same C b (row (row r).partner).point

  -- a and b are its two ends, in one order or the other
  unfoldable pub joins : ℕ → P → P → Bool
  joins r a b = runs r a b || runs r b a

  pub record OneToOne (list : List ℕ) (contours : List (List P)) : Type 0 where
    -- from corner k of contour c to the next
    pub wall : (c k : ℕ) → ℕ
    -- is a result edge
    pub real : (c k : ℕ) → IsPlace contours c k → Memᴰ (wall c k) (result_edges row list)
    -- with these two corners as its ends
    pub ends : (c k : ℕ) → IsPlace contours c k → (d : P) → joins (wall c k) (corner contours d c k) (corner contours d c (suc k)) ≡ true
    -- each result edge is at a place
    pub placed : (r : ℕ) → Memᴰ r (result_edges row list) → (c : ℕ) × (k : ℕ) × IsPlace contours c k × (wall c k ≡ r)
    -- and at no other
    pub once : (c k c' k' : ℕ) → IsPlace contours c k → IsPlace contours c' k' → wall c k ≡ wall c' k' → (c ≡ c') × (k ≡ k')
    -- no contour is without a wall
    pub walled : (c : ℕ) → c < length contours → IsPlace contours c 0
