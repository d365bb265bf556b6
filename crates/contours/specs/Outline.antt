-- What is told of each contour: corners, parent, depth, holes, and whether it is open.
use Rattle.std.specs.Prelude.{Bool, false, not, List, [], ◌∷◌, ℕ, suc, ◌+◌, length, get_or, eqb, Option, None, Some}
use Rattle.checks.specs.Numbers.{numbers_from}
use Rattle.contours.specs.Result.{keep}
use Rattle.contours.specs.Table.{Row}
use Rattle.contours.specs.Walk.{corners}
use Rattle.contours.specs.Contours.{Contour, contour}

pub record Outline (P : Type 0) : Type 0 where
  -- the positions from which its edges are walked
  pub trail : List ℕ
  -- with the bits of the events visited
  pub corners : List P
  pub parent : Option ℕ
  pub depth : ℕ
  -- the contours whose parent this is, in their order
  pub holes : List ℕ
  -- the first and the last corner differ
  pub unclosed : Bool

-- the last of a list that begins with p
unfoldable pub final : {P : Type 0} → P → List P → P
final p [] = p
final p (q ∷ l) = final q l

-- the first and the last corner are one
unfoldable pub closes : {P : Type 0} → (P → P → Bool) → List P → Bool
closes same [] = false
closes same (p ∷ l) = same p (final p l)

unfoldable pub is_parent : ℕ → Option ℕ → Bool
is_parent c None = false
is_parent c (Some p) = eqb p c

unfoldable pub holes_of : List Contour → ℕ → List ℕ
holes_of cs c = keep (λ j. is_parent c (get_or cs j (contour [] None 0)).parent) (numbers_from 0 (length cs))

module _ {P : Type 0} (same : P → P → Bool) (n : ℕ) (row : ℕ → Row P) where
  unfoldable pub outline : List Contour → ℕ → Contour → Outline P
  outline cs c k =
      record {
        trail = k.trail;
        corners = corners same n row k.trail;
        parent = k.parent;
        depth = k.depth;
        holes = holes_of cs c;
        unclosed = not (closes same (corners same n row k.trail));
      }

  -- of the contours l, which are those from c on of cs
  unfoldable pub outlines_from : List Contour → ℕ → List Contour → List (Outline P)
  outlines_from cs c [] = []
  outlines_from cs c (k ∷ l) = outline cs c k ∷ outlines_from cs (suc c) l

  unfoldable pub outlines : List Contour → List (Outline P)
  outlines cs = outlines_from cs 0 cs

-- the count of contours whose first and last points differ
unfoldable pub open_count : {P : Type 0} → List (Outline P) → ℕ
open_count os = length (keep (λ o. o.unclosed) os)

-- ---- how many places they take

unfoldable pub corner_count : {P : Type 0} → List (Outline P) → ℕ
corner_count [] = 0
corner_count (o ∷ os) = length o.corners + corner_count os

unfoldable pub hole_count : {P : Type 0} → List (Outline P) → ℕ
hole_count [] = 0
hole_count (o ∷ os) = length o.holes + hole_count os
