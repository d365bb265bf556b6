-- One contour: its trail, the positions from which its edges are walked one after the other, and its corners.
use Rattle.std.specs.Prelude.{Bool, true, false, List, [], ◌∷◌, map, ℕ, zero, suc, set, Option, None, Some}
use Rattle.contours.specs.Table.{Row}
use Rattle.contours.specs.Round.{seek, tries}

-- a walk ends where the next position is home again, or where there is none
unfoldable pub halt : Bool → (ℕ → List ℕ) → ℕ → List ℕ
halt true f j = []
halt false f j = f j

unfoldable pub onward : Option ℕ → (ℕ → Bool) → (ℕ → List ℕ) → List ℕ
unfolding halt
onward None s f = []
onward (Some j) s f = halt (s j) f j

module _ {P : Type 0} (same : P → P → Bool) (n : ℕ) (row : ℕ → Row P) where
  -- both ends of the edge from i are walked in contour c
  unfoldable pub mark : ℕ → List ℕ → ℕ → List ℕ
  mark c ms i = set (set ms i (suc c)) (row i).other (suc c)

  unfoldable pub marks : ℕ → List ℕ → List ℕ → List ℕ
  marks c ms [] = ms
  marks c ms (i ∷ t) = marks c (mark c ms i) t

  -- At most k edges from i on; `home` is the first point. With k the table's size no walk is cut short (proofs/Walked.antt).
  unfoldable pub walk : ℕ → P → ℕ → List ℕ → ℕ → List ℕ
  walk zero home c ms i = []
  walk (suc k) home c ms i =
      i ∷ onward (seek (mark c ms i) (tries same n row (row i).other)) (λ j. same home (row j).point) (λ j. walk k home c (mark c ms i) j)

  -- where the trail begins, then the other end of each edge
  unfoldable pub corners : List ℕ → List P
  corners [] = []
  corners (i ∷ t) = (row i).point ∷ map (λ j. (row (row j).other).point) (i ∷ t)
