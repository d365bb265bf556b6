-- The status: the left records of the segments that the sweep line meets, from the bottom. A place is counted from the bottom, from 0; how a
-- member is found, comes and goes is said in `lists`.
use Rattle.std.specs.Prelude.{List, [], ◌∷◌, ℕ, zero, suc, None, Option, Some}

-- the member at a place, and the one just below a place
unfoldable pub member : List ℕ → ℕ → Option ℕ
member [] k = None
member (x ∷ l) zero = Some x
member (x ∷ l) (suc k) = member l k

unfoldable pub below : List ℕ → ℕ → Option ℕ
below l zero = None
below l (suc k) = member l k
