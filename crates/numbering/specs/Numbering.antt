-- The contour number of each record of a pool, by two arrays: the place of each record, and the mark at each place.
use Rattle.std.specs.Prelude.{◌≡◌, List, ℕ, length, get_or, Option}
use Rattle.events.specs.Pool.{Pool, size, event_of, point_of, marks_over, stored}
use Rattle.contours.specs.Connect.{contour_of, with_contour, settled}

-- beyond either array there is none
unfoldable pub number_at : List ℕ → List ℕ → ℕ → Option ℕ
number_at places walked r = contour_of (get_or walked (get_or places r (length walked)) 0)

-- the whole pool
unfoldable pub settled_by : List ℕ → List ℕ → Pool → Pool
settled_by places walked p = settled stored (number_at places walked) (size p) p

-- ---- one record, in its two rows

unfoldable pub marks_with : List ℕ → List ℕ → Option ℕ → List ℕ
marks_with q m l = marks_over m (with_contour l (event_of q m))

pub record Renumbered (q : List ℕ) (m : List ℕ) (l : Option ℕ) (written : List ℕ) : Type 0 where
  pub marks : written ≡ marks_with q m l
  -- the point would be stored as it stands
  pub point : point_of (event_of q m) ≡ q
