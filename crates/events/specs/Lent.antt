-- What is left of lent arrays, number by number: a mark may say the same in another number, and records as they are read do not show it.
use Rattle.std.specs.Prelude.{◌≡◌, ℕ, ◌<◌, Bool, false, ◌||◌, List, [], ◌∷◌, ◌==◌, slice_index, slice_index_or}
use Rattle.events.specs.Pool.{Pool}

-- the number in mark k of record r, and its coordinate k
abbrev pub mark_at : Pool → ℕ → ℕ → ℕ
mark_at p r k = slice_index (slice_index_or p.marks r []) k

abbrev pub coordinate_at : Pool → ℕ → ℕ → ℕ
coordinate_at p r k = slice_index (slice_index_or p.points r []) k

abbrev pub among : ℕ → List ℕ → Bool
among k [] = false
among k (x ∷ l) = k == x || among k l

-- record r holds in q the numbers that it holds in p, but for these marks
pub record AsLentBut (ks : List ℕ) (p q : Pool) (r : ℕ) : Type 0 where
  pub marks : (k : ℕ) → k < 12 → among k ks ≡ false → mark_at q r k ≡ mark_at p r k
  pub point : (k : ℕ) → k < 2 → coordinate_at q r k ≡ coordinate_at p r k
