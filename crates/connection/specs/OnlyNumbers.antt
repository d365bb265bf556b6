-- What connection leaves of the lent pool, number by number: contour numbers, marks 10 and 11, are all that may change, and they do not where the
-- record's contour is the one that it had.
use Rattle.std.specs.Prelude.{◌≡◌, [], ◌∷◌, ℕ}
use Rattle.events.specs.Pool.{Pool, row_at}
use Rattle.events.specs.Lent.{AsLentBut}

pub record OnlyNumbers (p q : Pool) : Type 0 where
  pub rest : (r : ℕ) → AsLentBut (10 ∷ 11 ∷ []) p q r
  pub same : (r : ℕ) → (row_at q r).contour ≡ (row_at p r).contour → AsLentBut [] p q r
