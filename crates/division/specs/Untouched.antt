-- What a division that is done leaves of the lent arrays, number by number: i is the divided record, o the old right end.
use Rattle.std.specs.Prelude.{◌≢◌, Bool, cond, [], ◌∷◌, ℕ, ◌+◌}
use Rattle.events.specs.Pool.{Pool}
use Rattle.events.specs.Lent.{AsLentBut}

pub record Untouched (p q : Pool) (used i o : ℕ) (swapped : Bool) : Type 0 where
  -- of the divided record only its partner, mark 3
  pub own : AsLentBut (3 ∷ []) p q i
  -- of the old right end only its partner and, where the flags change places, its flag, mark 0
  pub other : AsLentBut (cond swapped (0 ∷ 3 ∷ []) (3 ∷ [])) p q o
  -- of every record but these and the two new ones nothing
  pub rest : (r : ℕ) → r ≢ used → r ≢ used + 1 → r ≢ i → r ≢ o → AsLentBut [] p q r
