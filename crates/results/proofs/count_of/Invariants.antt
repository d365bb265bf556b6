-- One more for each record that the test holds of.
use Rattle.std.proofs.Common.{◌≡◌, ◌≤◌, ℕ, Bool, take}
use Rattle.std.specs.List.{count_by}
use Rattle.results.proofs.count_of.Given as goal

abbrev pub invariant-loop-r : goal.invariant-loop-r
invariant-loop-r g l =
    (l.count ≤ l.r-index) × ((p : ℕ → Bool) → ((r : ℕ) (b : Bool) → goal.F-post g l.test r b → b ≡ p r) → l.count ≡ count_by p (take l.r-index l.list))
