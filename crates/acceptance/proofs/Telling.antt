-- The lowest record that a test strikes, told with one record more.
use Rattle.refusals.specs.declared.Reason.{Reason}
use Rattle.std.proofs.Common.{Ok, Option, None, Some}
use mathlib.Core.Path.{◌≡◌, refl}
use mathlib.Core.Bool.{Bool, true, false, cond}
use mathlib.Core.List.{List, [], ◌∷◌}
use Prim.Native.Nat.{ℕ}
use Rattle.contours.specs.Accept.{at_most, lowest, refused_at, told_lowest}
use Rattle.acceptance.specs.Lowest.{told_also}
use Rattle.results.proofs.Backwards.{one_back}

-- ---- one record more looked at

module _ (reason : Reason) (test : ℕ → Bool) where
  pub none_yet : told_lowest reason test [] ≡ Ok tt
  unfolding told_lowest refused_at lowest
  none_yet = refl

  pub one_more : (r : ℕ) (l : List ℕ) → told_lowest reason test (r ∷ l) ≡ told_also (told_lowest reason test l) reason r (test r)
  unfolding told_lowest refused_at lowest told_also at_most
  one_more r l = by (test r) (lowest test l)
    where
      by : (t : Bool) (o : Option ℕ) → refused_at reason (cond t (Some (at_most r o)) o) ≡ told_also (refused_at reason o) reason r t
      by false o = refl
      by true None = refl
      by true (Some q) = refl

-- the steps of a loop that comes to the records from a list's end to its front
pub ruleset backwards = (one_back, none_yet, one_more)
