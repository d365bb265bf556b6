-- The code's reads and steps, one equation each, put together to the definition of an overlap.
use mathlib.Core.Path.{◌≡◌, ap, ◌∙◌}
use mathlib.Core.Logic.{◌≢◌}
use mathlib.Core.Bool.{Bool, true, false}
use Prim.Native.Nat.{ℕ, ◌+◌}
use borrow.Author.Tests.{eq-eqb, ne_eqb}
use Rattle.events.specs.Coordinates.{Coordinates}
use Rattle.events.specs.Event.{Event}
use Rattle.events.specs.Store.{Store, look}
use Rattle.neighbours.specs.Step.{Step, cut, cut_unless, twice}
use Rattle.neighbours.specs.Neighbours.{right_of, coincided, left_shared, laid}

module _ {P S : Type 0} (C : Coordinates P) (K : Store P S) (s : S) (used : ℕ) where
  pub left-shared-is : (a b h k : ℕ) (oneRight : Bool) (t : S) (end : P) (y : Step S) → end ≡ (right_of C K s used h).point → t ≡ coincided C K s used a b → y ≡ cut_unless C K oneRight t used k end → y ≡ left_shared C K s used a b oneRight h k
  unfolding left_shared
  left-shared-is a b h k oneRight t end y p q e = rw (← p, ← q) e

  module _ (i j h k : ℕ) (oneRight : Bool) (start : P) (y : Step S) (at : start ≡ (look K s used j).point) where
    pub laid-once : oneRight ≡ true → y ≡ cut C K s used i start → y ≡ laid C K s used oneRight i j h k
    unfolding laid
    laid-once r e = rw (r, ← at) e

    pub laid_on : (end : P) → end ≡ (right_of C K s used h).point → oneRight ≡ false → i ≡ k → y ≡ twice C K s used i start (used + 1) end → y ≡ laid C K s used oneRight i j h k
    unfolding laid
    laid_on end p r q e = rw (r, ← at, ← p, eq-eqb i k q) e

    pub laid-twice : (end : P) → end ≡ (right_of C K s used h).point → oneRight ≡ false → i ≢ k → y ≡ twice C K s used i start j end → y ≡ laid C K s used oneRight i j h k
    unfolding laid
    laid-twice end p r q e = rw (r, ← at, ← p, ne_eqb i k q) e

pub right_is : {P S : Type 0} (C : Coordinates P) (K : Store P S) (s : S) (used r : ℕ) (e f : Event P) → e ≡ look K s used r → f ≡ look K s used e.partner → f.point ≡ (right_of C K s used r).point
right_is C K s used r e f p q = ap (λ x. x.point) q ∙ ap (λ x. (look K s used x.partner).point) p
