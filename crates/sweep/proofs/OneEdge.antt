-- Partners that are of one layer and of one ring stay so through the whole sweep: both halves of a divided edge carry its layer and its ring.
use mathlib.Core.Path.{◌≡◌, refl, sym, ◌∙◌}
use Rattle.events.specs.Coordinates.{Coordinates, Crossing}
use Rattle.events.specs.Event.{Event}
use Rattle.events.specs.Store.{Store}
use Rattle.division.specs.Division.{new_end, linked}
use Rattle.neighbours.proofs.Invariants.{crossed-any}
use Rattle.sweep.proofs.Inherited.{Inherited}

pub record OneEdge {P : Type 0} (e f : Event P) : Type 0 where
  pub layer : e.subject ≡ f.subject
  pub ring : e.ring ≡ f.ring

pub one-edge : {P S : Type 0} (C : Coordinates P) (K : Store P S) (crossing : Crossing P) → Inherited C K crossing OneEdge (λ p. Unit {0})
unfolding linked new_end
one-edge C K crossing =
    record {
      swaps = λ e f a. record { layer = sym a.layer; ring = sym a.ring };
      faces = λ e f e' f' x y a. record { layer = x.subject ∙ a.layer ∙ sym y.subject; ring = x.ring ∙ a.ring ∙ sym y.ring };
      first = λ e f c i j left a q. record { layer = refl; ring = refl };
      second = λ e f c o j keep left a q. record { layer = a.layer; ring = a.ring };
      point = λ e f a. tt;
      nowhere = λ r. tt;
      step = λ p q. tt;
      crosses = λ p q p' q' a b a' b'. crossed-any tt (crossing p q p' q');
    }
