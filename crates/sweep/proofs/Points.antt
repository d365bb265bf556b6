-- What every stored point has stays so through the whole sweep, if the crossing and the step in x keep it. By `Inherited`, of an end and its partner.
use Prim.Native.Nat.{ℕ, ◌<◌}
use Rattle.events.specs.Coordinates.{Coordinates, Crossing}
use Rattle.events.specs.Event.{Event}
use Rattle.events.specs.Store.{Store, look}
use Rattle.events.proofs.Stored.{Stored}
use Rattle.events.proofs.Looks.{Blanks}
use Rattle.class.specs.declared.Operation.{Operation}
use Rattle.division.specs.Division.{new_end, linked}
use Rattle.division.proofs.Sides.{MoveLaws}
use Rattle.neighbours.proofs.Invariants.{Crossed}
use Rattle.sweep.specs.Run.{subdivide}
use Rattle.sweep.specs.Lined.{Good}
use Rattle.sweep.proofs.Inherited.{Inherited, stays}

-- both ends of an edge have it
abbrev Ends : {P : Type 0} → (P → Type 0) → Event P → Event P → Type 0
Ends Q e f = Q e.point × Q f.point

module _ {P S : Type 0} (C : Coordinates P) (K : Store P S) (crossing : Crossing P) (Q : P → Type 0) (nowhere : (r : ℕ) → Q (K.blank r).point) (step : (p : P) → Q p → Q (C.next_x p))
    (crosses : (p q p' q' : P) → Q p → Q q → Q p' → Q q' → Crossed Q (Unit {0}) (crossing p q p' q')) where
  at-ends : Inherited C K crossing (Ends Q) Q
  unfolding linked new_end
  at-ends =
      record {
        swaps = λ e f a. (a.1, a.0);
        faces = λ e f e' f' x y a. (rw x.point a.0, rw y.point a.1);
        first = λ e f c i j left a q. (a.0, q);
        second = λ e f c o j keep left a q. (q, a.1);
        point = λ e f a. a.0;
        nowhere = nowhere;
        step = step;
        crosses = crosses;
      }

  pub every-point : MoveLaws C → Stored K → Blanks K → (op : Operation) (s : S) (n : ℕ) → Good C K s n → ((r : ℕ) → r < n → Q (look K s n r).point)
      → let z = subdivide C K crossing op s n in (r : ℕ) → r < z.used → Q (look K z.store z.used r).point
  every-point M st bl op s n g a r l = (stays M st bl (Ends Q) Q at-ends op s n g (λ r l. (a r l, a _ (g.sound r l).paired.other)) r l).0
