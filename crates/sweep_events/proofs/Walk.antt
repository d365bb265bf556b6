-- Two events side by side: where classes are alike and the meetings of neighbours are (`neighbours`), all that an event does to the records is.
use Rattle.std.proofs.Common.{None, Ok, Option, Some}
use mathlib.Core.Path.{◌≡◌, refl}
use Prim.Native.Nat.{ℕ, ◌≤◌}
use native.Mathlib.Omega.{arith}
use lib.Dec.{eqb}
use Rattle.events.specs.Coordinates.{Coordinates, Crossing}
use Rattle.events.specs.Store.{Store}
use Rattle.class.specs.declared.Operation.{Operation}
use Rattle.neighbours.specs.Neighbours.{Meeting, meeting}
use Rattle.neighbours.proofs.Likeness.{Likeness, StoresAlike, NumbersAlike, MeetingsAlike, met, broken, off}
use Rattle.neighbours.proofs.Walk.{MeetingLaws, meetings-cond, numbers-later, alike-meet}
use Rattle.sweep_events.specs.Event.{is_two, afterwards, classified, reclassed, with_upper, with_lower, between, close_up, is_below}

-- links to records at hand
pub data LinksAlike {P S P' S' : Type 0} (B : Likeness P S P' S') (n : ℕ) : Option ℕ → Option ℕ → Type 0 where
  nowhere : LinksAlike B n None None
  leads : {r r' : ℕ} → NumbersAlike B n r r' → LinksAlike B n (Some r) (Some r')

-- what an event asks beside meetings: class, and the place in the status
pub record EventLaws {P S P' S' : Type 0} (B : Likeness P S P' S') (op : Operation) (C : Coordinates P) (K : Store P S) (crossing : Crossing P) (op' : Operation) (C' : Coordinates P') (K' : Store P' S') (crossing' : Crossing P') : Type 0 where
  pub meetings : MeetingLaws B C K crossing C' K' crossing'
  pub classes : {n : ℕ} {s : S} {s' : S'} {e e' : ℕ} {lower lower' : Option ℕ} → StoresAlike B n s s' → NumbersAlike B n e e' → LinksAlike B n lower lower'
      → StoresAlike B n (classified C K op s n e lower) (classified C' K' op' s' n e' lower')
  pub belows : {n : ℕ} {s : S} {s' : S'} {e x e' x' : ℕ} → StoresAlike B n s s' → NumbersAlike B n e e' → NumbersAlike B n x x' → is_below C' K' crossing' s' n e' x' ≡ is_below C K crossing s n e x

module _ {P S P' S' : Type 0} {B : Likeness P S P' S'} where
  pub links-later : {m n : ℕ} {l l' : Option ℕ} → m ≤ n → LinksAlike B m l l' → LinksAlike B n l l'
  links-later h nowhere = nowhere
  links-later h (leads k) = leads (numbers-later h k)

  meetings-low : {m n : ℕ} {x : Meeting S} {x' : Meeting S'} → m ≤ n → MeetingsAlike B n x x' → MeetingsAlike B m x x'
  meetings-low h (met {n} c l w) = met {n = n} c (omega arith) w
  meetings-low h (broken {n} l w t) = broken {n = n} (omega arith) w t
  meetings-low h (off o) = off o

  meetings-then : {a : ℕ} {x : Meeting S} {x' : Meeting S'} (next : S → ℕ → Meeting S) (next' : S' → ℕ → Meeting S') → MeetingsAlike B a x x'
      → ((n : ℕ) (s : S) (s' : S') → a ≤ n → StoresAlike B n s s' → MeetingsAlike B n (next s n) (next' s' n)) → MeetingsAlike B a (afterwards x.met x next) (afterwards x'.met x' next')
  unfolding afterwards
  meetings-then next next' (met c l w) k = meetings-low l (k _ _ _ l w)
  meetings-then next next' (broken l w t) k = broken l w t
  meetings-then next next' (off o) k = off o

module _ {P S P' S' : Type 0} {B : Likeness P S P' S'} {op : Operation} {C : Coordinates P} {K : Store P S} {crossing : Crossing P} {op' : Operation} {C' : Coordinates P'} {K' : Store P' S'} {crossing' : Crossing P'}
    (E : EventLaws B op C K crossing op' C' K' crossing') where
  alike-reclassed : {n : ℕ} {m : Meeting S} {m' : Meeting S'} {a b a' b' : ℕ} {lower lower' : Option ℕ} → MeetingsAlike B n m m' → NumbersAlike B n a a' → LinksAlike B n lower lower' → NumbersAlike B n b b'
      → MeetingsAlike B n (reclassed C K op m a lower b) (reclassed C' K' op' m' a' lower' b')
  unfolding reclassed is_two
  alike-reclassed (met c l w) at_a low at_b =
      let v = E.classes w (numbers-later l at_a) (links-later l low) in
      meetings-cond (eqb c 2) _ refl (met c l (E.classes v (numbers-later l at_b) (leads (numbers-later l at_a)))) (met c l w)
  alike-reclassed (broken l w t) at_a low at_b = broken l w t
  alike-reclassed (off o) at_a low at_b = off o

  module _ {n : ℕ} {s : S} {s' : S'} (w : StoresAlike B n s s') where
    stay : MeetingsAlike B n (meeting s n (Ok 0)) (meeting s' n (Ok 0))
    stay = met {n = n} 0 (omega arith) w

    alike-upper : {e e' : ℕ} {lower lower' upper upper' : Option ℕ} → NumbersAlike B n e e' → LinksAlike B n lower lower' → LinksAlike B n upper upper'
        → MeetingsAlike B n (with_upper C K op crossing s n e lower upper) (with_upper C' K' op' crossing' s' n e' lower' upper')
    unfolding with_upper
    alike-upper at low nowhere = stay
    alike-upper at low (leads k) = alike-reclassed (alike-meet E.meetings w at k) at low k

    alike-lower : {e e' : ℕ} {lower lower' lowest lowest' : Option ℕ} → NumbersAlike B n e e' → LinksAlike B n lower lower' → LinksAlike B n lowest lowest'
        → MeetingsAlike B n (with_lower C K op crossing s n e lower lowest) (with_lower C' K' op' crossing' s' n e' lower' lowest')
    unfolding with_lower
    alike-lower at nowhere low = stay
    alike-lower at (leads k) low = alike-reclassed (alike-meet E.meetings w k at) k low at

    pub alike-close_up : {lower lower' upper upper' : Option ℕ} → LinksAlike B n lower lower' → LinksAlike B n upper upper'
        → MeetingsAlike B n (close_up C K crossing s n lower upper) (close_up C' K' crossing' s' n lower' upper')
    unfolding close_up
    alike-close_up nowhere up = stay
    alike-close_up (leads k) nowhere = stay
    alike-close_up (leads k) (leads h) = alike-meet E.meetings w k h

  pub alike-between : {n : ℕ} {s : S} {s' : S'} {e e' : ℕ} {lower lower' upper upper' lowest lowest' : Option ℕ} → StoresAlike B n s s' → NumbersAlike B n e e'
      → LinksAlike B n lower lower' → LinksAlike B n upper upper' → LinksAlike B n lowest lowest'
      → MeetingsAlike B n (between C K op crossing s n e lower upper lowest) (between C' K' op' crossing' s' n e' lower' upper' lowest')
  unfolding between
  alike-between w at low up lowest =
      meetings-then _ _ (alike-upper (E.classes w at low) at low up) (λ m t t' l v. alike-lower v (numbers-later l at) (links-later l low) (links-later l lowest))
