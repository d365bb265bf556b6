-- What an event asks, for each of the three adapters of `neighbours`: an invariant of one run, equal keys, a likeness with an invariant.
use Rattle.std.proofs.Common.{Option, Some, None}
use mathlib.Core.Path.{◌≡◌, refl}
use mathlib.Core.Bool.{false, cond}
use Prim.Native.Nat.{ℕ}
use Rattle.events.specs.Coordinates.{Coordinates, Crossing}
use Rattle.events.specs.Event.{Event, key}
use Rattle.events.specs.Store.{Store, look}
use Rattle.events.proofs.Faces.{Face}
use Rattle.order.specs.Keys.{key_of, key_used}
use Rattle.segments.specs.Segments.{compare_segments}
use Rattle.segments.proofs.Crossings.{by-one-crossing}
use Rattle.class.specs.declared.Operation.{Operation}
use Rattle.class.specs.Class.{written, set_from_lower, fields, Neighbour}
use Rattle.neighbours.proofs.Likeness.{Likeness, StoresAlike, NumbersAlike}
use Rattle.neighbours.proofs.Keyed.{Keyed, keyed-meetings}
use Rattle.neighbours.proofs.Both.{both, stores, numbers, store-known, number-known, stores_both, meetings-both}
use Rattle.neighbours.proofs.Invariants.{Invariant, Kept, Agrees}
use Rattle.neighbours.proofs.Kept.{Same, same, is, diagonal, kept-meetings}
use Rattle.sweep_events.specs.Event.{is_less, lower_in, classified, is_below}
use Rattle.sweep_events.proofs.Walk.{LinksAlike, nowhere, leads, EventLaws}

-- ---- two stores whose records have equal keys

-- class reads more than keys
abbrev pub ClassesAlike : {P S S' : Type 0} → Likeness P S P S' → Coordinates P → Store P S → Operation → Store P S' → Operation → Type 0
ClassesAlike {P} {S} {S'} B C K op K' op' =
    (n : ℕ) (s : S) (s' : S') (e e' : ℕ) (lower lower' : Option ℕ) → StoresAlike B n s s' → NumbersAlike B n e e' → LinksAlike B n lower lower'
    → StoresAlike B n (classified C K op s n e lower) (classified C K' op' s' n e' lower')

pub keyed-events : {P S S' : Type 0} {B : Likeness P S P S'} {C : Coordinates P} {K : Store P S} {K' : Store P S'} (k : Keyed B C K K') (crossing : Crossing P) (op op' : Operation) → ClassesAlike B C K op K' op'
    → EventLaws B op C K crossing op' C K' crossing
unfolding is_below
keyed-events {C = C} k crossing op op' classes =
    record {
      meetings = keyed-meetings k crossing;
      classes = λ w h l. classes _ _ _ _ _ _ _ w h l;
      belows = λ w h l. λ i. cond (k.one_number w h l i) false (is_less (compare_segments C crossing (k.keys w h i) (k.keys w l i)));
    }

-- ---- an invariant of one run

module _ {P : Type 0} where
  face-fields : (op : Operation) (e : Event P) (lower : Option (Neighbour P)) → Face (fields op e lower) e
  unfolding fields set_from_lower written
  face-fields op e None = record { point = refl; left = refl; subject = refl; ring = refl; partner = refl }
  face-fields op e (Some k) = record { point = refl; left = refl; subject = refl; ring = refl; partner = refl }

module _ {P S : Type 0} {C : Coordinates P} {K : Store P S} {crossing : Crossing P} (I : Invariant P S) (k : Kept I C K crossing) where
  links-same : {n : ℕ} {l l' : Option ℕ} → LinksAlike (diagonal I) n l l' → l' ≡ l
  unfolding diagonal
  links-same nowhere = refl
  links-same (leads h) = λ i. Some (is h.alike i)

  class-alike : (op : Operation) {n : ℕ} {s s' : S} {e e' : ℕ} {lower lower' : Option ℕ} → Same (I.OfStore n) s s' → Same (I.OfNumber n) e e' → lower' ≡ lower
      → Same (I.OfStore n) (classified C K op s n e lower) (classified C K op s' n e' lower')
  unfolding classified
  class-alike op {n} {s} {s'} {e} {e'} {lower} (same h) (same at) q = rw q (same (k.put n s e _ h at (face-fields op (look K s n e) (lower_in C K s n lower))))

  module _ (crossing' : Crossing P) (agree : Agrees I C K crossing crossing') where
    below_alike : {n : ℕ} {s s' : S} {e x e' x' : ℕ} → Same (I.OfStore n) s s' → Same (I.OfNumber n) e e' → Same (I.OfNumber n) x x' → is_below C K crossing' s' n e' x' ≡ is_below C K crossing s n e x
    unfolding is_below key_used key_of key
    below_alike {n} {s} {s'} {e} {x} (same h) (same at) (same at_x) =
        rw (by-one-crossing C crossing crossing' (key_used K s n e) (key_used K s n x) (agree n s e x h at at_x) (agree n s x e h at_x at))

    pub kept-events : (op : Operation) → EventLaws (diagonal I) op C K crossing op C K crossing'
    unfolding diagonal
    kept-events op =
        record {
          meetings = kept-meetings I k crossing' agree;
          classes = λ w h l. record { alike = class-alike op w.alike h.alike (links-same l) };
          belows = λ w h l. below_alike w.alike h.alike l.alike;
        }

-- ---- what is alike in two runs, and an invariant of the first

pub links : {P S P' S' : Type 0} (B : Likeness P S P' S') (I : Invariant P S) {n : ℕ} {l l' : Option ℕ} → LinksAlike (both B I) n l l' → LinksAlike B n l l'
links B I nowhere = nowhere
links B I (leads h) = leads (numbers B I h)

pub events-both : {P S P' S' : Type 0} {B : Likeness P S P' S'} {op : Operation} {C : Coordinates P} {K : Store P S} {crossing : Crossing P} {op' : Operation} {C' : Coordinates P'} {K' : Store P' S'} {crossing' : Crossing P'}
    → EventLaws B op C K crossing op' C' K' crossing' → (I : Invariant P S) → Kept I C K crossing → EventLaws (both B I) op C K crossing op' C' K' crossing'
unfolding classified
events-both {B = B} {op} {C} {K} E I k =
    record {
      meetings = meetings-both E.meetings I k;
      classes = λ {n} {s} {e = e} {lower = lower} w h l.
          stores_both B I (E.classes (stores B I w) (numbers B I h) (links B I l)) (k.put n s e _ (store-known B I w) (number-known B I h) (face-fields op (look K s n e) (lower_in C K s n lower)));
      belows = λ w h l. E.belows (stores B I w) (numbers B I h) (numbers B I l);
    }
