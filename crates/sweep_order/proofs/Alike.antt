-- A renaming of the records, and the two stores that it relates, side by side: every test is of points, flags and layers, or whether two numbers are one,
-- and the two new records of a division take the same numbers in both. What a turn asks of two runs (`sweep`) is shown here law by law.
use Rattle.std.proofs.Common.{Some, None, Option}
use Rattle.refusals.specs.declared.Reason.TheVariants as Reason
use mathlib.Core.Path.{◌≡◌, refl, sym, ap, ap₂, ◌∙◌, subst}
use mathlib.Core.Bool.{Bool, true, false, not, cond, ◌||◌}
use Prim.Native.Nat.{ℕ, ◌+◌, ◌<◌, min}
use native.Mathlib.Omega.{arith}
use lib.Dec.{eqb, leb}
use Rattle.events.specs.declared.EdgeType.{EdgeType}
use Rattle.events.specs.declared.EdgeType.TheVariants.{NonContributing}
use Rattle.events.specs.Coordinates.{Coordinates, Crossing}
use Rattle.events.specs.Event.{Event, key}
use Rattle.events.specs.Renaming.{rename_link, rename}
use Rattle.events.specs.Store.{Store, look}
use Rattle.events.proofs.Stored.{Stored}
use Rattle.order.specs.Keys.{key_used}
use Rattle.class.specs.declared.Operation.{Operation}
use Rattle.class.specs.Class.{fields}
use Rattle.division.specs.Division.{moves, moved, misses, new_end, linked, keeps, numbers, full, parted, refused, done, divide_at, divide}
use Rattle.division.proofs.Cases.{room}
use Rattle.neighbours.specs.Step.{stop_of, cut}
use Rattle.neighbours.specs.Neighbours.{typed, type_by, coincided}
use Rattle.neighbours.proofs.Likeness.{Likeness, StepsAlike, went, halted, step_of}
use Rattle.neighbours.proofs.Keyed.{Keyed}
use Rattle.neighbours.proofs.Kept.{same, is, Any, any}
use Rattle.sweep_events.specs.Event.{neighbour_in, lower_in, classified}
use Rattle.sweep_events.proofs.Walk.{LinksAlike, nowhere, leads}
use Rattle.sweep.proofs.Walk.{TurnLaws, keyed-turns}
use Rattle.sweep_order.specs.SameBut.{Renaming, rename_refusal}
use Rattle.sweep_order.proofs.Renamings.{eqb-to}
use Rattle.sweep_order.proofs.Twins.{Twin, right_in, mate-to, right-to, point-to, right_point-to, key-to, used-to, next-to, twin-store, twin-more}
use Rattle.sweep_order.proofs.Classes.{rename_neighbour, rename_lower, fields-to}

-- ---- what is alike

-- under a new name
pub data Renamed {A : Type 0} (f : A → A) : A → A → Type 0 where
  renamed : {a : A} → Renamed f a (f a)

pub to_is : {A : Type 0} {f : A → A} {a b : A} → Renamed f a b → b ≡ f a
to_is renamed = refl

unfoldable pub renames : {P S : Type 0} (K : Store P S) {n : ℕ} (ρ : Renaming n) → Likeness P S P S
renames K ρ =
    record {
      Stores = λ m s s'. Twin K ρ s s' m;
      Numbers = λ m. Renamed ρ.to;
      Points = Any;
      Refusals = Renamed (rename_refusal ρ.to);
      Departs = λ r. ⊥;
      later = λ m k r r' l h. h;
    }

module _ {P S : Type 0} (C : Coordinates P) {K : Store P S} (st : Stored K) {n : ℕ} (ρ : Renaming n) where
  abbrev B : Likeness P S P S
  B = renames K ρ

  module _ {s s' : S} {used : ℕ} (t : Twin K ρ s s' used) where
    -- ---- division
    twin-parted : (i : ℕ) (e f : Event P) (c : P) (keep : Bool) → used + 1 < K.size s
        → Twin K ρ (parted K s used i e f c keep) (parted K s' used (ρ.to i) (rename ρ.to e) (rename ρ.to f) c keep) (used + 2)
    unfolding parted new_end linked rename rename_link
    twin-parted i e f c keep l =
        let one = twin-more t st (new_end e c false i) (new_end (rename ρ.to e) c false (ρ.to i)) (used + 1) refl refl (omega arith) in
        let two = twin-more one st (new_end e c keep e.partner) (new_end (rename ρ.to e) c keep (ρ.to e.partner)) (used + 2) (omega arith) refl (rw (st.size-enter s used (new_end e c false i)) l) in
        let three = twin-store two st i (linked e used e.left) (linked (rename ρ.to e) used e.left) (ap (λ k. linked (rename ρ.to e) k e.left) (used-to t)) in
        let flag = cond keep f.left true in
        twin-store three st e.partner (linked f (used + 1) flag) (linked (rename ρ.to f) (used + 1) flag) (ap (λ k. linked (rename ρ.to f) k flag) (next-to t))

    same-room : full K s' used ≡ full K s used
    unfolding full
    same-room = ap (λ k. leb (min k numbers) (used + 1)) t.size

    twin-divide_at : (i : ℕ) (e f : Event P) (c : P) (move : Bool)
        → StepsAlike B used (used + 2) (step_of (divide_at C K s used i e f c move)) (step_of (divide_at C K s' used (ρ.to i) (rename ρ.to e) (rename ρ.to f) c move))
    unfolding divide_at refused done rename keeps new_end key stop_of renames rename_refusal
    twin-divide_at i e f c move = go (not e.left || misses C e.point f.point c) (full K s used) refl
      where
        keep : Bool
        keep = keeps C e f c

        go : (off short : Bool) → full K s used ≡ short
            → StepsAlike B used (used + 2) (step_of (cond off (refused s used Reason.Cut i) (cond short (refused s used Reason.Full i) (done C K s used i e f c move))))
            (step_of (cond off (refused s' used Reason.Cut (ρ.to i)) (cond (full K s' used) (refused s' used Reason.Full (ρ.to i)) (done C K s' used (ρ.to i) (rename ρ.to e) (rename ρ.to f) c move))))
        go true short p = halted {n = used} (omega arith) (record { alike = t }) renamed
        go false true p = rw (same-room, p) (halted {n = used} (omega arith) (record { alike = t }) renamed)
        go false false p =
            let l = room K s used p in
            rw (same-room, p) (went {n = used + 2} (omega arith) (record { alike = twin-parted i e f c keep (omega arith) }))

    twin-cut : (i : ℕ) (p : P) → StepsAlike B used (used + 2) (cut C K s used i p) (cut C K s' used (ρ.to i) p)
    unfolding cut divide rename
    twin-cut i p =
        rw (right-to t i, t.looks i)
        (twin-divide_at i (look K s used i) (right_in K s used i) (moved C (look K s used i).point p) (moves C (look K s used i).point p))

    -- ---- edge types and classes
    typed-to : (e : Event P) (k : EdgeType) → typed (rename ρ.to e) k ≡ rename ρ.to (typed e k)
    unfolding typed rename
    typed-to e k = refl

    type_by-to : (e f : Event P) → type_by (rename ρ.to e) (rename ρ.to f) ≡ type_by e f
    unfolding type_by rename
    type_by-to e f = refl

    twin-coincided : (a b : ℕ) → Twin K ρ (coincided C K s used a b) (coincided C K s' used (ρ.to a) (ρ.to b)) used
    unfolding coincided
    twin-coincided a b =
        let first = look K s used a in
        let second = look K s used b in
        let one = twin-store t st b (typed second NonContributing) _ (ap (λ e. typed e NonContributing) (t.looks b) ∙ typed-to second NonContributing) in
        twin-store one st a (typed first (type_by first second)) _
        (ap₂ (λ e f. typed e (type_by e f)) (t.looks a) (t.looks b) ∙ ap (typed (rename ρ.to first)) (type_by-to first second) ∙ typed-to first (type_by first second))

    neighbour-to : (k : ℕ) → neighbour_in C K s' used (ρ.to k) ≡ rename_neighbour ρ.to (neighbour_in C K s used k)
    unfolding neighbour_in rename_neighbour
    neighbour-to k =
        let vertical = ap₂ C.same_x (point-to t k) (right_point-to t k) in
        λ i. record { number = ρ.to k; event = t.looks k i; vertical = vertical i }

    lower-to : (l : Option ℕ) → lower_in C K s' used (rename_link ρ.to l) ≡ rename_lower ρ.to (lower_in C K s used l)
    unfolding lower_in rename_link rename_lower
    lower-to None = refl
    lower-to (Some k) = ap Some (neighbour-to k)

    twin-classified : (op : Operation) (e : ℕ) (lower : Option ℕ) → Twin K ρ (classified C K op s used e lower) (classified C K op s' used (ρ.to e) (rename_link ρ.to lower)) used
    unfolding classified
    twin-classified op e lower =
        twin-store t st e (fields op (look K s used e) (lower_in C K s used lower)) _
        (ap₂ (fields op) (t.looks e) (lower-to lower) ∙ fields-to ρ.to op (look K s used e) (lower_in C K s used lower))

  fresh-to : {s s' : S} {m : ℕ} → Twin K ρ s s' m → Renamed ρ.to (m + 1) (m + 1)
  fresh-to {m = m} t = subst (Renamed ρ.to (m + 1)) (sym (next-to t)) renamed

  -- ---- each law at a number and its new name
  cut-alike : {s s' : S} {m i i' : ℕ} {p p' : P} → Twin K ρ s s' m → Renamed ρ.to i i' → Any p p' → StepsAlike B m (m + 2) (cut C K s m i p) (cut C K s' m i' p')
  cut-alike t renamed (same _) = twin-cut t _ _

  link-to : {m : ℕ} {l l' : Option ℕ} → LinksAlike B m l l' → l' ≡ rename_link ρ.to l
  unfolding renames rename_link
  link-to nowhere = refl
  link-to (leads h) = ap Some (to_is h.alike)

  mate-alike : {s s' : S} {m r r' : ℕ} → Twin K ρ s s' m → Renamed ρ.to r r' → Renamed ρ.to (look K s m r).partner (look K s' m r').partner
  mate-alike {r = r} t renamed = subst (Renamed ρ.to _) (sym (mate-to t r)) renamed

  told : {a a' : ℕ} → Renamed ρ.to a a' → Renamed (rename_refusal ρ.to) (record { reason = Reason.Cut; place = a }) (record { reason = Reason.Cut; place = a' })
  unfolding rename_refusal
  told renamed = renamed

  keyed-to : Keyed B C K K
  unfolding renames
  keyed-to =
      record {
        keys = λ {n = m} {s} {s'} {r} w h. ap (key_used K s' m) (to_is h.alike) ∙ key-to w.alike r;
        mates = λ w h. record { alike = mate-alike w.alike h.alike };
        one_number = λ {a = a} {b = b} w h l. ap₂ eqb (to_is h.alike) (to_is l.alike) ∙ eqb-to ρ a b;
        fresh = λ w l. record { alike = fresh-to w.alike };
        points = λ e. record { alike = any e };
        points-are = λ q. is q.alike;
        told = λ h. told h.alike;
        cuts = λ w h e. cut-alike w.alike h.alike (any e);
        coincides = λ {a = a} {b = b} w h l. record { alike = rw (to_is h.alike, to_is l.alike) (twin-coincided w.alike a b) };
      }

  pub turns-to : (crossing : Crossing P) (op : Operation) (past : P → Bool) → TurnLaws B op C K crossing past op C K crossing past
  unfolding renames
  turns-to crossing op past =
      keyed-turns keyed-to crossing op op past (λ m s s' e e' l l' w h q. record { alike = rw (to_is h.alike, link-to q) (twin-classified w.alike op e l) })
