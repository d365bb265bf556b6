-- What is known all through one run: of stores, of numbers at hand, of points and of refusals; and what keeps it. Most facts are of stores alone, kept where
-- a record is stored over one with its face and where a division is done; for those there are short forms.
use Rattle.std.proofs.Common.{Err, Ok}
use Rattle.refusals.specs.declared.Reason.TheVariants as Reason
use mathlib.Core.Path.{◌≡◌, refl, ◌∙◌}
use Prim.Native.Nat.{ℕ, ◌+◌, ◌<◌, ◌≤◌}
use native.Mathlib.Omega.{arith}
use Rattle.refusals.specs.declared.Refusal.{Refusal}
use Rattle.events.specs.declared.EdgeType.{EdgeType}
use Rattle.events.specs.Coordinates.{Coordinates, Cross, none, lost, point, overlap, Crossing}
use Rattle.events.specs.Event.{Event}
use Rattle.events.specs.Store.{Store, look}
use Rattle.events.proofs.Stored.{Stored}
use Rattle.events.proofs.Faces.{Face, face-sym, face-store}
use Rattle.division.specs.declared.Divided.{Divided}
use Rattle.division.specs.Division.{divide}
use Rattle.neighbours.specs.Neighbours.{typed, coincided}
use Rattle.neighbours.proofs.Likeness.{crossing_of}

-- ---- what is known, and what keeps it

-- of a store and of a number at hand, each with so many places in use; of a point; of a refusal
pub record Invariant (P S : Type 0) : Type 1 where
  pub OfStore : ℕ → S → Type 0
  pub OfNumber : ℕ → ℕ → Type 0
  pub OfPoint : P → Type 0
  pub OfRefusal : Refusal → Type 0
  pub later : (m n r : ℕ) → m ≤ n → OfNumber m r → OfNumber n r

-- of a crossing: where it is a point, of that, and where it is lost, what is to be known then
abbrev pub Crossed : {P : Type 0} → (P → Type 0) → Type 0 → Cross P → Type 0
Crossed OfPoint IfLost none = Unit {0}
Crossed OfPoint IfLost lost = IfLost
Crossed OfPoint IfLost (point p) = OfPoint p
Crossed OfPoint IfLost (overlap p q) = Unit {0}

-- a record is stored over one with its face
abbrev pub Puts : {P S : Type 0} → Store P S → (ℕ → S → Type 0) → (ℕ → ℕ → Type 0) → Type 0
Puts {P} {S} K H N = (n : ℕ) (s : S) (i : ℕ) (e : Event P) → H n s → N n i → Face e (look K s n i) → H n (K.store s i e)

-- two edge types change, of segments with one left end
abbrev pub Coincides : {P S : Type 0} → Coordinates P → Store P S → (ℕ → S → Type 0) → (ℕ → ℕ → Type 0) → Type 0
Coincides {P} {S} C K H N = (n : ℕ) (s : S) (a b : ℕ) → H n s → N n a → N n b → H n (coincided C K s n a b)

-- a division is done
abbrev pub Divides : {P S : Type 0} → Coordinates P → Store P S → (ℕ → S → Type 0) → Type 0
Divides {P} {S} C K H =
    (n : ℕ) (s : S) (i : ℕ) (p : P) (d : Divided) → H n s → (divide C K s n i p).answer ≡ Ok d → H (divide C K s n i p).used (divide C K s n i p).store

pub record Kept {P S : Type 0} (I : Invariant P S) (C : Coordinates P) (K : Store P S) (crossing : Crossing P) : Type 0 where
  pub points : (n : ℕ) (s : S) (r : ℕ) → I.OfStore n s → I.OfPoint (look K s n r).point
  -- the new left end of a division
  pub fresh : (n m : ℕ) → n + 2 ≤ m → I.OfNumber m (n + 1)
  pub crosses : (n : ℕ) (s : S) (a b : ℕ) → I.OfStore n s → I.OfNumber n a → I.OfNumber n b
      → Crossed I.OfPoint (I.OfRefusal (record { reason = Reason.Cut; place = a })) (crossing_of C K crossing s n a b)
  pub put : Puts K I.OfStore I.OfNumber
  pub coincides : Coincides C K I.OfStore I.OfNumber
  pub done : (n : ℕ) (s : S) (i : ℕ) (p : P) (d : Divided) → I.OfStore n s → I.OfNumber n i → I.OfPoint p → (divide C K s n i p).answer ≡ Ok d
      → I.OfStore (divide C K s n i p).used (divide C K s n i p).store
  pub told : (n : ℕ) (s : S) (i : ℕ) (p : P) (r : Refusal) → I.OfStore n s → I.OfNumber n i → (divide C K s n i p).answer ≡ Err r → I.OfRefusal r

-- another crossing tells the same where this is known
abbrev pub Agrees : {P S : Type 0} → Invariant P S → Coordinates P → Store P S → (crossing crossing' : Crossing P) → Type 0
Agrees {P} {S} I C K crossing crossing' =
    (n : ℕ) (s : S) (a b : ℕ) → I.OfStore n s → I.OfNumber n a → I.OfNumber n b → crossing_of C K crossing' s n a b ≡ crossing_of C K crossing s n a b

pub face-trans : {P : Type 0} {x y z : Event P} → Face x y → Face y z → Face x z
face-trans f g = record { point = f.point ∙ g.point; left = f.left ∙ g.left; subject = f.subject ∙ g.subject; ring = f.ring ∙ g.ring; partner = f.partner ∙ g.partner }

-- a record with another edge type has the same face
pub typed-face : {P : Type 0} (e : Event P) (t : EdgeType) → Face (typed e t) e
unfolding typed
typed-face e t = record { point = refl; left = refl; subject = refl; ring = refl; partner = refl }

-- where no more places are in use than there are, two edge types that change are two records stored over ones with their faces
pub coincides-put : {P S : Type 0} (C : Coordinates P) (K : Store P S) (H : ℕ → S → Type 0) (N : ℕ → ℕ → Type 0) → Stored K → ((n : ℕ) (s : S) → H n s → n ≤ K.size s)
    → Puts K H N → Coincides C K H N
unfolding coincided
coincides-put C K H N st fits put n s a b h at_a at_b =
    put n _ a _ (put n s b _ h at_b (typed-face _ _)) at_a (face-trans (typed-face _ _) (face-sym (face-store st s n b _ (fits n s h) (typed-face _ _) a)))

-- ---- where nothing need be known of points and refusals

abbrev pub of_stores : {P S : Type 0} → (ℕ → S → Type 0) → (N : ℕ → ℕ → Type 0) → ((m n r : ℕ) → m ≤ n → N m r → N n r) → Invariant P S
of_stores H N later = record { OfStore = H; OfNumber = N; OfPoint = λ p. Unit {0}; OfRefusal = λ r. Unit {0}; later = later }

-- nor of numbers at hand
unfoldable pub store_alone : {P S : Type 0} → (ℕ → S → Type 0) → Invariant P S
store_alone H = of_stores H (λ n r. Unit {0}) (λ m n r l h. tt)

-- .. or but that these are in use
unfoldable pub numbers_in_use : {P S : Type 0} → (ℕ → S → Type 0) → Invariant P S
numbers_in_use H = of_stores H (λ n r. r < n) (λ m n r l h. omega arith)

-- where nothing need be known of points
pub crossed-any : {P T : Type 0} → T → (x : Cross P) → Crossed (λ (p : P). Unit {0}) T x
crossed-any t none = tt
crossed-any t lost = t
crossed-any t (point p) = tt
crossed-any t (overlap p q) = tt

module _ {P S : Type 0} (C : Coordinates P) (K : Store P S) (crossing : Crossing P) (H : ℕ → S → Type 0) where
  stores-kept : (N : ℕ → ℕ → Type 0) (later : (m n r : ℕ) → m ≤ n → N m r → N n r) → ((n m : ℕ) → n + 2 ≤ m → N m (n + 1)) → Puts K H N → Coincides C K H N → Divides C K H
      → Kept (of_stores H N later) C K crossing
  stores-kept N later fresh put coincides done =
      record {
        points = λ n s r h. tt;
        fresh = fresh;
        crosses = λ n s a b h x y. crossed-any tt (crossing_of C K crossing s n a b);
        put = put;
        coincides = coincides;
        done = λ n s i p d h x q e. done n s i p d h e;
        told = λ n s i p r h x e. tt;
      }

  -- kept by a store at any number
  pub store_kept : Stored K → ((n : ℕ) (s : S) → H n s → n ≤ K.size s) → ((n : ℕ) (s : S) (i : ℕ) (e : Event P) → H n s → Face e (look K s n i) → H n (K.store s i e)) → Divides C K H
      → Kept (store_alone H) C K crossing
  unfolding store_alone
  store_kept st fits put done =
      let anywhere : Puts K H (λ n r. Unit {0}) = λ n s i e h x f. put n s i e h f in
      stores-kept _ _ (λ n m l. tt) anywhere (coincides-put C K H _ st fits anywhere) done

  -- .. in use
  pub used-kept : Stored K → ((n : ℕ) (s : S) → H n s → n ≤ K.size s) → Puts K H (λ n r. r < n) → Divides C K H → Kept (numbers_in_use H) C K crossing
  unfolding numbers_in_use
  used-kept st fits put done = stores-kept _ _ (λ n m l. omega arith) put (coincides-put C K H _ st fits put) done

  -- kept by a store of any record
  pub any-kept : ((n : ℕ) (s : S) (i : ℕ) (e : Event P) → H n s → H n (K.store s i e)) → Divides C K H → Kept (store_alone H) C K crossing
  unfolding store_alone coincided
  any-kept put done = stores-kept _ _ (λ n m l. tt) (λ n s i e h x f. put n s i e h) (λ n s a b h x y. put n _ a _ (put n s b _ h)) done
