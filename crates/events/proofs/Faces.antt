-- A record's face: what the orders and the divisions see of it. A record stored over one with its face changes no record's face.
use Rattle.std.proofs.Common.{◌≡◌, ℕ, ◌≤◌, Bool, true, false, cond, ◌&&◌, eqb, ltb, sym, refl, eqb-true}
use Rattle.events.specs.Event.{Event}
use Rattle.events.specs.Store.{Store, look}
use Rattle.events.proofs.Stored.{Stored}
use Rattle.events.proofs.Looks.{look-store}

-- two records with one face
pub record Face {P : Type 0} (x y : Event P) : Type 0 where
  pub point : x.point ≡ y.point
  pub left : x.left ≡ y.left
  pub subject : x.subject ≡ y.subject
  pub ring : x.ring ≡ y.ring
  pub partner : x.partner ≡ y.partner

pub face-refl : {P : Type 0} (x : Event P) → Face x x
face-refl x = record { point = refl; left = refl; subject = refl; ring = refl; partner = refl }

pub face-sym : {P : Type 0} {x y : Event P} → Face x y → Face y x
face-sym f = record { point = sym f.point; left = sym f.left; subject = sym f.subject; ring = sym f.ring; partner = sym f.partner }

pub face-store : {P S : Type 0} {K : Store P S} (st : Stored K) (s : S) (used i : ℕ) (e : Event P) → used ≤ K.size s → Face e (look K s used i) → (j : ℕ) → Face (look K (K.store s i e) used j) (look K s used j)
face-store {K = K} st s used i e h f j = rw (look-store st s e j used i h) (go (eqb j i) refl)
  where
    pick : (y : Bool) → Face (cond y e (look K s used i)) (look K s used i)
    pick true = f
    pick false = face-refl (look K s used i)

    go : (x : Bool) → eqb j i ≡ x → Face (cond (x && ltb i used) e (look K s used j)) (look K s used j)
    go false p = face-refl (look K s used j)
    go true p = rw (eqb-true j i p) (pick (ltb i used))
