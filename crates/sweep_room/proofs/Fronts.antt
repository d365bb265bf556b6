-- The front of a store: its first n places as a store of their own. A record stored in the whole is stored in the front, and what is read of a place in
-- use is the same in both, as long as no more than n places are in use.
use mathlib.Core.Path.{◌≡◌, refl, ap}
use mathlib.Core.Bool.{Bool, true, false, cond}
use Prim.Native.Nat.{ℕ, ◌+◌, ◌<◌, ◌≤◌, min}
use native.Mathlib.Omega.{arith}
use lib.Dec.{ltb}
use borrow.Author.Tests.{ltb-true, lt-leb}
use Rattle.events.specs.Event.{Event}
use Rattle.events.specs.Store.{Store, look}
use Rattle.events.proofs.Stored.{Stored}
use Rattle.order.specs.Keys.{key_of, key_used}
use Rattle.division.specs.Division.{numbers, full}
use Rattle.division.proofs.Cases.{room}

-- how a store is cut down to its first n places; where it has fewer, nothing is said of sizes and rows
pub record Front {P S : Type 0} (K : Store P S) (n : ℕ) : Type 0 where
  pub front : S → S
  pub enter-front : (s : S) (i : ℕ) (e : Event P) → front (K.enter s i e) ≡ K.enter (front s) i e
  pub store-front : (s : S) (i : ℕ) (e : Event P) → front (K.store s i e) ≡ K.store (front s) i e
  pub size-front : (s : S) → n ≤ K.size s → K.size (front s) ≡ n
  pub row-front : (s : S) (i : ℕ) → n ≤ K.size s → i < n → K.row_at (front s) i ≡ K.row_at s i

-- n places at least, of which no more than n are in use
pub record Within {P S : Type 0} (K : Store P S) (n : ℕ) (s : S) (used : ℕ) : Type 0 where
  pub wide : n ≤ K.size s
  pub fits : used ≤ n

module _ {P S : Type 0} {K : Store P S} {n : ℕ} (F : Front K n) where
  module _ {s : S} {used : ℕ} (w : Within K n s used) where
    look_at : (i : ℕ) → look K (F.front s) used i ≡ look K s used i
    unfolding look
    look_at i = go (ltb i used) refl
      where
        go : (b : Bool) → ltb i used ≡ b → cond b (K.row_at (F.front s) i) (K.blank i) ≡ cond b (K.row_at s i) (K.blank i)
        go true e =
            let l : i < used = ltb-true i used e in
            let f : used ≤ n = w.fits in
            F.row-front s i w.wide (omega arith)
        go false e = refl

    pub look-front : look K (F.front s) used ≡ look K s used
    look-front = λ j i. look_at i j

    -- a record's partner
    pub right-front : (r : ℕ) → look K (F.front s) used (look K (F.front s) used r).partner ≡ look K s used (look K s used r).partner
    right-front r = ap (λ (row : ℕ → Event P). row (row r).partner) look-front

    pub key-front : key_used K (F.front s) used ≡ key_used K s used
    unfolding key_used
    key-front = ap (λ row i. key_of row i) look-front

    -- where the front has room for two records the whole has
    pub room-front : full K (F.front s) used ≡ false → full K s used ≡ false
    unfolding full
    room-front h =
        let l : used + 1 < min (K.size (F.front s)) numbers = room K (F.front s) used h in
        let size : K.size (F.front s) ≡ n = F.size-front s w.wide in
        let wide : n ≤ K.size s = w.wide in
        lt-leb (min (K.size s) numbers) (used + 1) (omega arith)

    -- .. and two more in use are still within the front
    pub two-more : full K (F.front s) used ≡ false → used + 2 ≤ n
    two-more h =
        let l : used + 1 < min (K.size (F.front s)) numbers = room K (F.front s) used h in
        let size : K.size (F.front s) ≡ n = F.size-front s w.wide in
        omega arith

    pub within-store : Stored K → (i : ℕ) (e : Event P) → Within K n (K.store s i e) used
    within-store st i e = record { wide = rw (st.size-store s i e) w.wide; fits = w.fits }
