-- What an answer tells: a refused division leaves all as it was, one that is done passed every test, and no store changes the size. Each is read off the
-- definition's tests one by one.
use Rattle.refusals.specs.declared.Reason.TheVariants as Reason
use Rattle.std.proofs.Common.{Err, Ok, Result}
use mathlib.Core.Path.{◌≡◌, refl, ap}
use mathlib.Core.Bool.{Bool, true, false, not, ◌||◌, cond}
use Prim.Native.Nat.{ℕ, ◌+◌, ◌<◌, min}
use native.Mathlib.Omega.{arith}
use Rattle.refusals.specs.declared.Refusal.{Refusal}
use Rattle.events.specs.Coordinates.{Coordinates}
use Rattle.events.specs.Event.{Event}
use Rattle.events.specs.Store.{Store, look}
use Rattle.events.proofs.Stored.{Stored}
use Rattle.division.specs.declared.Divided.{Divided}
use Rattle.division.specs.Division.{moves, moved, misses, numbers, full, keeps, After, refused, done, divide_at, divide}
use Rattle.division.proofs.Cases.{room}
use Rattle.division.proofs.Records.{size-parted}

-- nothing moved
pub record AsLent {S : Type 0} (s : S) (n : ℕ) (after : After S) : Type 0 where
  pub store : after.store ≡ s
  pub used : after.used ≡ n

not-both : (a : Result Divided Refusal) (d : Divided) (r : Refusal) → a ≡ Ok d → a ≡ Err r → ⊥
not-both a d r p q = let z : ◌≡◌ {A = ℕ} 0 1 = cc in omega arith

module _ {P S : Type 0} (C : Coordinates P) (K : Store P S) (s : S) (used i : ℕ) (p : P) where
  abbrev e : Event P
  e = look K s used i

  abbrev f : Event P
  f = look K s used e.partner

  abbrev c : P
  c = moved C e.point p

  abbrev outcome : Bool → Bool → After S
  outcome out short = cond out (refused s used Reason.Cut i) (cond short (refused s used Reason.Full i) (done C K s used i e f c (moves C e.point p)))

  pub as_lent_lem : (r : Refusal) → (divide C K s used i p).answer ≡ Err r → AsLent s used (divide C K s used i p)
  unfolding divide divide_at refused done
  as_lent_lem r h = go (not e.left || misses C e.point f.point c) (full K s used) h
    where
      go : (out short : Bool) → (outcome out short).answer ≡ Err r → AsLent s used (outcome out short)
      go true short h = record { store = refl; used = refl }
      go false true h = record { store = refl; used = refl }
      go false false h = absurd (not-both _ _ r refl h)

  pub same_size : Stored K → K.size (divide C K s used i p).store ≡ K.size s
  unfolding divide divide_at refused done
  same_size L = go (not e.left || misses C e.point f.point c) (full K s used)
    where
      go : (out short : Bool) → K.size (outcome out short).store ≡ K.size s
      go true short = refl
      go false true = refl
      go false false = size-parted L s used i e f c (keeps C e f c)

  -- every test passed, and the outcome is the division's
  pub record Passed : Type 0 where
    pub left : e.left ≡ true
    pub hits : misses C e.point f.point c ≡ false
    pub free : used + 1 < min (K.size s) numbers
    pub is : divide C K s used i p ≡ done C K s used i e f c (moves C e.point p)

  pub passed : (d : Divided) → (divide C K s used i p).answer ≡ Ok d → Passed
  unfolding divide divide_at refused
  passed d h = go e.left refl (misses C e.point f.point c) refl (full K s used) refl h
    where
      go : (l : Bool) → e.left ≡ l → (m : Bool) → misses C e.point f.point c ≡ m → (t : Bool) → full K s used ≡ t → (outcome (not l || m) t).answer ≡ Ok d → Passed
      go false a m b t g h = absurd (not-both _ d _ h refl)
      go true a true b t g h = absurd (not-both _ d _ h refl)
      go true a false b true g h = absurd (not-both _ d _ h refl)
      go true a false b false g h = record { left = a; hits = b; free = room K s used g; is = rw (a, b, g) }

  pub used-after : (d : Divided) → (divide C K s used i p).answer ≡ Ok d → (divide C K s used i p).used ≡ used + 2
  unfolding done
  used-after d h = ap (λ a. a.used) (passed d h).is
