-- What stands at a place.
use Rattle.std.proofs.Common.{None, Option, Some}
use mathlib.Core.Path.{◌≡◌, refl}
use mathlib.Core.List.{List, [], ◌∷◌}
use Prim.Native.Nat.{ℕ, zero, suc, ◌-◌, ◌<◌, ◌≤◌}
use native.Mathlib.Numerals.{sub-one}
use native.Mathlib.Omega.{arith}
use lib.ListN.{length, take, get_or, length-take}
use lib.Seq.{get_or-take}
use Rattle.status.specs.Status.{member, below}

pub member-there : (l : List ℕ) (k : ℕ) → k < length l → Some (get_or l k 0) ≡ member l k
unfolding member
member-there [] k h = absurd (omega arith)
member-there (x ∷ l) zero h = refl
member-there (x ∷ l) (suc k) h = member-there l k (omega arith)

pub member-none : (l : List ℕ) (k : ℕ) → length l ≤ k → None ≡ member l k
unfolding member
member-none [] k h = refl
member-none (x ∷ l) zero h = absurd (omega arith)
member-none (x ∷ l) (suc k) h = member-none l k (omega arith)

-- of the first n places of a slice: there, beyond them, beyond the slice
module _ (s : List ℕ) (n k : ℕ) where
  pub member-read : k < n → k < length s → Some (get_or s k 0) ≡ member (take n s) k
  member-read h r =
      let q = length-take n s in
      rw (← member-there (take n s) k (omega arith), get_or-take n s k 0 h)

  pub member-past : n ≤ k → None ≡ member (take n s) k
  member-past h =
      let q = length-take n s in
      member-none (take n s) k (omega arith)

  pub member-short : length s ≤ k → None ≡ member (take n s) k
  member-short h =
      let q = length-take n s in
      member-none (take n s) k (omega arith)

module _ (l : List ℕ) where
  pub below-lowest : (k : ℕ) → k ≡ 0 → None ≡ below l k
  unfolding below
  below-lowest k e = rw e

  pub below-read : (k : ℕ) → 0 < k → {m : Option ℕ} → m ≡ member l (k - 1) → m ≡ below l k
  unfolding below
  below-read zero h e = absurd (omega arith)
  below-read (suc k) h e = rw (e, sub-one)
