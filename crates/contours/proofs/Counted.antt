-- A test that holds once among the members of some lists holds at a place of one of them, and at no other.
use mathlib.Core.Path.{◌≡◌, refl, ap}
use mathlib.Core.Bool.{Bool, true, false, cond}
use mathlib.Core.List.{List, [], ◌∷◌}
use Prim.Native.Nat.{ℕ, zero, suc, ◌+◌, ◌≤◌, ◌<◌}
use native.Mathlib.Nat.{not-suc-le-zero, le_of_suc-le-suc}
use native.Mathlib.Omega.{arith}
use lib.ListN.{length, get_or}
use Rattle.contours.specs.Result.{keep}
use Rattle.contours.proofs.Marks.{bit}

module _ (f : ℕ → Bool) where
  -- ---- one list

  abbrev times : List ℕ → ℕ
  times t = length (keep f t)

  times-cons : (x : ℕ) (t : List ℕ) → times (x ∷ t) ≡ bit (f x) + times t
  unfolding keep bit
  times-cons x t = go (f x)
    where
      go : (b : Bool) → length (cond b (x ∷ keep f t) (keep f t)) ≡ bit b + times t
      go true = omega arith
      go false = omega arith

  here : (x : ℕ) (t : List ℕ) → f x ≡ true → times (x ∷ t) ≡ suc (times t)
  unfolding bit
  here x t e = omega (arith, times-cons x t, ap bit e)

  not-here : (x : ℕ) (t : List ℕ) → f x ≡ false → times (x ∷ t) ≡ times t
  unfolding bit
  not-here x t e = omega (arith, times-cons x t, ap bit e)

  holds : (t : List ℕ) (k : ℕ) → k < length t → f (get_or t k 0) ≡ true → 1 ≤ times t
  holds [] k l e = absurd (not-suc-le-zero l)
  holds (x ∷ t) zero l e = omega (arith, here x t e)
  holds (x ∷ t) (suc k) l e = omega (arith, times-cons x t, holds t k (le_of_suc-le-suc l) e)

  held : (t : List ℕ) → 1 ≤ times t → (k : ℕ) × (k < length t) × (f (get_or t k 0) ≡ true)
  unfolding keep
  held [] h = absurd (not-suc-le-zero h)
  held (x ∷ t) h = go (f x) refl (held t)
    where
      Found : List ℕ → Type 0
      Found t = (k : ℕ) × (k < length t) × (f (get_or t k 0) ≡ true)

      go : (b : Bool) → f x ≡ b → (1 ≤ times t → Found t) → Found (x ∷ t)
      go true e r = (0, omega arith, e)
      go false e r = let i : Found t = r (omega (arith, h, not-here x t e)) in (suc i.0, omega (arith, i.1), i.2)

  one_place : (t : List ℕ) → times t ≤ 1 → (j k : ℕ) → j < length t → k < length t → f (get_or t j 0) ≡ true → f (get_or t k 0) ≡ true → j ≡ k
  one_place [] h j k l m p q = absurd (not-suc-le-zero l)
  one_place (x ∷ t) h zero zero l m p q = refl
  one_place (x ∷ t) h zero (suc k) l m p q = absurd (omega (arith, h, here x t p, holds t k (le_of_suc-le-suc m) q))
  one_place (x ∷ t) h (suc j) zero l m p q = absurd (omega (arith, h, here x t q, holds t j (le_of_suc-le-suc l) p))
  one_place (x ∷ t) h (suc j) (suc k) l m p q = ap suc (one_place t (omega (arith, h, times-cons x t)) j k (le_of_suc-le-suc l) (le_of_suc-le-suc m) p q)

  -- ---- lists

  unfoldable pub all_times : List (List ℕ) → ℕ
  all_times [] = 0
  all_times (t ∷ ts) = length (keep f t) + all_times ts

  -- the test holds at place k of list c
  pub record HoldsAt (ts : List (List ℕ)) (c k : ℕ) : Type 0 where
    pub inside : k < length (get_or ts c [])
    pub true-there : f (get_or (get_or ts c []) k 0) ≡ true

  all-holds : (ts : List (List ℕ)) (c k : ℕ) → HoldsAt ts c k → 1 ≤ all_times ts
  unfolding all_times
  all-holds [] c k h = absurd (not-suc-le-zero h.inside)
  all-holds (t ∷ ts) zero k h = omega (arith, holds t k h.inside h.true-there)
  all-holds (t ∷ ts) (suc c) k h = omega (arith, all-holds ts c k (record { inside = h.inside; true-there = h.true-there }))

  pub all_held : (ts : List (List ℕ)) → 1 ≤ all_times ts → (c : ℕ) × (k : ℕ) × HoldsAt ts c k
  unfolding all_times
  all_held [] h = absurd (not-suc-le-zero h)
  all_held (t ∷ ts) h = go (length (keep f t)) refl (all_held ts)
    where
      Found : List (List ℕ) → Type 0
      Found ts = (c : ℕ) × (k : ℕ) × HoldsAt ts c k

      go : (n : ℕ) → times t ≡ n → (1 ≤ all_times ts → Found ts) → Found (t ∷ ts)
      go zero e r =
          let i : Found ts = r (omega (arith, h, e)) in
          (suc i.0, i.1, record { inside = i.2.inside; true-there = i.2.true-there })
      go (suc n) e r =
          let i : (k : ℕ) × (k < length t) × (f (get_or t k 0) ≡ true) = held t (omega (arith, e)) in
          (0, i.0, record { inside = i.1; true-there = i.2 })

  pub all-one-place : (ts : List (List ℕ)) → all_times ts ≤ 1 → (c k c' k' : ℕ) → HoldsAt ts c k → HoldsAt ts c' k' → (c ≡ c') × (k ≡ k')
  unfolding all_times
  all-one-place [] h c k c' k' p q = absurd (not-suc-le-zero p.inside)
  all-one-place (t ∷ ts) h zero k zero k' p q = (refl, one_place t (omega (arith, h)) k k' p.inside q.inside p.true-there q.true-there)
  all-one-place (t ∷ ts) h zero k (suc c') k' p q =
      absurd (omega (arith, h, holds t k p.inside p.true-there, all-holds ts c' k' (record { inside = q.inside; true-there = q.true-there })))
  all-one-place (t ∷ ts) h (suc c) k zero k' p q =
      absurd (omega (arith, h, holds t k' q.inside q.true-there, all-holds ts c k (record { inside = p.inside; true-there = p.true-there })))
  all-one-place (t ∷ ts) h (suc c) k (suc c') k' p q =
      let i : (c ≡ c') × (k ≡ k') = all-one-place ts (omega (arith, h)) c k c' k' (record { inside = p.inside; true-there = p.true-there }) (record { inside = q.inside; true-there = q.true-there }) in
      (ap suc i.0, i.1)
