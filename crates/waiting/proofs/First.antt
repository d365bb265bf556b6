-- The scan over all waiting events: what it finds waits, the one that leads every other is found, and a rival counts wherever it stands.
use Rattle.std.proofs.Common.{None, Option, Some}
use mathlib.Core.Path.{◌≡◌, refl, sym, ap, ◌∙◌}
use mathlib.Core.Logic.{◌≢◌}
use mathlib.Core.Bool.{Bool, true, false, not, cond, ◌&&◌, ◌||◌, or-true}
use Prim.Native.Nat.{ℕ, zero, suc, ◌<◌}
use native.Mathlib.Omega.{arith}
use lib.Dec.{eqb}
use borrow.Author.Tests.{eqb-true, eqb-false, ne_eqb, not-true}
use Rattle.waiting.specs.Waiting.{choose, first, rivals, rivalled}
use Rattle.waiting.specs.Queue.{leads}
use Rattle.waiting.proofs.Leading.{leads-lower, leads-higher}

-- the last number or an earlier one
pub below_suc : (F : ℕ → Type 0) (n r : ℕ) → r < suc n → F n → (r < n → F r) → F r
below_suc F n r l last earlier = go (eqb r n) refl
  where
    go : (t : Bool) → eqb r n ≡ t → F r
    go true e = rw (eqb-true r n e) last
    go false e = earlier (let d = eqb-false r n e in omega arith)

pub record Found (waits : ℕ → Bool) (n r : ℕ) : Type 0 where
  pub waiting : waits r ≡ true
  pub below : r < n

module _ (waits : ℕ → Bool) (before : ℕ → ℕ → Bool) where
  -- ---- what the scan finds

  pub found : (n c : ℕ) → first waits before n ≡ Some c → Found waits n c
  unfolding first choose
  found zero c e = let z : ◌≡◌ {A = ℕ} 0 1 = cc in absurd (omega arith)
  found (suc n) c e = go (waits n) refl (first waits before n) (found n) e
    where
      later : Found waits n c → Found waits (suc n) c
      later f = record { waiting = f.waiting; below = let l = f.below in omega arith }

      last : waits n ≡ true → n ≡ c → Found waits (suc n) c
      last w i = record { waiting = rw (← i) w; below = omega arith }

      go : (x : Bool) → waits n ≡ x → (o : Option ℕ) → ((k : ℕ) → o ≡ Some k → Found waits n k) → cond x (choose before o n) o ≡ Some c → Found waits (suc n) c
      go false p o ih q = later (ih c q)
      go true p None ih q = last p cc
      go true p (Some k) ih q = pick (before k n) q
        where
          pick : (y : Bool) → cond y (Some k) (Some n) ≡ Some c → Found waits (suc n) c
          pick true t = later (ih c t)
          pick false t = last p cc

  pub found_none : (n : ℕ) → first waits before n ≡ None → (r : ℕ) → r < n → waits r ≡ false
  unfolding first choose
  found_none zero e r l = absurd (omega arith)
  found_none (suc n) e r l = go (waits n) refl (first waits before n) (found_none n) e
    where
      go : (x : Bool) → waits n ≡ x → (o : Option ℕ) → (o ≡ None → (r : ℕ) → r < n → waits r ≡ false) → cond x (choose before o n) o ≡ None → waits r ≡ false
      go true p None ih q = cc
      go true p (Some k) ih q = pick (before k n) q
        where
          pick : (y : Bool) → cond y (Some k) (Some n) ≡ None → waits r ≡ false
          pick true t = cc
          pick false t = cc
      go false p o ih q = below_suc (λ x. waits x ≡ false) n r l p (ih q r)

  pub none_found : (n : ℕ) → ((r : ℕ) → r < n → waits r ≡ false) → first waits before n ≡ None
  unfolding first
  none_found zero h = refl
  none_found (suc n) h = rw (h n (omega arith)) (none_found n (λ r l. h r (omega arith)))

  -- the one that leads every other below n
  pub leader-found : (c n : ℕ) → ((r : ℕ) → r < n → waits r ≡ true → r ≢ c → leads before c r ≡ true) → Found waits n c → first waits before n ≡ Some c
  unfolding first choose
  leader-found c zero h f = let l = f.below in absurd (omega arith)
  leader-found c (suc n) h f = go (eqb n c) refl (λ i. leader-found c n (λ r j. h r (omega arith)) (record { waiting = f.waiting; below = i }))
    where
      last : (o : Option ℕ) → ((m : ℕ) → o ≡ Some m → Found waits n m) → n ≡ c → choose before o n ≡ Some c
      last None g i = ap Some i
      last (Some m) g i =
          let k = g m refl in
          let l = k.below in
          let a = h m (omega arith) k.waiting (λ e. omega arith) in
          rw (i, not-true (before m c) (sym (leads-higher before c m (omega arith)) ∙ a))

      go : (x : Bool) → eqb n c ≡ x → (c < n → first waits before n ≡ Some c) → cond (waits n) (choose before (first waits before n) n) (first waits before n) ≡ Some c
      go true q ih =
          let i : n ≡ c = eqb-true n c q in
          rw (ap waits i ∙ f.waiting) (last (first waits before n) (found n) i)
      go false q ih =
          let d = eqb-false n c q in
          let l = f.below in
          rw (ih (omega arith)) (stay (waits n) refl)
        where
          stay : (x : Bool) → waits n ≡ x → cond x (cond (before c n) (Some c) (Some n)) (Some c) ≡ Some c
          stay true p =
              let d = eqb-false n c q in
              let l = f.below in
              rw (sym (leads-lower before c n (omega arith)) ∙ h n (omega arith) p (eqb-false n c q))
          stay false p = refl

  -- ---- rivals

  pub none-rivals : (c n : ℕ) → ((r : ℕ) → r < n → waits r ≡ true → r ≢ c → (before c r && before r c) ≡ false) → rivalled waits before c n ≡ false
  unfolding rivalled rivals
  none-rivals c zero h = refl
  none-rivals c (suc n) h = rw (none-rivals c n (λ r l. h r (omega arith))) (go (waits n) refl (eqb n c) refl)
    where
      go : (x : Bool) → waits n ≡ x → (y : Bool) → eqb n c ≡ y → ((x && (not y && (before c n && before n c))) || false) ≡ false
      go false p y q = refl
      go true p true q = refl
      go true p false q = rw (h n (omega arith) p (eqb-false n c q))

  pub a-rival : (c n r : ℕ) → r < n → waits r ≡ true → r ≢ c → (before c r && before r c) ≡ true → rivalled waits before c n ≡ true
  unfolding rivalled rivals
  a-rival c zero r l w d t = absurd (omega arith)
  a-rival c (suc n) r l w d t =
      below_suc (λ x. waits x ≡ true → x ≢ c → (before c x && before x c) ≡ true → (rivals waits before c n || rivalled waits before c n) ≡ true) n r l
      (λ w d t. rw (w, ne_eqb n c d, t)) (λ i w d t. rw (a-rival c n r i w d t) (or-true (rivals waits before c n))) w d t
