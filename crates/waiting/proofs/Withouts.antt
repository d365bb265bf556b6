-- One member taken out: the others stay in order, and it is gone, since no number is there twice; so there are no more members than numbers below n.
use mathlib.Core.Path.{◌≡◌, refl, sym, ap, ◌∙◌}
use mathlib.Core.Logic.{◌≢◌}
use mathlib.Core.Bool.{Bool, true, false, cond, ◌||◌, true≢false}
use mathlib.Core.List.{List, [], ◌∷◌}
use Prim.Native.Nat.{ℕ, zero, suc, ◌<◌, ◌≤◌}
use native.Mathlib.Omega.{arith}
use lib.Dec.{eqb}
use lib.ListN.{length}
use borrow.Author.Tests.{eqb-true, eqb-false, ne_eqb}
use Rattle.lists.specs.Lists.{slot, remove_at}
use Rattle.waiting.specs.Queue.{leads, has, Led, Ordered, without}
use Rattle.waiting.proofs.Members.{has_first, has-behind, led-once}

without-cons : (x : ℕ) (l : List ℕ) (o : ℕ) → without (x ∷ l) o ≡ cond (eqb x o) l (x ∷ without l o)
unfolding without slot remove_at
without-cons x l o = go (eqb x o)
  where
    go : (t : Bool) → remove_at (x ∷ l) (cond t 0 (suc (slot (λ m. eqb m o) l))) ≡ cond t l (x ∷ remove_at l (slot (λ m. eqb m o) l))
    go true = refl
    go false = refl

-- what holds of the rest, and of it with the first one kept
without-by : (F : List ℕ → Type 0) (x : ℕ) (l : List ℕ) (o : ℕ) → (x ≡ o → F l) → (x ≢ o → F (x ∷ without l o)) → F (without (x ∷ l) o)
without-by F x l o out kept = rw (without-cons x l o) (go (eqb x o) refl)
  where
    go : (t : Bool) → eqb x o ≡ t → F (cond t l (x ∷ without l o))
    go true e = out (eqb-true x o e)
    go false e = kept (eqb-false x o e)

without-few : (l : List ℕ) (o : ℕ) → length l ≤ suc (length (without l o))
without-few [] o = omega arith
without-few (x ∷ l) o = without-by (λ m. suc (length l) ≤ suc (length m)) x l o (λ e. omega arith) (λ d. let h = without-few l o in omega arith)

pub without_other : (l : List ℕ) (o r : ℕ) → r ≢ o → has (without l o) r ≡ has l r
unfolding has without slot remove_at
without_other [] o r d = refl
without_other (x ∷ l) o r d =
    without-by (λ m. has m r ≡ has (x ∷ l) r) x l o (λ e. rw (ne_eqb x r (λ i. d (sym i ∙ e)))) (λ e. ap (λ (t : Bool). eqb x r || t) (without_other l o r d))

module _ (before : ℕ → ℕ → Bool) where
  without-led : (x : ℕ) (l : List ℕ) (o : ℕ) → Led before x l → Led before x (without l o)
  unfolding Led without slot remove_at
  without-led x [] o h = tt
  without-led x (y ∷ l) o h = without-by (Led before x) y l o (λ e. h.1) (λ d. (h.0, without-led x l o h.1))

  pub without-ordered : (l : List ℕ) (o : ℕ) → Ordered before l → Ordered before (without l o)
  unfolding Ordered without slot remove_at
  without-ordered [] o h = tt
  without-ordered (x ∷ l) o h = without-by (Ordered before) x l o (λ e. h.1) (λ d. (without-led x l o h.0, without-ordered l o h.1))

  pub without_gone : (l : List ℕ) (o : ℕ) → Ordered before l → (has l o ≡ true → leads before o o ≡ false) → has (without l o) o ≡ false
  unfolding Ordered has without slot remove_at
  without_gone [] o h s = refl
  without_gone (x ∷ l) o h s =
      without-by (λ m. has m o ≡ false) x l o (λ e. led-once before o l (rw e at h.0) (s (rw e (has_first o l))))
      (λ d. rw (ne_eqb x o d) (without_gone l o h.1 (λ e. s (has-behind x l o e))))

  -- no more members than numbers below n
  pub few-members : (n : ℕ) (l : List ℕ) → Ordered before l → ((r : ℕ) → has l r ≡ true → r < n)
      → ((r : ℕ) → r < n → leads before r r ≡ false) → length l ≤ n
  few-members zero l h b s = none l b
    where
      none : (l : List ℕ) → ((r : ℕ) → has l r ≡ true → r < 0) → length l ≤ 0
      none [] b = omega arith
      none (x ∷ l) b = let z = b x (has_first x l) in absurd (omega arith)
  few-members (suc n) l h b s =
      let c = few-members n (without l n) (without-ordered l n h) fewer (λ r k. s r (omega arith)) in
      let f = without-few l n in
      omega arith
    where
      fewer : (r : ℕ) → has (without l n) r ≡ true → r < n
      fewer r e = go (eqb r n) refl
        where
          go : (t : Bool) → eqb r n ≡ t → r < n
          go true p = absurd (true≢false (sym e ∙ ap (has (without l n)) (eqb-true r n p) ∙ without_gone l n h (λ e. s n (omega arith))))
          go false p =
              let d = eqb-false r n p in
              let k = b r (sym (without_other l n r d) ∙ e) in
              omega arith
