-- The queue gives what the scan over all waiting events would.
use Rattle.std.proofs.Common.{None, Option, Some}
use mathlib.Core.Path.{◌≡◌, refl, sym, ap, ap₂, ◌∙◌}
use mathlib.Core.Logic.{◌≢◌}
use mathlib.Core.Bool.{Bool, true, false, ◌&&◌, ◌||◌, and-false, or-true, or-false, true≢false}
use mathlib.Core.List.{List, []}
use Prim.Native.Nat.{ℕ, ◌-◌, ◌<◌, ◌≤◌}
use native.Mathlib.Omega.{arith}
use lib.Dec.{eqb, ltb}
use lib.ListN.{length, take}
use borrow.Author.Tests.{ltb-true, lt-ltb, le-ltb, eqb-true, eqb-false, ne_eqb, eq-eqb}
use Rattle.status.specs.Status.{below}
use Rattle.waiting.specs.Waiting.{first, rivalled}
use Rattle.waiting.specs.Queue.{ties_with, has, Ordered, Queued}
use Rattle.waiting.proofs.Leading.{Orders, self, leads-before}
use Rattle.waiting.proofs.First.{none_found, leader-found, none-rivals, a-rival}
use Rattle.waiting.proofs.Members.{both, unless}
use Rattle.waiting.proofs.Lasts.{front, Ends, ends, none_last, below-front}
use Rattle.waiting.proofs.Withouts.{few-members}

pub nothing : (waits : ℕ → Bool) (before : ℕ → ℕ → Bool) → Queued waits before 0 []
unfolding has Ordered
nothing waits before = record { members = λ r. rw (le-ltb r 0 (omega arith)); ordered = tt }

module _ {waits : ℕ → Bool} {before : ℕ → ℕ → Bool} {n : ℕ} {l : List ℕ} (Q : Queued waits before n l) where
  pub is_below_lem : (r : ℕ) → has l r ≡ true → r < n
  is_below_lem r h = ltb-true r n (both (ltb r n) (waits r) (sym (Q.members r) ∙ h)).0

  pub is-waiting : (r : ℕ) → has l r ≡ true → waits r ≡ true
  is-waiting r h = (both (ltb r n) (waits r) (sym (Q.members r) ∙ h)).1

  is_member : (r : ℕ) → r < n → waits r ≡ true → has l r ≡ true
  is_member r h w = Q.members r ∙ rw (lt-ltb r n h, w)

  pub few : Orders before n → length l ≤ n
  few O = few-members before n l Q.ordered is_below_lem (self before O)

  -- ---- the next one

  module _ (e : ℕ) (last : below l (length l) ≡ Some e) where
    ending : Ends before l e
    ending = ends before l e Q.ordered last

    last_has : has l e ≡ true
    last_has = ending.has_last e ∙ rw (eq-eqb e e refl) (or-true (has (front l) e))

    -- any other member stands in front
    in-front : (r : ℕ) → r < n → waits r ≡ true → r ≢ e → has (front l) r ≡ true
    in-front r h w d =
        let q : (has (front l) r || eqb e r) ≡ true = sym (ending.has_last r) ∙ is_member r h w in
        sym (or-false (has (front l) r)) ∙ (rw (ne_eqb e r (λ i. d (sym i))) at q)

    front-has : (r : ℕ) → has (front l) r ≡ true → has l r ≡ true
    front-has r h = ending.has_last r ∙ rw h

    next-to : first waits before n ≡ Some e
    next-to =
        leader-found waits before e n (λ r h w d. ending.leads-front r (in-front r h w d))
        (record { waiting = is-waiting e last_has; below = is_below_lem e last_has })

  pub next-is : below l (length l) ≡ first waits before n
  next-is = go (below l (length l)) refl
    where
      go : (o : Option ℕ) → below l (length l) ≡ o → o ≡ first waits before n
      go None h = sym (none_found waits before n (λ r k. sym (rw (lt-ltb r n k) at (Q.members r)) ∙ none_last l h r))
      go (Some e) h = sym (next-to e h)

  module _ (O : Orders before n) (e : ℕ) (last : below l (length l) ≡ Some e) where
    -- e itself does not stand in front
    gone : has (front l) e ≡ false
    gone = unless _ (λ h. true≢false (sym ((ending e last).leads-front e h) ∙ self before O e (is_below_lem e (last_has e last))))

    -- ---- the next but one

    unrivalled : below (front l) (length (front l)) ≡ None → rivalled waits before e n ≡ false
    unrivalled h = none-rivals waits before e n (λ r k w d. absurd (true≢false (sym (in-front e last r k w d) ∙ none_last (front l) h r)))

    module _ (q : ℕ) (second : below (front l) (length (front l)) ≡ Some q) where
      nearest : Ends before (front l) q
      nearest = ends before (front l) q (ending e last).ordered-front second

      q-has : has (front l) q ≡ true
      q-has = nearest.has_last q ∙ rw (eq-eqb q q refl) (or-true (has (front (front l)) q))

      q-below : q < n
      q-below = is_below_lem q (front-has e last q q-has)

      e-below : e < n
      e-below = is_below_lem e (last_has e last)

      e-before : before e q ≡ true
      e-before = leads-before before O e q e-below q-below ((ending e last).leads-front q q-has)

      -- q is before all in front of it, so it ties with e where any of them does
      nearer : (r : ℕ) → r < n → has (front l) r ≡ true → before r e ≡ true → before q e ≡ true
      nearer r k h b = go (eqb q r) refl (sym (nearest.has_last r) ∙ h)
        where
          go : (t : Bool) → eqb q r ≡ t → (has (front (front l)) r || t) ≡ true → before q e ≡ true
          go true i m = rw (eqb-true q r i) b
          go false i m =
              let f = nearest.leads-front r (sym (or-false (has (front (front l)) r)) ∙ m) in
              O.trans q r e q-below k e-below (leads-before before O q r q-below k f) b

      rivals-second : (before e q && before q e) ≡ rivalled waits before e n
      rivals-second = go (before e q && before q e) refl
        where
          go : (t : Bool) → (before e q && before q e) ≡ t → t ≡ rivalled waits before e n
          go true t =
              sym (a-rival waits before e n q q-below (is-waiting q (front-has e last q q-has))
              (λ i. true≢false (sym q-has ∙ ap (has (front l)) i ∙ gone)) t)
          go false t =
              sym (none-rivals waits before e n (λ r k w d. unless (before e r && before r e) (λ u.
              true≢false (sym (ap₂ ◌&&◌ e-before (nearer r k (in-front e last r k w d) (both (before e r) (before r e) u).1)) ∙ t))))

    pub tie-is : ties_with before e (below l (length l - 1)) ≡ rivalled waits before e n
    unfolding ties_with
    tie-is = ap (ties_with before e) (below-front l) ∙ go (below (front l) (length (front l))) refl
      where
        go : (o : Option ℕ) → below (front l) (length (front l)) ≡ o → ties_with before e o ≡ rivalled waits before e n
        go None h = sym (unrivalled h)
        go (Some q) h = rivals-second q h

    -- ---- the next one taken

    pub take-is : (waits' : ℕ → Bool) → waits' e ≡ false → ((r : ℕ) → r ≢ e → waits' r ≡ waits r) → Queued waits' before n (take (length l - 1) l)
    take-is waits' off same = record { members = there; ordered = (ending e last).ordered-front }
      where
        there : (r : ℕ) → has (front l) r ≡ (ltb r n && waits' r)
        there r = go (eqb e r) refl ((ending e last).has_last r)
          where
            go : (t : Bool) → eqb e r ≡ t → has l r ≡ (has (front l) r || t) → has (front l) r ≡ (ltb r n && waits' r)
            go true p m =
                let i : e ≡ r = eqb-true e r p in
                rw (← i, gone, off) (sym (and-false (ltb e n)))
            go false p m =
                let d : r ≢ e = λ i. eqb-false e r p (sym i) in
                rw (same r d) (sym (or-false (has (front l) r)) ∙ sym m ∙ Q.members r)
