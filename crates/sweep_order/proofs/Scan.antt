-- The scan for the first waiting event follows a renaming where no other ties with what it finds: such a one is strictly before every other that
-- waits, and a strictly first one is found in any order of the scan.
use Rattle.std.proofs.Common.{None, Option, Some}
use mathlib.Core.Path.{◌≡◌, refl, sym, ap, ◌∙◌}
use mathlib.Core.Logic.{◌≢◌}
use mathlib.Core.Bool.{Bool, true, false, not, cond, ◌&&◌, true≢false}
use Prim.Native.Nat.{ℕ, zero, suc, ◌<◌, ◌≤◌}
use native.Mathlib.Omega.{arith}
use lib.Dec.{ltb}
use borrow.Author.Tests.{ne_eqb}
use Rattle.checks.proofs.Unstruck.{neither}
use Rattle.waiting.specs.Waiting.{choose, first, rivals, rivalled}
use Rattle.waiting.specs.Queue.{leads}
use Rattle.waiting.proofs.First.{below_suc, Found, found, found_none, none_found, leader-found, none-rivals}
use Rattle.sweep_order.specs.SameBut.{Renaming}
use Rattle.sweep_order.proofs.Renamings.{below-to, below-from}

-- c is strictly before every other waiting one below n
pub record Ahead (before : ℕ → ℕ → Bool) (c r : ℕ) : Type 0 where
  pub forth : before c r ≡ true
  pub back : before r c ≡ false

abbrev pub Strict : (ℕ → Bool) → (ℕ → ℕ → Bool) → ℕ → ℕ → Type 0
Strict waits before c n = (r : ℕ) → r < n → waits r ≡ true → r ≢ c → Ahead before c r

module _ (waits : ℕ → Bool) (before : ℕ → ℕ → Bool) where
  -- ---- what the scan finds

  strict-leads : (c r : ℕ) → Ahead before c r → leads before c r ≡ true
  unfolding leads
  strict-leads c r a = go (ltb c r)
    where
      go : (x : Bool) → cond x (before c r) (not (before r c)) ≡ true
      go true = a.forth
      go false = rw a.back

  strict-found : (c n : ℕ) → Strict waits before c n → Found waits n c → first waits before n ≡ Some c
  strict-found c n h f = leader-found waits before c n (λ r l w d. strict-leads c r (h r l w d)) f

  -- ---- rivals

  pub unrivalled : (c n : ℕ) → rivalled waits before c n ≡ false → (r : ℕ) → r < n → waits r ≡ true → r ≢ c → (before c r && before r c) ≡ false
  unfolding rivalled rivals
  unrivalled c zero h r l w d = absurd (omega arith)
  unrivalled c (suc n) h r l w d =
      let two = neither (rivals waits before c n) (rivalled waits before c n) h in
      below_suc (λ x. waits x ≡ true → x ≢ c → (before c x && before x c) ≡ false) n r l
      (λ v e. rw (v, ne_eqb n c e) at two.0) (λ i. unrivalled c n two.1 r i) w d

  strict-unrivalled : (c n : ℕ) → Strict waits before c n → rivalled waits before c n ≡ false
  strict-unrivalled c n h = none-rivals waits before c n (λ r l w d. let a = h r l w d in rw (a.forth, a.back))

  -- ---- where the order is total and transitive, what the scan finds is before all, and strictly where no other ties

  module _ (D : ℕ → Type 0) (total : (q r : ℕ) → D q → D r → before q r ≡ false → before r q ≡ true)
      (trans : (p q r : ℕ) → D p → D q → D r → before p q ≡ true → before q r ≡ true → before p r ≡ true) where
    self : (q : ℕ) → D q → before q q ≡ true
    self q d = go (before q q) refl
      where
        go : (x : Bool) → before q q ≡ x → x ≡ true
        go true e = refl
        go false e = sym e ∙ total q q d d e

    least : (n : ℕ) → ((r : ℕ) → r < n → D r) → (c : ℕ) → first waits before n ≡ Some c → (r : ℕ) → r < n → waits r ≡ true → before c r ≡ true
    unfolding first choose
    least zero d c e r l k = absurd (omega arith)
    least (suc n) d c e r l k = go (waits n) refl (first waits before n) refl (least n (λ q i. d q (omega arith))) e
      where
        B : ℕ → ℕ → Type 0
        B m x = waits x ≡ true → before m x ≡ true

        go : (x : Bool) → waits n ≡ x → (o : Option ℕ) → first waits before n ≡ o
            → ((c : ℕ) → o ≡ Some c → (r : ℕ) → r < n → waits r ≡ true → before c r ≡ true) → cond x (choose before o n) o ≡ Some c → before c r ≡ true
        go false p o f ih q = below_suc (B c) n r l (λ w. absurd (true≢false (sym w ∙ p))) (ih c q r) k
        go true p None f ih q =
            let i : n ≡ c = cc in
            rw (← i) (below_suc (B n) n r l (λ w. self n (d n (omega arith))) (λ j w. absurd (true≢false (sym w ∙ found_none waits before n f r j))) k)
        go true p (Some m) f ih q = pick (before m n) refl q
          where
            m-below : m < n
            m-below = (found waits before n m f).below

            pick : (x : Bool) → before m n ≡ x → cond x (Some m) (Some n) ≡ Some c → before c r ≡ true
            pick true t u =
                let i : m ≡ c = cc in
                rw (← i) (below_suc (B m) n r l (λ w. t) (ih m refl r) k)
            pick false t u =
                let i : n ≡ c = cc in
                let dn = d n (omega arith) in
                let dm = d m (omega (arith, m-below)) in
                rw (← i) (below_suc (B n) n r l (λ w. self n dn) (λ j w. trans n m r dn dm (d r l) (total m n dm dn t) (ih m refl r j w)) k)

    pub strict : (n : ℕ) → ((r : ℕ) → r < n → D r) → (c : ℕ) → first waits before n ≡ Some c → rivalled waits before c n ≡ false → Strict waits before c n
    strict n d c e u r l w k =
        let forth = least n d c e r l w in
        record { forth = forth; back = rw forth at (unrivalled c n u r l w k) }

-- ---- under a renaming

module _ {n : ℕ} (ρ : Renaming n) (waits waits' : ℕ → Bool) (before before' : ℕ → ℕ → Bool) (same-waits : (r : ℕ) → waits' (ρ.to r) ≡ waits r)
    (same-order : (q r : ℕ) → before' (ρ.to q) (ρ.to r) ≡ before q r) (m : ℕ) (grown : n ≤ m) where
  strict-to : (c : ℕ) → Strict waits before c m → Strict waits' before' (ρ.to c) m
  strict-to c h r l w d =
      let q = ρ.from r in
      let named : ρ.to q ≡ r = ρ.to_from r in
      let a = h q (below-from ρ m q grown (rw named l)) (sym (same-waits q) ∙ ap waits' named ∙ w) (λ e. d (sym named ∙ ap ρ.to e)) in
      record {
        forth = ap (before' (ρ.to c)) (sym named) ∙ same-order c q ∙ a.forth;
        back = ap (λ (x : ℕ). before' x (ρ.to c)) (sym named) ∙ same-order q c ∙ a.back;
      }

  pub none-to : first waits before m ≡ None → first waits' before' m ≡ None
  none-to e =
      none_found waits' before' m (λ r l.
      let named : ρ.to (ρ.from r) ≡ r = ρ.to_from r in
      ap waits' (sym named) ∙ same-waits (ρ.from r) ∙ found_none waits before m e (ρ.from r) (below-from ρ m (ρ.from r) grown (rw named l)))

  module _ (c : ℕ) (is-first : first waits before m ≡ Some c) (s : Strict waits before c m) where
    pub first_to : first waits' before' m ≡ Some (ρ.to c)
    first_to =
        let f = found waits before m c is-first in
        strict-found waits' before' (ρ.to c) m (strict-to c s) (record { waiting = same-waits c ∙ f.waiting; below = below-to ρ m c grown f.below })

    pub unrivalled-to : rivalled waits' before' (ρ.to c) m ≡ false
    unrivalled-to = strict-unrivalled waits' before' (ρ.to c) m (strict-to c s)
