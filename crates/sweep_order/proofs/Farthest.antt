-- The early stop does not depend on the order of the records: to the right of a farthest point is to the right of every point.
use Rattle.std.proofs.Common.{Option, None, Some}
use mathlib.Core.Path.{◌≡◌, refl, sym, ap, ap₂, ◌∙◌}
use mathlib.Core.Bool.{Bool, true, false, cond, ◌&&◌, ◌||◌, beq, true≢false}
use Prim.Native.Nat.{ℕ, zero, suc, ◌<◌}
use native.Mathlib.Omega.{arith}
use lib.Dec.{ltb}
use borrow.Author.Tests.{ltb-true, ltb-false}
use Rattle.events.specs.Coordinates.{Coordinates}
use Rattle.events.specs.Event.{Event}
use Rattle.events.specs.Renaming.{rename}
use Rattle.order.proofs.Grid.{grid}
use Rattle.order.proofs.Laws.{OrderLaws}
use Rattle.class.specs.declared.Operation.{Operation}
use Rattle.class.specs.declared.Operation.TheVariants.{Intersection, Difference, Union, Xor}
use Rattle.waiting.proofs.First.{below_suc}
use Rattle.sweep.specs.Bounds.{farther, rightmost, is_right_of, is_past, past}
use Rattle.sweep_order.specs.SameBut.{Renaming}
use Rattle.sweep_order.proofs.Renamings.{agree, below-to, below-from}

and-true : (a b : Bool) → (a && b) ≡ true → (a ≡ true) × (b ≡ true)
and-true true b h = (refl, h)
and-true false b h = absurd (true≢false (sym h))

-- of two numbers the larger one decides
larger : (a b c : ℕ) → cond (ltb a b) (ltb b c) (ltb a c) ≡ (ltb a c && ltb b c)
larger a b c = go (ltb a b) refl (ltb a c) refl (ltb b c) refl
  where
    go : (x : Bool) → ltb a b ≡ x → (y : Bool) → ltb a c ≡ y → (z : Bool) → ltb b c ≡ z → cond x z y ≡ (y && z)
    go true p true q z r = refl
    go true p false q true r =
        let ab = ltb-true a b p in
        let ca = ltb-false a c q in
        let bc = ltb-true b c r in
        absurd (omega arith)
    go true p false q false r = refl
    go false p true q true r = refl
    go false p true q false r =
        let ba = ltb-false a b p in
        let ac = ltb-true a c q in
        let cb = ltb-false b c r in
        absurd (omega arith)
    go false p false q z r = refl

module _ {P : Type 0} {C : Coordinates P} (L : OrderLaws C) where
  module _ (p : P) where
    right-of-both : (q r : P) → cond (C.less_x q r) (C.less_x r p) (C.less_x q p) ≡ (C.less_x q p && C.less_x r p)
    unfolding grid
    right-of-both q r =
        rw (L.less-x q r, L.less-x r p, L.less-x q p) (larger (L.place q).x (L.place r).x (L.place p).x)

    right-of-farther : (o : Option P) (r : P) → is_right_of C (farther C o r) p ≡ (is_right_of C o p && C.less_x r p)
    unfolding is_right_of farther
    right-of-farther None r = refl
    right-of-farther (Some q) r = go (C.less_x q r) ∙ right-of-both q r
      where
        go : (x : Bool) → is_right_of C (cond x (Some r) (Some q)) p ≡ cond x (C.less_x r p) (C.less_x q p)
        go true = refl
        go false = refl

    -- p lies to the right of every record of a layer below n
    abbrev RightOfAll : (ℕ → Event P) → Bool → ℕ → Type 0
    RightOfAll row b n = (r : ℕ) → r < n → beq (row r).subject b ≡ true → C.less_x (row r).point p ≡ true

    module _ (row : ℕ → Event P) (b : Bool) where
      right-of-all : (n : ℕ) → is_right_of C (rightmost C row b n) p ≡ true → RightOfAll row b n
      unfolding rightmost
      right-of-all zero h r l k = absurd (omega arith)
      right-of-all (suc n) h r l k = go (beq (row n).subject b) refl (right-of-all n) h
        where
          go : (x : Bool) → beq (row n).subject b ≡ x → (is_right_of C (rightmost C row b n) p ≡ true → RightOfAll row b n)
              → is_right_of C (cond x (farther C (rightmost C row b n) (row n).point) (rightmost C row b n)) p ≡ true → C.less_x (row r).point p ≡ true
          go true e earlier h =
              let two = and-true (is_right_of C (rightmost C row b n) p) (C.less_x (row n).point p) (sym (right-of-farther (rightmost C row b n) (row n).point) ∙ h) in
              below_suc (λ x. beq (row x).subject b ≡ true → C.less_x (row x).point p ≡ true) n r l (λ i. two.1) (λ i. earlier two.0 r i) k
          go false e earlier h =
              below_suc (λ x. beq (row x).subject b ≡ true → C.less_x (row x).point p ≡ true) n r l (λ i. absurd (true≢false (sym i ∙ e))) (λ i. earlier h r i) k

      all-right-of : (n : ℕ) → RightOfAll row b n → is_right_of C (rightmost C row b n) p ≡ true
      unfolding rightmost is_right_of
      all-right-of zero h = refl
      all-right-of (suc n) h = go (beq (row n).subject b) refl (all-right-of n (λ r l. h r (omega arith)))
        where
          go : (x : Bool) → beq (row n).subject b ≡ x → is_right_of C (rightmost C row b n) p ≡ true
              → is_right_of C (cond x (farther C (rightmost C row b n) (row n).point) (rightmost C row b n)) p ≡ true
          go true e earlier = right-of-farther (rightmost C row b n) (row n).point ∙ rw (earlier, h n (omega arith) e) refl
          go false e earlier = earlier

    -- ---- under a renaming

    module _ {n : ℕ} (ρ : Renaming n) (row row' : ℕ → Event P) (named : (r : ℕ) → r < n → row' (ρ.to r) ≡ rename ρ.to (row r)) where
      all-to : (b : Bool) → RightOfAll row b n → RightOfAll row' b n
      unfolding rename
      all-to b h r l k =
          let q = ρ.from r in
          let is-r : ρ.to q ≡ r = ρ.to_from r in
          let below = below-from ρ n q (omega arith) (rw is-r l) in
          let read = named q below in
          let layer : beq (row q).subject b ≡ true = ap (λ e. beq e.subject b) (sym read) ∙ ap (λ j. beq (row' j).subject b) is-r ∙ k in
          ap (λ j. C.less_x (row' j).point p) (sym is-r) ∙ ap (λ e. C.less_x e.point p) read ∙ h q below layer

      all_from : (b : Bool) → RightOfAll row' b n → RightOfAll row b n
      unfolding rename
      all_from b h r l k =
          let read = named r l in
          ap (λ e. C.less_x e.point p) (sym read) ∙ h (ρ.to r) (below-to ρ n r (omega arith) l) (ap (λ e. beq e.subject b) read ∙ k)

      same-right : (b : Bool) → is_right_of C (rightmost C row' b n) p ≡ is_right_of C (rightmost C row b n) p
      same-right b =
          agree _ _ (λ h. all-right-of row b n (all_from b (right-of-all row' b n h))) (λ h. all-right-of row' b n (all-to b (right-of-all row b n h)))

      pub same-past : (op : Operation) → past C op row' n p ≡ past C op row n p
      unfolding past is_past
      same-past Intersection = ap₂ (λ x y. x || y) (same-right true) (same-right false)
      same-past Difference = same-right true
      same-past Union = refl
      same-past Xor = refl
