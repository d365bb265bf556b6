-- A renaming keeps what can be told of numbers without naming them: which are equal, and which lie below a bound from n on.
use mathlib.Core.Path.{◌≡◌, refl, sym, ap, ◌∙◌}
use mathlib.Core.Bool.{Bool, true, false, cond}
use Prim.Native.Nat.{ℕ, ◌<◌, ◌≤◌}
use native.Mathlib.Omega.{arith}
use lib.Dec.{eqb, ltb}
use borrow.Author.Tests.{ltb-true, ltb-false, eqb-true, lt-ltb, eq-eqb}
use Rattle.sweep_order.specs.SameBut.{Renaming}

-- two Booleans are one if each is true where the other is
pub agree : (x y : Bool) → (x ≡ true → y ≡ true) → (y ≡ true → x ≡ true) → x ≡ y
agree true y f g = sym (f refl)
agree false true f g = g refl
agree false false f g = refl

pub cond_map : {A B : Type 0} (f : A → B) (b : Bool) (x y : A) → cond b (f x) (f y) ≡ f (cond b x y)
cond_map f true x y = refl
cond_map f false x y = refl

module _ {n : ℕ} (ρ : Renaming n) where
  pub injective : (a b : ℕ) → ρ.to a ≡ ρ.to b → a ≡ b
  injective a b e = sym (ρ.from_to a) ∙ ap ρ.from e ∙ ρ.from_to b

  pub eqb-to : (a b : ℕ) → eqb (ρ.to a) (ρ.to b) ≡ eqb a b
  eqb-to a b = agree (eqb (ρ.to a) (ρ.to b)) (eqb a b) (λ h. eq-eqb a b (injective a b (eqb-true _ _ h))) (λ h. eq-eqb (ρ.to a) (ρ.to b) (ap ρ.to (eqb-true a b h)))

  -- a number from n on is no other's new name
  pub eqb-fixed : (r k : ℕ) → n ≤ k → eqb (ρ.to r) k ≡ eqb r k
  eqb-fixed r k h = ap (eqb (ρ.to r)) (sym (ρ.beyond k h)) ∙ eqb-to r k

  module _ (m r : ℕ) (h : n ≤ m) where
    pub below-to : r < m → ρ.to r < m
    below-to k = go (ltb (ρ.to r) m) refl
      where
        go : (b : Bool) → ltb (ρ.to r) m ≡ b → ρ.to r < m
        go true e = ltb-true (ρ.to r) m e
        go false e =
            let f : m ≤ ρ.to r = ltb-false (ρ.to r) m e in
            let g : ρ.to r ≡ r = injective (ρ.to r) r (ρ.beyond (ρ.to r) (omega arith)) in
            omega arith

    pub below-from : ρ.to r < m → r < m
    below-from k = go (ltb r m) refl
      where
        go : (b : Bool) → ltb r m ≡ b → r < m
        go true e = ltb-true r m e
        go false e =
            let f : m ≤ r = ltb-false r m e in
            let g : ρ.to r ≡ r = ρ.beyond r (omega arith) in
            omega arith

    pub ltb-to : ltb (ρ.to r) m ≡ ltb r m
    ltb-to = agree (ltb (ρ.to r) m) (ltb r m) (λ k. lt-ltb r m (below-from (ltb-true _ _ k))) (λ k. lt-ltb (ρ.to r) m (below-to (ltb-true _ _ k)))
