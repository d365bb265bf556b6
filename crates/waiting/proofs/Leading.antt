-- Which of two waiting events leads: of two unlike numbers exactly one does, and where the order is total and transitive, so does leading go on.
use mathlib.Core.Path.{◌≡◌, refl, sym, ◌∙◌}
use mathlib.Core.Logic.{◌≢◌}
use mathlib.Core.Bool.{Bool, true, false, not, ◌||◌, or_self, true≢false}
use Prim.Native.Nat.{ℕ, ◌<◌, ◌≤◌}
use native.Mathlib.Omega.{arith}
use lib.Dec.{ltb}
use borrow.Author.Tests.{ltb-true, ltb-false, lt-ltb, le-ltb, not-true, not-false}
use Rattle.waiting.specs.Queue.{leads}

-- before is total and transitive on the numbers below n
pub record Orders (before : ℕ → ℕ → Bool) (n : ℕ) : Type 0 where
  pub total : (a b : ℕ) → a < n → b < n → (before a b || before b a) ≡ true
  pub trans : (a b c : ℕ) → a < n → b < n → c < n → before a b ≡ true → before b c ≡ true → before a c ≡ true

module _ (before : ℕ → ℕ → Bool) where
  pub leads-lower : (a b : ℕ) → a < b → leads before a b ≡ before a b
  unfolding leads
  leads-lower a b h = rw (lt-ltb a b h)

  pub leads-higher : (a b : ℕ) → b ≤ a → leads before a b ≡ not (before b a)
  unfolding leads
  leads-higher a b h = rw (le-ltb a b h)

  pub turned : (a b : ℕ) → a ≢ b → leads before a b ≡ false → leads before b a ≡ true
  turned a b d e = go (ltb a b) refl
    where
      go : (t : Bool) → ltb a b ≡ t → leads before b a ≡ true
      go true p =
          let l : a < b = ltb-true a b p in
          rw (leads-higher b a (omega arith), ← leads-lower a b l, e)
      go false p =
          let l : b ≤ a = ltb-false a b p in
          let m : b < a = omega arith in
          leads-lower b a m ∙ not-false (before b a) (sym (leads-higher a b l) ∙ e)

  module _ {n : ℕ} (O : Orders before n) where
    pub self : (a : ℕ) → a < n → leads before a a ≡ false
    self a h = rw (leads-higher a a (omega arith), sym (or_self (before a a)) ∙ O.total a a h h)

    pub leads-before : (a b : ℕ) → a < n → b < n → leads before a b ≡ true → before a b ≡ true
    leads-before a b ha hb e = go (ltb a b) refl
      where
        go : (t : Bool) → ltb a b ≡ t → before a b ≡ true
        go true p = sym (leads-lower a b (ltb-true a b p)) ∙ e
        go false p =
            let back : before b a ≡ false = not-true (before b a) (sym (leads-higher a b (ltb-false a b p)) ∙ e) in
            rw back at (O.total b a hb ha)

    pub leads-trans : (a b c : ℕ) → a < n → b < n → c < n → leads before a b ≡ true → leads before b c ≡ true → leads before a c ≡ true
    leads-trans a b c ha hb hc e f = go (ltb a c) refl (before c a) refl (ltb b c) refl
      where
        ab : before a b ≡ true
        ab = leads-before a b ha hb e

        bc : before b c ≡ true
        bc = leads-before b c hb hc f

        go : (t : Bool) → ltb a c ≡ t → (u : Bool) → before c a ≡ u → (v : Bool) → ltb b c ≡ v → leads before a c ≡ true
        go true p u q v r = leads-lower a c (ltb-true a c p) ∙ O.trans a b c ha hb hc ab bc
        go false p false q v r = rw (leads-higher a c (ltb-false a c p), q)
        go false p true q true r =
            let ca = ltb-false a c p in
            let l = ltb-true b c r in
            let ba : before b a ≡ false = not-true _ (sym (leads-higher a b (omega arith)) ∙ e) in
            absurd (true≢false (sym (O.trans b c a hb hc ha bc q) ∙ ba))
        go false p true q false r =
            let cb : before c b ≡ false = not-true _ (sym (leads-higher b c (ltb-false b c r)) ∙ f) in
            absurd (true≢false (sym (O.trans c a b hc ha hb q ab) ∙ cb))
