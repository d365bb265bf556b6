-- The steps of the chain on whole numbers, one at a time: a step that does not decide hands on what holds of the rest.
use mathlib.Core.Path.{◌≡◌, refl, sym, ◌∙◌}
use mathlib.Core.Logic.{◌⊎◌, inl, inr}
use mathlib.Core.Bool.{Bool, true, false, not, ◌&&◌, ◌||◌, beq, cond, false≢true}
use Prim.Native.Nat.{ℕ, ◌≤◌, ◌<◌}
use native.Mathlib.Omega.{arith}
use borrow.Author.Tests.{ltb-true, ltb-false, lt-ltb, le-ltb, eq-eqb, ne_eqb}
use lib.Dec.{ltb, eqb}
use Rattle.orientation.specs.declared.Sign.{Sign}
use Rattle.orientation.specs.declared.Sign.TheVariants.{Negative, Zero, Positive}
use Rattle.order.specs.Order.{by_number, by_end, by_turn, by_layer, is_zero}

-- the sign of p - n
unfoldable pub sign_from : ℕ → ℕ → Sign
sign_from p n = cond (ltb n p) Positive (cond (ltb p n) Negative Zero)

pub three_ways : (i j : ℕ) → (i < j) ⊎ ((i ≡ j) ⊎ (j < i))
three_ways i j = go (ltb i j) refl (ltb j i) refl
  where
    go : (u : Bool) → ltb i j ≡ u → (v : Bool) → ltb j i ≡ v → (i < j) ⊎ ((i ≡ j) ⊎ (j < i))
    go true p v q = inl (ltb-true i j p)
    go false p true q = inr (inr (ltb-true j i q))
    go false p false q =
        let l = ltb-false i j p in
        let m = ltb-false j i q in
        inr (inl (omega arith))

-- ---- what each step says
module _ (i j : ℕ) (rest : Bool) where
  abbrev number : Bool
  number = by_number (ltb i j) (ltb j i) rest

  pub number-less : i < j → number ≡ true
  unfolding by_number
  number-less h = rw (lt-ltb i j h)

  pub number_more : j < i → number ≡ false
  unfolding by_number
  number_more h = rw (le-ltb i j (omega arith), lt-ltb j i h)

  pub number_same : i ≡ j → number ≡ rest
  unfolding by_number
  number_same h = rw (le-ltb i j (omega arith), le-ltb j i (omega arith))

  pub number-yes : number ≡ true → (i < j) ⊎ ((i ≡ j) × (rest ≡ true))
  number-yes h = go (three_ways i j)
    where
      go : (i < j) ⊎ ((i ≡ j) ⊎ (j < i)) → (i < j) ⊎ ((i ≡ j) × (rest ≡ true))
      go (inl p) = inl p
      go (inr (inl p)) = inr (p, sym (number_same p) ∙ h)
      go (inr (inr p)) = absurd (false≢true (sym (number_more p) ∙ h))

pub sign-positive : (p n : ℕ) → n < p → sign_from p n ≡ Positive
unfolding sign_from
sign-positive p n h = rw (lt-ltb n p h)

pub sign-negative : (p n : ℕ) → p < n → sign_from p n ≡ Negative
unfolding sign_from
sign-negative p n h = rw (le-ltb n p (omega arith), lt-ltb p n h)

pub sign_zero : (p n : ℕ) → p ≡ n → sign_from p n ≡ Zero
unfolding sign_from
sign_zero p n h = rw (le-ltb n p (omega arith), le-ltb p n (omega arith))

-- ---- one way or the other, and both ways exactly where t
pub record Both (u v t : Bool) : Type 0 where
  pub one : (u || v) ≡ true
  pub tie : (u && v) ≡ t

first-only : Both true false false
first-only = record { one = refl; tie = refl }

second-only : Both false true false
second-only = record { one = refl; tie = refl }

pub number-both : (i j : ℕ) (r s t : Bool) → (i ≡ j → Both r s t) → Both (by_number (ltb i j) (ltb j i) r) (by_number (ltb j i) (ltb i j) s) (eqb i j && t)
number-both i j r s t f = go (three_ways i j)
  where
    go : (i < j) ⊎ ((i ≡ j) ⊎ (j < i)) → Both (by_number (ltb i j) (ltb j i) r) (by_number (ltb j i) (ltb i j) s) (eqb i j && t)
    go (inl p) = rw (number-less i j r p, number_more j i s p, ne_eqb i j (omega arith)) first-only
    go (inr (inl p)) = rw (number_same i j r p, number_same j i s (sym p), eq-eqb i j p) (f p)
    go (inr (inr p)) = rw (number_more i j r p, number-less j i s p, ne_eqb i j (omega arith)) second-only

pub end-both : (l m r s t : Bool) → (l ≡ m → Both r s t) → Both (by_end l m r) (by_end m l s) (beq l m && t)
unfolding by_end
end-both true true r s t f = f refl
end-both true false r s t f = second-only
end-both false true r s t f = first-only
end-both false false r s t f = f refl

-- seen from the second edge, the first lies on the other side
pub turn-both : (l : Bool) (p n : ℕ) (r s t : Bool) → Both r s t → Both (by_turn l (sign_from p n) r) (by_turn l (sign_from n p) s) (is_zero (sign_from p n) && t)
unfolding by_turn is_zero
turn-both l p n r s t f = go (three_ways n p)
  where
    left : (l : Bool) → Both l (not l) false
    left true = first-only
    left false = second-only

    right : (l : Bool) → Both (not l) l false
    right true = second-only
    right false = first-only

    go : (n < p) ⊎ ((n ≡ p) ⊎ (p < n)) → Both (by_turn l (sign_from p n) r) (by_turn l (sign_from n p) s) (is_zero (sign_from p n) && t)
    go (inl h) = rw (sign-positive p n h, sign-negative n p h) (left l)
    go (inr (inl h)) = rw (sign_zero p n (sym h), sign_zero n p h) f
    go (inr (inr h)) = rw (sign-negative p n h, sign-positive n p h) (right l)

pub layer-both : (a b : Bool) → Both (by_layer a b) (by_layer b a) (beq a b)
unfolding by_layer
layer-both true true = record { one = refl; tie = refl }
layer-both true false = record { one = refl; tie = refl }
layer-both false true = record { one = refl; tie = refl }
layer-both false false = record { one = refl; tie = refl }

-- ---- from the first to the third by the second
pub number-trans : (i j k : ℕ) (r s t : Bool) → (i ≡ j → j ≡ k → r ≡ true → s ≡ true → t ≡ true)
    → by_number (ltb i j) (ltb j i) r ≡ true → by_number (ltb j k) (ltb k j) s ≡ true → by_number (ltb i k) (ltb k i) t ≡ true
number-trans i j k r s t f g h = go (number-yes i j r g) (number-yes j k s h)
  where
    go : (i < j) ⊎ ((i ≡ j) × (r ≡ true)) → (j < k) ⊎ ((j ≡ k) × (s ≡ true)) → by_number (ltb i k) (ltb k i) t ≡ true
    go (inl p) (inl q) = number-less i k t (omega arith)
    go (inl p) (inr q) = number-less i k t (omega (arith, q.0))
    go (inr p) (inl q) = number-less i k t (omega (arith, p.0))
    go (inr p) (inr q) = number_same i k t (p.0 ∙ q.0) ∙ f p.0 q.0 p.1 q.1

pub end-trans : (l m n r s t : Bool) → (l ≡ m → m ≡ n → r ≡ true → s ≡ true → t ≡ true) → by_end l m r ≡ true → by_end m n s ≡ true → by_end l n t ≡ true
unfolding by_end
end-trans true true true r s t f g h = f refl refl g h
end-trans true true false r s t f g h = absurd (false≢true h)
end-trans true false n r s t f g h = absurd (false≢true g)
end-trans false true true r s t f g h = refl
end-trans false true false r s t f g h = absurd (false≢true h)
end-trans false false true r s t f g h = refl
end-trans false false false r s t f g h = f refl refl g h

pub layer-trans : (a b c : Bool) → by_layer a b ≡ true → by_layer b c ≡ true → by_layer a c ≡ true
unfolding by_layer
layer-trans true b c g h = refl
layer-trans false true c g h = absurd (false≢true g)
layer-trans false false c g h = h

-- the first edge, from its end, runs at most as high as the second
unfoldable pub Low : Bool → ℕ → ℕ → Type 0
Low left p n = cond left (n ≤ p) (p ≤ n)

-- among left ends the turn is a number step from minus to plus, among right ends from plus to minus
module _ (p n : ℕ) (rest : Bool) where
  turn-left : by_turn true (sign_from p n) rest ≡ by_number (ltb n p) (ltb p n) rest
  unfolding by_turn
  turn-left = go (three_ways n p)
    where
      go : (n < p) ⊎ ((n ≡ p) ⊎ (p < n)) → by_turn true (sign_from p n) rest ≡ by_number (ltb n p) (ltb p n) rest
      go (inl h) = rw (sign-positive p n h, number-less n p rest h)
      go (inr (inl h)) = rw (sign_zero p n (sym h), number_same n p rest h)
      go (inr (inr h)) = rw (sign-negative p n h, number_more n p rest h)

  turn-right : by_turn false (sign_from p n) rest ≡ by_number (ltb p n) (ltb n p) rest
  unfolding by_turn
  turn-right = go (three_ways n p)
    where
      go : (n < p) ⊎ ((n ≡ p) ⊎ (p < n)) → by_turn false (sign_from p n) rest ≡ by_number (ltb p n) (ltb n p) rest
      go (inl h) = rw (sign-positive p n h, number_more p n rest h)
      go (inr (inl h)) = rw (sign_zero p n (sym h), number_same p n rest (sym h))
      go (inr (inr h)) = rw (sign-negative p n h, number-less p n rest h)

module _ (i j : ℕ) (rest : Bool) where
  at_most : by_number (ltb i j) (ltb j i) rest ≡ true → (i ≤ j) × (j ≤ i → rest ≡ true)
  at_most h = go (number-yes i j rest h)
    where
      go : (i < j) ⊎ ((i ≡ j) × (rest ≡ true)) → (i ≤ j) × (j ≤ i → rest ≡ true)
      go (inl l) = (omega arith, λ k. absurd (omega arith))
      go (inr e) = (omega (arith, e.0), λ k. e.1)

  at-most-then : i ≤ j → (j ≤ i → rest ≡ true) → by_number (ltb i j) (ltb j i) rest ≡ true
  at-most-then h f = go (three_ways i j)
    where
      go : (i < j) ⊎ ((i ≡ j) ⊎ (j < i)) → by_number (ltb i j) (ltb j i) rest ≡ true
      go (inl l) = number-less i j rest l
      go (inr (inl e)) = number_same i j rest e ∙ f (omega arith)
      go (inr (inr l)) = absurd (omega arith)

pub turn_low : (l : Bool) (p n : ℕ) (rest : Bool) → by_turn l (sign_from p n) rest ≡ true → Low l p n × (Low l n p → rest ≡ true)
unfolding Low
turn_low true p n rest h = at_most n p rest (sym (turn-left p n rest) ∙ h)
turn_low false p n rest h = at_most p n rest (sym (turn-right p n rest) ∙ h)

pub low_turn : (l : Bool) (p n : ℕ) (rest : Bool) → Low l p n → (Low l n p → rest ≡ true) → by_turn l (sign_from p n) rest ≡ true
unfolding Low
low_turn true p n rest h f = turn-left p n rest ∙ at-most-then n p rest h f
low_turn false p n rest h f = turn-right p n rest ∙ at-most-then p n rest h f
