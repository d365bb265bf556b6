-- The grid: points of natural numbers, a kind of coordinate on which all is plain arithmetic. Equality by value is equality here.
use mathlib.Core.Path.{◌≡◌, refl, sym, ◌∙◌}
use mathlib.Core.Logic.{◌⊎◌, inl, inr}
use mathlib.Core.Bool.{Bool, true, false, not, ◌&&◌, false≢true, true≢false}
use Prim.Native.Nat.{ℕ, ◌+◌, ◌*◌, ◌<◌}
use native.Mathlib.Omega.{arith}
use borrow.Author.Tests.{ltb-true, eqb-true, lt-ltb, le-ltb, eq-eqb}
use lib.Dec.{ltb, eqb}
use Rattle.events.specs.Coordinates.{Coordinates, same, ahead}
use Rattle.order.specs.Order.{by_number}
use Rattle.order.proofs.Steps.{sign_from, three_ways, number-less, number_more, number_same, number-yes, number-trans}

pub record Spot : Type 0 where
  pub x : ℕ
  pub y : ℕ

-- the two halves of (ax-cx)(by-cy)-(ay-cy)(bx-cx)
unfoldable pub plus : Spot → Spot → Spot → ℕ
plus a b c = a.x * b.y + b.x * c.y + c.x * a.y

unfoldable pub minus : Spot → Spot → Spot → ℕ
minus a b c = a.y * b.x + b.y * c.x + c.y * a.x

unfoldable pub grid : Coordinates Spot
grid =
    record {
      fit = λ p. true;
      less_x = λ p q. ltb p.x q.x;
      less_y = λ p q. ltb p.y q.y;
      same_x = λ p q. eqb p.x q.x;
      same_y = λ p q. eqb p.y q.y;
      turn = λ a b c. sign_from (plus a b c) (minus a b c);
      next_x = λ p. record { x = p.x + 1; y = p.y };
    }

-- ---- points
pub one_spot : (p q : Spot) → p.x ≡ q.x → p.y ≡ q.y → p ≡ q
one_spot p q e f = λ i. record { x = e i; y = f i }

both_true : (u v : Bool) → (u && v) ≡ true → (u ≡ true) × (v ≡ true)
both_true true v h = (refl, h)
both_true false v h = absurd (false≢true h)

pub same_spot : (p q : Spot) → same grid p q ≡ true → p ≡ q
unfolding same grid
same_spot p q h =
    let d = both_true (eqb p.x q.x) (eqb p.y q.y) h in
    one_spot p q (eqb-true p.x q.x d.0) (eqb-true p.y q.y d.1)

pub same_self : (p : Spot) → same grid p p ≡ true
unfolding same grid
same_self p = rw (eq-eqb p.x p.x refl, eq-eqb p.y p.y refl)

-- one step by x, and then y
pub ahead-number : (p q : Spot) → ahead grid p q ≡ by_number (ltb p.x q.x) (ltb q.x p.x) (ltb p.y q.y)
unfolding ahead grid by_number
ahead-number p q = refl

pub ahead-is : (p q : Spot) → ahead grid p q ≡ true → (p.x < q.x) ⊎ ((p.x ≡ q.x) × (ltb p.y q.y ≡ true))
unfolding ahead grid by_number
ahead-is p q h = number-yes p.x q.x (ltb p.y q.y) h

pub ahead-asym : (p q : Spot) → ahead grid p q ≡ true → ahead grid q p ≡ false
unfolding ahead grid by_number
ahead-asym p q h = go (ahead-is p q h)
  where
    go : (p.x < q.x) ⊎ ((p.x ≡ q.x) × (ltb p.y q.y ≡ true)) → ahead grid q p ≡ false
    go (inl l) = number_more q.x p.x (ltb q.y p.y) l
    go (inr s) =
        let l = ltb-true p.y q.y s.1 in
        number_same q.x p.x (ltb q.y p.y) (sym s.0) ∙ le-ltb q.y p.y (omega arith)

-- of two points one is ahead, or they are one
pub ahead-ways : (p q : Spot) → (ahead grid p q ≡ true) ⊎ ((p ≡ q) ⊎ (ahead grid q p ≡ true))
unfolding ahead grid by_number
ahead-ways p q = by-x (three_ways p.x q.x) (three_ways p.y q.y)
  where
    by-x : (p.x < q.x) ⊎ ((p.x ≡ q.x) ⊎ (q.x < p.x)) → (p.y < q.y) ⊎ ((p.y ≡ q.y) ⊎ (q.y < p.y))
        → (ahead grid p q ≡ true) ⊎ ((p ≡ q) ⊎ (ahead grid q p ≡ true))
    by-x (inl l) w = inl (number-less p.x q.x (ltb p.y q.y) l)
    by-x (inr (inr l)) w = inr (inr (number-less q.x p.x (ltb q.y p.y) l))
    by-x (inr (inl e)) (inl l) = inl (number_same p.x q.x (ltb p.y q.y) e ∙ lt-ltb p.y q.y l)
    by-x (inr (inl e)) (inr (inl f)) = inr (inl (one_spot p q e f))
    by-x (inr (inl e)) (inr (inr l)) = inr (inr (number_same q.x p.x (ltb q.y p.y) (sym e) ∙ lt-ltb q.y p.y l))

-- of two points that differ exactly one is ahead
pub ahead_apart : (p q : Spot) → same grid p q ≡ false → ahead grid p q ≡ not (ahead grid q p)
ahead_apart p q d = go (ahead-ways p q)
  where
    go : (ahead grid p q ≡ true) ⊎ ((p ≡ q) ⊎ (ahead grid q p ≡ true)) → ahead grid p q ≡ not (ahead grid q p)
    go (inl h) = rw (h, ahead-asym p q h)
    go (inr (inl e)) = absurd (true≢false (sym (same_self q) ∙ (rw e at d)))
    go (inr (inr h)) = rw (h, ahead-asym q p h)

pub ahead-trans : (p q r : Spot) → ahead grid p q ≡ true → ahead grid q r ≡ true → ahead grid p r ≡ true
unfolding ahead grid by_number
ahead-trans p q r = number-trans p.x q.x r.x _ _ _ (λ x x' h k. lt-ltb p.y r.y (let l = ltb-true p.y q.y h in let m = ltb-true q.y r.y k in omega arith))
