-- Of two keys of the grid one is before the other, and both are exactly if they tie: each step of the chain hands its equality on to the next.
use mathlib.Core.Path.{◌≡◌, refl, sym, ◌∙◌}
use mathlib.Core.Logic.{◌⊎◌, inl, inr}
use mathlib.Core.Bool.{Bool, true, false, ◌&&◌, beq, true≢false}
use Prim.Native.Nat.{ℕ, ◌<◌}
use native.Mathlib.Omega.{arith}
use borrow.Author.Tests.{lt-ltb, le-ltb}
use lib.Dec.{ltb, eqb}
use Rattle.events.specs.Coordinates.{same, ahead}
use Rattle.events.specs.Event.{Key}
use Rattle.order.specs.Order.{by_number, by_turn, by_layer, before, is_zero, is_one_way, tied}
use Rattle.order.proofs.Steps.{three_ways, number-less, number_more, Both, number-both, end-both, turn-both, layer-both}
use Rattle.order.proofs.Grid.{Spot, plus, minus, grid, one_spot, same_self, ahead-number}

-- seen from the second edge, the first lies on the other side
pub swap : (p q r : Spot) → (plus p r q ≡ minus p q r) × (minus p r q ≡ plus p q r)
unfolding plus minus
swap p q r = (omega arith, omega arith)

directions : (a b : Key Spot) → a.point ≡ b.point → a.left ≡ b.left
    → Both (by_turn a.left (grid.turn a.point a.mate b.mate) (by_layer a.subject b.subject)) (by_turn b.left (grid.turn b.point b.mate a.mate) (by_layer b.subject a.subject))
    (is_zero (grid.turn a.point a.mate b.mate) && beq a.subject b.subject)
unfolding grid
directions a b e l =
    let s = swap a.point a.mate b.mate in
    rw (← e, ← l, s.0, s.1)
    (turn-both a.left (plus a.point a.mate b.mate) (minus a.point a.mate b.mate) _ _ _ (layer-both a.subject b.subject))

regrouped : (u v w z s : Bool) → (u && v && (w && z) && s) ≡ (u && (v && (w && (z && s))))
regrouped false v w z s = refl
regrouped true false w z s = refl
regrouped true true false z s = refl
regrouped true true true z s = refl

pub before-both : (a b : Key Spot) → Both (before grid a b) (before grid b a) (tied grid a b)
unfolding before tied is_one_way same grid
before-both a b =
    rw (regrouped (eqb a.point.x b.point.x) (eqb a.point.y b.point.y) (beq a.left b.left))
    (number-both a.point.x b.point.x _ _ _ (λ x.
    number-both a.point.y b.point.y _ _ _ (λ y.
    end-both a.left b.left _ _ _ (λ l. directions a b (one_spot a.point b.point x y) l))))

-- where the points differ, they decide
differ : (x x' y y' : ℕ) (rest : Bool) → (x ≡ x' → y ≡ y' → ⊥)
    → by_number (ltb x x') (ltb x' x) (by_number (ltb y y') (ltb y' y) rest) ≡ by_number (ltb x x') (ltb x' x) (ltb y y')
differ x x' y y' rest d = go (three_ways x x') (three_ways y y')
  where
    go : (x < x') ⊎ ((x ≡ x') ⊎ (x' < x)) → (y < y') ⊎ ((y ≡ y') ⊎ (y' < y))
        → by_number (ltb x x') (ltb x' x) (by_number (ltb y y') (ltb y' y) rest) ≡ by_number (ltb x x') (ltb x' x) (ltb y y')
    go (inl l) w = number-less x x' _ l ∙ sym (number-less x x' _ l)
    go (inr (inr l)) w = number_more x x' _ l ∙ sym (number_more x x' _ l)
    go (inr (inl e)) (inl l) = rw (number-less y y' rest l, lt-ltb y y' l)
    go (inr (inl e)) (inr (inl f)) = absurd (d e f)
    go (inr (inl e)) (inr (inr l)) = rw (number_more y y' rest l, le-ltb y y' (omega arith))

pub before-ahead : (a b : Key Spot) → same grid a.point b.point ≡ false → before grid a b ≡ ahead grid a.point b.point
unfolding before grid
before-ahead a b d =
    rw (ahead-number a.point b.point)
    (differ a.point.x b.point.x a.point.y b.point.y _ (λ e f.
    true≢false (sym (same_self b.point) ∙ (rw (one_spot a.point b.point e f) at d))))
