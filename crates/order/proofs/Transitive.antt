-- On valid keys of the grid event order is transitive: at one point, edges to one side are ordered by their directions.
use mathlib.Core.Path.{◌≡◌, ap, ◌∙◌}
use mathlib.Core.Logic.{◌⊎◌, inl, inr}
use mathlib.Core.Bool.{Bool, true, false, cond}
use Prim.Native.Nat.{ℕ, ◌+◌, ◌-◌, ◌*◌, ◌≤◌, ◌<◌}
use native.Mathlib.Omega.{arith}
use borrow.Author.Tests.{ltb-true}
use lib.Dec.{ltb}
use Rattle.events.specs.Coordinates.{ahead}
use Rattle.events.specs.Event.{Key}
use Rattle.order.specs.Order.{by_turn, by_layer, before, on_side}
use Rattle.order.proofs.Steps.{sign_from, number-trans, end-trans, layer-trans, Low, turn_low, low_turn}
use Rattle.order.proofs.Directions.{Flat, Up, up-trans, Down, down-trans}
use Rattle.order.proofs.Grid.{Spot, plus, minus, grid, one_spot, ahead-is}
use Rattle.order.proofs.Ties.{swap}

-- how far q lies to the right of p, or else above it
record Right (p q : Spot) : Type 0 where
  by : ℕ
  is : q.x ≡ p.x + by
  up : Up p.y by q.y

record Left (p q : Spot) : Type 0 where
  by : ℕ
  is : p.x ≡ q.x + by
  down : Down p.y by q.y

right_of_lem : (p q : Spot) → ahead grid p q ≡ true → Right p q
right_of_lem p q h = go (ahead-is p q h)
  where
    go : (p.x < q.x) ⊎ ((p.x ≡ q.x) × (ltb p.y q.y ≡ true)) → Right p q
    go (inl l) = record { by = q.x - p.x; is = omega arith; up = inl (omega arith) }
    go (inr s) = record { by = 0; is = omega (arith, s.0); up = inr (ltb-true p.y q.y s.1) }

left-of : (p q : Spot) → ahead grid q p ≡ true → Left p q
left-of p q h = go (ahead-is q p h)
  where
    go : (q.x < p.x) ⊎ ((q.x ≡ p.x) × (ltb q.y p.y ≡ true)) → Left p q
    go (inl l) = record { by = p.x - q.x; is = omega arith; down = inl (omega arith) }
    go (inr s) = record { by = 0; is = omega (arith, s.0); down = inr (ltb-true q.y p.y s.1) }

-- the halves of the cross product, from distances to the side
module _ (p q r : Spot) (u v : ℕ) where
  right-flat : q.x ≡ p.x + u → r.x ≡ p.x + v → minus p q r ≤ plus p q r → Flat p.y u q.y v r.y
  unfolding plus minus
  right-flat e f h = omega (arith, h, ap (λ (k : ℕ). p.y * k) e, ap (λ (k : ℕ). k * r.y) e, ap (λ (k : ℕ). q.y * k) f, ap (λ (k : ℕ). k * p.y) f)

  flat-right : q.x ≡ p.x + u → r.x ≡ p.x + v → Flat p.y u q.y v r.y → minus p q r ≤ plus p q r
  unfolding plus minus
  flat-right e f h = omega (arith, h, ap (λ (k : ℕ). p.y * k) e, ap (λ (k : ℕ). k * r.y) e, ap (λ (k : ℕ). q.y * k) f, ap (λ (k : ℕ). k * p.y) f)

  left-flat : p.x ≡ q.x + u → p.x ≡ r.x + v → plus p q r ≤ minus p q r → Flat p.y u q.y v r.y
  unfolding plus minus
  left-flat e f h = omega (arith, h, ap (λ (k : ℕ). k * p.y) e, ap (λ (k : ℕ). k * p.y) f, ap (λ (k : ℕ). r.y * k) e, ap (λ (k : ℕ). k * q.y) f)

  flat-left : p.x ≡ q.x + u → p.x ≡ r.x + v → Flat p.y u q.y v r.y → plus p q r ≤ minus p q r
  unfolding plus minus
  flat-left e f h = omega (arith, h, ap (λ (k : ℕ). k * p.y) e, ap (λ (k : ℕ). k * p.y) f, ap (λ (k : ℕ). r.y * k) e, ap (λ (k : ℕ). k * q.y) f)

-- an edge from p to q, p being its left end or not
abbrev Side : Bool → Spot → Spot → Type 0
Side left p q = cond left (ahead grid p q) (ahead grid q p) ≡ true

low-trans : (left : Bool) (p q r s : Spot) → Side left p q → Side left p r → Side left p s
    → Low left (plus p q r) (minus p q r) → Low left (plus p r s) (minus p r s) → Low left (plus p q s) (minus p q s)
unfolding Low
low-trans true p q r s i j k h g =
    let a = right_of_lem p q i in
    let b = right_of_lem p r j in
    let c = right_of_lem p s k in
    flat-right p q s a.by c.by a.is c.is
    (up-trans p.y a.by q.y b.by r.y c.by s.y b.up c.up
    (right-flat p q r a.by b.by a.is b.is h)
    (right-flat p r s b.by c.by b.is c.is g))
low-trans false p q r s i j k h g =
    let a = left-of p q i in
    let b = left-of p r j in
    let c = left-of p s k in
    flat-left p q s a.by c.by a.is c.is
    (down-trans p.y a.by q.y b.by r.y c.by s.y a.down b.down
    (left-flat p q r a.by b.by a.is b.is h)
    (left-flat p r s b.by c.by b.is c.is g))

back : (left : Bool) (p q r : Spot) → Low left (minus p q r) (plus p q r) → Low left (plus p r q) (minus p r q)
back left p q r h = rw ((swap p q r).0, (swap p q r).1) h

forth : (left : Bool) (p q r : Spot) → Low left (plus p r q) (minus p r q) → Low left (minus p q r) (plus p q r)
forth left p q r h = rw (← (swap p q r).0, ← (swap p q r).1) h

-- where the first and the third run one way, so do all three
turn-trans : (left : Bool) (p q r s : Spot) (u v w : Bool) → Side left p q → Side left p r → Side left p s → (u ≡ true → v ≡ true → w ≡ true)
    → by_turn left (sign_from (plus p q r) (minus p q r)) u ≡ true → by_turn left (sign_from (plus p r s) (minus p r s)) v ≡ true
    → by_turn left (sign_from (plus p q s) (minus p q s)) w ≡ true
turn-trans left p q r s u v w i j k f g h =
    let q-r = turn_low left (plus p q r) (minus p q r) u g in
    let r-s = turn_low left (plus p r s) (minus p r s) v h in
    low_turn left (plus p q s) (minus p q s) w (low-trans left p q r s i j k q-r.0 r-s.0) (λ e.
    let s-q = back left p q s e in
    f (q-r.1 (forth left p q r (low-trans left p r s q j k i r-s.0 s-q))) (r-s.1 (forth left p r s (low-trans left p s q r k i j s-q q-r.0))))

directions : (a b c : Key Spot) → on_side grid a ≡ true → on_side grid b ≡ true → on_side grid c ≡ true
    → a.point ≡ b.point → b.point ≡ c.point → a.left ≡ b.left → b.left ≡ c.left
    → by_turn a.left (grid.turn a.point a.mate b.mate) (by_layer a.subject b.subject) ≡ true
    → by_turn b.left (grid.turn b.point b.mate c.mate) (by_layer b.subject c.subject) ≡ true
    → by_turn a.left (grid.turn a.point a.mate c.mate) (by_layer a.subject c.subject) ≡ true
unfolding on_side grid
directions a b c i j k e e' l l' g h =
    let b-side : Side a.left a.point b.mate = rw (l, e) j in
    let c-side : Side a.left a.point c.mate = rw (l ∙ l', e ∙ e') k in
    turn-trans a.left a.point a.mate b.mate c.mate _ _ _ i b-side c-side (layer-trans a.subject b.subject c.subject) g (rw (l, e) h)

pub before-trans : (a b c : Key Spot) → on_side grid a ≡ true → on_side grid b ≡ true → on_side grid c ≡ true
    → before grid a b ≡ true → before grid b c ≡ true → before grid a c ≡ true
unfolding before grid
before-trans a b c i j k =
    number-trans a.point.x b.point.x c.point.x _ _ _ (λ x x'.
    number-trans a.point.y b.point.y c.point.y _ _ _ (λ y y'.
    end-trans a.left b.left c.left _ _ _ (λ l l'.
    directions a b c i j k (one_spot a.point b.point x y) (one_spot b.point c.point x' y') l l')))
