-- Binary64 satisfies the laws: the place of a point is the places of its words' values, which are finite, and in a cross product of differences the shift cancels.
use mathlib.Core.Path.{◌≡◌, sym, ◌∙◌}
use mathlib.Core.Logic.{◌⊎◌, inl, inr}
use Prim.Native.Nat.{ℕ, ◌+◌, ◌*◌, ◌<◌}
use native.Mathlib.Omega.{arith}
use lib.IntN.{ℤ, ◌-ℤ◌}
use lib.Ieee.{Float}
use Rattle.numbers.specs.Binary64.{Finite}
use Rattle.numbers.specs.Exact.{whole}
use Rattle.numbers.specs.Words.{value, value_of}
use Rattle.numbers.specs.declared.Point.{Point}
use Rattle.numbers.proofs.Values.{value-finite}
use Rattle.numbers.proofs.Place as N
use Rattle.numbers.proofs.Place.{shift, lt-place, eq-place, place_is}
use Rattle.orientation.specs.Orientation.{sign_of, signed_area}
use Rattle.orientation.proofs.Differences as D
use Rattle.orientation.proofs.Differences.{Diff, moved, times, whole_is}
use Rattle.orientation.proofs.Signs.{positive, negative, none}
use Rattle.events.specs.Binary64.{at_binary64}
use Rattle.order.proofs.Steps.{sign_from, three_ways, sign-positive, sign-negative, sign_zero}
use Rattle.order.proofs.Grid.{Spot, plus, minus, grid}
use Rattle.order.proofs.Laws.{OrderLaws}

unfoldable pub place : Point → Spot
place p = record { x = N.place (value p.x); y = N.place (value p.y) }

-- ---- the turn
sign-is : {z : ℤ} {p n : ℕ} → Diff z p n → sign_of z ≡ sign_from p n
sign-is {z} {p} {n} d = go (three_ways n p)
  where
    go : (n < p) ⊎ ((n ≡ p) ⊎ (p < n)) → sign_of z ≡ sign_from p n
    go (inl h) = positive d h ∙ sym (sign-positive p n h)
    go (inr (inl h)) = none d (sym h) ∙ sym (sign_zero p n (sym h))
    go (inr (inr h)) = negative d h ∙ sym (sign-negative p n h)

shifted : (x : Float) → Finite x → Diff (whole x) (N.place x) shift
shifted x h = moved (N.place x) shift (place_is x h) (whole_is x)

gap : (x y : Float) → Finite x → Finite y → Diff (whole x -ℤ whole y) (N.place x) (N.place y)
gap x y h k = moved (N.place x) (N.place y) (omega arith) (D.minus (shifted x h) (shifted y k))

halves : (ax ay bx by cx cy : ℕ)
    → ax * by + cx * cy + (ay * cx + cy * bx) + (ay * bx + by * cx + cy * ax) ≡ ax * by + bx * cy + cx * ay + (ax * cy + cx * by + (ay * bx + cy * cx))
halves ax ay bx by cx cy = omega arith

-- the difference of two words' values
across : (v w : ℕ) → Diff (whole (value v) -ℤ whole (value w)) (N.place (value v)) (N.place (value w))
across v w = gap (value v) (value w) (value-finite v) (value-finite w)

pub turns : (a b c : Point) → signed_area (value_of a) (value_of b) (value_of c) ≡ sign_from (plus (place a) (place b) (place c)) (minus (place a) (place b) (place c))
unfolding signed_area plus minus place value_of
turns a b c =
    sign-is (moved _ _ (halves (N.place (value a.x)) (N.place (value a.y)) (N.place (value b.x)) (N.place (value b.y)) (N.place (value c.x)) (N.place (value c.y)))
    (D.minus (times (across a.x c.x) (across b.y c.y)) (times (across a.y c.y) (across b.x c.x))))

unfoldable pub laws : OrderLaws at_binary64
unfolding at_binary64 grid place
laws =
    record {
      place = place;
      less-x = λ p q. lt-place (value p.x) (value q.x) (value-finite p.x) (value-finite q.x);
      less-y = λ p q. lt-place (value p.y) (value q.y) (value-finite p.y) (value-finite q.y);
      same-x = λ p q. eq-place (value p.x) (value q.x) (value-finite p.x) (value-finite q.x);
      same-y = λ p q. eq-place (value p.y) (value q.y) (value-finite p.y) (value-finite q.y);
      turns = turns;
    }
