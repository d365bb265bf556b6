-- Each return rewrites by the tests that led to it.
use mathlib.Core.Path.{◌≡◌, refl}
use mathlib.Core.Bool.{Bool, true, false, ◌&&◌, beq}
use Rattle.events.specs.Coordinates.{Coordinates}
use Rattle.events.specs.Event.{Key}
use Rattle.order.specs.Order.{is_one_way, tied}
use Rattle.order.proofs.are_tied.Goals as goal

and-true : (t : Bool) → t ≡ (t && true)
and-true true = refl
and-true false = refl

no-layer : {P : Type 0} (C : Coordinates P) (a b : Key P) → beq a.subject b.subject ≡ false → false ≡ tied C a b
unfolding tied
no-layer C a b h = rw h (go (is_one_way C a b))
  where
    go : (t : Bool) → false ≡ (t && false)
    go true = refl
    go false = refl

pub returns-then-a-b-2 : goal.returns-then-a-b-2
unfolding tied is_one_way
returns-then-a-b-2 c =
    rw (c.is_zero.ensures, c.turn.ensures, ← c.same_point.ensures, c.if-same_point.true, c.if-a-b.true, c.if-a-b-2.true) (and-true _)

pub returns-else-a-b-2 : goal.returns-else-a-b-2
returns-else-a-b-2 c = no-layer _ _ _ c.if-a-b-2.false

pub returns-else-a-b : goal.returns-else-a-b
unfolding tied is_one_way
returns-else-a-b c =
    rw (← c.same_point.ensures, c.if-same_point.true, c.if-a-b.false)

pub returns-else-same_point : goal.returns-else-same_point
unfolding tied is_one_way
returns-else-same_point c = rw (← c.same_point.ensures, c.if-same_point.false)
