-- Two records entered and two stored, each the definition's.
use mathlib.Core.Path.{◌≡◌, ap, ◌∙◌}
use mathlib.Core.Bool.{Bool, true, false, cond}
use Prim.Native.Nat.{ℕ, ◌+◌}
use native.Mathlib.Omega.{arith}
use Rattle.numbers.specs.declared.Point.{Point}
use Rattle.events.specs.Event.{Event, shown}
use Rattle.events.specs.Pool.{Pool, enter, store, stored}
use Rattle.division.specs.Division.{new_end, linked, parted}
use Rattle.division.proofs.part.Goals as goal

chain : (s s1 s2 s3 s4 : Pool) (used i : ℕ) (e f right left own other : Event Point) (c : Point) (keep : Bool)
    → right ≡ new_end e c false i
    → left ≡ new_end e c keep e.partner
    → own ≡ linked e used e.left
    → other ≡ linked f (used + 1) (cond keep f.left true)
    → s1 ≡ enter s used right
    → s2 ≡ enter s1 (used + 1) left
    → s3 ≡ store s2 i own
    → s4 ≡ store s3 e.partner other
    → s4 ≡ parted stored s used i e f c keep
unfolding parted stored
chain s s1 s2 s3 s4 used i e f right left own other c keep r l o t h1 h2 h3 h4 = rw (h4, h3, h2, h1, r, l, o, t)

pub overflow_add-used-2 : goal.overflow_add-used-2
overflow_add-used-2 c =
    omega (arith, c.requires)

pub shape_of-points : goal.shape_of-points
shape_of-points c =
    omega (arith, c.store_event-2.auto.points, c.store_event.auto.points, c.enter_event-2.auto.points, c.enter_event.auto.points)

pub shape_of-marks : goal.shape_of-marks
shape_of-marks c =
    omega (arith, c.store_event-2.auto.marks, c.store_event.auto.marks, c.enter_event-2.auto.marks, c.enter_event.auto.marks)

pub returns : goal.returns
unfolding linked
returns c =
    let flag = c.flag_after.ensures in
    chain _ _ _ _ _ _ _ _ _ _ _ _ _ _ _
    c.new_end.ensures
    c.new_end-2.ensures
    (ap shown c.relinked.ensures)
    (ap shown c.relinked-2.ensures ∙ rw flag)
    c.enter_event.ensures
    c.enter_event-2.ensures
    c.store_event.ensures
    c.store_event-2.ensures
