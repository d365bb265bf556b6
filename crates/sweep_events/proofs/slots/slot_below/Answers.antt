use mathlib.Core.Path.{◌≡◌}
use mathlib.Core.Bool.{Bool, false, cond}
use Prim.Native.Nat.{ℕ, ◌+◌}
use native.Mathlib.Omega.{arith}
use lib.Dec.{eqb}
use lib.ListN.{length-take}
use Rattle.numbers.specs.declared.Point.{Point}
use Rattle.events.specs.Binary64.{at_binary64}
use Rattle.events.specs.Coordinates.{Crossing}
use Rattle.events.specs.Event.{Key}
use Rattle.events.specs.Pool.{Pool, stored}
use Rattle.order.specs.Keys.{key_used}
use Rattle.segments.specs.Segments.{compare_segments}
use Rattle.sweep_events.specs.Event.{is_less, is_below}
use Rattle.lists.proofs.Slots.{begun, found, passed, ended}
use Rattle.sweep_events.proofs.Passing.{after-passed}
use Rattle.sweep_events.proofs.slots.slot_below.Goals as goal

-- by the key of e, read once
below-is : (crossing : Crossing Point) (s : Pool) (used e x : ℕ) (key : Key Point) (t : Bool) → key ≡ key_used stored s used e
    → t ≡ cond (eqb e x) false (is_less (compare_segments at_binary64 crossing key (key_used stored s used x))) → t ≡ is_below at_binary64 stored crossing s used e x
unfolding is_below
below-is crossing s used e x key t k h = rw (← k) h

pub loop-i-init : goal.loop-i-init
loop-i-init c =
    let a = c.args in
    let q = length-take a.n a.status.now in
    let r = c.after_clear-i.ensures in (
      c.count-end.ensures,
      omega (arith, q, c.count-end.ensures),
      r.lower_bound.1,
      after-passed _ _ _ _ _ c.key_used-key.ensures _ c.bounds_of-bounds.ensures _ _ 0 _ r.lower_bound.0 (omega (arith, r.lower_bound.1, c.count-end.ensures)) r.all_passed (begun _ _ _),
    )

pub returns-then-goes_below : goal.returns-then-goes_below
returns-then-goes_below c =
    let l = c.loop-i in
    found _ _ _ l.i (omega arith) l.invariant.3 (below-is _ _ _ _ _ _ _ c.key_used-key.ensures c.goes_below.ensures) c.if-goes_below.true

pub loop-i-preserved : goal.loop-i-preserved
loop-i-preserved c =
    let l = c.loop-i in
    let key = c.key_used-key.ensures in
    let r = c.after_clear-i-in-loop-i.ensures in (
      l.invariant.0,
      l.invariant.1,
      r.lower_bound.1,
      after-passed _ _ _ _ _ key _ c.bounds_of-bounds.ensures _ _ (l.i + 1) _ r.lower_bound.0 (omega (arith, r.lower_bound.1, l.invariant.0)) r.all_passed
          (passed _ _ _ l.i (omega arith) l.invariant.3 (below-is _ _ _ _ _ _ _ key c.goes_below.ensures) c.if-goes_below.false),
    )

pub returns : goal.returns
returns c = ended _ _ _ c.loop-i.i (omega arith) c.loop-i.invariant.3
