-- The invariant: the slot stands at i or after it. The key of e, read once, is the definition's; the members that are passed are not the slot.
use mathlib.Core.Path.{◌≡◌}
use Prim.Native.Nat.{◌-◌, ◌≤◌}
use lib.ListN.{length, take}
use Rattle.events.specs.Binary64.{at_binary64, in_mode}
use Rattle.events.specs.Pool.{pool, stored}
use Rattle.sweep_events.specs.Event.{is_below}
use Rattle.lists.proofs.Slots.{Standing}
use Rattle.sweep_events.proofs.slots.slot_below.Given as goal

abbrev pub invariant-loop-i : goal.invariant-loop-i
invariant-loop-i l = (l.end ≡ length (take l.n l.status)) × (l.end ≤ length l.status) × (l.i ≤ l.end) × Standing (is_below at_binary64 stored (in_mode l.mode) (pool l.points l.marks) l.used l.e) l.status l.n l.i

abbrev pub decreases-loop-i : goal.decreases-loop-i
decreases-loop-i l = l.end - l.i
