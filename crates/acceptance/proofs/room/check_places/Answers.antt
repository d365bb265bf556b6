-- The first array that is short decides.
use borrow.Author.Tests.{lt-ltb, le-ltb}
use Rattle.checks.specs.Checks.{and_then}
use Rattle.contours.specs.Accept.{room_for, roomy}
use Rattle.acceptance.specs.OnPool.{room, room_refused}
use Rattle.acceptance.proofs.room.check_places.Goals as goal

pub returns-then-corners-events : goal.returns-then-corners-events
unfolding roomy room_for room and_then room_refused
returns-then-corners-events c = rw (lt-ltb _ _ c.if-corners-events.true, c.room_refused.ensures)

pub returns-then-contours-edges : goal.returns-then-contours-edges
unfolding roomy room_for room and_then room_refused
returns-then-contours-edges c = rw (le-ltb _ _ c.if-corners-events.false, lt-ltb _ _ c.if-contours-edges.true, c.room_refused-then-contours-edges.ensures)

pub returns-then-holes-edges : goal.returns-then-holes-edges
unfolding roomy room_for room and_then room_refused
returns-then-holes-edges c =
    rw
    (le-ltb _ _ c.if-corners-events.false, le-ltb _ _ c.if-contours-edges.false, lt-ltb _ _ c.if-holes-edges.true, c.room_refused-then-holes-edges.ensures)

pub returns : goal.returns
unfolding roomy room_for room and_then
returns c = rw (le-ltb _ _ c.if-corners-events.false, le-ltb _ _ c.if-contours-edges.false, le-ltb _ _ c.if-holes-edges.false)
