-- Where there is room, each step hands the next what it asks for.
use native.Mathlib.Omega.{arith}
use Rattle.events.specs.Pool.{pool}
use Rattle.rows.specs.Rows.{lent}
use Rattle.tabulation.proofs.Tabled.{most, ready, all_laid}
use Rattle.tabulation.proofs.tabulate.Goals as goal

pub overflow_cast-n : goal.overflow_cast-n
overflow_cast-n c =
    let a = c.args in
    omega
    (arith, most (pool a.points.now a.marks.now) a.list.now a.order.now a.places.now (lent a.rows.now a.at.now) _ c.has_room.ensures c.if-has_room.true _ _ c.order_events-n.ensures)

pub fill-requires : goal.fill-requires
fill-requires c =
    let a = c.args in
    ready (pool a.points.now a.marks.now) a.list.now a.order.now a.places.now (lent a.rows.now a.at.now) _ c.has_room.ensures c.if-has_room.true _ _ c.order_events-n.ensures _ c.place_all.ensures

pub returns-then-has_room : goal.returns-then-has_room
returns-then-has_room c =
    let a = c.args in
    all_laid (pool a.points.now a.marks.now) a.list.now a.order.now a.places.now (lent a.rows.now a.at.now) _ c.has_room.ensures c.if-has_room.true _ _ c.order_events-n.ensures _ c.place_all.ensures _ c.fill.ensures
