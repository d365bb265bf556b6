-- The sweep's outcome decides, and the events that it counted are listed, in the places in use.
use mathlib.Core.Path.{sym}
use lib.Seq.{length-take-le}
use Rattle.overlay_work.proofs.Handing.{unswept, swept-on, taken-within, points-within, marks-within}
use Rattle.overlay_work.proofs.steps.sweep_loaded.Goals as goal

pub slice_bounds-connect_taken-end : goal.slice_bounds-connect_taken-end
slice_bounds-connect_taken-end c =
    let swept = c.subdivide-swept in
    points-within _ _ _ _ _ _ _ swept.ensures c.in-Ok.is swept.auto.points

pub slice_bounds-connect_taken-end-in-Ok : goal.slice_bounds-connect_taken-end-in-Ok
slice_bounds-connect_taken-end-in-Ok c = sym (length-take-le _ _ (points-within _ _ _ _ _ _ _ c.subdivide-swept.ensures c.in-Ok.is c.subdivide-swept.auto.points))

pub slice_bounds-connect_taken-end-in-Ok-2 : goal.slice_bounds-connect_taken-end-in-Ok-2
slice_bounds-connect_taken-end-in-Ok-2 c =
    let swept = c.subdivide-swept in
    marks-within _ _ _ _ _ _ _ swept.ensures c.in-Ok.is swept.auto.marks

pub slice_bounds-connect_taken-end-in-Ok-3 : goal.slice_bounds-connect_taken-end-in-Ok-3
slice_bounds-connect_taken-end-in-Ok-3 c = sym (length-take-le _ _ (marks-within _ _ _ _ _ _ _ c.subdivide-swept.ensures c.in-Ok.is c.subdivide-swept.auto.marks))

pub slice_bounds-connect_taken-end-in-Ok-4 : goal.slice_bounds-connect_taken-end-in-Ok-4
slice_bounds-connect_taken-end-in-Ok-4 c = taken-within _ _ _ _ _ _ _ c.subdivide-swept.ensures

pub slice_bounds-connect_taken-end-in-Ok-5 : goal.slice_bounds-connect_taken-end-in-Ok-5
slice_bounds-connect_taken-end-in-Ok-5 c = sym (length-take-le _ _ (taken-within _ _ _ _ _ _ _ c.subdivide-swept.ensures))

pub returns-in-Err : goal.returns-in-Err
returns-in-Err c = unswept _ _ _ _ _ c.subdivide-swept.ensures _ c.in-Err.is

pub returns-in-Ok : goal.returns-in-Ok
returns-in-Ok c = swept-on _ _ _ _ _ c.subdivide-swept.ensures _ c.in-Ok.is c.connect_taken.ensures
