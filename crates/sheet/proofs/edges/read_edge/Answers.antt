-- A ring, two corners and the line feed, each where the one before ends.
use mathlib.Core.Path.{sym, ◌∙◌}
use Rattle.sheet.proofs.Lines.{edge-ring, edge-from, edge_to, edge-end, edge-read}
use Rattle.sheet.proofs.edges.read_edge.Goals as goal

pub returns-in_err-ring : goal.returns-in_err-ring
returns-in_err-ring c = rw c.from_residual.ensures (edge-ring c.args.s.now c.args.at _ c.read_ring.ensures c.in_err-ring.was)

pub returns-in_err-from : goal.returns-in_err-from
returns-in_err-from c =
    rw c.from_residual-in_err-from.ensures (edge-from c.args.s.now c.args.at _ c.read_ring.ensures _ _ c.in_ok-ring.was _ c.read_corner.ensures c.in_err-from.was)

pub returns-in_err-to : goal.returns-in_err-to
returns-in_err-to c =
    rw c.from_residual-in_err-to.ensures
    (edge_to c.args.s.now c.args.at _ c.read_ring.ensures _ _ c.in_ok-ring.was _ c.read_corner.ensures _ c.in_ok-from.was _ c.after-second.ensures _
    c.read_corner-2.ensures c.in_err-to.was)

pub returns-then-has_word : goal.returns-then-has_word
returns-then-has_word c =
    edge-read c.args.s.now c.args.at _ c.read_ring.ensures _ _ c.in_ok-ring.was _ c.read_corner.ensures _ c.in_ok-from.was _ c.after-second.ensures _ c.read_corner-2.ensures
    _ c.in_ok-to.was _ c.after-end.ensures (sym c.has_word.ensures ∙ c.if-has_word.true) _ c.after.ensures

pub returns : goal.returns
returns c =
    edge-end c.args.s.now c.args.at _ c.read_ring.ensures _ _ c.in_ok-ring.was _ c.read_corner.ensures _ c.in_ok-from.was _ c.after-second.ensures _ c.read_corner-2.ensures
    _ c.in_ok-to.was _ c.after-end.ensures (sym c.has_word.ensures ∙ c.if-has_word.false)
