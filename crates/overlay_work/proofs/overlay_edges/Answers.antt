-- Where the small pool is not full, the work is that of the large one.
use native.Mathlib.Omega.{arith}
use Rattle.overlay_work.proofs.Room.{in-large, again, in_small}
use Rattle.overlay_work.proofs.overlay_edges.Goals as goal

pub returns-then-ends-gt-FEW_EDGES : goal.returns-then-ends-gt-FEW_EDGES
returns-then-ends-gt-FEW_EDGES c = in-large _ _ _ _ _ c.overlay_in.ensures

pub returns-then-is_full : goal.returns-then-is_full
returns-then-is_full c = again _ _ _ _ _ _ c.overlay_in-overlaid.ensures _ c.is_full.ensures c.if-is_full.true _ c.overlay_in-then-is_full.ensures

pub returns : goal.returns
returns c = in_small _ _ _ _ _ _ c.overlay_in-overlaid.ensures _ c.is_full.ensures c.if-is_full.false (omega (arith, c.if-ends-gt-FEW_EDGES.false))
