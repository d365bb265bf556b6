-- A number of digits, its value, and the limit.
use Rattle.sheet.proofs.Lines.{ring-none, ring_long, ring-above, ring-read}
use Rattle.sheet.proofs.numerals.read_ring.Goals as goal

pub returns-then-n-eq0 : goal.returns-then-n-eq0
returns-then-n-eq0 c = ring-none c.args.s.now c.args.at _ c.numeral-n.ensures c.if-n-eq0.true

pub returns-in_err-v : goal.returns-in_err-v
returns-in_err-v c = rw c.from_residual.ensures (ring_long c.args.s.now c.args.at _ c.numeral-n.ensures c.if-n-eq0.false _ c.read_decimal.ensures c.in_err-v.was)

pub returns-then-v-gt-MAX_RING : goal.returns-then-v-gt-MAX_RING
returns-then-v-gt-MAX_RING c = ring-above c.args.s.now c.args.at _ c.numeral-n.ensures c.if-n-eq0.false _ c.read_decimal.ensures _ c.in_ok-v.was c.if-v-gt-MAX_RING.true

pub returns : goal.returns
returns c = ring-read c.args.s.now c.args.at _ c.numeral-n.ensures c.if-n-eq0.false _ c.read_decimal.ensures _ _ c.in_ok-v.was c.if-v-gt-MAX_RING.false c.after.ensures
