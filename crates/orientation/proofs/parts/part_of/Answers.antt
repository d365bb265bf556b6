-- The fields of the bits, by the three kinds of number: not finite, of the lowest exponent, of a higher one.
use native.Mathlib.Omega.{arith}
use Rattle.orientation.proofs.Fields.{no_nan, not_finite_lem, low_field, high_field}
use Rattle.orientation.proofs.parts.part_of.Goals as goal

pub returns-then-not_finite : goal.returns-then-not_finite
returns-then-not_finite c = not_finite_lem _ cc

pub float_to_bits-bits : goal.float_to_bits-bits
float_to_bits-bits c = no_nan _ cc

pub returns-then-exponent-eq0 : goal.returns-then-exponent-eq0
returns-then-exponent-eq0 c = low_field _ c.well_formed.0.1 c.if-exponent-eq0.true

pub returns : goal.returns
returns c = high_field _ c.well_formed.0.1 (cc) (omega arith)
