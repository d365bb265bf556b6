-- P10 and P11 are computed.
use mathlib.Core.Path.{refl}
use lib.Ieee as I
use Rattle.numbers.specs.Binary64.{not_finite, unfit}
use Rattle.numbers.specs.Next.{next_pattern, next_up}
use Rattle.numbers.specs.Words.{value, unfit_word}
use Rattle.events.specs.Coordinates.{same}
use Rattle.events.specs.Event.{key}
use Rattle.events.specs.Binary64.{at_binary64}
use Rattle.events.specs.Store.{look}
use Rattle.events.specs.Pool as P
use Rattle.order.specs.Order.{by_number, before}
use Rattle.division.specs.Division.{moves, moved, misses, new_end, linked, keeps, full, parted, done, divide_at, divide}
use Rattle.division.specs.Worked.{P10, P11}

both : P10 × P11
unfolding divide divide_at done full parted keeps new_end linked misses moved moves same key look at_binary64 value unfit_word not_finite unfit next_pattern next_up by_number before P.stored P.size P.row_at P.enter P.store P.event_of P.point_of P.marks_of P.over P.same_link P.there_over P.link_over P.marks_over P.flag_number P.link_of P.there_number P.link_number P.edge_type_of P.edge_type_number P.transition_of P.transition_number I.lt I.le I.eq I.neg I.fits I.of_bits I.to_bits
both = (record { answer_is = refl; right_at = refl; left_at = refl; flags_are = refl }, record { answer_is = refl; right_at = refl; left_at = refl; flags_are = refl })

pub p10 : P10
p10 = both.0

pub p11 : P11
p11 = both.1
