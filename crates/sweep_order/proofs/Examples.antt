-- Small runs that compute, at binary64: a tie told, that the theorem needs it untold, and that its hypotheses can be met.
use Rattle.std.proofs.Common.{Err, Ok}
use Rattle.refusals.specs.declared.Reason.TheVariants as Reason
use mathlib.Core.Path.{◌≡◌, refl}
use mathlib.Core.Bool.{Bool, true, false}
use mathlib.Core.List.{[], ◌∷◌, Permᴰ}
use Prim.Native.Nat.{ℕ}
use native.Mathlib.Omega.{arith}
use lib.ListN.{replicate}
use lib.Ieee as I
use Rattle.numbers.specs.declared.Point.{Point}
use Rattle.events.specs.Binary64.{at_binary64, in_mode}
use Rattle.events.specs.Pool.{Pool, pool, stored, row_at}
use Rattle.events.proofs.Stored.{pool-stored}
use Rattle.class.specs.declared.Operation.TheVariants.{Union}
use Rattle.checks.specs.Checks.{and_then}
use Rattle.division.specs.Worked.{zero, one, two, at}
use Rattle.division.proofs.AtBinary64.{move-laws}
use Rattle.loading.specs.Loading.{Edge, loaded, checked_edge, checked_edges}
use Rattle.sweep.specs.State.{State}
use Rattle.sweep.specs.Run.{subdivide}
use Rattle.sweep_order.specs.Loadings.{OrderFree}
use Rattle.sweep_order.proofs.Order.{order-free}
use Rattle.numbers.specs.Binary64 as N
use Rattle.numbers.specs.Exact as X
use Rattle.numbers.specs.Points as Pt
use Rattle.numbers.specs.Words as W
use Rattle.orientation.specs.Orientation as O
use Rattle.crossing.specs.Boxes as Bx
use Rattle.crossing.specs.Modes as Mo
use Rattle.crossing.specs.Modes.{ordered}
use Rattle.crossing.specs.Lines as Li
use Rattle.crossing.specs.Crossing as Cr
use Rattle.events.specs.Coordinates as Co
use Rattle.events.specs.Event as Ev
use Rattle.events.specs.Store as St
use Rattle.events.specs.Pool as P
use Rattle.events.specs.Binary64 as B
use Rattle.events.proofs.Looks.{pool-blanks}
use Rattle.order.specs.Order as Or
use Rattle.order.specs.Keys as Ke
use Rattle.segments.specs.Segments as Se
use Rattle.class.specs.Class as Cl
use Rattle.division.specs.Division as Di
use Rattle.neighbours.specs.Step as Sp
use Rattle.neighbours.specs.Neighbours as Ne
use Rattle.loading.specs.Loading as Lo
use Rattle.waiting.specs.Waiting as Wa
use Rattle.lists.specs.Lists as Ls
use Rattle.status.specs.Status as Ss
use Rattle.sweep.specs.State as Sw
use Rattle.sweep.specs.Bounds as Bo
use Rattle.sweep_events.specs.Event as Ef
use Rattle.sweep.specs.Event as Tu
use Rattle.sweep.specs.Run as Ru

abbrev edge : Bool → Point → Point → Edge Point
edge subject p q = record { subject = subject; ring = 0; from = p; to = q }

-- eight places
abbrev lent : Pool
lent = pool (replicate 8 (zero ∷ zero ∷ [])) (replicate 8 (replicate 12 0))

-- The union of two edges, swept; all that an example computes with is named here, once.
swept : Edge Point → Edge Point → State Pool
unfolding N.unfit N.unsigned N.not_finite W.value W.unfit_word W.value_of W.words_of Pt.is_ahead Pt.unsigned_point Mo.ends_in_order Mo.comes_first Mo.in_order Mo.unsigned_segment Mo.ordered_pair Mo.named_in X.size X.negative O.sign_of O.signed_area Bx.box_from Bx.shared_box Bx.clamp Bx.constrained_to Bx.or_lost Li.minus Li.crossing_at Li.shared_from Li.along Li.intersection_impl Cr.in_box Cr.intersection_of Cr.intersection_of_pair Cr.intersection_in Co.same Co.ahead Ev.has_transition Ev.key St.look P.size P.flag_number P.link_of P.there_number P.link_number P.edge_type_of P.edge_type_number P.transition_of P.transition_number P.event_of P.point_of P.marks_of P.same_link P.over P.there_over P.link_over P.marks_over P.blank P.row_at P.enter P.store P.stored B.at_binary64 B.cross_of B.in_mode Or.by_number Or.by_end Or.by_turn Or.by_layer Or.before Or.is_zero Ke.key_of Ke.key_used Se.less_if Se.less_if_inversed Se.is_positive Se.alongside Se.by_crossing Se.apart Se.old_below Se.compare_segments Cl.written Cl.in_out_above Cl.other_in_out_above Cl.below_above Cl.set_from_lower Cl.normal_in_result Cl.same_in_result Cl.different_in_result Cl.in_result_as Cl.holds_above Cl.direction Cl.transition_in Cl.fields Di.moves Di.moved Di.misses Di.new_end Di.linked Di.keeps Di.full Di.parted Di.refused Di.done Di.divide_at Di.divide Sp.stop_of Sp.go_on Sp.and_then Sp.cut Sp.cut_unless Sp.twice Ne.met_by Ne.ended Ne.typed Ne.type_by Ne.at_end Ne.crossed Ne.coincided Ne.left_shared Ne.laid Ne.overlapped Ne.meet_by Ne.meet Lo.end Lo.first_end Lo.second_end Lo.loaded_edge Lo.loaded Wa.choose Wa.first Wa.rivals Wa.rivalled Wa.flagged Ls.slot Ls.insert_at Ls.remove_at Ss.member Ss.below Sw.start Sw.halt Sw.ranked Sw.takes Sw.go_on Sw.and_then Sw.stop_by Sw.meets Bo.is_past Bo.past Ef.is_two Ef.afterwards Ef.is_less Ef.neighbour_in Ef.lower_in Ef.classified Ef.reclassed Ef.with_upper Ef.with_lower Ef.between Ef.close_up Ef.is_below Tu.leave_at Tu.leave Tu.enter Tu.turn Ru.is_before Ru.next Ru.is_tied Ru.step_by Ru.step Ru.run Ru.subdivide I.lt I.le I.eq I.ne I.neg I.add I.sub I.mul I.div I.sum I.round I.units I.odd I.size I.climb I.span I.of_bits I.to_bits I.fits
swept a b = subdivide at_binary64 stored (in_mode ordered) Union (loaded at_binary64 stored lent 0 (a ∷ b ∷ [])) 4

-- ---- two equal edges of one layer tie

equal-edges : (swept (edge true (at zero zero) (at one one)) (edge true (at zero zero) (at one one))).tied ≡ true
unfolding swept
equal-edges = refl

-- ---- A tie may change more than numbers: two edges of one layer that run up from (0,0). The one taken first lies below, and the other is classed from it.

abbrev long : Edge Point
long = edge true (at zero two) (at zero zero)

abbrev short : Edge Point
short = edge true (at zero one) (at zero zero)

long-first : (row_at (swept long short).store 1).in_out ≡ false
unfolding swept
long-first = refl

long-last : (row_at (swept short long).store 3).in_out ≡ true
unfolding swept
long-last = refl

-- ---- Where an edge does not load, the order tells which refusal comes first: of an edge that is not fit and one without length.

-- the pattern of a not-a-number
abbrev not_a_number : ℕ
not_a_number = 0x7ff8_0000_0000_0000

abbrev unfit : Edge Point
unfit = edge true (at not_a_number zero) (at one one)

abbrev dot : Edge Point
dot = edge true (at one one) (at one one)

unfit-first : checked_edges at_binary64 0 (unfit ∷ dot ∷ []) ≡ Err (record { reason = Reason.Coordinate; place = 0 })
unfolding swept checked_edges checked_edge and_then
unfit-first = refl

unfit-last : checked_edges at_binary64 0 (dot ∷ unfit ∷ []) ≡ Err (record { reason = Reason.Ends; place = 0 })
unfolding swept checked_edges checked_edge and_then
unfit-last = refl

-- ---- two edges that cross: both are divided, nothing ties, and so the order of loading does not matter

abbrev rising : Edge Point
rising = edge true (at zero zero) (at two two)

abbrev falling : Edge Point
falling = edge false (at zero two) (at two zero)

divided : (swept rising falling).used ≡ 8
unfolding swept
divided = refl

untied : (swept rising falling).tied ≡ false
unfolding swept
untied = refl

exchanged : Permᴰ (rising ∷ falling ∷ []) (falling ∷ rising ∷ [])
exchanged = Permᴰ.swap refl refl

passes : checked_edges at_binary64 0 (rising ∷ falling ∷ []) ≡ Ok tt
unfolding swept checked_edges checked_edge and_then
passes = refl

crossed : OrderFree at_binary64 stored (in_mode ordered) Union (rising ∷ falling ∷ []) (falling ∷ rising ∷ []) lent lent
unfolding swept
crossed = order-free move-laws pool-stored pool-blanks (in_mode ordered) Union exchanged lent lent refl (omega arith) passes untied
