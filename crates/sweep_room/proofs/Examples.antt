-- Two edges that cross, swept at binary64: four places are too few, and the run wants more; in eight it ends, so that it is the same in every larger pool.
use mathlib.Core.Path.{◌≡◌, refl}
use mathlib.Core.Bool.{Bool, true, false}
use mathlib.Core.List.{List, [], ◌∷◌}
use Prim.Native.Nat.{ℕ}
use native.Mathlib.Omega.{arith}
use lib.ListN.{take, replicate}
use Rattle.numbers.specs.declared.Point.{Point}
use Rattle.events.specs.Binary64.{at_binary64}
use Rattle.events.specs.Pool.{Pool, pool, stored}
use Rattle.class.specs.declared.Operation.TheVariants.{Union}
use Rattle.division.specs.Worked.{zero, two, at}
use Rattle.loading.specs.Loading.{Edge, loaded}
use Rattle.sweep.specs.OnPool.{subdivide_pool}
use Rattle.sweep_room.specs.Room.{first_places, wants_room, first_of_swept}
use Rattle.sweep_room.proofs.Calls.{sweep-room}
use lib.Ieee as I
use Rattle.numbers.specs.Binary64 as N
use Rattle.numbers.specs.Exact as X
use Rattle.numbers.specs.Points as Pt
use Rattle.numbers.specs.Words as W
use Rattle.orientation.specs.Orientation as O
use Rattle.crossing.specs.Boxes as Bx
use Rattle.crossing.specs.Modes as Mo
use Rattle.crossing.specs.Modes.{ordered}
use Rattle.crossing.specs.Lines as Li
use Rattle.crossing.specs.Crossing as Cr
use Rattle.events.specs.Coordinates as Co
use Rattle.events.specs.Event as Ev
use Rattle.events.specs.Store as St
use Rattle.events.specs.Pool as P
use Rattle.events.specs.Binary64 as B
use Rattle.order.specs.Order as Or
use Rattle.order.specs.Keys as Ke
use Rattle.segments.specs.Segments as Se
use Rattle.class.specs.Class as Cl
use Rattle.division.specs.Division as Di
use Rattle.neighbours.specs.Step as Sp
use Rattle.neighbours.specs.Neighbours as Ne
use Rattle.loading.specs.Loading as Lo
use Rattle.waiting.specs.Waiting as Wa
use Rattle.lists.specs.Lists as Ls
use Rattle.status.specs.Status as Ss
use Rattle.sweep.specs.State as Sw
use Rattle.sweep.specs.Bounds as Bo
use Rattle.sweep_events.specs.Event as Ef
use Rattle.sweep.specs.Event as Tu
use Rattle.sweep.specs.Run as Ru
use Rattle.checks.specs.Checks as Ck
use Rattle.checks.specs.Numbers as Nu
use Rattle.sweep.specs.OnPool as Oo

abbrev edge : Bool → Point → Point → Edge Point
edge subject p q = record { subject = subject; ring = 0; from = p; to = q }

-- ten places, and the two edges in the first four
abbrev lent : Pool
lent = pool (replicate 10 (zero ∷ zero ∷ [])) (replicate 10 (replicate 12 0))

abbrev taken : List ℕ
taken = replicate 10 0

crossed : Pool
crossed = loaded at_binary64 stored lent 0 (edge true (at zero zero) (at two two) ∷ edge false (at zero two) (at two zero) ∷ [])

-- whether the union of the two wants more than n places; all that it computes with is named here, once
wanting : ℕ → Bool
unfolding N.unfit N.unsigned N.not_finite W.value W.unfit_word W.value_of W.words_of Pt.is_ahead Pt.unsigned_point Mo.ends_in_order Mo.comes_first Mo.in_order Mo.unsigned_segment Mo.ordered_pair Mo.named_in X.size X.negative O.sign_of O.signed_area Bx.box_from Bx.shared_box Bx.clamp Bx.constrained_to Bx.or_lost Li.minus Li.crossing_at Li.shared_from Li.along Li.intersection_impl Cr.in_box Cr.intersection_of Cr.intersection_of_pair Cr.intersection_in Co.same Co.ahead Ev.has_transition Ev.key St.look P.size P.flag_number P.link_of P.there_number P.link_number P.edge_type_of P.edge_type_number P.transition_of P.transition_number P.event_of P.point_of P.marks_of P.same_link P.over P.there_over P.link_over P.marks_over P.blank P.row_at P.enter P.store P.stored B.at_binary64 B.cross_of B.in_mode Or.by_number Or.by_end Or.by_turn Or.by_layer Or.before Or.is_zero Ke.key_of Ke.key_used Se.less_if Se.less_if_inversed Se.is_positive Se.alongside Se.by_crossing Se.apart Se.old_below Se.compare_segments Cl.written Cl.in_out_above Cl.other_in_out_above Cl.below_above Cl.set_from_lower Cl.normal_in_result Cl.same_in_result Cl.different_in_result Cl.in_result_as Cl.holds_above Cl.direction Cl.transition_in Cl.fields Di.moves Di.moved Di.misses Di.new_end Di.linked Di.keeps Di.full Di.parted Di.refused Di.done Di.divide_at Di.divide Sp.stop_of Sp.go_on Sp.and_then Sp.cut Sp.cut_unless Sp.twice Ne.met_by Ne.ended Ne.typed Ne.type_by Ne.at_end Ne.crossed Ne.coincided Ne.left_shared Ne.laid Ne.overlapped Ne.meet_by Ne.meet Lo.end Lo.first_end Lo.second_end Lo.loaded_edge Lo.loaded Wa.choose Wa.first Wa.rivals Wa.rivalled Wa.flagged Ls.slot Ls.insert_at Ls.remove_at Ss.member Ss.below Sw.start Sw.halt Sw.ranked Sw.takes Sw.go_on Sw.and_then Sw.stop_by Sw.meets Bo.is_past Bo.past Ef.is_two Ef.afterwards Ef.is_less Ef.neighbour_in Ef.lower_in Ef.classified Ef.reclassed Ef.with_upper Ef.with_lower Ef.between Ef.close_up Ef.is_below Tu.leave_at Tu.leave Tu.enter Tu.turn Ru.is_before Ru.next Ru.is_tied Ru.step_by Ru.step Ru.run Ru.subdivide I.lt I.le I.eq I.ne I.neg I.add I.sub I.mul I.div I.sum I.round I.units I.odd I.size I.climb I.span I.of_bits I.to_bits I.fits Ck.missized Ck.outside Ck.unpaired Ck.alike Ck.in_order Ck.misordered Ck.not_to_left Ck.misled Ck.mistaken Ck.unfit_at Ck.first Ck.told Ck.and_then Ck.checked Nu.numbers_from Oo.sizes Oo.accept Oo.outcome_of Oo.answer_of Oo.after_run Oo.as_lent Oo.after_checks Oo.subdivide_pool wants_room crossed
wanting n = wants_room (subdivide_pool Union ordered (first_places n crossed) 4 (take n taken)).answer.outcome

four-too-few : wanting 4 ≡ true
unfolding wanting
four-too-few = refl

eight-enough : wanting 8 ≡ false
unfolding wanting
eight-enough = refl

same-in-ten : subdivide_pool Union ordered (first_places 8 crossed) 4 (take 8 taken) ≡ first_of_swept 8 (subdivide_pool Union ordered crossed 4 taken)
unfolding wanting
same-in-ten = sweep-room Union ordered 8 crossed 4 taken (record { within = omega arith; marks = refl; takes = refl; few = omega arith }) (omega arith) eight-enough
