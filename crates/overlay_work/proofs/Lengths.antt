-- The work's arrays and the program's bytes are always enough, so that 5 is never told. At most 1,024 events are taken; that makes at most 512 result
-- edges, so 512 contours, 512 holes and 1,024 corners, and a text of at most 60,942 bytes.
use Rattle.std.proofs.Common.{Err, Ok, Result, Some}
use Rattle.refusals.specs.declared.Reason.TheVariants as Reason
use Rattle.refusals.specs.Refusals.{Verdict}
use mathlib.Core.Path.{◌≡◌, refl, ap}
use mathlib.Core.Logic.{◌≢◌}
use mathlib.Core.Bool.{Bool, true, false, cond}
use mathlib.Core.List.{List}
use Prim.Native.Nat.{ℕ, min, ◌≤◌}
use native.Mathlib.Omega.{arith}
use borrow.Author.Tests.{le-ltb}
use lib.Dec.{ltb}
use lib.ListN.{length, take, length-take}
use lib.Seq.{sets, length-sets}
use Rattle.refusals.specs.declared.Refusal.{Refusal}
use Rattle.numbers.specs.declared.Point.{Point}
use Rattle.crossing.specs.Modes as Modes
use Rattle.events.specs.Binary64.{at_binary64, in_mode}
use Rattle.events.specs.Pool.{Pool, stored}
use Rattle.class.specs.declared.Operation.{Operation}
use Rattle.sheet.specs.Reading.{Reading, Accepted, read_sheet}
use Rattle.sheet.specs.Reading as R
use Rattle.loading.specs.OnPool as Loads
use Rattle.sweep.specs.Run.{subdivide}
use Rattle.sweep.specs.OnPool as Sweeps
use Rattle.sweep.specs.OnPool.{accept, after_run, as_lent, after_checks, subdivide_pool}
use Rattle.sweep_room.specs.Room.{first_places}
use Rattle.contours.specs.Connect.{Finished, refused, stopped, connected, given}
use Rattle.contours.specs.Connect as C
use Rattle.contours.specs.OnPool.{connect_pool}
use Rattle.contours.proofs.Room.{Roomy}
use Rattle.contours.proofs.AtBinary64.{enough, numbers, always-room}
use Rattle.connection.specs.Connection.{Lent, room_of, told, after, connect_edges}
use Rattle.printing.specs.Put.{most_places}
use Rattle.printing.proofs.Lengths.{printed-short, refusal-short}
use Rattle.overlay_work.specs.Overlay.{Work, Text, Stopped, After, left, put, wanted, pool_places, contour_places, none_taken, empty_outlines, connected_to, after_connection, overlay_taken, swept_to, after_sweep, loaded_to, after_loading, overlay_edges_in, overlay_edges, overlay_sheet, after_reading, work, overlay, answer}
use Rattle.overlay_work.specs.Overlay as Spec
use Rattle.overlay_work.proofs.Empty.{points-room, contours-room, holes_room, taken-room}
use Rattle.overlay_work.proofs.Outlines.{text_of, empty-roomy}
use Rattle.overlay_work.proofs.Refusals.{ReadBy, read_by, load-by, sweep-by, stopped_by}

-- in bytes
abbrev pub longest_text : ℕ
longest_text = 60942

-- a text within the bound, or a refusal other than 5
abbrev Fair : Work → Type 0
Fair (Text t) = length t ≤ longest_text
Fair (Stopped r) = r.reason ≢ Reason.Room

-- ---- connection

abbrev arrays : Lent
arrays = empty_outlines pool_places contour_places

module _ (p : Pool) (list : List ℕ) (few : length list ≤ pool_places) where
  roomy : Roomy list (room_of arrays)
  roomy = empty-roomy pool_places contour_places list few (omega (arith, few))

  fair-text : (f : Finished Point Pool) → connect_pool p list (room_of arrays) ≡ connected f → Fair (after_connection (after (connected f) p arrays))
  unfolding given
  fair-text f e =
      let s : given (connect_pool p list (room_of arrays)) ≡ Some f = ap given e in
      let h = enough p list (room_of arrays) f s in
      let a = h.0 in
      let b = h.1 in
      let c = h.2 in
      rw (text_of p list arrays f e)
      (omega (arith, a, b, c, points-room pool_places, contours-room contour_places, holes_room contour_places, printed-short f.outlines (numbers p list (room_of arrays) f s) (omega (arith, a, contours-room contour_places)) (omega (arith, c, holes_room contour_places)) (omega (arith, b, points-room pool_places))))

  fair-taken : Fair (overlay_taken p list)
  unfolding overlay_taken connect_edges after_connection connected_to after told
  fair-taken = go (connect_pool p list (room_of arrays)) refl
    where
      go : (x : C.Outcome Point Pool) → connect_pool p list (room_of arrays) ≡ x → Fair (after_connection (after x p arrays))
      go (refused r) e = always-room p list (room_of arrays) roomy r e
      go (stopped r f) e = stopped_by p list (room_of arrays) r f e
      go (connected f) e = fair-text f e

-- ---- the steps before it

taken_places : (o : Operation) (p : Pool) (n : ℕ) (l : List ℕ) → length (subdivide_pool o Modes.ordered p n l).taken ≡ length l
unfolding subdivide_pool after_checks after_run as_lent
taken_places o p n l = go (accept p n l)
  where
    go : (x : Verdict) → length (after_checks x o Modes.ordered p n l).taken ≡ length l
    go (Ok _) = length-sets l 0 (subdivide at_binary64 stored (in_mode Modes.ordered) o p n).taken
    go (Err r) = refl

fair-swept : (o : Operation) (p : Pool) (n : ℕ) → Fair (after_sweep (subdivide_pool o Modes.ordered p n (none_taken pool_places)))
unfolding after_sweep swept_to
fair-swept o p n = go x.answer.outcome refl
  where
    x : Sweeps.After
    x = subdivide_pool o Modes.ordered p n (none_taken pool_places)

    go : (y : Verdict) → x.answer.outcome ≡ y → Fair (swept_to y (first_places x.answer.used x.pool) (take x.answer.taken x.taken))
    go (Ok _) e = fair-taken _ _ (omega (arith, length-take x.answer.taken x.taken, taken_places o p n (none_taken pool_places), taken-room pool_places))
    go (Err r) e = sweep-by o p n (none_taken pool_places) r e

fair-loaded : (o : Operation) (ends : List (List ℕ)) (labels : List (List ℕ)) (p : Pool) → Fair (after_loading o (none_taken pool_places) (Loads.load ends labels p))
unfolding after_loading loaded_to
fair-loaded o ends labels p = go (Loads.load ends labels p).answer refl
  where
    go : (y : Result ℕ Refusal) → (Loads.load ends labels p).answer ≡ y → Fair (loaded_to o (none_taken pool_places) y (Loads.load ends labels p).pool)
    go (Ok n) e = fair-swept o _ n
    go (Err r) e = load-by ends labels p r e

fair : (bytes : List ℕ) → Fair (work bytes)
unfolding work after_reading overlay_sheet overlay_edges overlay_edges_in
fair bytes = go (read_sheet bytes) (read_by bytes)
  where
    go : (r : Reading) → ReadBy r → Fair (after_reading r)
    go (Accepted s) h = fair-loaded s.operation _ _ _
    go (R.Refused reason line) h = h

-- no text of a sheet has more bytes
pub text-short : (bytes t : List ℕ) → work bytes ≡ Text t → length t ≤ longest_text
text-short bytes t e = rw e at (fair bytes)

-- ---- the whole

fits : (w : Work) (out : List ℕ) → Fair w → longest_text ≤ length out → (r : Refusal) → (put w out).answer ≡ Err r → r.reason ≢ Reason.Room
unfolding put wanted
fits (Text t) out h k r e =
    let short : ltb (length out) (min (length t) most_places) ≡ false = le-ltb (length out) (min (length t) most_places) (omega arith) in
    let there : Ok (min (length t) most_places) ≡ Err r = rw short at e in
    let z : ◌≡◌ {A = ℕ} 0 1 = cc in absurd (omega arith)
fits (Stopped q) out h k r e = let z : q ≡ r = cc in rw z at h

-- With 60,942 bytes lent, no sheet is refused by 5.
pub never-5 : (bytes out : List ℕ) → longest_text ≤ length out → (r : Refusal) → (overlay bytes out).answer ≡ Err r → r.reason ≢ Reason.Room
unfolding overlay
never-5 bytes out k r e = fits (work bytes) out (fair bytes) k r e

told-short : (w : Work) (out : List ℕ) → Fair w → (Spec.told (put w out).answer (put w out).out).bytes ≤ longest_text
unfolding put wanted Spec.told
told-short (Text t) out h = go (ltb (length out) (min (length t) most_places))
  where
    n : ℕ
    n = min (length t) most_places

    go : (b : Bool) → let x = cond b (left (Err (record { reason = Reason.Room; place = n })) out) (left (Ok n) (sets out 0 t)) in (Spec.told x.answer x.out).bytes ≤ longest_text
    go true = omega (arith, refusal-short (record { reason = Reason.Room; place = n }))
    go false = omega arith
told-short (Stopped r) out h = omega (arith, refusal-short r)

-- .. and what the program prints, map or refusal, has no more bytes
pub answer-short : (bytes out : List ℕ) → (answer bytes out).bytes ≤ longest_text
unfolding answer overlay
answer-short bytes out = told-short (work bytes) out (fair bytes)
