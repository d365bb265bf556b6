-- What connection gives and its text do not depend on how long the lent arrays are, if they have a place for each listed event and half as many for
-- contours and for holes: then 5 is not told, and the text is that of the outlines.
use Rattle.std.proofs.Common.{Err, Ok}
use Rattle.refusals.specs.declared.Reason.TheVariants as Reason
use Rattle.refusals.specs.Refusals.{Verdict}
use mathlib.Core.Path.{◌≡◌, refl, sym, ap, ◌∙◌}
use mathlib.Core.Bool.{Bool, true, false, cond}
use mathlib.Core.List.{List}
use Prim.Native.Nat.{ℕ, ◌+◌, ◌≤◌}
use native.Mathlib.Omega.{arith}
use lib.Dec.{ltb}
use lib.ListN.{length}
use Rattle.numbers.specs.declared.Point.{Point}
use Rattle.events.specs.Binary64.{at_binary64}
use Rattle.events.specs.Pool.{Pool, stored}
use Rattle.checks.specs.Checks.{and_then}
use Rattle.contours.specs.Accept.{Room, room_for, roomy, accept}
use Rattle.contours.specs.Connect.{Finished, refused, stopped, connected, given, records, after_checks, connect}
use Rattle.contours.specs.Connect as C
use Rattle.contours.specs.OnPool.{connect_pool}
use Rattle.contours.proofs.Room.{Roomy}
use Rattle.contours.proofs.AtBinary64.{enough, always-room}
use Rattle.connection.specs.Connection.{Lent, room_of, told, after, connect_edges}
use Rattle.printing.specs.Printing.{printed}
use Rattle.overlay_work.specs.Overlay.{Work, Text, After, put, pool_places, contour_places, few_places, few_contours, empty_outlines, connected_to, after_connection, overlay_taken}
use Rattle.overlay_work.proofs.Empty.{points-room, contours-room, holes_room}
use Rattle.overlay_work.proofs.Refusals.{CheckBy}
use Rattle.overlay_work.proofs.Texts.{text-is}

-- ---- the checks: the last of them alone tells 5, and nothing else

abbrev ByFive : Verdict → Type 0
ByFive (Ok _) = Unit {0}
ByFive (Err r) = r.reason ≡ Reason.Room

room_by : (wanted places : ℕ) → ByFive (room_for wanted places)
unfolding room_for
room_by wanted places = go (ltb places wanted)
  where
    go : (b : Bool) → ByFive (cond b (Err (record { reason = Reason.Room; place = wanted })) (Ok tt))
    go true = refl
    go false = tt

both-five : (a b : Verdict) → ByFive a → ByFive b → ByFive (and_then a b)
unfolding and_then
both-five (Ok _) b h k = k
both-five (Err r) b h k = h

roomy-by : (room : Room) (events edges : ℕ) → ByFive (roomy room events edges)
unfolding roomy
roomy-by room events edges =
    both-five _ _ (room_by events room.points) (both-five _ _ (room_by edges room.contours) (room_by edges room.holes))

both-pass : (a b : Verdict) → ByFive a → ByFive b → CheckBy a → CheckBy b → a ≡ b
both-pass (Ok _) (Ok _) h k n m = refl
both-pass (Ok _) (Err r) h k n m = absurd (m k)
both-pass (Err r) b h k n m = absurd (n h)

then_same : (a b b' : Verdict) → (CheckBy b → CheckBy b' → b ≡ b') → CheckBy (and_then a b) → CheckBy (and_then a b') → and_then a b ≡ and_then a b'
unfolding and_then
then_same (Ok _) b b' k n m = k n m
then_same (Err r) b b' k n m = refl

module _ (p : Pool) (list : List ℕ) where
  abbrev checked : Room → Verdict
  checked room = accept at_binary64 (records at_binary64 stored p) (stored.size p) (length p.points) (length p.marks) list room

  not_five : (room : Room) → Roomy list room → CheckBy (checked room)
  unfolding connect_pool connect after_checks
  not_five room h = go (checked room) refl
    where
      go : (x : Verdict) → checked room ≡ x → CheckBy x
      go (Ok _) e = tt
      go (Err r) e = always-room p list room h r (ap (after_checks at_binary64 stored p list) e)

  same_check : (room room' : Room) → CheckBy (checked room) → CheckBy (checked room') → checked room ≡ checked room'
  unfolding accept
  same_check room room' =
      then_same _ _ _ (then_same _ _ _ (then_same _ _ _ (then_same _ _ _ (then_same _ _ _ (both-pass _ _ (roomy-by room _ _) (roomy-by room' _ _))))))

  same-connection : (room room' : Room) → Roomy list room → Roomy list room' → connect_pool p list room ≡ connect_pool p list room'
  unfolding connect_pool connect
  same-connection room room' h h' = ap (after_checks at_binary64 stored p list) (same_check room room' (not_five room h) (not_five room' h'))

  -- ---- the text

  pub text_of : (l : Lent) (f : Finished Point Pool) → connect_pool p list (room_of l) ≡ connected f → after_connection (after (connected f) p l) ≡ Text (printed f.outlines)
  unfolding after_connection connected_to after told given
  text_of l f e =
      let h = enough p list (room_of l) f (ap given e) in
      ap Text (text-is f.outlines l h.0 h.1 h.2)

  each-outcome : (l l' : Lent) (x : C.Outcome Point Pool) → connect_pool p list (room_of l) ≡ x → connect_pool p list (room_of l') ≡ x → after_connection (after x p l) ≡ after_connection (after x p l')
  unfolding after_connection connected_to after told
  each-outcome l l' (refused r) e e' = refl
  each-outcome l l' (stopped r f) e e' = refl
  each-outcome l l' (connected f) e e' = text_of l f e ∙ sym (text_of l' f e')

  pub same-outlines : (l l' : Lent) → Roomy list (room_of l) → Roomy list (room_of l') → after_connection (connect_edges p list l) ≡ after_connection (connect_edges p list l')
  unfolding connect_edges
  same-outlines l l' h h' =
      let same = same-connection (room_of l) (room_of l') h h' in
      each-outcome l l' (connect_pool p list (room_of l)) refl (sym same) ∙ ap (λ (x : C.Outcome Point Pool). after_connection (after x p l')) same

-- ---- the empty arrays

pub empty-roomy : (n k : ℕ) (list : List ℕ) → length list ≤ n → length list ≤ k + k → Roomy list (room_of (empty_outlines n k))
empty-roomy n k list h m = record { points = omega (arith, h, points-room n); contours = omega (arith, m, contours-room k); holes = omega (arith, m, holes_room k) }

module _ (p : Pool) (list out : List ℕ) (y : After) where
  pub in-many : y ≡ put (after_connection (connect_edges p list (empty_outlines pool_places contour_places))) out → y ≡ put (overlay_taken p list) out
  unfolding overlay_taken
  in-many h = h

  pub in-few : length list ≤ few_places → y ≡ put (after_connection (connect_edges p list (empty_outlines few_places few_contours))) out → y ≡ put (overlay_taken p list) out
  in-few few h =
      let same = same-outlines p list (empty_outlines few_places few_contours) (empty_outlines pool_places contour_places) (empty-roomy few_places few_contours list few (omega (arith, few))) (empty-roomy pool_places contour_places list (omega (arith, few)) (omega (arith, few))) in
      in-many (h ∙ ap (λ (w : Work). put w out) same)
