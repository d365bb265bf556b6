-- Why a list is refused, exactly: the first row of 01's table that strikes, at the lowest record that it strikes.
use Rattle.refusals.specs.declared.Reason.{Reason}
use Rattle.std.proofs.Common.{Err, Ok, Option, None as Nowhere, Some}
use Rattle.refusals.specs.declared.Reason.TheVariants as Reason
use Rattle.refusals.specs.Refusals.{Verdict, passed}
use mathlib.Core.Path.{◌≡◌, refl, sym, ap, ◌∙◌, subst}
use mathlib.Core.Logic.{◌⊎◌, inl, inr, ⊎_elim}
use mathlib.Core.Bool.{Bool, true, false, cond, true≢false}
use mathlib.Core.List.Memᴰ
use mathlib.Core.List.{List, [], ◌∷◌, Memᴰ}
use Prim.Native.Nat.{ℕ, ◌≤◌, ◌<◌, min}
use native.Mathlib.Omega.{arith}
use native.Mathlib.Decide.{dec_lt}
use borrow.Author.Tests.{ltb-true}
use lib.ListN.{length}
use lib.Dec.{ltb}
use Rattle.refusals.specs.declared.Refusal.{Refusal}
use Rattle.events.specs.Coordinates.{Coordinates}
use Rattle.events.specs.Event.{Event}
use Rattle.checks.specs.Checks.{max_events, missized, size_refusal, unfit_at, named, and_then, sized}
use Rattle.checks.proofs.Told.{not-both, either-refused}
use Rattle.checks.proofs.Passed.{sized-refused}
use Rattle.contours.specs.Result.{results, result_edges}
use Rattle.contours.specs.Accept.{at_most, lowest, refused_at, told_lowest, list_sized, misplaced, half_listed, Room, room_for, roomy, accept}
use Rattle.contours.proofs.Accepted.{none-struck, told_none, room-passed, list-short}

-- ---- the lowest record that a test strikes

pub record Lowest (test : ℕ → Bool) (l : List ℕ) (r : ℕ) : Type 0 where
  pub listed : Memᴰ r l
  pub struck : test r ≡ true
  pub least : (q : ℕ) → Memᴰ q l → test q ≡ true → r ≤ q

lowest-is : (test : ℕ → Bool) (l : List ℕ) (r : ℕ) → lowest test l ≡ Some r → Lowest test l r
unfolding lowest at_most
lowest-is test [] r e = let z : ◌≡◌ {A = Bool} true false = cc in absurd (true≢false z)
lowest-is test (x ∷ l) r e = go (test x) refl (lowest test l) refl e (lowest-is test l)
  where
    more : (q : ℕ) → test x ≡ false → Lowest test l q → Lowest test (x ∷ l) q
    more q t w = record { listed = Memᴰ.tail w.listed; struck = w.struck; least = λ y m s. ⊎_elim (λ h. absurd (true≢false (sym s ∙ ap test h ∙ t))) (λ k. w.least y k s) (Memᴰ.cases_cons m) }

    alone : test x ≡ true → lowest test l ≡ Nowhere → Lowest test (x ∷ l) x
    alone t o =
        record {
          listed = Memᴰ.head refl;
          struck = t;
          least = λ y m s. ⊎_elim (λ h. omega arith) (λ k. absurd (true≢false (sym s ∙ none-struck test l o y k))) (Memᴰ.cases_cons m);
        }

    both : (q : ℕ) → test x ≡ true → Lowest test l q → Dec (x < q) → Lowest test (x ∷ l) (min x q)
    both q t w (yes h) =
        let z : min x q ≡ x = omega arith in
        rw z (record { listed = Memᴰ.head refl; struck = t; least = λ y m s. ⊎_elim (λ h. omega arith) (λ k. omega (arith, w.least y k s)) (Memᴰ.cases_cons m) })
    both q t w (no h) =
        let z : min x q ≡ q = omega arith in
        rw z (record { listed = Memᴰ.tail w.listed; struck = w.struck; least = λ y m s. ⊎_elim (λ h. omega arith) (λ k. w.least y k s) (Memᴰ.cases_cons m) })

    go : (t : Bool) → test x ≡ t → (o : Option ℕ) → lowest test l ≡ o → cond t (Some (at_most x o)) o ≡ Some r → ((q : ℕ) → lowest test l ≡ Some q → Lowest test l q) → Lowest test (x ∷ l) r
    go true t Nowhere o e w = let z : x ≡ r = cc in subst (λ (y : ℕ). Lowest test (x ∷ l) y) z (alone t o)
    go true t (Some q) o e w = let z : min x q ≡ r = cc in rw z at (both q t (w q o) (dec_lt x q))
    go false t o p e w = more r t (w r (p ∙ e))

-- a check that refuses does so by its number at the lowest
pub record ToldAt (reason : Reason) (test : ℕ → Bool) (l : List ℕ) (x : Refusal) : Type 0 where
  pub reason_is : x.reason ≡ reason
  pub place_is : Lowest test l x.place

told_at : (reason : Reason) (test : ℕ → Bool) (l : List ℕ) (x : Refusal) → told_lowest reason test l ≡ Err x → ToldAt reason test l x
unfolding told_lowest refused_at
told_at reason test l x e = go (lowest test l) refl e
  where
    go : (o : Option ℕ) → lowest test l ≡ o → refused_at reason o ≡ Err x → ToldAt reason test l x
    go Nowhere q e = absurd (not-both _ _ refl e)
    go (Some r) q e =
        let z : record { reason = reason; place = r } ≡ x = cc in
        record { reason_is = sym (ap (λ (y : Refusal). y.reason) z); place_is = rw (ap (λ (y : Refusal). y.place) z) at (lowest-is test l r q) }

-- ---- the rows

-- the test strikes no listed record
abbrev pub None : (ℕ → Bool) → List ℕ → Type 0
None test l = (r : ℕ) → Memᴰ r l → test r ≡ false

-- the first of three arrays that is too short, and the places wanted in it
pub data Short (room : Room) (events edges : ℕ) (x : Refusal) : Type 0 where
  short-points : room.points < events → x ≡ record { reason = Reason.Room; place = events } → Short room events edges x
  short-contours : events ≤ room.points → room.contours < edges → x ≡ record { reason = Reason.Room; place = edges } → Short room events edges x
  short-holes : events ≤ room.points → edges ≤ room.contours → room.holes < edges → x ≡ record { reason = Reason.Room; place = edges } → Short room events edges x

module _ {P : Type 0} (C : Coordinates P) (row : ℕ → Event P) (n points marks : ℕ) (list : List ℕ) (room : Room) where
  pub data Cause (x : Refusal) : Type 0 where
    list1 : max_events < length list → x ≡ record { reason = Reason.Size; place = 0 } → Cause x
    size1 : length list ≤ max_events → missized points marks ≡ true → x ≡ size_refusal → Cause x
    unfit2 : ToldAt Reason.Coordinate (unfit_at C row n) (named row n list) x → Cause x
    mistake4 : None (unfit_at C row n) (named row n list) → ToldAt Reason.Link (misplaced C row n list) list x → Cause x
    half8 : None (unfit_at C row n) (named row n list) → None (misplaced C row n list) list → ToldAt Reason.HalfEdge (half_listed C row n list) list x → Cause x
    room5 : None (unfit_at C row n) (named row n list) → None (misplaced C row n list) list → None (half_listed C row n list) list
        → Short room (length (results row list)) (length (result_edges row list)) x → Cause x

by_size : (wanted places : ℕ) (x : Refusal) → room_for wanted places ≡ Err x → (places < wanted) × (x ≡ record { reason = Reason.Room; place = wanted })
unfolding room_for
by_size wanted places x e = go (ltb places wanted) refl e
  where
    go : (b : Bool) → ltb places wanted ≡ b → cond b (Err (record { reason = Reason.Room; place = wanted })) passed ≡ Err x → (places < wanted) × (x ≡ record { reason = Reason.Room; place = wanted })
    go true q e = (ltb-true places wanted q, cc)
    go false q e = absurd (not-both _ _ refl e)

short-is : (room : Room) (events edges : ℕ) (x : Refusal) → roomy room events edges ≡ Err x → Short room events edges x
unfolding roomy
short-is room events edges x e =
    ⊎_elim
    (λ q. let h = by_size events room.points x q in short-points h.0 h.1)
    (λ q.
    ⊎_elim
    (λ r. let h = by_size edges room.contours x r in short-contours (room-passed events room.points q.0) h.0 h.1)
    (λ r. let h = by_size edges room.holes x r.1 in short-holes (room-passed events room.points q.0) (room-passed edges room.contours r.0) h.0 h.1)
    (either-refused (room_for edges room.contours) (room_for edges room.holes) x q.1))
    (either-refused (room_for events room.points) _ x e)

list-refused : (list : List ℕ) (x : Refusal) → list_sized list ≡ Err x → (max_events < length list) × (x ≡ record { reason = Reason.Size; place = 0 })
unfolding list_sized
list-refused list x e = go (ltb max_events (length list)) refl e
  where
    go : (b : Bool) → ltb max_events (length list) ≡ b → cond b (Err (record { reason = Reason.Size; place = 0 })) passed ≡ Err x → (max_events < length list) × (x ≡ record { reason = Reason.Size; place = 0 })
    go true q e = (ltb-true max_events (length list) q, cc)
    go false q e = absurd (not-both _ _ refl e)

module _ {P : Type 0} (C : Coordinates P) (row : ℕ → Event P) (n points marks : ℕ) (list : List ℕ) (room : Room) (x : Refusal) where
  -- one check after the other
  pub cause : accept C row n points marks list room ≡ Err x → Cause C row n points marks list room x
  unfolding accept
  cause e = ⊎_elim (λ q. let h = list-refused list x q in list1 h.0 h.1) (λ q. one q.0 (either-refused (sized points marks) _ x q.1)) (either-refused (list_sized list) _ x e)
    where
      five : told_lowest Reason.Coordinate (unfit_at C row n) (named row n list) ≡ Ok tt → told_lowest Reason.Link (misplaced C row n list) list ≡ Ok tt → told_lowest Reason.HalfEdge (half_listed C row n list) list ≡ Ok tt
          → roomy room (length (results row list)) (length (result_edges row list)) ≡ Err x → Cause C row n points marks list room x
      five a b c q = room5 (told_none Reason.Coordinate _ (named row n list) a) (told_none Reason.Link _ list b) (told_none Reason.HalfEdge _ list c) (short-is room _ _ x q)

      eight : told_lowest Reason.Coordinate (unfit_at C row n) (named row n list) ≡ Ok tt → told_lowest Reason.Link (misplaced C row n list) list ≡ Ok tt
          → and_then (told_lowest Reason.HalfEdge (half_listed C row n list) list) (roomy room (length (results row list)) (length (result_edges row list))) ≡ Err x → Cause C row n points marks list room x
      eight a b q = ⊎_elim (λ r. half8 (told_none Reason.Coordinate _ (named row n list) a) (told_none Reason.Link _ list b) (told_at Reason.HalfEdge _ list x r)) (λ r. five a b r.0 r.1) (either-refused (told_lowest Reason.HalfEdge (half_listed C row n list) list) _ x q)

      four : told_lowest Reason.Coordinate (unfit_at C row n) (named row n list) ≡ Ok tt
          → and_then (told_lowest Reason.Link (misplaced C row n list) list) (and_then (told_lowest Reason.HalfEdge (half_listed C row n list) list) (roomy room (length (results row list)) (length (result_edges row list)))) ≡ Err x → Cause C row n points marks list room x
      four a q = ⊎_elim (λ r. mistake4 (told_none Reason.Coordinate _ (named row n list) a) (told_at Reason.Link _ list x r)) (λ r. eight a r.0 r.1) (either-refused (told_lowest Reason.Link (misplaced C row n list) list) _ x q)

      rest : Verdict
      rest = and_then (told_lowest Reason.Link (misplaced C row n list) list) (and_then (told_lowest Reason.HalfEdge (half_listed C row n list) list) (roomy room (length (results row list)) (length (result_edges row list))))

      one : list_sized list ≡ Ok tt → (sized points marks ≡ Err x) ⊎ ((sized points marks ≡ Ok tt) × (and_then (told_lowest Reason.Coordinate (unfit_at C row n) (named row n list)) rest ≡ Err x)) → Cause C row n points marks list room x
      one a (inl q) = let h = sized-refused points marks x q in size1 (list-short list a) h.0 h.1
      one a (inr q) = ⊎_elim (λ r. unfit2 (told_at Reason.Coordinate _ (named row n list) x r)) (λ r. four r.0 r.1) (either-refused (told_lowest Reason.Coordinate (unfit_at C row n) (named row n list)) rest x q.1)
