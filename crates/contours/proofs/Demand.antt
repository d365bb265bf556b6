-- Demand 3 for any kind of coordinate with the laws of event order and any store of records: order, closing, once.
use Rattle.refusals.specs.Refusals.{number}
use Rattle.std.proofs.Common.{Err, Ok, Option}
use Rattle.refusals.specs.declared.Reason.TheVariants as Reason
use Rattle.refusals.specs.Refusals.{Verdict}
use mathlib.Core.Path.{◌≡◌, refl, sym, ap, ap₂, ◌∙◌}
use mathlib.Core.Logic.{◌⊎◌, inl, inr, ◌≢◌}
use mathlib.Core.Bool.{Bool, true, false, cond, ◌||◌}
use mathlib.Core.List.Memᴰ
use mathlib.Core.List.{List, [], ◌∷◌, map, Memᴰ}
use Prim.Native.Nat.{ℕ, suc, ◌+◌, ◌<◌, ◌%◌}
use native.Mathlib.Nat.{suc-ne-zero}
use native.Mathlib.Omega.{arith}
use borrow.Author.Tests.{eqb-true, eqb-false, eq-eqb, ne_eqb, ltb-true, lt-ltb}
use lib.ListN.{length, get_or, replicate}
use lib.Dec.{eqb}
use Rattle.refusals.specs.declared.Refusal.{Refusal}
use Rattle.events.specs.Coordinates.{Coordinates, same}
use Rattle.events.specs.Event.{Event}
use Rattle.events.specs.Store.{Store}
use Rattle.events.specs.Renaming.{rename}
use Rattle.events.proofs.Stored.{Stored}
use Rattle.order.proofs.Laws.{OrderLaws}
use Rattle.contours.specs.Result.{keep, results, ordered}
use Rattle.contours.specs.Table.{Row, place, table, row_at}
use Rattle.contours.specs.Contours.{Contour, Answer, done, halted, trace}
use Rattle.contours.specs.Outline.{Outline, closes, outline, outlines_from, outlines, open_count}
use Rattle.contours.specs.Accept.{Room, accept}
use Rattle.contours.specs.Connect.{number_in, with_contour, settled, Finished, Outcome, refused, stopped, connected, rows, rows_at, finished, outcome_of, traced, after_checks, connect}
use Rattle.contours.specs.Renaming.{Renumbered, Relisted, NoneOneWay, EvenEnds, is_edge_of, times_walked, SameFinished, Alike, refused_alike, stopped_alike, connected_alike}
use Rattle.contours.proofs.Lists.{All, get_d_map, mem-perm}
use Rattle.contours.proofs.Places.{place_map, place_of, place-get_d}
use Rattle.contours.proofs.Marks.{bit, open_from}
use Rattle.contours.proofs.Turns.{Ends, by-nine, halted-in}
use Rattle.contours.proofs.Walked.{Good, visits, walks, AllClosed, each-once, trails-in, all_closed}
use Rattle.contours.proofs.Accepted.{Accepted, accepted}
use Rattle.contours.proofs.Cause.{Cause, list1, size1, unfit2, mistake4, half8, room5, Short, short-points, short-contours, short-holes, cause}
use Rattle.contours.proofs.Good.{size, sorted, good, by_value, ends_open, s-distinct, rec-in, rec-other, point-is}
use Rattle.contours.proofs.Renamed.{order-kept, table_kept}
use Rattle.contours.proofs.Refusals.{SameNumber, both-pass, both-refuse, accept-same}
use Rattle.contours.proofs.Settled.{settled-row}

-- ---- order

rename-contour : {P : Type 0} (ρ : ℕ → ℕ) (l m : Option ℕ) (e : Event P) → with_contour l (with_contour m (rename ρ e)) ≡ rename ρ (with_contour l e)
unfolding with_contour rename
rename-contour ρ l m e = refl

module _ {P S : Type 0} (C : Coordinates P) (K : Store P S) (stored : Stored K) (L : OrderLaws C)
    (ρ : ℕ → ℕ) (s s' : S) (rn : Renumbered ρ (K.size s) (K.row_at s) (K.row_at s')) (one_size : K.size s' ≡ K.size s)
    (list list' : List ℕ) (p : Relisted ρ list list') where
  abbrev n : ℕ
  n = K.size s

  abbrev row : ℕ → Event P
  row = K.row_at s

  abbrev row' : ℕ → Event P
  row' = K.row_at s'

  accept-kept : (points marks : ℕ) (room : Room) → SameNumber (accept C row n points marks list room) (accept C row' (K.size s') points marks list' room)
  accept-kept points marks room = rw one_size (accept-same C ρ n row row' rn list list' p points marks room)

  module _ (ok : Accepted C row n list) (free : NoneOneWay C row list) where
    void : P
    void = (K.blank 0).point

    ords : ordered row' C list' ≡ map ρ (ordered row C list)
    ords = order-kept C L ρ n row row' rn list list' p void ok free

    tables : table row' C list' ≡ table row C list
    tables = table_kept C L ρ n row row' rn list list' p void ok free

    traces : traced C K s' list' ≡ traced C K s list
    unfolding traced
    traces = ap (λ (t : List (Row P)). trace (same C) (length t) (row_at (K.blank 0).point t)) tables

    numbers : (ms : List ℕ) (r : ℕ) → number_in (ordered row' C list') ms (ρ r) ≡ number_in (ordered row C list) ms r
    unfolding number_in
    numbers ms r = rw (ords, place_map ρ rn.injective (ordered row C list) r)

    same-finished : (ms : List ℕ) (cs : List Contour) → SameFinished K ρ n (finished C K s list ms cs) (finished C K s' list' ms cs)
    unfolding finished
    same-finished ms cs =
        record {
          outlines = ap (λ (t : List (Row P)). outlines (same C) (length t) (row_at (K.blank 0).point t) cs) tables;
          pool = kept;
        }
      where
        l : ℕ → Option ℕ
        l = number_in (ordered row C list) ms

        l' : ℕ → Option ℕ
        l' = number_in (ordered row' C list') ms

        kept : (r : ℕ) → r < n → K.row_at (settled K l' (K.size s') s') (ρ r) ≡ rename ρ (K.row_at (settled K l n s) r)
        kept r h =
            settled-row K stored l' s' (K.size s') (ρ r) (omega arith) (rw one_size (ltb-true (ρ r) n (rn.within r ∙ lt-ltb r n h)))
            ∙ ap₂ with_contour (numbers ms r) (rn.kept r h)
            ∙ rename-contour ρ (l r) (row' (ρ r)).contour (row r)
            ∙ ap (rename ρ) (sym (settled-row K stored l s n r (omega arith) h))

    alike_of : (t : Answer) → traced C K s list ≡ t → Alike K ρ n (outcome_of C K s list t) (outcome_of C K s' list' t)
    unfolding outcome_of traced
    alike_of (done ms cs) e = connected_alike (same-finished ms cs)
    alike_of (halted reason i ms cs) e = stopped_alike (ap (λ (q : ℕ). record { reason = reason; place = q }) told) (same-finished ms cs)
      where
        told : get_or (ordered row' C list') i 0 ≡ ρ (get_or (ordered row C list) i 0)
        told =
            ap (λ (q : List ℕ). get_or q i 0) ords
            ∙ get_d_map ρ (ordered row C list) i 0 0 (omega (arith, halted-in (same C) (length (rows C K s list)) (rows_at C K s list) reason i ms cs e, size C row void list))

  -- Another numbering and listing gives the same contours, corners, parents, depths and holes, bit for bit, and the same contour numbers.
  pub order : (points marks : ℕ) (room : Room) → NoneOneWay C row list → Alike K ρ n (connect C K s points marks list room) (connect C K s' points marks list' room)
  unfolding connect after_checks
  order points marks room free = go _ _ refl (accept-kept points marks room)
    where
      go : (a a' : Verdict) → accept C row n points marks list room ≡ a → SameNumber a a' → Alike K ρ n (after_checks C K s list a) (after_checks C K s' list' a')
      go a a' e both-pass =
          let ok : Accepted C row n list = (accepted C row n list points marks room e).0 in
          rw (traces ok free) (alike_of ok free (traced C K s list) refl)
      go a a' e (both-refuse q) = refused_alike q

  -- A list refused by 1, 2, 4, 8 or 5 is refused by the same number, whatever the directions.
  pub refusals : (points marks : ℕ) (room : Room) (x : Refusal) → connect C K s points marks list room ≡ refused x
      → (y : Refusal) × (connect C K s' points marks list' room ≡ refused y) × (y.reason ≡ x.reason)
  unfolding connect after_checks outcome_of
  refusals points marks room x e = go _ _ (accept-kept points marks room) e
    where
      never : (t : Answer) → outcome_of C K s list t ≡ refused x → ⊥
      never (done ms cs) q = let z : ◌≡◌ {A = ℕ} 1 0 = cc in suc-ne-zero 0 z
      never (halted k i ms cs) q = let z : ◌≡◌ {A = ℕ} 1 0 = cc in suc-ne-zero 0 z

      go : (a a' : Verdict) → SameNumber a a' → after_checks C K s list a ≡ refused x → (y : Refusal) × (after_checks C K s' list' a' ≡ refused y) × (y.reason ≡ x.reason)
      go a a' both-pass q = absurd (never (traced C K s list) q)
      go a a' (both-refuse {x = u} {y = y} m) q = let z : u ≡ x = cc in (y, refl, m ∙ ap (λ (r : Refusal). r.reason) z)

-- what two outcomes that are alike have in common
module _ {P S : Type 0} (K : Store P S) (ρ : ℕ → ℕ) (n : ℕ) where
  never : {A : Type 0} → ◌≡◌ {A = ℕ} 1 0 → A
  never z = absurd (suc-ne-zero 0 z)

  pub alike-connected : {a b : Outcome P S} → Alike K ρ n a b → (f : Finished P S) → a ≡ connected f → (g : Finished P S) × (b ≡ connected g) × SameFinished K ρ n f g
  alike-connected (refused_alike q) f e = let z : ◌≡◌ {A = ℕ} 1 0 = cc in never z
  alike-connected (stopped_alike q h) f e = let z : ◌≡◌ {A = ℕ} 1 0 = cc in never z
  alike-connected (connected_alike {f = f₀} {g = g} h) f e = let q : f₀ ≡ f = cc in (g, refl, rw q at h)

  pub alike-stopped : {a b : Outcome P S} → Alike K ρ n a b → (x : Refusal) (f : Finished P S) → a ≡ stopped x f
      → (g : Finished P S) × (b ≡ stopped (record { reason = x.reason; place = ρ x.place }) g) × SameFinished K ρ n f g
  alike-stopped (refused_alike q) x f e = let z : ◌≡◌ {A = ℕ} 1 0 = cc in never z
  alike-stopped (stopped_alike {x = x₀} {y = y} {f = f₀} {g = g} q h) x f e =
      let u : f₀ ≡ f = cc in
      let v : x₀ ≡ x = cc in
      (g, ap (λ (z : Refusal). stopped z g) (q ∙ ap (λ (z : Refusal). record { reason = z.reason; place = ρ z.place }) v), rw u at h)
  alike-stopped (connected_alike h) x f e = let z : ◌≡◌ {A = ℕ} 1 0 = cc in never z

-- ---- refused, exactly

pub refused-cause : {P S : Type 0} (C : Coordinates P) (K : Store P S) (s : S) (points marks : ℕ) (list : List ℕ) (room : Room) (x : Refusal)
    → connect C K s points marks list room ≡ refused x → Cause C (K.row_at s) (K.size s) points marks list room x
unfolding connect after_checks outcome_of
refused-cause C K s points marks list room x e = go (accept C (K.row_at s) (K.size s) points marks list room) refl e
  where
    by : (t : Answer) → outcome_of C K s list t ≡ refused x → ⊥
    by (done ms cs) q = let z : ◌≡◌ {A = ℕ} 1 0 = cc in suc-ne-zero 0 z
    by (halted k i ms cs) q = let z : ◌≡◌ {A = ℕ} 1 0 = cc in suc-ne-zero 0 z

    go : (a : Verdict) → accept C (K.row_at s) (K.size s) points marks list room ≡ a → after_checks C K s list a ≡ refused x → Cause C (K.row_at s) (K.size s) points marks list room x
    go (Ok _) q e = absurd (by (traced C K s list) e)
    go (Err y) q e = let z : y ≡ x = cc in cause C (K.row_at s) (K.size s) points marks list room x (q ∙ ap Err z)

module _ {P : Type 0} (C : Coordinates P) (row : ℕ → Event P) (n points marks : ℕ) (list : List ℕ) (room : Room) (x : Refusal) where
  short-not-9 : (events edges : ℕ) → Short room events edges x → x.reason ≢ Reason.Loose
  short-not-9 events edges (short-points a e) q = omega (arith, ap (λ (y : Refusal). number y.reason) e, ap number q)
  short-not-9 events edges (short-contours a b e) q = omega (arith, ap (λ (y : Refusal). number y.reason) e, ap number q)
  short-not-9 events edges (short-holes a b c e) q = omega (arith, ap (λ (y : Refusal). number y.reason) e, ap number q)

  -- no check refuses by 9
  pub cause-not-9 : Cause C row n points marks list room x → x.reason ≢ Reason.Loose
  cause-not-9 (list1 l e) q = omega (arith, ap (λ (y : Refusal). number y.reason) e, ap number q)
  cause-not-9 (size1 l m e) q = omega (arith, ap (λ (y : Refusal). number y.reason) e, ap number q)
  cause-not-9 (unfit2 t) q = omega (arith, ap number t.reason_is, ap number q)
  cause-not-9 (mistake4 u t) q = omega (arith, ap number t.reason_is, ap number q)
  cause-not-9 (half8 u m t) q = omega (arith, ap number t.reason_is, ap number q)
  cause-not-9 (room5 u m t s) q = short-not-9 _ _ s q

-- .. and nothing else stops a list that has passed them
pub stopped-nine : {P S : Type 0} (C : Coordinates P) (K : Store P S) (s : S) (points marks : ℕ) (list : List ℕ) (room : Room) (x : Refusal) (f : Finished P S)
    → connect C K s points marks list room ≡ stopped x f → x.reason ≡ Reason.Loose
unfolding connect after_checks outcome_of traced
stopped-nine C K s points marks list room x f = go (accept C (K.row_at s) (K.size s) points marks list room)
  where
    by : (t : Answer) → Ends (length (rows C K s list)) (λ i ms cs. Unit {0}) t → outcome_of C K s list t ≡ stopped x f → x.reason ≡ Reason.Loose
    by (done ms cs) h e = let z : ◌≡◌ {A = ℕ} 1 0 = cc in absurd (suc-ne-zero 0 z)
    by (halted reason i ms cs) h e =
        let z : record { reason = reason; place = get_or (ordered (K.row_at s) C list) i 0 } ≡ x = cc in
        sym (ap (λ (y : Refusal). y.reason) z) ∙ h.0

    go : (a : Verdict) → after_checks C K s list a ≡ stopped x f → x.reason ≡ Reason.Loose
    go (Ok _) e = by (traced C K s list) (by-nine (same C) (length (rows C K s list)) (rows_at C K s list)) e
    go (Err y) e = let z : ◌≡◌ {A = ℕ} 1 0 = cc in absurd (suc-ne-zero 0 z)

-- ---- closing and once

-- what a connected list is: accepted, and its table traced to the end
pub record Traced {P S : Type 0} (C : Coordinates P) (K : Store P S) (s : S) (list : List ℕ) (f : Finished P S) : Type 0 where
  pub ok : Accepted C (K.row_at s) (K.size s) list
  pub marks : List ℕ
  pub contours : List Contour
  pub trace : traced C K s list ≡ done marks contours
  pub shown : f.outlines ≡ outlines (same C) (length (rows C K s list)) (rows_at C K s list) contours

module _ {P S : Type 0} (C : Coordinates P) (K : Store P S) (s : S) (points marks : ℕ) (list : List ℕ) (room : Room) (f : Finished P S) where
  pub connected-is : connect C K s points marks list room ≡ connected f → Traced C K s list f
  unfolding connect after_checks outcome_of finished
  connected-is = go (accept C (K.row_at s) (K.size s) points marks list room) refl
    where
      by : (t : Answer) → Accepted C (K.row_at s) (K.size s) list → traced C K s list ≡ t → outcome_of C K s list t ≡ connected f → Traced C K s list f
      by (done ms cs) ok q e =
          let h : finished C K s list ms cs ≡ f = cc in
          record { ok = ok; marks = ms; contours = cs; trace = q; shown = sym (ap (λ (g : Finished P S). g.outlines) h) }
      by (halted k i ms cs) ok q e = let z : ◌≡◌ {A = ℕ} 1 0 = cc in absurd (suc-ne-zero 0 z)

      go : (a : Verdict) → accept C (K.row_at s) (K.size s) points marks list room ≡ a → after_checks C K s list a ≡ connected f → Traced C K s list f
      go (Ok _) q e = by (traced C K s list) (accepted C (K.row_at s) (K.size s) list points marks room q).0 refl e
      go (Err x) q e = let z : ◌≡◌ {A = ℕ} 1 0 = cc in absurd (suc-ne-zero 0 z)

module _ {P : Type 0} (same : P → P → Bool) (n : ℕ) (row : ℕ → Row P) (all : List Contour) where
  -- of closed contours each outline closes and none is counted open
  outlines-closed : (l : List Contour) (c : ℕ) → AllClosed n row same l → (o : Outline P) → Memᴰ o (outlines_from same n row all c l) → closes same o.corners ≡ true
  unfolding outlines_from outline
  outlines-closed [] c h o m = absurd (Memᴰ.not-nil m)
  outlines-closed (k ∷ l) c h o m = go (Memᴰ.cases_cons m) (outlines-closed l (suc c) h.1 o)
    where
      go : (o ≡ outline same n row all c k) ⊎ Memᴰ o (outlines_from same n row all (suc c) l) → (Memᴰ o (outlines_from same n row all (suc c) l) → closes same o.corners ≡ true) → closes same o.corners ≡ true
      go (inl e) r = ap (λ (o : Outline P). closes same o.corners) e ∙ h.0
      go (inr k) r = r k

  none_open : (l : List Contour) (c : ℕ) → AllClosed n row same l → open_count (outlines_from same n row all c l) ≡ 0
  unfolding open_count outlines_from outline keep
  none_open [] c h = refl
  none_open (k ∷ l) c h = rw h.0 (none_open l (suc c) h.1)

module _ {P S : Type 0} (C : Coordinates P) (K : Store P S) (L : OrderLaws C)
    (s : S) (points marks : ℕ) (list : List ℕ) (room : Room) (f : Finished P S) (e : connect C K s points marks list room ≡ connected f) where
  -- the same names as above, for one list
  abbrev recs : ℕ → Event P
  recs = K.row_at s

  abbrev ord : List ℕ
  ord = ordered recs C list

  abbrev first-point : P
  first-point = (K.blank 0).point

  abbrev count : ℕ
  count = length (rows C K s list)

  tr : Traced C K s list f
  tr = connected-is C K s points marks list room f e

  -- If every point ends an even number of result edges, every contour closes, and none is counted open.
  pub closing : EvenEnds C recs list
      → ((o : Outline P) → Memᴰ o f.outlines → closes (same C) o.corners ≡ true) × (open_count f.outlines ≡ 0)
  unfolding outlines traced
  closing even = rw tr.shown (outlines-closed (same C) count (rows_at C K s list) tr.contours tr.contours 0 closed, none_open (same C) count (rows_at C K s list) tr.contours tr.contours 0 closed)
    where
      at_rows : (v : ℕ) → v < count → open_from (λ j. same C (rows_at C K s list v).point (rows_at C K s list j).point) 0 (replicate count 0) % 2 ≡ 0
      at_rows v l =
          rw (ends_open C recs first-point list (rows_at C K s list v).point, point-is C recs (K.size s) first-point list tr.ok v l)
          (even (get_or ord v 0) (rec-in C recs (K.size s) first-point list tr.ok v l))

      closed : AllClosed count (rows_at C K s list) (same C) tr.contours
      closed = all_closed (same C) count (rows_at C K s list) (good C recs (K.size s) first-point list tr.ok) (by_value C recs (K.size s) first-point list tr.ok L) at_rows tr.marks tr.contours tr.trace

  -- ---- once

  module _ (r : ℕ) (m : Memᴰ r (results recs list)) where
    j : ℕ
    j = place ord r

    at_j : (j < length ord) × (get_or ord j 0 ≡ r)
    unfolding j
    at_j = place_of ord r 0 (mem-perm (sorted C recs first-point list) m)

    at_place : (i : ℕ) → i < count → eqb (get_or ord i 0) r ≡ eqb i j
    unfolding j
    at_place i l = go (eqb i j) refl
      where
        go : (b : Bool) → eqb i j ≡ b → eqb (get_or ord i 0) r ≡ b
        go true q = eq-eqb _ r (ap (λ (k : ℕ). get_or ord k 0) (eqb-true i j q) ∙ at_j.1)
        go false q =
            ne_eqb _ r (λ h. eqb-false i j q (sym (place-get_d ord i 0 (s-distinct C recs (K.size s) first-point list tr.ok) (omega (arith, size C recs first-point list))) ∙ ap (place ord) h))

    edge-bits : (i : ℕ) → i < count → bit (is_edge_of recs ord r i) ≡ bit (eqb i j) + bit (eqb (rows_at C K s list i).other j)
    unfolding is_edge_of bit
    edge-bits i l =
        rw (at_place i l, ap (λ (q : ℕ). eqb q r) (sym (rec-other C recs (K.size s) first-point list tr.ok i l)) ∙ at_place o (g.near i l)) (go (eqb i j) refl (eqb o j) refl)
      where
        o : ℕ
        o = (rows_at C K s list i).other

        g : Good count (rows_at C K s list)
        g = good C recs (K.size s) first-point list tr.ok

        go : (x : Bool) → eqb i j ≡ x → (y : Bool) → eqb o j ≡ y → bit (x || y) ≡ bit x + bit y
        go true p true q = absurd (g.proper i l (eqb-true o j q ∙ sym (eqb-true i j p)))
        go true p false q = refl
        go false p true q = refl
        go false p false q = refl

    trail-walks : (t : List ℕ) → All (λ i. i < count) t → length (keep (is_edge_of recs ord r) t) ≡ visits count (rows_at C K s list) j t
    unfolding keep visits bit
    trail-walks [] h = refl
    trail-walks (i ∷ t) h = go (is_edge_of recs ord r i) refl (edge-bits i h.0) (trail-walks t h.1)
      where
        go : (b : Bool) → is_edge_of recs ord r i ≡ b → bit (is_edge_of recs ord r i) ≡ bit (eqb i j) + bit (eqb (rows_at C K s list i).other j)
            → length (keep (is_edge_of recs ord r) t) ≡ visits count (rows_at C K s list) j t
            → length (cond b (i ∷ keep (is_edge_of recs ord r) t) (keep (is_edge_of recs ord r) t)) ≡ bit (eqb i j) + (bit (eqb (rows_at C K s list i).other j) + visits count (rows_at C K s list) j t)
        go true q x y = let z : 1 ≡ bit (eqb i j) + bit (eqb (rows_at C K s list i).other j) = sym (ap bit q) ∙ x in omega arith
        go false q x y = let z : 0 ≡ bit (eqb i j) + bit (eqb (rows_at C K s list i).other j) = sym (ap bit q) ∙ x in omega arith

    all-walks : (cs : List Contour) (l : List Contour) (c : ℕ) → All (λ k. All (λ i. i < count) k.trail) l
        → times_walked recs ord r (outlines_from (same C) count (rows_at C K s list) cs c l) ≡ walks count (rows_at C K s list) j l
    unfolding times_walked outlines_from outline walks
    all-walks cs [] c h = refl
    all-walks cs (k ∷ l) c h = ap₂ ◌+◌ (trail-walks k.trail h.0) (all-walks cs l (suc c) h.1)

    -- Each result edge is walked in exactly one contour, once.
    pub once : times_walked recs ord r f.outlines ≡ 1
    unfolding outlines traced
    once =
        let g = good C recs (K.size s) first-point list tr.ok in
        let v = by_value C recs (K.size s) first-point list tr.ok L in
        ap (times_walked recs ord r) tr.shown
        ∙ all-walks tr.contours tr.contours 0 (trails-in (same C) count (rows_at C K s list) g v tr.marks tr.contours tr.trace)
        ∙ each-once (same C) count (rows_at C K s list) g v tr.marks tr.contours tr.trace j (omega (arith, at_j.0, size C recs first-point list))
