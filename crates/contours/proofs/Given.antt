-- What is given, by a list that is connected and by one that is stopped at refusal 9: its places are there, and its corners are ends of result edges.
use Rattle.std.proofs.Common.{Err, Ok, Some}
use Rattle.refusals.specs.Refusals.{Verdict}
use mathlib.Core.Path.{◌≡◌, refl, sym, ap, ◌∙◌}
use mathlib.Core.Logic.{◌⊎◌, inl, inr}
use mathlib.Core.Bool.{Bool, true}
use mathlib.Core.List.Memᴰ
use mathlib.Core.List.{List, [], ◌∷◌, Memᴰ}
use Prim.Native.Nat.{ℕ, suc, ◌≤◌, ◌<◌}
use native.Mathlib.Nat.{suc-ne-zero}
use native.Mathlib.Omega.{arith}
use lib.ListN.{length, get_or, replicate, length-replicate}
use Rattle.events.specs.Coordinates.{Coordinates, same}
use Rattle.events.specs.Event.{Event}
use Rattle.events.specs.Store.{Store}
use Rattle.order.proofs.Laws.{OrderLaws}
use Rattle.contours.specs.Result.{results, result_edges, ordered}
use Rattle.contours.specs.Table.{Row}
use Rattle.contours.specs.Contours.{Contour, Answer, done, halted}
use Rattle.contours.specs.Outline.{Outline, outline, outlines_from, outlines, corner_count, hole_count}
use Rattle.contours.specs.Accept.{Room, accept}
use Rattle.contours.specs.Connect.{Finished, given, rows, rows_at, finished, outcome_of, traced, after_checks, connect}
use Rattle.contours.proofs.Lists.{All, length-perm}
use Rattle.contours.proofs.Marks.{open_from, open-le}
use Rattle.contours.proofs.Turns.{Ends}
use Rattle.contours.proofs.Amount.{Amount, amount, outline-count, corner-count, hole-count}
use Rattle.contours.proofs.Nesting.{Numbers, numbered, outlines-in, Numbered}
use Rattle.contours.proofs.Corners.{Trail, edge_at, corners-length, some-edge, chained, Chained}
use Rattle.contours.proofs.Accepted.{Accepted, Fits, accepted}
use Rattle.contours.proofs.Good.{size, sorted, good, by_value, sides, lefts-open, rec-in, rec-other, point-is}

-- the contours of an answer, finished or not
abbrev contours_of : Answer → List Contour
contours_of (done ms cs) = cs
contours_of (halted reason i ms cs) = cs

held : (n : ℕ) (I : ℕ → List ℕ → List Contour → Type 0) (t : Answer) → Ends n I t → (i : ℕ) × (ms : List ℕ) × I i ms (contours_of t)
held n I (done ms cs) h = (n, ms, h)
held n I (halted reason i ms cs) h = (i, ms, h.2)

record Shown {P S : Type 0} (C : Coordinates P) (K : Store P S) (s : S) (points marks : ℕ) (list : List ℕ) (room : Room) (f : Finished P S) : Type 0 where
  ok : Accepted C (K.row_at s) (K.size s) list
  fits : Fits C (K.row_at s) (K.size s) list points marks room
  answer : Answer
  trace : traced C K s list ≡ answer
  shown : f.outlines ≡ outlines (same C) (length (rows C K s list)) (rows_at C K s list) (contours_of answer)

module _ {P S : Type 0} (C : Coordinates P) (K : Store P S) (s : S) (points marks : ℕ) (list : List ℕ) (room : Room) (f : Finished P S) where
  given_is : given (connect C K s points marks list room) ≡ Some f → Shown C K s points marks list room f
  unfolding connect after_checks outcome_of finished given
  given_is = go (accept C (K.row_at s) (K.size s) points marks list room) refl
    where
      outlined : (ms : List ℕ) (cs : List Contour) → Some (finished C K s list ms cs) ≡ Some f → f.outlines ≡ outlines (same C) (length (rows C K s list)) (rows_at C K s list) cs
      outlined ms cs e = let h : finished C K s list ms cs ≡ f = cc in sym (ap (λ (g : Finished P S). g.outlines) h)

      by : (t : Answer) → accept C (K.row_at s) (K.size s) points marks list room ≡ Ok tt → traced C K s list ≡ t → given (outcome_of C K s list t) ≡ Some f → Shown C K s points marks list room f
      by (done ms cs) q w e =
          let a = accepted C (K.row_at s) (K.size s) list points marks room q in
          record { ok = a.0; fits = a.1; answer = done ms cs; trace = w; shown = outlined ms cs e }
      by (halted k i ms cs) q w e =
          let a = accepted C (K.row_at s) (K.size s) list points marks room q in
          record { ok = a.0; fits = a.1; answer = halted k i ms cs; trace = w; shown = outlined ms cs e }

      go : (a : Verdict) → accept C (K.row_at s) (K.size s) points marks list room ≡ a → given (after_checks C K s list a) ≡ Some f → Shown C K s points marks list room f
      go (Ok _) q e = by (traced C K s list) q refl e
      go (Err x) q e = let z : ◌≡◌ {A = ℕ} 1 0 = cc in absurd (suc-ne-zero 0 z)

  -- both ends of a listed record's edge have fit points, so that event order reads no other
  pub fit-ends : given (connect C K s points marks list room) ≡ Some f
      → (r : ℕ) → Memᴰ r list → (C.fit (K.row_at s r).point ≡ true) × (C.fit (K.row_at s (K.row_at s r).partner).point ≡ true)
  fit-ends e r m = let ok = (given_is e).ok in ((ok.each r m).fit, ok.other-fit r m)

-- the edge between corners k and k + 1 of an outline is that of record r
pub record ResultEdgeAt {P : Type 0} (C : Coordinates P) (row : ℕ → Event P) (list : List ℕ) (o : Outline P) (k : ℕ) (d : P) (r : ℕ) : Type 0 where
  pub result : Memᴰ r (results row list)
  -- one by value
  pub from : same C (get_or o.corners k d) (row r).point ≡ true
  -- bit for bit
  pub to : get_or o.corners (suc k) d ≡ (row (row r).partner).point

module _ {P : Type 0} (same : P → P → Bool) (n : ℕ) (row : ℕ → Row P) (all : List Contour) where
  -- an outline is that of a contour
  of-contour : (D : List ℕ → Type 0) (l : List Contour) (c : ℕ) → All (λ k. D k.trail) l → (o : Outline P) → Memᴰ o (outlines_from same n row all c l)
      → (k : Contour) × D k.trail × ((i : ℕ) × (o ≡ outline same n row all i k))
  unfolding outlines_from
  of-contour D [] c h o m = absurd (Memᴰ.not-nil m)
  of-contour D (k ∷ l) c h o m = go (Memᴰ.cases_cons m) (of-contour D l (suc c) h.1 o)
    where
      Found : Type 0
      Found = (k : Contour) × D k.trail × ((i : ℕ) × (o ≡ outline same n row all i k))

      go : (o ≡ outline same n row all c k) ⊎ Memᴰ o (outlines_from same n row all (suc c) l) → (Memᴰ o (outlines_from same n row all (suc c) l) → Found) → Found
      go (inl e) r = (k, h.0, (c, e))
      go (inr j) r = r j

module _ {P S : Type 0} (C : Coordinates P) (K : Store P S) (L : OrderLaws C)
    (s : S) (points marks : ℕ) (list : List ℕ) (room : Room) (f : Finished P S) (e : given (connect C K s points marks list room) ≡ Some f) where
  abbrev recs : ℕ → Event P
  recs = K.row_at s

  abbrev first-point : P
  first-point = (K.blank 0).point

  abbrev count : ℕ
  count = length (rows C K s list)

  abbrev at : ℕ → Row P
  at = rows_at C K s list

  sh : Shown C K s points marks list room f
  sh = given_is C K s points marks list room f e

  abbrev cs : List Contour
  cs = contours_of sh.answer

  -- ---- room

  much : (i : ℕ) × (ms : List ℕ)
      × Amount (same C) count at (good C recs (K.size s) first-point list sh.ok) (by_value C recs (K.size s) first-point list sh.ok L) (sides C recs (K.size s) first-point list sh.ok) i ms cs
  unfolding traced
  much =
      held count (Amount (same C) count at (good C recs (K.size s) first-point list sh.ok) (by_value C recs (K.size s) first-point list sh.ok L) (sides C recs (K.size s) first-point list sh.ok)) sh.answer
      (rw sh.trace at (amount (same C) count at (good C recs (K.size s) first-point list sh.ok) (by_value C recs (K.size s) first-point list sh.ok L) (sides C recs (K.size s) first-point list sh.ok)))

  contours-few : length cs ≤ length (result_edges recs list)
  contours-few = omega (arith, much.2.count, much.2.left, lefts-open C recs first-point list)

  events-all : open_from (λ j. true) 0 (replicate count 0) ≤ length (results recs list)
  events-all = omega (arith, open-le (λ j. true) 0 (replicate count 0), length-replicate {A = ℕ} count 0, size C recs first-point list, length-perm (sorted C recs first-point list))

  -- What refusal 5 asks for is enough.
  pub enough : (length f.outlines ≤ room.contours) × (corner_count f.outlines ≤ room.points) × (hole_count f.outlines ≤ room.holes)
  unfolding outlines
  enough =
      rw sh.shown (
        omega (arith, outline-count (same C) count at cs cs 0, contours-few, sh.fits.outlines),
        omega (arith, corner-count (same C) count at cs cs 0, much.2.points, much.2.all, much.2.count, events-all, sh.fits.events),
        omega (arith, hole-count (same C) count at cs, contours-few, sh.fits.holes),
      )

  -- Every parent and hole is one of the contours, and every depth is below how many they are.
  pub numbers : All (Numbers (length f.outlines)) f.outlines
  unfolding traced outlines
  numbers =
      rw (sh.shown, outline-count (same C) count at cs cs 0)
      (outlines-in (same C) count at cs cs 0 (held count Numbered sh.answer (rw sh.trace at (numbered (same C) count at))).2.nested)

  -- ---- corners

  trails : All (λ k. Trail (same C) count at k.trail) cs
  unfolding traced
  trails =
      (held count (Chained (same C) count at (good C recs (K.size s) first-point list sh.ok) (by_value C recs (K.size s) first-point list sh.ok L)) sh.answer
      (rw sh.trace at (chained (same C) count at (good C recs (K.size s) first-point list sh.ok) (by_value C recs (K.size s) first-point list sh.ok L)))
      ).2.all

  edge_of : (c : Contour) → Trail (same C) count at c.trail → (i k : ℕ) → k < length c.trail → (d : P)
      → ResultEdgeAt C recs list (outline (same C) count at cs i c) k d (get_or (ordered recs C list) (get_or c.trail k 0) 0)
  unfolding outline
  edge_of c t i k l d =
      let x = edge_at (same C) count at c.trail t k l d in
      let p = get_or c.trail k 0 in
      let near = (good C recs (K.size s) first-point list sh.ok).near p x.inside in
      record {
        result = rec-in C recs (K.size s) first-point list sh.ok p x.inside;
        from = rw (point-is C recs (K.size s) first-point list sh.ok p x.inside) at x.from;
        to = x.to ∙ point-is C recs (K.size s) first-point list sh.ok (at p).other near ∙ ap (λ (r : ℕ). (recs r).point) (rec-other C recs (K.size s) first-point list sh.ok p x.inside);
      }

  module _ (o : Outline P) (m : Memᴰ o f.outlines) where
    found : (k : Contour) × Trail (same C) count at k.trail × ((i : ℕ) × (o ≡ outline (same C) count at cs i k))
    unfolding outlines
    found = of-contour (same C) count at cs (Trail (same C) count at) cs 0 trails o (rw sh.shown at m)

    -- an outline has one corner more than edges
    pub one_more : length o.corners ≡ suc (length o.trail)
    unfolding outline
    one_more = rw found.2.1 (corners-length (same C) count at found.0.trail found.1)

    pub never-empty : 0 < length o.trail
    unfolding outline
    never-empty = rw found.2.1 (some-edge (same C) count at found.0.trail found.1)

    -- Each two neighbouring corners are the two ends of a result edge, by value: that of the record from whose position the trail goes on.
    pub neighbours : (k : ℕ) → k < length o.trail → (d : P) → ResultEdgeAt C recs list o k d (get_or (ordered recs C list) (get_or o.trail k 0) 0)
    unfolding outline
    neighbours k l d = rw found.2.1 (edge_of found.0 found.1 found.2.0 k (rw found.2.1 at l) d)
