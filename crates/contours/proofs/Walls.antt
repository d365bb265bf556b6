-- Every wall is in exactly one outline, once. The wall from a corner to the next is the edge walked there; a result edge is walked once, so at one place.
use Rattle.std.proofs.Common.{Some}
use mathlib.Core.Path.{◌≡◌, refl, sym, ap, ◌∙◌}
use mathlib.Core.Bool.{Bool, true, false, not, cond, ◌&&◌, ◌||◌, false≢true}
use mathlib.Core.List.{List, [], ◌∷◌, map, Memᴰ}
use Prim.Native.Nat.{ℕ, zero, suc, ◌+◌, ◌<◌}
use native.Mathlib.Nat.{not-suc-le-zero, le_of_suc-le-suc}
use native.Mathlib.Omega.{arith}
use borrow.Author.Tests.{eqb-true, eq-eqb, not-true}
use lib.ListN.{length, get_or, length-map}
use lib.Dec.{eqb}
use Rattle.events.specs.Coordinates.{Coordinates, same}
use Rattle.events.specs.Event.{Event}
use Rattle.events.specs.Store.{Store}
use Rattle.order.proofs.Laws.{OrderLaws, same_refl}
use Rattle.contours.specs.Result.{keep, in_result, results, result_edges, ordered}
use Rattle.contours.specs.Outline.{Outline}
use Rattle.contours.specs.Accept.{Room}
use Rattle.contours.specs.Connect.{Finished, connected, given, connect}
use Rattle.contours.specs.Renaming.{is_edge_of, times_walked}
use Rattle.contours.specs.Walls.{told_of, IsPlace, corner, runs, joins, OneToOne}
use Rattle.contours.proofs.Lists.{keep-in, keep_out}
use Rattle.contours.proofs.Accepted.{Accepted}
use Rattle.contours.proofs.Good.{in_list, sound-result, mate-in}
use Rattle.contours.proofs.Given.{ResultEdgeAt, one_more, never-empty, neighbours}
use Rattle.contours.proofs.Demand.{connected-is}
use Rattle.contours.proofs.Demand as D
use Rattle.contours.proofs.Counted.{all_times, HoldsAt, all_held, all-one-place}

-- ---- an edge by its left record

both : (a b : Bool) → (a && b) ≡ true → (a ≡ true) × (b ≡ true)
both true b e = (refl, e)
both false b e = absurd (false≢true e)

or_right : (a b : Bool) → b ≡ true → (a || b) ≡ true
or_right true b e = refl
or_right false b e = e

unfoldable left_of : {P : Type 0} → (ℕ → Event P) → ℕ → ℕ
left_of row r = cond (row r).left r (row r).partner

-- the edge of q is that of its left record
left-is-edge : {P : Type 0} (row : ℕ → Event P) (q r : ℕ) → left_of row q ≡ r → (eqb q r || eqb (row q).partner r) ≡ true
unfolding left_of
left-is-edge row q r e = go (row q).left e
  where
    go : (b : Bool) → cond b q (row q).partner ≡ r → (eqb q r || eqb (row q).partner r) ≡ true
    go true e = rw (eq-eqb q r e)
    go false e = or_right (eqb q r) _ (eq-eqb (row q).partner r e)

module _ {P : Type 0} (C : Coordinates P) (row : ℕ → Event P) (n : ℕ) (void : P) (list : List ℕ) (ok : Accepted C row n list) where
  left-edge : (r : ℕ) → Memᴰ r (results row list) → (row r).left ≡ true → Memᴰ r (result_edges row list)
  unfolding result_edges
  left-edge r m e =
      let i = in_list C row n void list ok r m in
      keep-in (λ r. in_result row r && (row r).left) list r i.0 (rw (i.1, e))

  edge-left : (r : ℕ) → Memᴰ r (result_edges row list) → Memᴰ r (results row list) × ((row r).left ≡ true)
  unfolding results result_edges
  edge-left r m =
      let i = keep_out (λ r. in_result row r && (row r).left) list r m in
      let j = both (in_result row r) (row r).left i.1 in
      (keep-in (in_result row) list r i.0 j.0, j.1)

  module _ (q : ℕ) (m : Memᴰ q (results row list)) where
    left_in : Memᴰ (left_of row q) (result_edges row list)
    unfolding left_of
    left_in = go (row q).left refl
      where
        go : (b : Bool) → (row q).left ≡ b → Memᴰ (cond b q (row q).partner) (result_edges row list)
        go true e = left-edge q m e
        go false e = left-edge (row q).partner (mate-in C row n void list ok q m) ((sound-result C row n void list ok q m).unlike ∙ ap not e)

    -- from a to b, which are by value the point of q and that of its partner
    left-joins : (a b : P) → same C a (row q).point ≡ true → same C b (row (row q).partner).point ≡ true → joins C row (left_of row q) a b ≡ true
    unfolding left_of joins runs
    left-joins a b x y = go (row q).left
      where
        go : (t : Bool) → joins C row (cond t q (row q).partner) a b ≡ true
        go true = rw (x, y)
        go false =
            let z : runs C row (row q).partner b a ≡ true = rw (y, (sound-result C row n void list ok q m).paired, x) in
            or_right (runs C row (row q).partner a b) _ z

    edge-is-left : (r : ℕ) → (row r).left ≡ true → (eqb q r || eqb (row q).partner r) ≡ true → left_of row q ≡ r
    unfolding left_of
    edge-is-left r l e = go (eqb q r) refl e
      where
        go : (t : Bool) → eqb q r ≡ t → (t || eqb (row q).partner r) ≡ true → cond (row q).left q (row q).partner ≡ r
        go true h e = let x : q ≡ r = eqb-true q r h in rw (ap (λ (k : ℕ). (row k).left) x ∙ l) x
        go false h e =
            let x : (row q).partner ≡ r = eqb-true (row q).partner r e in
            let z : not (row q).left ≡ true = sym (sound-result C row n void list ok q m).unlike ∙ ap (λ (k : ℕ). (row k).left) x ∙ l in
            rw (not-true (row q).left z) x

-- ---- contours by their numbers

record OutlineAt {P : Type 0} (os : List (Outline P)) (c : ℕ) : Type 0 where
  outline : Outline P
  member : Memᴰ outline os
  corners : get_or (map (λ o. o.corners) os) c [] ≡ outline.corners
  trail : get_or (map (λ o. o.trail) os) c [] ≡ outline.trail

outline-at : {P : Type 0} (os : List (Outline P)) (c : ℕ) → c < length os → OutlineAt os c
outline-at [] c l = absurd (not-suc-le-zero l)
outline-at (o ∷ os) zero l = record { outline = o; member = Memᴰ.head refl; corners = refl; trail = refl }
outline-at (o ∷ os) (suc c) l =
    let h = outline-at os c (le_of_suc-le-suc l) in
    record { outline = h.outline; member = Memᴰ.tail h.member; corners = h.corners; trail = h.trail }

-- a list with a member is one of the lists
in-range : {A B : Type 0} (g : A → List B) (l : List A) (c k : ℕ) → k < length (get_or (map g l) c []) → c < length l
in-range g [] c k h = absurd (not-suc-le-zero h)
in-range g (a ∷ l) zero k h = omega arith
in-range g (a ∷ l) (suc c) k h = omega (arith, in-range g l c k h)

counted : {P : Type 0} (row : ℕ → Event P) (s : List ℕ) (r : ℕ) (os : List (Outline P)) → times_walked row s r os ≡ all_times (is_edge_of row s r) (map (λ o. o.trail) os)
unfolding times_walked all_times
counted row s r [] = refl
counted row s r (o ∷ os) = ap (λ (k : ℕ). length (keep (is_edge_of row s r) o.trail) + k) (counted row s r os)

-- ---- a connected list

module _ {P S : Type 0} (C : Coordinates P) (K : Store P S) (L : OrderLaws C)
    (s : S) (points marks : ℕ) (list : List ℕ) (room : Room) (f : Finished P S) (e : connect C K s points marks list room ≡ connected f) where
  abbrev recs : ℕ → Event P
  recs = K.row_at s

  abbrev ord : List ℕ
  ord = ordered recs C list

  abbrev void : P
  void = (K.blank 0).point

  abbrev trails : List (List ℕ)
  trails = map (λ o. o.trail) f.outlines

  abbrev contours : List (List P)
  contours = map (λ o. o.corners) f.outlines

  ok : Accepted C recs (K.size s) list
  ok = (connected-is C K s points marks list room f e).ok

  is-given : given (connect C K s points marks list room) ≡ Some f
  unfolding given
  is-given = ap given e

  -- the record from whose position the edge at a place is walked
  walked_at : ℕ → ℕ → ℕ
  walked_at c k = get_or ord (get_or (get_or trails c []) k 0) 0

  module _ (c : ℕ) (l : c < length f.outlines) where
    here : OutlineAt f.outlines c
    here = outline-at f.outlines c l

    one-longer : length (get_or contours c []) ≡ suc (length (get_or trails c []))
    one-longer = rw (here.corners, here.trail) (one_more C K L s points marks list room f is-given here.outline here.member)

    not-empty : 0 < length (get_or trails c [])
    not-empty = rw here.trail (never-empty C K L s points marks list room f is-given here.outline here.member)

    edge_here : (k : ℕ) → k < length (get_or trails c []) → (d : P) → ResultEdgeAt C recs list here.outline k d (walked_at c k)
    unfolding walked_at
    edge_here k h d = rw here.trail (neighbours C K L s points marks list room f is-given here.outline here.member k (rw here.trail at h) d)

  trail-place : (c k : ℕ) → k < length (get_or trails c []) → IsPlace contours c k
  trail-place c k h = omega (arith, h, one-longer c (in-range (λ o. o.trail) f.outlines c k h))

  module _ (c k : ℕ) (h : IsPlace contours c k) where
    in-outlines : c < length f.outlines
    in-outlines = in-range (λ o. o.corners) f.outlines c (suc k) h

    place-trail : k < length (get_or trails c [])
    place-trail = omega (arith, h, one-longer c in-outlines)

    walked-result : Memᴰ (walked_at c k) (results recs list)
    walked-result = (edge_here c in-outlines k place-trail void).result

    walked-joins : (d : P) → joins C recs (left_of recs (walked_at c k)) (corner contours d c k) (corner contours d c (suc k)) ≡ true
    unfolding corner
    walked-joins d =
        let x = edge_here c in-outlines k place-trail d in
        let q = (recs (walked_at c k)).partner in
        let m = mate-in C recs (K.size s) void list ok (walked_at c k) walked-result in
        rw (here c in-outlines).corners
        (left-joins C recs (K.size s) void list ok (walked_at c k) walked-result _ _ x.from
        (rw x.to (same_refl L (recs q).point)))

  walked_once : (r : ℕ) → Memᴰ r (results recs list) → all_times (is_edge_of recs ord r) trails ≡ 1
  walked_once r m = sym (counted recs ord r f.outlines) ∙ D.once C K L s points marks list room f e r m

  walked_at_lem : (c k r : ℕ) → IsPlace contours c k → left_of recs (walked_at c k) ≡ r → HoldsAt (is_edge_of recs ord r) trails c k
  unfolding is_edge_of walked_at
  walked_at_lem c k r h q = record { inside = place-trail c k h; true-there = left-is-edge recs (walked_at c k) r q }

  has-place : (r : ℕ) → Memᴰ r (result_edges recs list) → (c : ℕ) × (k : ℕ) × IsPlace contours c k × (left_of recs (walked_at c k) ≡ r)
  unfolding is_edge_of walked_at
  has-place r m =
      let w = edge-left C recs (K.size s) void list ok r m in
      let i = all_held (is_edge_of recs ord r) trails (omega (arith, walked_once r w.0)) in
      let h = trail-place i.0 i.1 i.2.inside in
      (i.0, i.1, h, edge-is-left C recs (K.size s) void list ok (walked_at i.0 i.1) (walked-result i.0 i.1 h) r w.1 i.2.true-there)

  one_place : (c k c' k' : ℕ) → IsPlace contours c k → IsPlace contours c' k' → left_of recs (walked_at c k) ≡ left_of recs (walked_at c' k') → (c ≡ c') × (k ≡ k')
  one_place c k c' k' h h' q =
      let r = left_of recs (walked_at c' k') in
      let m = edge-left C recs (K.size s) void list ok r (left_in C recs (K.size s) void list ok (walked_at c' k') (walked-result c' k' h')) in
      all-one-place (is_edge_of recs ord r) trails (omega (arith, walked_once r m.0)) c k c' k' (walked_at_lem c k r h q) (walked_at_lem c' k' r h' refl)

  -- Each two neighbouring corners are the two ends of a result edge, and each result edge is such a pair at exactly one place of exactly one contour.
  pub one-to-one : OneToOne C recs list (told_of f.outlines).corners
  unfolding told_of
  one-to-one =
      record {
        wall = λ c k. left_of recs (walked_at c k);
        real = λ c k h. left_in C recs (K.size s) void list ok (walked_at c k) (walked-result c k h);
        ends = walked-joins;
        placed = has-place;
        once = one_place;
        walled = λ c l. let j = rw (length-map f.outlines (λ o. o.corners)) at l in trail-place c 0 (not-empty c j);
      }
