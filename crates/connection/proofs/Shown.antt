-- Corners lie one contour's after another's, and each row tells where its own begin and end: so the view of a row shows that contour and no other.
use Rattle.std.proofs.Common.{Some}
use mathlib.Core.Path.{◌≡◌, refl, sym, ap, ◌∙◌}
use mathlib.Core.List.{List, [], ◌∷◌, ◌++◌, map, append_assoc}
use Prim.Native.Nat.{ℕ, zero, suc, ◌+◌, ◌<◌, ◌≤◌}
use native.Mathlib.Omega.{arith}
use lib.ListN.{length, get_or, drop, length-append, length-map, get_or-append}
use Rattle.lists.proofs.Fronts.{sets-front}
use Rattle.numbers.specs.declared.Point.{Point}
use Rattle.events.specs.Pool.{Pool}
use Rattle.contours.specs.Outline.{Outline, corner_count, hole_count}
use Rattle.contours.specs.Connect.{Finished, refused, stopped, connected, given}
use Rattle.contours.specs.Connect as C
use Rattle.contours.specs.OnPool.{connect_pool}
use Rattle.contours.specs.Walls.{told_of}
use Rattle.contours.proofs.AtBinary64.{enough}
use Rattle.rows.specs.Rows.{point_code}
use Rattle.tracing.specs.Tracing.{corners_in, holes_in, row_in, rows_in}
use Rattle.view.specs.View.{part_of, point_at}
use Rattle.view.proofs.Parts.{laid-at, corner-within, corner-beyond}
use Rattle.connection.specs.Connection.{Lent, room_of, written, after, connect_edges}
use Rattle.connection.specs.Shown.{shown_in, corners_of, Shown}

-- ---- how long the arrays of outlines are

pub corners-count : (os : List (Outline Point)) → length (corners_in os) ≡ corner_count os
unfolding corners_in corner_count
corners-count [] = refl
corners-count (o ∷ os) = omega (arith, length-append (map point_code o.corners) (corners_in os), length-map o.corners point_code, corners-count os)

pub holes-count : (os : List (Outline Point)) → length (holes_in os) ≡ hole_count os
unfolding holes_in hole_count
holes-count [] = refl
holes-count (o ∷ os) = omega (arith, length-append o.holes (holes_in os), holes-count os)

pub rows-count : (c h : ℕ) (os : List (Outline Point)) → length (rows_in c h os) ≡ length os
unfolding rows_in
rows-count c h [] = refl
rows-count c h (o ∷ os) = ap suc (rows-count (c + length o.corners) (h + length o.holes) os)

-- ---- the part of a row

-- behind e other corners
part-of : (os : List (Outline Point)) (before rest : List (List ℕ)) (e h c : ℕ) → length before ≡ e → c < length os
    → part_of (before ++ (corners_in os ++ rest)) (get_or (get_or (rows_in e h os) c []) 0 0) (get_or (get_or (rows_in e h os) c []) 1 0) ≡ map point_code (corners_of os c)
unfolding corners_in rows_in row_in told_of
part-of [] before rest e h c q l = absurd (omega arith)
part-of (o ∷ os) before rest e h zero q l =
    let own = map point_code o.corners in
    let joined : before ++ ((own ++ corners_in os) ++ rest) ≡ before ++ (own ++ (corners_in os ++ rest)) = ap (λ (x : List (List ℕ)). before ++ x) (append_assoc own (corners_in os) rest) in
    rw joined (laid-at before own (corners_in os ++ rest) e (length o.corners) q (length-map o.corners point_code))
part-of (o ∷ os) before rest e h (suc c) q l =
    let own = map point_code o.corners in
    let joined : before ++ ((own ++ corners_in os) ++ rest) ≡ (before ++ own) ++ (corners_in os ++ rest) =
    ap (λ (x : List (List ℕ)). before ++ x) (append_assoc own (corners_in os) rest) ∙ sym (append_assoc before own (corners_in os ++ rest))
    in
    let long : length (before ++ own) ≡ e + length o.corners = omega (arith, length-append before own, length-map o.corners point_code) in
    rw joined (part-of os (before ++ own) rest (e + length o.corners) (h + length o.holes) c long (omega arith))

point-of : (cs : List Point) (i : ℕ) (d : Point) → i < length cs → point_at (map point_code cs) i ≡ get_or cs i d
unfolding point_at point_code
point-of [] i d l = absurd (omega arith)
point-of (p ∷ cs) zero d l = refl
point-of (p ∷ cs) (suc i) d l = point-of cs i d (omega arith)

-- ---- the arrays that connection leaves

module _ (os : List (Outline Point)) (l : Lent) (contours : length os ≤ length l.contours) (corners : corner_count os ≤ length l.corners) where
  row_is : (c : ℕ) → c < length os → get_or (written os l).contours c [] ≡ get_or (rows_in 0 0 os) c []
  unfolding written
  row_is c k =
      ap (λ (x : List (List ℕ)). get_or x c []) (sets-front l.contours (rows_in 0 0 os) (omega (arith, rows-count 0 0 os)))
      ∙ get_or-append (rows_in 0 0 os) _ [] c (omega (arith, rows-count 0 0 os))

  corners-are : (written os l).corners ≡ corners_in os ++ drop (length (corners_in os)) l.corners
  unfolding written
  corners-are = sets-front l.corners (corners_in os) (omega (arith, corners-count os))

  part-is : (c : ℕ) → c < length os → shown_in (written os l) c ≡ map point_code (corners_of os c)
  unfolding shown_in
  part-is c k = rw (row_is c k, corners-are) (part-of os [] (drop (length (corners_in os)) l.corners) 0 0 c refl k)

  pub written-shown : Shown os (written os l)
  written-shown =
      record {
        part = part-is;
        corner = λ c i d k m. rw (part-is c k) (corner-within (map point_code (corners_of os c)) i (omega (arith, length-map (corners_of os c) point_code)) ∙ ap Some (point-of (corners_of os c) i d m));
        beyond = λ c i k m. rw (part-is c k) (corner-beyond (map point_code (corners_of os c)) i (omega (arith, length-map (corners_of os c) point_code)));
      }

-- Of the call, also where refusal 9 stopped it: the view of every contour that was given shows that contour.
pub shown : (p : Pool) (list : List ℕ) (l : Lent) (f : Finished Point Pool) → given (connect_pool p list (room_of l)) ≡ Some f → Shown f.outlines (connect_edges p list l).outlines
unfolding connect_edges after given
shown p list l f e =
    let room = enough p list (room_of l) f e in
    go (connect_pool p list (room_of l)) e (written-shown f.outlines l room.0 room.1)
  where
    go : (x : C.Outcome Point Pool) → given x ≡ Some f → Shown f.outlines (written f.outlines l) → Shown f.outlines (after x p l).outlines
    go (refused r) q s = let z : ◌≡◌ {A = ℕ} 0 1 = cc in absurd (omega arith)
    go (stopped r g) q s = let z : g ≡ f = cc in rw z s
    go (connected g) q s = let z : g ≡ f = cc in rw z s
