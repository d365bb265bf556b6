-- Arrays that hold outlines, corners one after the other and so holes, print as the outlines do.
use Rattle.std.proofs.Common.{Option, None, Some}
use mathlib.Core.Path.{◌≡◌, refl, sym, ap, ◌∙◌}
use mathlib.Core.List.{List, [], ◌∷◌, ◌++◌, map, append_assoc}
use Prim.Native.Nat.{ℕ, ◌+◌}
use native.Mathlib.Omega.{arith}
use borrow.Author.Tests.{le-ltb}
use lib.ListN.{length, take, length-append, length-map}
use lib.Seq.{take-append_seam, drop_at}
use Rattle.numbers.specs.declared.Point.{Point}
use Rattle.contours.specs.Outline.{Outline}
use Rattle.view.specs.View.{part_of}
use Rattle.view.proofs.Parts.{laid-at}
use Rattle.printing.specs.Printing.{Drawn, drawn, drawing, printed}
use Rattle.printing.specs.Arrays.{part_length, part, corner_of, parent_of, drawn_row, printed_arrays, number_of, rows_from, numbers_of, all_corners, all_holes}

-- holes that stand after others are the part from there on
part_held : (a l c : List ℕ) (first : ℕ) → length a ≡ first → part (a ++ (l ++ c)) first (length l) ≡ l
unfolding part part_length
part_held a l c first h =
    let long : length (a ++ (l ++ c)) ≡ length a + (length l + length c) = length-append a (l ++ c) ∙ ap (λ (n : ℕ). length a + n) (length-append l c) in
    rw (le-ltb (length (a ++ (l ++ c))) (first + length l) (omega arith), drop_at a (l ++ c) first h) (take-append_seam l c)

parent-held : (p : Option ℕ) → parent_of (number_of p) ≡ p
unfolding parent_of number_of
parent-held None = refl
parent-held (Some p) = refl

corners-held : (l : List Point) → map corner_of (map numbers_of l) ≡ l
unfolding corner_of numbers_of
corners-held [] = refl
corners-held (p ∷ l) = ap (λ (m : List Point). p ∷ m) (corners-held l)

drawn-same : {p q : Option ℕ} (depth : ℕ) {h k : List ℕ} {c e : List Point} → p ≡ q → h ≡ k → c ≡ e
    → ◌≡◌ {A = Drawn} (record { parent = p; depth = depth; holes = h; corners = c }) (record { parent = q; depth = depth; holes = k; corners = e })
drawn-same depth a b c = rw (a, b, c)

row-held : (o : Outline Point) (a c : List (List ℕ)) (b d : List ℕ) (i j : ℕ) → length a ≡ i → length b ≡ j → drawn_row (a ++ (map numbers_of o.corners ++ c)) (b ++ (o.holes ++ d)) (i ∷ (i + length o.corners) ∷ number_of o.parent ∷ o.depth ∷ j ∷ length o.holes ∷ []) ≡ drawn o
unfolding drawn_row drawn
row-held o a c b d i j h k =
    let shown : part_of (a ++ (map numbers_of o.corners ++ c)) i (i + length o.corners) ≡ map numbers_of o.corners = laid-at a (map numbers_of o.corners) c i (length o.corners) h (length-map o.corners numbers_of) in
    drawn-same o.depth (parent-held o.parent) (part_held b o.holes d j k) (ap (map corner_of) shown ∙ corners-held o.corners)

rows-held : (os : List (Outline Point)) (a c : List (List ℕ)) (b d : List ℕ) (i j : ℕ) → length a ≡ i → length b ≡ j → map (drawn_row (a ++ (all_corners os ++ c)) (b ++ (all_holes os ++ d))) (rows_from i j os) ≡ map drawn os
unfolding rows_from all_corners all_holes
rows-held [] a c b d i j h k = refl
rows-held (o ∷ os) a c b d i j h k =
    let cs = map numbers_of o.corners in
    let hs = o.holes in
    let front : a ++ ((cs ++ all_corners os) ++ c) ≡ a ++ (cs ++ (all_corners os ++ c)) = ap (λ (l : List (List ℕ)). a ++ l) (append_assoc cs (all_corners os) c) in
    let back : b ++ ((hs ++ all_holes os) ++ d) ≡ b ++ (hs ++ (all_holes os ++ d)) = ap (λ (l : List ℕ). b ++ l) (append_assoc hs (all_holes os) d) in
    let next : a ++ (cs ++ (all_corners os ++ c)) ≡ (a ++ cs) ++ (all_corners os ++ c) = sym (append_assoc a cs (all_corners os ++ c)) in
    let after : b ++ (hs ++ (all_holes os ++ d)) ≡ (b ++ hs) ++ (all_holes os ++ d) = sym (append_assoc b hs (all_holes os ++ d)) in
    let i' : length (a ++ cs) ≡ i + length o.corners = omega (arith, length-append a cs, length-map o.corners numbers_of) in
    let j' : length (b ++ hs) ≡ j + length o.holes = omega (arith, length-append b hs) in
    let first = row-held o a (all_corners os ++ c) b (all_holes os ++ d) i j h k in
    let others = rows-held os (a ++ cs) c (b ++ hs) d (i + length o.corners) (j + length o.holes) i' j' in
    ap (λ (l : List (List ℕ)). map (drawn_row l (b ++ (all_holes (o ∷ os) ++ d))) (rows_from i j (o ∷ os))) front
    ∙ ap (λ (l : List ℕ). map (drawn_row (a ++ (cs ++ (all_corners os ++ c))) l) (rows_from i j (o ∷ os))) back
    ∙ (λ x. first x ∷ (ap (λ (l : List (List ℕ)). map (drawn_row l (b ++ (hs ++ (all_holes os ++ d)))) (rows_from (i + length o.corners) (j + length o.holes) os)) next ∙ ap (λ (l : List ℕ). map (drawn_row ((a ++ cs) ++ (all_corners os ++ c)) l) (rows_from (i + length o.corners) (j + length o.holes) os)) after ∙ others) x)

-- what is left of the arrays, c and d and further rows, does not matter
pub held : (os : List (Outline Point)) (corners c : List (List ℕ)) (contours : List (List ℕ)) (holes d : List ℕ) (count : ℕ) → corners ≡ all_corners os ++ c → holes ≡ all_holes os ++ d → take count contours ≡ rows_from 0 0 os → printed_arrays corners contours holes count ≡ printed os
unfolding printed_arrays printed
held os corners c contours holes d count e f g = rw (e, f, g) (ap drawing (rows-held os [] c [] d 0 0 refl refl))
