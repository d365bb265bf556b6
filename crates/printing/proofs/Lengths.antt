-- How long a text is at most, where its numbers have four digits: 46 bytes for each contour, 5 for each hole, 34 for each corner, and the first line.
use Rattle.refusals.specs.Refusals.{number}
use Rattle.std.proofs.Common.{Option, None, Some}
use mathlib.Core.Path.{◌≡◌}
use mathlib.Core.Bool.{Bool, true, false, cond}
use mathlib.Core.List.{List, [], ◌∷◌, map}
use Prim.Native.Nat.{ℕ, zero, suc, ◌+◌, ◌*◌, ◌/◌, ◌^◌, ◌≤◌, ◌<◌}
use native.Mathlib.Omega.{arith}
use lib.Dec.{ltb}
use lib.ListN.{length, length-append, length-map}
use Rattle.refusals.specs.declared.Refusal.{Refusal}
use Rattle.numbers.specs.declared.Point.{Point}
use Rattle.text.specs.Quoted.{quoted}
use Rattle.text.specs.Digits.{places, decimal}
use Rattle.text.proofs.Writing.{digits-length}
use Rattle.contours.specs.Outline.{Outline, corner_count, hole_count}
use Rattle.contours.proofs.Lists.{All}
use Rattle.contours.proofs.Nesting.{ParentIn, Numbers}
use Rattle.sheet.specs.Sheet.{count_line}
use Rattle.sheet.proofs.Fronts.{decimal-most}
use Rattle.sheet.proofs.Lengths.{line-short, number-long}
use Rattle.printing.specs.Printing.{parent_bytes, head_line, hole_lines, corner_line, corner_lines, contour_lines, contours_lines, drawing, drawn, printed, refused_line, refusal_line}

-- ---- lines

-- four digits or one sign
parent_short : (n : ℕ) (p : Option ℕ) → ParentIn n p → n ≤ 10 ^ 4 → length (parent_bytes p) ≤ 4
unfolding parent_bytes quoted
parent_short n None h k = omega arith
parent_short n (Some p) h k = decimal-most 3 p (omega arith)

head-short : (n : ℕ) (p : Option ℕ) (d : ℕ) → ParentIn n p → d < n → n ≤ 10 ^ 4 → length (head_line p d) ≤ 23
unfolding head_line quoted
head-short n p d h l k = simp length-append (omega (arith, parent_short n p h k, line-short (quoted " depth ") 3 d (omega arith)))

holes-short : (n : ℕ) (l : List ℕ) → All (λ h. h < n) l → n ≤ 10 ^ 4 → length (hole_lines l) ≤ 5 * length l
unfolding hole_lines
holes-short n [] a k = omega arith
holes-short n (h ∷ l) a k = simp length-append (omega (arith, line-short [] 3 h (omega (arith, a.0)), holes-short n l a.1 k))

corners-long : (l : List Point) → length (corner_lines l) ≡ 34 * length l
unfolding corner_lines corner_line
corners-long [] = omega arith
corners-long (p ∷ l) = simp length-append (omega (arith, digits-length 16 16 p.x, number-long p.y, corners-long l))

-- ---- contours

contour-short : (n : ℕ) (o : Outline Point) → Numbers n o → n ≤ 10 ^ 4 → length o.holes < 10 ^ 4 → length o.corners < 10 ^ 4
    → length (contour_lines (drawn o)) ≤ 46 + (5 * length o.holes + 34 * length o.corners)
unfolding contour_lines drawn quoted
contour-short n o h k few short =
    simp length-append (omega (arith, head-short n o.parent o.depth h.parent h.depth k, line-short (quoted "holes ") 3 (length o.holes) few, holes-short n o.holes h.holes k, line-short (quoted "points ") 3 (length o.corners) short, corners-long o.corners))

contours-short : (n : ℕ) (os : List (Outline Point)) → All (Numbers n) os → n ≤ 10 ^ 4 → hole_count os < 10 ^ 4 → corner_count os < 10 ^ 4
    → length (contours_lines (map drawn os)) ≤ 46 * length os + (5 * hole_count os + 34 * corner_count os)
unfolding contours_lines hole_count corner_count
contours-short n [] h k few short = omega arith
contours-short n (o ∷ os) h k few short =
    simp length-append (omega (arith, contour-short n o h.0 k (omega arith) (omega arith), contours-short n os h.1 k (omega arith) (omega arith)))

-- The whole text.
pub printed-short : (os : List (Outline Point)) → All (Numbers (length os)) os → length os < 10 ^ 4 → hole_count os < 10 ^ 4 → corner_count os < 10 ^ 4
    → length (printed os) ≤ 14 + (46 * length os + (5 * hole_count os + 34 * corner_count os))
unfolding printed drawing quoted
printed-short os h k few short =
    let many : length (map drawn os) ≡ length os = length-map os drawn in
    simp length-append (omega (arith, many, line-short (quoted "contours ") 3 (length (map drawn os)) (omega arith), contours-short (length os) os h (omega arith) few short))

-- ---- a refusal

-- any number
decimal-any : (w : ℕ) → length (decimal w) ≤ 21
unfolding decimal places
decimal-any w = omega (arith, digits-length 10 (places 10 20 w) w, few 20 w)
  where
    few : (turns w : ℕ) → places 10 turns w ≤ suc turns
    few zero w = omega arith
    few (suc turns) w = go (ltb w 10) (few turns (w / 10))
      where
        go : (b : Bool) → places 10 turns (w / 10) ≤ suc turns → cond b 1 (suc (places 10 turns (w / 10))) ≤ suc (suc turns)
        go true h = omega arith
        go false h = omega arith

pub refused-short : (told place : ℕ) → length (refused_line told place) ≤ 55
unfolding refused_line count_line quoted
refused-short told place = simp length-append (omega (arith, decimal-any told, decimal-any place))

pub refusal-short : (r : Refusal) → length (refusal_line r) ≤ 55
unfolding refusal_line
refusal-short r = refused-short (number r.reason) r.place
