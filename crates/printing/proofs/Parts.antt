-- A part of an array, element by element, and its lines one by one.
use mathlib.Core.Path.{◌≡◌, refl, sym, ap, ◌∙◌}
use mathlib.Core.List.{List, [], map}
use Prim.Native.Nat.{ℕ, ◌+◌, ◌-◌, ◌≤◌, ◌<◌, min}
use native.Mathlib.Decide.{dec_lt}
use native.Mathlib.Omega.{arith}
use borrow.Author.Tests.{lt-ltb, le-ltb}
use lib.ListN.{length, get_or, take, drop, length-take, length-drop, length-map}
use lib.Seq.{take_all}
use Rattle.text.specs.Quoted.{quoted}
use Rattle.sheet.specs.Sheet.{count_line}
use Rattle.numbers.specs.declared.Point.{Point}
use Rattle.view.specs.View.{part_of, point_at, corner_at}
use Rattle.view.proofs.Parts.{found_within}
use Rattle.std.proofs.Common.{Some}
use Rattle.printing.specs.Printing.{Drawn, head_line, hole_lines, corner_line, corner_lines, contour_lines, contours_lines, drawing}
use Rattle.printing.specs.Arrays.{part_length, part, corner_of, parent_of, drawn_row, printed_arrays}
use Rattle.printing.specs.Put.{Put}
use Rattle.printing.proofs.Goings.{kept, then, Lines, on}

-- ---- how long a part is

pub part_out : (length first count : ℕ) → length < first + count → 0 ≡ part_length length first count
unfolding part_length
part_out length first count h = rw (lt-ltb length (first + count) h)

pub part_in : (length first count : ℕ) → first + count ≤ length → count ≡ part_length length first count
unfolding part_length
part_in length first count h = rw (le-ltb length (first + count) h)

-- it is within what there is from its first place on
pub part-within : (length first count n : ℕ) → n ≡ part_length length first count → n ≤ length - first
part-within length first count n e = go (dec_lt length (first + count))
  where
    go : Dec (length < first + count) → n ≤ length - first
    go (yes l) = omega (arith, part_out length first count l)
    go (no l) = omega (arith, part_in length first count (omega arith))

pub part_count : (l : List ℕ) (first count : ℕ) → length (part l first count) ≡ part_length (length l) first count
unfolding part
part_count l first count =
    length-take (part_length (length l) first count) (drop first l)
    ∙ omega (arith, length-drop first l, part-within (length l) first count (part_length (length l) first count) refl)

-- ---- the lines of a part

pub hole-each : Lines hole_lines (count_line [])
unfolding hole_lines
hole-each = record { none = refl; more = λ h l. refl }

pub corner-each : Lines (λ l. corner_lines (map corner_of l)) (λ p. corner_line (corner_of p))
unfolding corner_lines
corner-each = record { none = refl; more = λ p l. refl }

-- a corner that the view shows has the next line
pub corner-on : (corners : List (List ℕ)) (i : ℕ) (p : Point) → corner_at corners i ≡ Some p → {out : List ℕ} {at : ℕ} {out₁ : List ℕ} {p₁ : ℕ} {out₂ : List ℕ} {p₂ : ℕ} → length out ≤ 18446744073709551615 → Put out at (corner_lines (map corner_of (take i corners))) out₁ p₁ → Put out₁ p₁ (corner_line p) out₂ p₂ → Put out at (corner_lines (map corner_of (take (i + 1) corners))) out₂ p₂
unfolding corner_of point_at
corner-on corners i p found room a b =
    let within = found_within corners i p found in
    on corner-each corners i [] within.0 room a (rw within.1 b)

pub contour-each : (f : List ℕ → Drawn) → Lines (λ l. contours_lines (map f l)) (λ r. contour_lines (f r))
unfolding contours_lines
contour-each f = record { none = refl; more = λ r l. refl }

-- ---- a contour's pieces

module _ {out₀ : List ℕ} {at : ℕ} (corners : List (List ℕ)) (holes row : List ℕ) (room : length out₀ ≤ 18446744073709551615) (inside : List ℕ) (k : ℕ) (shown : List (List ℕ)) (hi : inside ≡ part holes (get_or row 4 0) (get_or row 5 0)) (hs : shown ≡ part_of corners (get_or row 0 0) (get_or row 1 0)) (hk : k ≡ length shown) where
  pub contour-put : {out₁ : List ℕ} {p₁ : ℕ} {out₂ : List ℕ} {p₂ : ℕ} {out₃ : List ℕ} {p₃ : ℕ} {out₄ : List ℕ} {p₄ : ℕ} {out₅ : List ℕ} {p₅ : ℕ} → Put out₀ at (head_line (parent_of (get_or row 2 0)) (get_or row 3 0)) out₁ p₁ → Put out₁ p₁ (count_line (quoted "holes ") (length inside)) out₂ p₂ → Put out₂ p₂ (hole_lines inside) out₃ p₃ → Put out₃ p₃ (count_line (quoted "points ") k) out₄ p₄ → Put out₄ p₄ (corner_lines (map corner_of shown)) out₅ p₅ → Put out₀ at (contour_lines (drawn_row corners holes row)) out₅ p₅
  unfolding contour_lines drawn_row
  contour-put a b c d e =
      let long : length (map corner_of shown) ≡ k = length-map shown corner_of ∙ sym hk in
      let second = kept a room in
      let third = kept b second in
      let fourth = kept c third in
      let all = then room a (then second b (then third c (then fourth d e))) in
      rw (← hi, ← hs, long) all

-- ---- all contours

limited : (l : List (List ℕ)) (count n : ℕ) → n ≡ min (length l) count → take count l ≡ take n l
limited l count n h = go (dec_lt (length l) count)
  where
    go : Dec (length l < count) → take count l ≡ take n l
    go (yes k) = take_all count l (omega arith) ∙ sym (take_all n l (omega arith))
    go (no k) = let q : count ≡ n = omega arith in ap (λ (m : ℕ). take m l) q

pub drawing-put : {out₀ : List ℕ} (corners : List (List ℕ)) (contours : List (List ℕ)) (holes : List ℕ) (count n : ℕ) → length out₀ ≤ 18446744073709551615 → n ≡ min (length contours) count → {out₁ : List ℕ} {p₁ : ℕ} {out₂ : List ℕ} {p₂ : ℕ} → Put out₀ 0 (count_line (quoted "contours ") n) out₁ p₁ → Put out₁ p₁ (contours_lines (map (drawn_row corners holes) (take n contours))) out₂ p₂ → Put out₀ 0 (printed_arrays corners contours holes count) out₂ p₂
unfolding printed_arrays drawing
drawing-put corners contours holes count n room h a b =
    let same : take count contours ≡ take n contours = limited contours count n h in
    let long : length (map (drawn_row corners holes) (take n contours)) ≡ n = length-map (take n contours) (drawn_row corners holes) ∙ length-take n contours ∙ omega arith in
    rw (same, long) (then room a b)
