-- What is printed after connection is the text of its outlines: the arrays hold them, and behind them what was lent.
use Rattle.std.proofs.Common.{Option, None, Some}
use mathlib.Core.Path.{◌≡◌, refl, sym, ap, ◌∙◌}
use mathlib.Core.List.{List, [], ◌∷◌, ◌++◌, map}
use Prim.Native.Nat.{ℕ, ◌+◌, ◌≤◌}
use native.Mathlib.Numerals.{add-one}
use native.Mathlib.Omega.{arith}
use lib.ListN.{length, take, drop}
use lib.Seq.{take-append_seam}
use Rattle.numbers.specs.declared.Point.{Point}
use Rattle.contours.specs.Outline.{Outline, corner_count, hole_count}
use Rattle.rows.specs.Rows.{point_code}
use Rattle.starts.specs.Starts.{code_of}
use Rattle.tracing.specs.Tracing.{corners_in, holes_in, row_in, rows_in}
use Rattle.lists.proofs.Fronts.{sets-front}
use Rattle.connection.specs.Connection.{Lent, written}
use Rattle.connection.proofs.Shown.{corners-count, holes-count, rows-count}
use Rattle.printing.specs.Printing.{printed}
use Rattle.printing.specs.Arrays.{printed_arrays, number_of, rows_from, numbers_of, all_corners, all_holes}
use Rattle.printing.proofs.Held.{held}

-- ---- the arrays of connection are those that printing speaks of

points-same : (l : List Point) → map point_code l ≡ map numbers_of l
unfolding point_code numbers_of
points-same [] = refl
points-same (p ∷ l) = ap (λ (m : List (List ℕ)). numbers_of p ∷ m) (points-same l)

corners-same : (os : List (Outline Point)) → corners_in os ≡ all_corners os
unfolding corners_in all_corners
corners-same [] = refl
corners-same (o ∷ os) = rw (points-same o.corners, corners-same os)

holes-same : (os : List (Outline Point)) → holes_in os ≡ all_holes os
unfolding holes_in all_holes
holes-same [] = refl
holes-same (o ∷ os) = rw (holes-same os)

code_same : (p : Option ℕ) → code_of p ≡ number_of p
unfolding code_of number_of
code_same None = refl
code_same (Some p) = add-one p

rows_same : (c h : ℕ) (os : List (Outline Point)) → rows_in c h os ≡ rows_from c h os
unfolding rows_in row_in rows_from
rows_same c h [] = refl
rows_same c h (o ∷ os) = rw (code_same o.parent, rows_same (c + length o.corners) (h + length o.holes) os)

-- ---- the text

pub text-is : (os : List (Outline Point)) (l : Lent) → length os ≤ length l.contours → corner_count os ≤ length l.corners → hole_count os ≤ length l.holes
    → printed_arrays (written os l).corners (written os l).contours (written os l).holes (length os) ≡ printed os
unfolding written
text-is os l h k m =
    held os _ _ _ _ _ (length os)
    (sets-front l.corners (corners_in os) (omega (arith, corners-count os)) ∙ ap (λ (v : List (List ℕ)). v ++ drop (length (corners_in os)) l.corners) (corners-same os))
    (sets-front l.holes (holes_in os) (omega (arith, holes-count os)) ∙ ap (λ (v : List ℕ). v ++ drop (length (holes_in os)) l.holes) (holes-same os))
    (ap (take (length os)) (sets-front l.contours (rows_in 0 0 os) (omega (arith, rows-count 0 0 os)))
    ∙ ap (λ (n : ℕ). take n (rows_in 0 0 os ++ drop (length (rows_in 0 0 os)) l.contours)) (sym (rows-count 0 0 os))
    ∙ take-append_seam (rows_in 0 0 os) _
    ∙ rows_same 0 0 os)
