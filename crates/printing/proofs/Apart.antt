-- Two different results never print alike: each piece is told apart from what comes after it, so the text is taken apart in one way only.
use Rattle.refusals.specs.Refusals.{number}
use Rattle.refusals.proofs.Numbers.{number-apart, number-small}
use Rattle.std.proofs.Common.{Some, Option, None}
use mathlib.Core.Path.{◌≡◌, refl, sym, ap, ◌∙◌}
use mathlib.Core.List.{List, [], ◌∷◌, ◌++◌, map, append_assoc, append-nil}
use Prim.Native.Nat.{ℕ, ◌<◌}
use native.Mathlib.Omega.{arith}
use lib.ListN.{length, take, drop}
use lib.Seq.{drop_at, drop-append_seam, take_at}
use Rattle.refusals.specs.declared.Refusal.{Refusal}
use Rattle.numbers.specs.declared.Point.{Point}
use Rattle.text.specs.Quoted.{quoted}
use Rattle.text.specs.Digits.{digit_of, value, hex, decimal}
use Rattle.text.proofs.Writing.{digits-length}
use Rattle.text.proofs.Back.{back, decimal-back}
use Rattle.contours.specs.Outline.{Outline}
use Rattle.sheet.specs.Sheet.{CornerFits, count_line, number_bytes}
use Rattle.sheet.specs.Reading.{run, numeral}
use Rattle.sheet.proofs.Fronts.{decimal-some, run-decimal, numeral-front}
use Rattle.printing.specs.Printing.{Drawn, parent_bytes, head_line, hole_lines, corner_line, corner_lines, contour_lines, contours_lines, drawing, drawn, printed, refused_line, refusal_line}
use Rattle.printing.specs.Fitting.{ParentFits, NumbersFit, CornersFit, DrawnFits, AllFit}

-- ---- pieces: what stands in front, and what comes after it

pub word-apart : (w s t : List ℕ) → w ++ s ≡ w ++ t → s ≡ t
word-apart w s t e = sym (drop-append_seam w s) ∙ ap (drop (length w)) e ∙ drop-append_seam w t

-- a number in decimal ends where no digit comes
pub decimal-apart : (m n : ℕ) (s t : List ℕ) → m < 18446744073709551616 → n < 18446744073709551616 → run s ≡ 0 → run t ≡ 0 → decimal m ++ s ≡ decimal n ++ t → (m ≡ n) × (s ≡ t)
decimal-apart m n s t h k x y e =
    let long : length (decimal n) ≡ length (decimal m) = sym (numeral-front n t y (omega arith)) ∙ ap numeral (sym e) ∙ numeral-front m s x (omega arith) in
    let front : decimal m ≡ decimal n = sym (take_at (decimal m) s (length (decimal m)) refl) ∙ ap (take (length (decimal m))) e ∙ take_at (decimal n) t (length (decimal m)) long in
    let both : Some m ≡ Some n = sym (decimal-back m (omega arith)) ∙ ap (value 10 0) front ∙ decimal-back n (omega arith) in
    let same : m ≡ n = cc in
    (same, word-apart (decimal n) s t (ap (λ (k : ℕ). decimal k ++ s) (sym same) ∙ e))

hex-apart : (m n : ℕ) (s t : List ℕ) → m < 18446744073709551616 → n < 18446744073709551616 → hex m ++ s ≡ hex n ++ t → (m ≡ n) × (s ≡ t)
hex-apart m n s t h k e =
    let long = digits-length 16 16 m in
    let wide = digits-length 16 16 n in
    let front : hex m ≡ hex n = sym (take_at (hex m) s 16 long) ∙ ap (take 16) e ∙ take_at (hex n) t 16 wide in
    let both : Some m ≡ Some n = sym (back 16 (omega arith) (omega arith) 16 m h) ∙ ap (value 16 0) front ∙ back 16 (omega arith) (omega arith) 16 n k in
    (cc, sym (drop_at (hex m) s 16 long) ∙ ap (drop 16) e ∙ drop_at (hex n) t 16 wide)

ended : (t : List ℕ) → run (10 ∷ t) ≡ 0
unfolding run digit_of
ended t = refl

-- a word, a number and the line feed
pub line-apart : (w : List ℕ) (m n : ℕ) (s t : List ℕ) → m < 18446744073709551616 → n < 18446744073709551616 → count_line w m ++ s ≡ count_line w n ++ t → (m ≡ n) × (s ≡ t)
unfolding count_line
line-apart w m n s t h k e =
    let open-m : (w ++ (decimal m ++ (10 ∷ []))) ++ s ≡ w ++ (decimal m ++ (10 ∷ s)) = append_assoc w (decimal m ++ (10 ∷ [])) s ∙ ap (λ (l : List ℕ). w ++ l) (append_assoc (decimal m) (10 ∷ []) s) in
    let open-n : (w ++ (decimal n ++ (10 ∷ []))) ++ t ≡ w ++ (decimal n ++ (10 ∷ t)) = append_assoc w (decimal n ++ (10 ∷ [])) t ∙ ap (λ (l : List ℕ). w ++ l) (append_assoc (decimal n) (10 ∷ []) t) in
    let p = decimal-apart m n (10 ∷ s) (10 ∷ t) h k (ended s) (ended t) (word-apart w (decimal m ++ (10 ∷ s)) (decimal n ++ (10 ∷ t)) (sym open-m ∙ e ∙ open-n)) in
    (p.0, ap (drop 1) p.1)

-- ---- a contour's head

-- what comes after a parent begins with a space
parent-apart : (p q : Option ℕ) (s t : List ℕ) → ParentFits p → ParentFits q → run s ≡ 0 → run t ≡ 0 → parent_bytes p ++ s ≡ parent_bytes q ++ t → (p ≡ q) × (s ≡ t)
unfolding parent_bytes quoted run digit_of
parent-apart None None s t h k x y e = (refl, ap (drop 1) e)
parent-apart None (Some q) s t h k x y e =
    let z : 0 ≡ length (decimal q) = ap run e ∙ run-decimal q t y in absurd (omega (arith, decimal-some q))
parent-apart (Some p) None s t h k x y e =
    let z : length (decimal p) ≡ 0 = sym (run-decimal p s x) ∙ ap run e in absurd (omega (arith, decimal-some p))
parent-apart (Some p) (Some q) s t h k x y e = let r = decimal-apart p q s t h k x y e in (ap Some r.0, r.1)

spaced : (d : ℕ) (s : List ℕ) → run (count_line (quoted " depth ") d ++ s) ≡ 0
unfolding run digit_of count_line quoted
spaced d s = refl

head_apart : (p q : Option ℕ) (c d : ℕ) (s t : List ℕ) → ParentFits p → ParentFits q → c < 18446744073709551616 → d < 18446744073709551616 → head_line p c ++ s ≡ head_line q d ++ t → (p ≡ q) × (c ≡ d) × (s ≡ t)
unfolding head_line
head_apart p q c d s t hp hq hc hd e =
    let w = quoted "parent " in
    let tail-c = count_line (quoted " depth ") c in
    let tail-d = count_line (quoted " depth ") d in
    let open-p : (w ++ (parent_bytes p ++ tail-c)) ++ s ≡ w ++ (parent_bytes p ++ (tail-c ++ s)) = append_assoc w (parent_bytes p ++ tail-c) s ∙ ap (λ (l : List ℕ). w ++ l) (append_assoc (parent_bytes p) tail-c s) in
    let open-q : (w ++ (parent_bytes q ++ tail-d)) ++ t ≡ w ++ (parent_bytes q ++ (tail-d ++ t)) = append_assoc w (parent_bytes q ++ tail-d) t ∙ ap (λ (l : List ℕ). w ++ l) (append_assoc (parent_bytes q) tail-d t) in
    let f = parent-apart p q (tail-c ++ s) (tail-d ++ t) hp hq (spaced c s) (spaced d t) (word-apart w (parent_bytes p ++ (tail-c ++ s)) (parent_bytes q ++ (tail-d ++ t)) (sym open-p ∙ e ∙ open-q)) in
    let g = line-apart (quoted " depth ") c d s t hc hd f.1 in
    (f.0, g.0, g.1)

-- ---- lists of lines, as many as their count says

holes-apart : (l m : List ℕ) (s t : List ℕ) → length l ≡ length m → NumbersFit l → NumbersFit m → hole_lines l ++ s ≡ hole_lines m ++ t → (l ≡ m) × (s ≡ t)
unfolding hole_lines
holes-apart [] [] s t n h k e = (refl, e)
holes-apart [] (b ∷ m) s t n h k e = absurd (omega arith)
holes-apart (a ∷ l) [] s t n h k e = absurd (omega arith)
holes-apart (a ∷ l) (b ∷ m) s t n h k e =
    let p = line-apart [] a b (hole_lines l ++ s) (hole_lines m ++ t) h.0 k.0 (sym (append_assoc (count_line [] a) (hole_lines l) s) ∙ e ∙ append_assoc (count_line [] b) (hole_lines m) t) in
    let q = holes-apart l m s t (omega arith) h.1 k.1 p.1 in
    ((λ i. p.0 i ∷ q.0 i), q.1)

corner-apart : (p q : Point) (s t : List ℕ) → CornerFits p → CornerFits q → corner_line p ++ s ≡ corner_line q ++ t → (p ≡ q) × (s ≡ t)
unfolding corner_line number_bytes
corner-apart p q s t h k e =
    let open-p : (hex p.x ++ ((32 ∷ hex p.y) ++ (10 ∷ []))) ++ s ≡ hex p.x ++ (32 ∷ (hex p.y ++ (10 ∷ s))) = append_assoc (hex p.x) ((32 ∷ hex p.y) ++ (10 ∷ [])) s ∙ ap (λ (l : List ℕ). hex p.x ++ (32 ∷ l)) (append_assoc (hex p.y) (10 ∷ []) s) in
    let open-q : (hex q.x ++ ((32 ∷ hex q.y) ++ (10 ∷ []))) ++ t ≡ hex q.x ++ (32 ∷ (hex q.y ++ (10 ∷ t))) = append_assoc (hex q.x) ((32 ∷ hex q.y) ++ (10 ∷ [])) t ∙ ap (λ (l : List ℕ). hex q.x ++ (32 ∷ l)) (append_assoc (hex q.y) (10 ∷ []) t) in
    let f = hex-apart p.x q.x (32 ∷ (hex p.y ++ (10 ∷ s))) (32 ∷ (hex q.y ++ (10 ∷ t))) h.x k.x (sym open-p ∙ e ∙ open-q) in
    let g = hex-apart p.y q.y (10 ∷ s) (10 ∷ t) h.y k.y (ap (drop 1) f.1) in
    ((λ i. record { x = f.0 i; y = g.0 i }), ap (drop 1) g.1)

corners-apart : (l m : List Point) (s t : List ℕ) → length l ≡ length m → CornersFit l → CornersFit m → corner_lines l ++ s ≡ corner_lines m ++ t → (l ≡ m) × (s ≡ t)
unfolding corner_lines
corners-apart [] [] s t n h k e = (refl, e)
corners-apart [] (b ∷ m) s t n h k e = absurd (omega arith)
corners-apart (a ∷ l) [] s t n h k e = absurd (omega arith)
corners-apart (a ∷ l) (b ∷ m) s t n h k e =
    let p = corner-apart a b (corner_lines l ++ s) (corner_lines m ++ t) h.0 k.0 (sym (append_assoc (corner_line a) (corner_lines l) s) ∙ e ∙ append_assoc (corner_line b) (corner_lines m) t) in
    let q = corners-apart l m s t (omega arith) h.1 k.1 p.1 in
    ((λ i. p.0 i ∷ q.0 i), q.1)

-- ---- contours

opened : (d : Drawn) (s : List ℕ) → contour_lines d ++ s ≡ head_line d.parent d.depth ++ (count_line (quoted "holes ") (length d.holes) ++ (hole_lines d.holes ++ (count_line (quoted "points ") (length d.corners) ++ (corner_lines d.corners ++ s))))
unfolding contour_lines
opened d s =
    let head = head_line d.parent d.depth in
    let many = count_line (quoted "holes ") (length d.holes) in
    let holes = hole_lines d.holes in
    let points = count_line (quoted "points ") (length d.corners) in
    let corners = corner_lines d.corners in
    append_assoc head (many ++ (holes ++ (points ++ corners))) s
    ∙ ap (λ (l : List ℕ). head ++ l) (append_assoc many (holes ++ (points ++ corners)) s ∙ ap (λ (l : List ℕ). many ++ l) (append_assoc holes (points ++ corners) s ∙ ap (λ (l : List ℕ). holes ++ l) (append_assoc points corners s)))

contour-apart : (c d : Drawn) (s t : List ℕ) → DrawnFits c → DrawnFits d → contour_lines c ++ s ≡ contour_lines d ++ t → (c ≡ d) × (s ≡ t)
contour-apart c d s t h k e =
    let f = head_apart c.parent d.parent c.depth d.depth _ _ h.parent k.parent h.depth k.depth (sym (opened c s) ∙ e ∙ opened d t) in
    let g = line-apart (quoted "holes ") (length c.holes) (length d.holes) _ _ h.few k.few f.2 in
    let i = holes-apart c.holes d.holes _ _ g.0 h.holes k.holes g.1 in
    let j = line-apart (quoted "points ") (length c.corners) (length d.corners) _ _ h.short k.short i.1 in
    let r = corners-apart c.corners d.corners s t j.0 h.corners k.corners j.1 in
    ((λ x. record { parent = f.0 x; depth = f.1 x; holes = i.0 x; corners = r.0 x }), r.1)

contours-apart : (l m : List Drawn) → length l ≡ length m → AllFit l → AllFit m → contours_lines l ≡ contours_lines m → l ≡ m
unfolding contours_lines
contours-apart [] [] n h k e = refl
contours-apart [] (d ∷ m) n h k e = absurd (omega arith)
contours-apart (c ∷ l) [] n h k e = absurd (omega arith)
contours-apart (c ∷ l) (d ∷ m) n h k e =
    let p = contour-apart c d (contours_lines l) (contours_lines m) h.0 k.0 e in
    let q = contours-apart l m (omega arith) h.1 k.1 p.1 in
    λ i. p.0 i ∷ q i

-- ---- the whole

pub drawing-apart : (l m : List Drawn) → AllFit l → AllFit m → length l < 18446744073709551616 → length m < 18446744073709551616 → drawing l ≡ drawing m → l ≡ m
unfolding drawing
drawing-apart l m h k x y e =
    let p = line-apart (quoted "contours ") (length l) (length m) (contours_lines l) (contours_lines m) x y e in
    contours-apart l m p.0 h k p.1

-- results that print alike are alike in parents, depths, holes and, bit for bit, corners
pub printed-apart : (a b : List (Outline Point)) → AllFit (map drawn a) → AllFit (map drawn b) → length (map drawn a) < 18446744073709551616 → length (map drawn b) < 18446744073709551616 → printed a ≡ printed b → map drawn a ≡ map drawn b
unfolding printed
printed-apart a b h k x y e = drawing-apart (map drawn a) (map drawn b) h k x y e

-- ---- refusals

begins-otherwise : (s t : List ℕ) → quoted "refused " ++ s ≡ quoted "contours " ++ t → ⊥
unfolding quoted
begins-otherwise s t e = let z : ◌≡◌ {A = ℕ} 114 99 = cc in omega arith

-- a refusal prints as no contours do, whatever its number
pub refused-no-drawing : (told place : ℕ) (l : List Drawn) → refused_line told place ≡ drawing l → ⊥
unfolding refused_line drawing count_line
refused-no-drawing told place l e =
    begins-otherwise (decimal told ++ count_line (quoted " at ") place) ((decimal (length l) ++ (10 ∷ [])) ++ contours_lines l) (e ∙ append_assoc (quoted "contours ") (decimal (length l) ++ (10 ∷ [])) (contours_lines l))

pub refusal-no-drawing : (r : Refusal) (l : List Drawn) → refusal_line r ≡ drawing l → ⊥
unfolding refusal_line
refusal-no-drawing r = refused-no-drawing (number r.reason) r.place

at_place : (d : ℕ) → run (count_line (quoted " at ") d) ≡ 0
unfolding run digit_of count_line quoted
at_place d = refl

-- .. and as no other refusal does
pub refused-apart : (m n p q : ℕ) → m < 18446744073709551616 → n < 18446744073709551616 → p < 18446744073709551616 → q < 18446744073709551616 → refused_line m p ≡ refused_line n q → (m ≡ n) × (p ≡ q)
unfolding refused_line
refused-apart m n p q h k x y e =
    let f = decimal-apart m n (count_line (quoted " at ") p) (count_line (quoted " at ") q) h k (at_place p) (at_place q) (word-apart (quoted "refused ") (decimal m ++ count_line (quoted " at ") p) (decimal n ++ count_line (quoted " at ") q) e) in
    let g = line-apart (quoted " at ") p q [] [] x y (append-nil (count_line (quoted " at ") p) ∙ f.1 ∙ sym (append-nil (count_line (quoted " at ") q))) in
    (f.0, g.0)

pub refusal-apart : (q r : Refusal) → q.place < 18446744073709551616 → r.place < 18446744073709551616 → refusal_line q ≡ refusal_line r → q ≡ r
unfolding refusal_line
refusal-apart q r x y e =
    let p = refused-apart (number q.reason) (number r.reason) q.place r.place (number-small q.reason) (number-small r.reason) x y e in
    let same = number-apart q.reason r.reason p.0 in
    λ i. record { reason = same i; place = p.1 i }
