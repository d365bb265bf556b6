-- What the two steps leave in the arrays is what the outlines of the definition make there.
use Rattle.refusals.specs.Refusals.{number}
use Rattle.std.proofs.Common.{Option, None, Some}
use mathlib.Core.Path.{◌≡◌, refl, sym, ap, ◌∙◌, fun_ext}
use mathlib.Core.Bool.{Bool, true, false, cond, ◌&&◌}
use mathlib.Core.List.{List, [], ◌∷◌, ◌++◌, map}
use Prim.Native.Nat.{ℕ, zero, suc, ◌+◌, ◌≤◌, ◌<◌}
use native.Mathlib.Omega.{arith}
use borrow.Author.Tests.{le-leb, leb-true, eq-eqb, ne_eqb, eqb-true, eqb-false}
use lib.ListN.{length, get_or, length-append, length-map}
use lib.Seq.{sets}
use lib.Dec.{eqb, leb}
use Rattle.numbers.specs.declared.Point.{Point}
use Rattle.events.specs.Coordinates.{same}
use Rattle.events.specs.Binary64.{at_binary64}
use Rattle.checks.specs.Checks.{max_events}
use Rattle.checks.specs.Numbers.{numbers_from}
use Rattle.contours.specs.Result.{keep}
use Rattle.contours.specs.Table.{Row, row_at}
use Rattle.contours.specs.Walk.{corners}
use Rattle.contours.specs.Contours.{Contour, contour, Answer, done, halted, trail_at, trace}
use Rattle.contours.specs.Outline.{Outline, is_parent, holes_of, outline, outlines_from, outlines, open_count, corner_count, hole_count}
use Rattle.contours.proofs.Turns.{Ends, trace-end}
use Rattle.contours.proofs.Amount.{outline-count}
use Rattle.rows.specs.Rows.{Rows, size, point_code, void, table_row}
use Rattle.walks.specs.Walks.{corners_of, unclosed_trail}
use Rattle.starts.specs.Starts as S
use Rattle.starts.specs.Starts.{turn_of, code_of, all_corners, nest_of, nests_from, unclosed_count, sheet_of, answer_of}
use Rattle.starts.specs.Steps.{blank}
use Rattle.starts.proofs.Starts.{nest-get, there}
use Rattle.holes.specs.Holes.{nest_in, holes_at, contour_row, contour_rows, all_holes, held_from, holed_on}
use Rattle.tracing.specs.declared.Traced.{Traced}
use Rattle.tracing.specs.Tracing.{sheet, told, corners_in, holes_in, row_in, rows_in, written, answered, traced_all, fits, traced_on}
use Rattle.tracing.specs.Parts.{joined, holed, traced_by}

-- ---- corners, and how many contours are open

module _ (t : Rows) (all : List Contour) where
  abbrev outs : ℕ → List Contour → List (Outline Point)
  outs c l = outlines_from (same at_binary64) (size t) (table_row t) all c l

  abbrev corners_by : Contour → List Point
  corners_by k = corners (same at_binary64) (size t) (table_row t) k.trail

  corners-long : (k : Contour) → length (corners_of t k.trail) ≡ length (corners_by k)
  unfolding corners_of
  corners-long k = length-map (corners_by k) point_code

  corners-are : (c : ℕ) (l : List Contour) → all_corners t l ≡ corners_in (outs c l)
  unfolding all_corners corners_of corners_in outlines_from outline
  corners-are c [] = refl
  corners-are c (k ∷ l) = ap (λ (x : List (List ℕ)). map point_code (corners_by k) ++ x) (corners-are (suc c) l)

  corners-count : (c : ℕ) (l : List Contour) → length (all_corners t l) ≡ corner_count (outs c l)
  unfolding all_corners corner_count outlines_from outline
  corners-count c [] = refl
  corners-count c (k ∷ l) = omega (arith, length-append (corners_of t k.trail) (all_corners t l), corners-long k, corners-count (suc c) l)

  unclosed-are : (c : ℕ) (l : List Contour) → unclosed_count t l ≡ open_count (outs c l)
  unfolding unclosed_count unclosed_trail open_count keep outlines_from outline
  unclosed-are c [] = refl
  unclosed-are c (k ∷ l) = go (unclosed_trail t k.trail) (unclosed-are (suc c) l)
    where
      kept : List Contour
      kept = keep (λ k. unclosed_trail t k.trail) l

      open-ones : List (Outline Point)
      open-ones = keep (λ o. o.unclosed) (outs (suc c) l)

      go : (b : Bool) → length kept ≡ length open-ones → length (cond b (k ∷ kept) kept) ≡ length (cond b (outline (same at_binary64) (size t) (table_row t) all c k ∷ open-ones) open-ones)
      go true h = ap suc h
      go false h = h

-- ---- holes

keep_same : (f g : ℕ → Bool) (m j : ℕ) → ((i : ℕ) → i < j + m → f i ≡ g i) → keep f (numbers_from j m) ≡ keep g (numbers_from j m)
unfolding keep numbers_from
keep_same f g zero j h = refl
keep_same f g (suc m) j h = rw (h j (omega arith), keep_same f g m (suc j) (λ i l. h i (omega arith)))

parent_is : (c : ℕ) (p : Option ℕ) → eqb (code_of p) (c + 1) ≡ is_parent c p
unfolding code_of is_parent
parent_is c None = ne_eqb 0 (c + 1) (λ z. omega arith)
parent_is c (Some p) = go (eqb p c) refl
  where
    go : (b : Bool) → eqb p c ≡ b → eqb (p + 1) (c + 1) ≡ b
    go true e = eq-eqb (p + 1) (c + 1) (omega (arith, eqb-true p c e))
    go false e = ne_eqb (p + 1) (c + 1) (λ z. eqb-false p c e (omega arith))

module _ (t : Rows) (ns : List (List ℕ)) (cs : List Contour) (room : length cs ≤ length ns) where
  abbrev N : List (List ℕ)
  N = sets ns 0 (nests_from t 0 cs)

  nest-is : (j : ℕ) → j < length cs → nest_in N j ≡ get_or (nests_from t 0 cs) j blank
  unfolding nest_in
  nest-is j l = there t ns cs room j l

  holes-are : (c : ℕ) → holes_at N c (length cs) 0 ≡ holes_of cs c
  unfolding holes_at holes_of
  holes-are c = keep_same _ _ (length cs) 0 (λ i l. rw (nest-is i (omega arith), (nest-get t 0 cs i).0) (parent_is c (get_or cs i (contour [] None 0)).parent))

  module _ (n : ℕ) (q : n ≡ length cs) where
    holes-at : (c : ℕ) → holes_at N c n 0 ≡ holes_of cs c
    holes-at c = rw q (holes-are c)

    -- the holes of the contours l, which are those from c on
    all-holes : (c : ℕ) (l : List Contour) → all_holes N n (length l) c ≡ holes_in (outs t cs c l)
    unfolding all_holes holes_in outlines_from outline
    all-holes c [] = refl
    all-holes c (k ∷ l) = rw (holes-at c, all-holes (suc c) l)

    holes-count : (c : ℕ) (l : List Contour) → length (holes_in (outs t cs c l)) ≡ hole_count (outs t cs c l)
    unfolding holes_in hole_count outlines_from outline
    holes-count c [] = refl
    holes-count c (k ∷ l) = omega (arith, length-append (holes_of cs c) (holes_in (outs t cs (suc c) l)), holes-count (suc c) l)

    -- ---- the rows

    row_is : (c e h : ℕ) (k : Contour) → nest_in N c ≡ nest_of t e k → contour_row N n c h ≡ row_in e h (outline (same at_binary64) (size t) (table_row t) cs c k)
    unfolding contour_row nest_of row_in outline
    row_is c e h k f = rw (f, holes-at c, corners-long t cs k)

    rows_are : (c e h : ℕ) (l : List Contour) → ((j : ℕ) → j < length l → nest_in N (c + j) ≡ get_or (nests_from t e l) j blank) → contour_rows N n (length l) c h ≡ rows_in e h (outs t cs c l)
    unfolding contour_rows rows_in outlines_from outline nests_from
    rows_are c e h [] f = refl
    rows_are c e h (k ∷ l) f =
        let z : c + 0 ≡ c = omega arith in
        let f0 : nest_in N c ≡ nest_of t e k = rw z at (f 0 (omega arith)) in
        let here : contour_row N n c h ≡ row_in e h (outline (same at_binary64) (size t) (table_row t) cs c k) = row_is c e h k f0 in
        let next : contour_rows N n (length l) (suc c) (h + length (holes_at N c n 0)) ≡ rows_in (e + length (corners_of t k.trail)) (h + length (holes_at N c n 0)) (outs t cs (suc c) l) =
        rows_are (suc c) (e + length (corners_of t k.trail)) (h + length (holes_at N c n 0)) l (λ j i. let s : suc c + j ≡ c + suc j = omega arith in rw s (f (suc j) (omega arith)))
        in
        rw (here, next, holes-at c, corners-long t cs k)

-- ---- all of it

sheets : {m : List ℕ} {o o' : List (List ℕ)} {k k' : List (List ℕ)} {h h' : List ℕ} {r r' : Traced} → o ≡ o' → k ≡ k' → h ≡ h' → r ≡ r' → sheet m o k h r ≡ sheet m o' k' h' r'
sheets a b c d = rw (a, b, c, d)

tells : {k k' c c' h h' u u' : ℕ} (s p : ℕ) → k ≡ k' → c ≡ c' → h ≡ h' → u ≡ u' → told k c h u s p ≡ told k' c' h' u' s p
tells s p a b c d = rw (a, b, c, d)

module _ (t : Rows) (out : List (List ℕ)) (ks : List (List ℕ)) (hs : List ℕ) (ns : List (List ℕ)) where
  abbrev outs_of : List Contour → List (Outline Point)
  outs_of cs = outlines (same at_binary64) (size t) (table_row t) cs

  holed-is : (ms : List ℕ) (cs : List Contour) (stop place : ℕ) → length cs ≤ max_events → length cs ≤ length ns
      → holed ks hs (sheet_of t out ns ms cs stop place) ≡ written out ks hs ms (outs_of cs) stop place
  unfolding holed joined holed_on held_from sheet_of written outlines
  holed-is ms cs stop place l room =
      rw (le-leb (length cs) max_events l)
      (sheets
      (ap (sets out 0) (corners-are t cs 0 cs))
      (ap (sets ks 0) rows)
      (ap (sets hs 0) holes)
      (tells stop place (sym (outline-count (same at_binary64) (size t) (table_row t) cs cs 0)) (corners-count t cs 0 cs) ends (unclosed-are t cs 0 cs)))
    where
      rows : contour_rows (N t ns cs room) (length cs) (length cs) 0 0 ≡ rows_in 0 0 (outs t cs 0 cs)
      rows = rows_are t ns cs room (length cs) refl 0 0 0 cs (λ j i. let z : 0 + j ≡ j = omega arith in rw z (nest-is t ns cs room j i))

      holes : all_holes (N t ns cs room) (length cs) (length cs) 0 ≡ holes_in (outs t cs 0 cs)
      holes = all-holes t ns cs room (length cs) refl 0 cs

      ends : 0 + length (all_holes (N t ns cs room) (length cs) (length cs) 0) ≡ hole_count (outs t cs 0 cs)
      ends = omega (arith, ap length holes, holes-count t ns cs room (length cs) refl 0 cs)

  -- no contour without a position that starts it
  few : Ends (size t) (λ i ms cs. length cs ≤ i) (trace (same at_binary64) (size t) (table_row t))
  few =
      trace-end (same at_binary64) (size t) (table_row t) (λ i ms cs. length cs ≤ i) (λ i ms cs l h o. omega arith)
      (λ i ms cs p d l h o. omega (arith, h, length-append cs (contour (trail_at (same at_binary64) (size t) (table_row t) i (length cs) ms) p d ∷ []))) (omega arith)

  answered-is : size t ≤ max_events → size t ≤ length ns → (a : Answer) → Ends (size t) (λ i ms cs. length cs ≤ i) a → holed ks hs (answer_of t out ns a) ≡ answered (size t) (table_row t) out ks hs a
  unfolding answer_of answered
  answered-is h r (done ms cs) l = holed-is ms cs 0 0 (omega arith) (omega arith)
  answered-is h r (halted reason i ms cs) l = holed-is ms cs (number reason) i (omega (arith, l.1, l.2)) (omega (arith, l.1, l.2))

  nothing_is : (ms : List ℕ) → holed ks hs (S.sheet ms out ns (turn_of 0 0 0 0 0)) ≡ sheet ms out ks hs (told 0 0 0 0 0 0)
  unfolding holed joined holed_on held_from contour_rows all_holes
  nothing_is ms = refl

  -- the two steps, with places enough for what is kept between them of a table within the limit
  pub traced_is : (ms : List ℕ) → (size t ≤ max_events → size t ≤ length ns) → traced_by t ms out ks hs ns ≡ traced_on t ms out ks hs
  unfolding traced_by traced_on traced_all S.traced_on S.fits fits
  traced_is ms r = go (leb (size t) max_events) (eqb (length ms) (size t)) refl
    where
      A : Answer
      A = trace (same at_binary64) (size t) (table_row t)

      go : (a b : Bool) → leb (size t) max_events ≡ a
          → holed ks hs (cond (a && (b && leb (size t) (length ns))) (answer_of t out ns A) (S.sheet ms out ns (turn_of 0 0 0 0 0))) ≡ cond (a && b) (answered (size t) (table_row t) out ks hs A) (sheet ms out ks hs (told 0 0 0 0 0 0))
      go true true e =
          let l : size t ≤ max_events = leb-true (size t) max_events e in
          rw (le-leb (size t) (length ns) (r l)) (answered-is l (r l) A few)
      go true false e = nothing_is ms
      go false b e = nothing_is ms

-- ---- for a caller

-- the arrays hold a table: what is traced is what the definition traces of it
pub of-table : (t : Rows) (rs : List (Row Point)) (ms : List ℕ) (out : List (List ℕ)) (ks : List (List ℕ)) (hs : List ℕ) → size t ≡ length rs → ((i : ℕ) → table_row t i ≡ row_at void rs i)
    → length rs ≤ max_events → length ms ≡ length rs → traced_on t ms out ks hs ≡ traced_all (length rs) (row_at void rs) out ks hs
unfolding traced_on fits
of-table t rs ms out ks hs n r l m =
    let e : table_row t ≡ row_at void rs = fun_ext r in
    rw (le-leb (size t) max_events (omega arith), eq-eqb (length ms) (size t) (omega arith)) (ap (λ (k : ℕ). traced_all k (table_row t) out ks hs) n ∙ ap (λ (f : ℕ → Row Point). traced_all (length rs) f out ks hs) e)
