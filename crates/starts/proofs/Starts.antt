-- What the code traces is what the definition traces: the arrays hold the contours so far, so that what is read back of one is what it is.
use Rattle.std.proofs.Common.{Option, None, Some}
use mathlib.Core.Path.{◌≡◌, refl, sym, ap, ◌∙◌}
use Rattle.refusals.specs.declared.Reason.TheVariants as Reason
use mathlib.Core.Bool.{Bool, true, false, cond}
use mathlib.Core.List.{List, [], ◌∷◌, ◌++◌, append_assoc, append-nil}
use Prim.Native.Nat.{ℕ, zero, suc, ◌+◌, ◌≤◌, ◌<◌}
use native.Mathlib.Numerals.{add-one, sub-one}
use native.Mathlib.Nat.{add-zero, zero-add}
use native.Mathlib.Decide.{dec_lt}
use native.Mathlib.Omega.{arith}
use borrow.Author.Tests.{le-ltb, lt-ltb, ne_eqb}
use lib.ListN.{length, get_or, set, length-append, replicate, get_or-append, get_or-eq_default}
use lib.Seq.{sets, sets-eq}
use lib.Dec.{eqb, ltb}
use Rattle.events.specs.Coordinates.{same}
use Rattle.events.specs.Binary64.{at_binary64}
use Rattle.contours.specs.Result.{keep}
use Rattle.contours.specs.Table.{Below}
use Rattle.contours.specs.Round.{is_open}
use Rattle.contours.specs.Walk.{walk}
use Rattle.contours.specs.Contours.{Contour, contour, Answer, halted, Place, refuse, placed, hole, under, loose, owned, context, turn, make, turns, trace}
use Rattle.rows.specs.Rows.{Rows, size, end_at, below_of, table_row, row_of}
use Rattle.rows.proofs.Lists.{sets-append}
use Rattle.round.specs.Block.{in_order}
use Rattle.round.specs.Round.{mark_in}
use Rattle.round.proofs.InOrder.{tried-is}
use Rattle.walks.specs.Walks.{trail_from, corners_of, unclosed_trail, marks_of, walked_along, walked_from}
use Rattle.walks.proofs.Walks.{trail-from}
use Rattle.starts.specs.declared.Turn.{Turn}
use Rattle.starts.specs.declared.context.Place.{Place as Found}
use Rattle.starts.specs.Starts.{Sheet, sheet, turn_of, code_of, all_corners, nest_of, nests_from, unclosed_count, sheet_of, answer_of}
use Rattle.starts.specs.Steps.{place, mark_below, blank, nest_at, above, above_mark, context_of, ended, made_at, place_at, start_at, after, starts}

-- ---- one contour more at the end

abbrev void : Contour
void = contour [] None 0

module _ (t : Rows) where
  corners-snoc : (cs : List Contour) (k : Contour) → all_corners t (cs ++ (k ∷ [])) ≡ all_corners t cs ++ corners_of t k.trail
  unfolding all_corners
  corners-snoc [] k = append-nil (corners_of t k.trail)
  corners-snoc (x ∷ cs) k = rw (corners-snoc cs k, append_assoc)

  nests-snoc : (e : ℕ) (cs : List Contour) (k : Contour) → nests_from t e (cs ++ (k ∷ [])) ≡ nests_from t e cs ++ (nest_of t (e + length (all_corners t cs)) k ∷ [])
  unfolding nests_from all_corners
  nests-snoc e [] k = rw add-zero
  nests-snoc e (x ∷ cs) k =
      ap (λ (l : List (List ℕ)). nest_of t e x ∷ l)
      (nests-snoc (e + length (corners_of t x.trail)) cs k
      ∙ ap (λ (n : ℕ). nests_from t (e + length (corners_of t x.trail)) cs ++ (nest_of t n k ∷ [])) (omega (arith, length-append (corners_of t x.trail) (all_corners t cs))))

  pub nests-long : (e : ℕ) (cs : List Contour) → length (nests_from t e cs) ≡ length cs
  unfolding nests_from
  nests-long e [] = refl
  nests-long e (x ∷ cs) = ap suc (nests-long (e + length (corners_of t x.trail)) cs)

  unclosed-snoc : (cs : List Contour) (k : Contour) → unclosed_count t cs + cond (unclosed_trail t k.trail) 1 0 ≡ unclosed_count t (cs ++ (k ∷ []))
  unfolding unclosed_count keep
  unclosed-snoc [] k = go (unclosed_trail t k.trail)
    where
      go : (b : Bool) → 0 + cond b 1 0 ≡ length (cond b (k ∷ []) [])
      go true = omega arith
      go false = omega arith
  unclosed-snoc (x ∷ cs) k = go (unclosed_trail t x.trail) (unclosed-snoc cs k)
    where
      kept : List Contour → List Contour
      kept l = keep (λ k. unclosed_trail t k.trail) l

      one : ℕ
      one = cond (unclosed_trail t k.trail) 1 0

      go : (b : Bool) → length (kept cs) + one ≡ length (kept (cs ++ (k ∷ []))) → length (cond b (x ∷ kept cs) (kept cs)) + one ≡ length (cond b (x ∷ kept (cs ++ (k ∷ []))) (kept (cs ++ (k ∷ []))))
      go true h = omega arith
      go false h = h

  -- ---- a contour that was stored is read back

  pub nest-get : (e : ℕ) (cs : List Contour) (j : ℕ) → (get_or (get_or (nests_from t e cs) j blank) 2 0 ≡ code_of (get_or cs j void).parent) × (get_or (get_or (nests_from t e cs) j blank) 3 0 ≡ (get_or cs j void).depth)
  unfolding nests_from nest_of code_of
  nest-get e [] j = (refl, refl)
  nest-get e (x ∷ cs) zero = (refl, refl)
  nest-get e (x ∷ cs) (suc j) = nest-get (e + length (corners_of t x.trail)) cs j

  module _ (ns : List (List ℕ)) (cs : List Contour) (room : length cs ≤ length ns) where
    pub there : (j : ℕ) → j < length cs → get_or (sets ns 0 (nests_from t 0 cs)) j blank ≡ get_or (nests_from t 0 cs) j blank
    there j l =
        rw (sets-eq (nests_from t 0 cs) ns 0 (omega (arith, nests-long 0 cs)))
        (get_or-append (nests_from t 0 cs) _ blank j (omega (arith, nests-long 0 cs)))

    stored : (j : ℕ) → nest_at (sets ns 0 (nests_from t 0 cs)) (length cs) j ≡ get_or (nests_from t 0 cs) j blank
    unfolding nest_at
    stored j = go (dec_lt j (length cs))
      where
        go : Dec (j < length cs) → cond (ltb j (length cs)) (get_or (sets ns 0 (nests_from t 0 cs)) j blank) blank ≡ get_or (nests_from t 0 cs) j blank
        go (yes l) = rw (lt-ltb j (length cs) l) (there j l)
        go (no l) = rw (le-ltb j (length cs) (omega arith)) (sym (get_or-eq_default (nests_from t 0 cs) blank {n = j} (omega (arith, nests-long 0 cs))))

    -- parent and depth as the code has them
    abbrev found_of : Place → Found
    found_of refuse = place true 0 0
    found_of (placed p d) = place false (code_of p) d

    above-is : (b : Bool) (c : ℕ) → above b (suc c) (get_or (nests_from t 0 cs) c blank) ≡ found_of (under b c (get_or cs c void))
    unfolding above under hole code_of
    above-is false c = rw (nest-get 0 cs c).1
    above-is true c = rw ((nest-get 0 cs c).0, (nest-get 0 cs c).1) (go (get_or cs c void).parent)
      where
        go : (p : Option ℕ) → cond (eqb (code_of p) 0) (place false (suc c) ((get_or cs c void).depth + 1)) (place false (code_of p) (get_or cs c void).depth) ≡ found_of (hole p c (get_or cs c void).depth)
        go None = rw (add-one, add-one)
        go (Some q) = rw (ne_eqb (q + 1) 0 (λ z. omega arith))

    context-is : (ms : List ℕ) (w : ℕ) (b : Bool) → context_of ms (sets ns 0 (nests_from t 0 cs)) (length cs) w b ≡ found_of (context ms cs (below_of w b))
    unfolding context_of above_mark mark_below context owned loose below_of code_of
    context-is ms zero b = refl
    context-is ms (suc w) b = rw (ne_eqb (suc w) 0 (λ z. omega arith), sub-one) (go (get_or ms w 0))
      where
        lone : (b : Bool) → place b 0 0 ≡ found_of (loose b)
        lone true = refl
        lone false = refl

        go : (m : ℕ) → above_mark (sets ns 0 (nests_from t 0 cs)) (length cs) b m ≡ found_of (owned b cs m)
        go zero = lone b
        go (suc c) = rw (ne_eqb (suc c) 0 (λ z. omega arith), sub-one, stored c) (above-is b c)

-- ---- all positions

sheets : {m m' : List ℕ} {o o' : List (List ℕ)} {k k' : List (List ℕ)} {s s' : Turn} → m ≡ m' → o ≡ o' → k ≡ k' → s ≡ s' → sheet m o k s ≡ sheet m' o' k' s'
sheets a b c d = rw (a, b, c, d)

turns-eq : {c c' e e' u u' : ℕ} (s p : ℕ) → c ≡ c' → e ≡ e' → u ≡ u' → turn_of c e u s p ≡ turn_of c' e' u' s p
turns-eq s p a b d = rw (a, b, d)

module _ (t : Rows) (near : Bool) (out : List (List ℕ)) (ns : List (List ℕ)) where
  made-is : (ms : List ℕ) (cs : List Contour) (i : ℕ) (p : Option ℕ) (d : ℕ)
      → made_at t near (sheet_of t out ns ms cs 0 0) i (code_of p) d ≡ sheet_of t out ns (marks_of t (length cs) ms (trail_from t near (length cs) i ms)) (cs ++ (contour (trail_from t near (length cs) i ms) p d ∷ [])) 0 0
  unfolding made_at ended sheet_of walked_from walked_along nest_of
  made-is ms cs i p d = sheets refl points places (turns-eq 0 0 count end (unclosed-snoc t cs k))
    where
      T : List ℕ
      T = trail_from t near (length cs) i ms

      k : Contour
      k = contour T p d

      e : ℕ
      e = length (all_corners t cs)

      points : sets (sets out 0 (all_corners t cs)) e (corners_of t T) ≡ sets out 0 (all_corners t (cs ++ (k ∷ [])))
      points =
          sym
          (ap (sets out 0) (corners-snoc t cs k)
          ∙ sets-append out 0 (all_corners t cs) (corners_of t T)
          ∙ ap (λ (n : ℕ). sets (sets out 0 (all_corners t cs)) n (corners_of t T)) (zero-add e))

      places : set (sets ns 0 (nests_from t 0 cs)) (length cs) (e ∷ (e + length (corners_of t T)) ∷ code_of p ∷ d ∷ []) ≡ sets ns 0 (nests_from t 0 (cs ++ (k ∷ [])))
      places =
          sym
          (ap (sets ns 0) (nests-snoc t 0 cs k)
          ∙ sets-append ns 0 (nests_from t 0 cs) (nest_of t (0 + e) k ∷ [])
          ∙ ap (λ (n : ℕ). set (sets ns 0 (nests_from t 0 cs)) n (nest_of t (0 + e) k)) (omega (arith, nests-long t 0 cs))
          ∙ ap (λ (n : ℕ). set (sets ns 0 (nests_from t 0 cs)) (length cs) (n ∷ (n + length (corners_of t T)) ∷ code_of p ∷ d ∷ [])) (zero-add e))

      count : length cs + 1 ≡ length (cs ++ (k ∷ []))
      count = sym (length-append cs (k ∷ []))

      end : e + length (corners_of t T) ≡ length (all_corners t (cs ++ (k ∷ [])))
      end = sym (ap length (corners-snoc t cs k) ∙ length-append (all_corners t cs) (corners_of t T))

  -- where the points stand in order if `near`
  module _ (o : near ≡ in_order t.at 0 (size t)) where
    starts-are : (k i : ℕ) (ms : List ℕ) (cs : List Contour) → length cs ≤ i → i + k ≡ size t → size t ≤ length ns
        → starts t near k i (sheet_of t out ns ms cs 0 0) ≡ answer_of t out ns (turns (same at_binary64) (size t) (table_row t) k i ms cs)
    unfolding starts start_at place_at turns turn make is_open answer_of sheet_of table_row row_of after mark_in marks_of
    starts-are zero i ms cs a b c = refl
    starts-are (suc k) i ms cs a b c =
        ap next (ap (λ (f : Found). cond (eqb (get_or ms i 1) 0) (place_at t near S i f) S) (context-is t ns cs (omega arith) ms (end_at t i).below (end_at t i).out_in))
        ∙ go (get_or ms i 1) (λ ms' cs' x. starts-are k (i + 1) ms' cs' x (omega arith) c)
      where
        S : Sheet
        S = sheet_of t out ns ms cs 0 0

        B : Below
        B = below_of (end_at t i).below (end_at t i).out_in

        next : Sheet → Sheet
        next s = after t near (starts t near k (i + 1)) s

        Rest : Type 0
        Rest = (ms' : List ℕ) (cs' : List Contour) → length cs' ≤ i + 1 → starts t near k (i + 1) (sheet_of t out ns ms' cs' 0 0) ≡ answer_of t out ns (turns (same at_binary64) (size t) (table_row t) k (i + 1) ms' cs')

        -- the contour's trail, as the definition has it
        T : List ℕ
        T = walk (same at_binary64) (size t) (table_row t) (size t) (table_row t i).point (length cs) ms i

        more : Option ℕ → ℕ → Answer
        more p d = turns (same at_binary64) (size t) (table_row t) k (i + 1) (marks_of t (length cs) ms T) (cs ++ (contour T p d ∷ []))

        placing : (w : Place) → Rest → next (place_at t near S i (found_of t ns cs (omega arith) w)) ≡ answer_of t out ns (make w (halted Reason.Loose i ms cs) more)
        placing refuse r = refl
        placing (placed p d) r =
            ap next (made-is ms cs i p d ∙ ap (λ (l : List ℕ). sheet_of t out ns (marks_of t (length cs) ms l) (cs ++ (contour l p d ∷ [])) 0 0) (trail-from t near (tried-is t near (λ h. sym o ∙ h)) (length cs) i ms))
            ∙ r (marks_of t (length cs) ms T) (cs ++ (contour T p d ∷ [])) (omega (arith, length-append cs (contour T p d ∷ [])))

        go : (m : ℕ) → Rest → next (cond (eqb m 0) (place_at t near S i (found_of t ns cs (omega arith) (context ms cs B))) S)
            ≡ answer_of t out ns (turn (is_open m) (λ _. make (context ms cs B) (halted Reason.Loose i ms cs) more) (λ _. turns (same at_binary64) (size t) (table_row t) k (i + 1) ms cs))
        go zero r = placing (context ms cs B) r
        go (suc m) r = rw (ne_eqb (suc m) 0 (λ z. omega arith)) (r ms cs (omega arith))

    -- from no mark at all
    pub trace_is : (m : ℕ) → m ≡ size t → size t ≤ length ns → starts t near (size t) 0 (sheet (replicate m 0) out ns (turn_of 0 0 0 0 0)) ≡ answer_of t out ns (trace (same at_binary64) (size t) (table_row t))
    unfolding trace sheet_of all_corners nests_from unclosed_count keep
    trace_is m e h = rw e (starts-are (size t) 0 (replicate (size t) 0) [] (omega arith) (omega arith) h)
