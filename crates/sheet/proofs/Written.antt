-- What is written in front is read, and what is read in front was written: lines and layers.
use Rattle.std.proofs.Common.{None, Option, Some}
use mathlib.Core.Path.{◌≡◌, refl, sym, ap, ◌∙◌, subst₂}
use mathlib.Core.Bool.{Bool, true, false, cond, or-true}
use mathlib.Core.List.{List, [], ◌∷◌, ◌++◌, append_assoc}
use Prim.Native.Nat.{ℕ, zero, suc, ◌+◌, ◌≤◌, ◌<◌}
use native.Mathlib.Omega.{arith}
use borrow.Author.Tests.{le-ltb, ne_eqb, eqb-false}
use lib.Dec.{eqb, ltb}
use lib.ListN.{length, drop}
use lib.Seq.{drop-append_seam}
use Rattle.numbers.specs.declared.Point.{Point}
use Rattle.class.specs.declared.Operation.{Operation}
use Rattle.class.specs.declared.Operation.TheVariants.{Intersection, Difference, Union, Xor}
use Rattle.text.specs.Quoted.{quoted}
use Rattle.text.specs.Words.{begins}
use Rattle.text.specs.Digits.{decimal, digit_of, decimal_at}
use Rattle.sheet.specs.declared.edges.Edge.{Edge}
use Rattle.sheet.specs.Sheet.{CornerFits, EdgeFits, AllFit, operation_word, operation_line, count_line, number_bytes, corner_bytes, edge_line, edge_lines, layer_bytes}
use Rattle.sheet.specs.Reading.{Parsed, Got, Wrong, and_then, ended, run, numeral, ring_of, number_of, corner_of, edge_of, on_edge, edges_of, Counted, Count, Many, Malformed, over, count_with, count_by, count_from, count_of, Whole, whole_by, layer_by, layer_of, line_of, operation_of}
use Rattle.sheet.proofs.Fronts.{word-front, word_split, number-front, number-split, decimal-some, numeral-front, decimal-front, numeral-split, ring-front, ring-split}
use Rattle.sheet.proofs.Sections.{all}

-- what holds of what is read holds of what is told
carried : {A : Type 0} (P : A → List ℕ → Type 0) (a b : A) (s t : List ℕ) → Got a s ≡ Got b t → P a s → P b t
carried P a b s t e h = subst₂ P (cc) (cc) h

-- ---- the operation

pub operation-front : (o : Operation) (t : List ℕ) → operation_of (operation_line o ++ t) ≡ Got o t
unfolding operation_of line_of operation_line operation_word quoted begins
operation-front Intersection t = refl
operation-front Difference t = refl
operation-front Union t = refl
operation-front Xor t = refl

module _ (s : List ℕ) (o : Operation) (t : List ℕ) where
  line-split : (p : Operation) (other : Parsed Operation) → (other ≡ Got o t → s ≡ operation_line o ++ t) → line_of p s other ≡ Got o t → s ≡ operation_line o ++ t
  unfolding line_of
  line-split p other r e = go (begins (operation_line p) s) refl e
    where
      go : (b : Bool) → begins (operation_line p) s ≡ b → cond b (Got p (drop (length (operation_line p)) s)) other ≡ Got o t → s ≡ operation_line o ++ t
      go true h f =
          let same : p ≡ o = cc in
          let rest : drop (length (operation_line p)) s ≡ t = cc in
          word_split (operation_line p) s h ∙ ap (λ (l : List ℕ). operation_line p ++ l) rest ∙ ap (λ (q : Operation). operation_line q ++ t) same
      go false h f = r f

  pub operation-split : operation_of s ≡ Got o t → s ≡ operation_line o ++ t
  unfolding operation_of
  operation-split =
      line-split Intersection _ (line-split Union _ (line-split Difference _ (line-split Xor Wrong none)))
    where
      none : Wrong ≡ Got o t → s ≡ operation_line o ++ t
      none e = let z : ◌≡◌ {A = ℕ} 0 1 = cc in absurd (omega arith)

-- ---- edges

pub corner-front : (p : Point) (t : List ℕ) → CornerFits p → corner_of (corner_bytes p ++ t) ≡ Got p t
unfolding corner_of corner_bytes and_then
corner-front p t h =
    rw (append_assoc, number-front p.x (number_bytes p.y ++ t) h.x, number-front p.y t h.y)

pub corner-split : (s : List ℕ) (p : Point) (t : List ℕ) → corner_of s ≡ Got p t → (s ≡ corner_bytes p ++ t) × CornerFits p
unfolding corner_of corner_bytes and_then
corner-split s p t e = first (number_of s) refl e
  where
    second : (x : ℕ) (u : List ℕ) → number_of s ≡ Got x u → (m : Parsed ℕ) → number_of u ≡ m → and_then m (λ y v. Got (record { x = x; y = y }) v) ≡ Got p t → (s ≡ corner_bytes p ++ t) × CornerFits p
    second x u h (Got y v) k f =
        let i = number-split s x u h in
        let j = number-split u y v k in
        carried (λ q w. (s ≡ corner_bytes q ++ w) × CornerFits q) (record { x = x; y = y }) p v t f (i.0 ∙ ap (λ (l : List ℕ). number_bytes x ++ l) j.0 ∙ sym (append_assoc (number_bytes x) (number_bytes y) v), record { x = i.1; y = j.1 })
    second x u h Wrong k f = let z : ◌≡◌ {A = ℕ} 0 1 = cc in absurd (omega arith)

    first : (m : Parsed ℕ) → number_of s ≡ m → and_then m (λ x u. and_then (number_of u) (λ y v. Got (record { x = x; y = y }) v)) ≡ Got p t → (s ≡ corner_bytes p ++ t) × CornerFits p
    first (Got x u) h f = second x u h (number_of u) refl f
    first Wrong h f = let z : ◌≡◌ {A = ℕ} 0 1 = cc in absurd (omega arith)

-- a corner begins with a space
spaced : (p : Point) (t : List ℕ) → run (corner_bytes p ++ t) ≡ 0
unfolding run corner_bytes number_bytes digit_of
spaced p t = refl

pub edge-front : (e : Edge) (t : List ℕ) → EdgeFits e → edge_of (edge_line e ++ t) ≡ Got e t
unfolding edge_of edge_line and_then ended
edge-front e t h =
    rw (append_assoc (decimal e.ring) (corner_bytes e.from ++ (corner_bytes e.to ++ (10 ∷ []))) t, append_assoc (corner_bytes e.from) (corner_bytes e.to ++ (10 ∷ [])) t, append_assoc (corner_bytes e.to) (10 ∷ []) t, ring-front e.ring (corner_bytes e.from ++ (corner_bytes e.to ++ (10 ∷ t))) (spaced e.from (corner_bytes e.to ++ (10 ∷ t))) h.ring, corner-front e.from (corner_bytes e.to ++ (10 ∷ t)) h.from, corner-front e.to (10 ∷ t) h.to, word-front (10 ∷ []) t)

-- a ring, two corners and the line feed, put together
joined : (ring : ℕ) (from to : Point) (s t u v : List ℕ) → s ≡ decimal ring ++ t → t ≡ corner_bytes from ++ u → u ≡ corner_bytes to ++ v → v ≡ 10 ∷ drop 1 v → s ≡ edge_line (record { ring = ring; from = from; to = to }) ++ drop 1 v
unfolding edge_line
joined ring from to s t u v h i j k =
    h
    ∙ ap (λ (l : List ℕ). decimal ring ++ l) (i ∙ ap (λ (l : List ℕ). corner_bytes from ++ l) (j ∙ ap (λ (l : List ℕ). corner_bytes to ++ l) k))
    ∙ sym (append_assoc (decimal ring) (corner_bytes from ++ (corner_bytes to ++ (10 ∷ []))) (drop 1 v) ∙ ap (λ (l : List ℕ). decimal ring ++ l) (append_assoc (corner_bytes from) (corner_bytes to ++ (10 ∷ [])) (drop 1 v) ∙ ap (λ (l : List ℕ). corner_bytes from ++ l) (append_assoc (corner_bytes to) (10 ∷ []) (drop 1 v))))

pub edge-split : (s : List ℕ) (e : Edge) (t : List ℕ) → edge_of s ≡ Got e t → (s ≡ edge_line e ++ t) × EdgeFits e
unfolding edge_of and_then ended
edge-split s e t r = ring (ring_of s) refl r
  where
    line : (n : ℕ) (a : List ℕ) → ring_of s ≡ Got n a → (from : Point) (b : List ℕ) → corner_of a ≡ Got from b → (to : Point) (c : List ℕ) → corner_of b ≡ Got to c → (x : Bool) → begins (10 ∷ []) c ≡ x → cond x (Got (record { ring = n; from = from; to = to }) (drop 1 c)) Wrong ≡ Got e t → (s ≡ edge_line e ++ t) × EdgeFits e
    line n a h from b i to c j true k f =
        let p = ring-split s n a h in
        let q = corner-split a from b i in
        let w = corner-split b to c j in
        carried (λ g u. (s ≡ edge_line g ++ u) × EdgeFits g) (record { ring = n; from = from; to = to }) e (drop 1 c) t f (joined n from to s a b c p.0 q.0 w.0 (word_split (10 ∷ []) c k), record { ring = p.1; from = q.1; to = w.1 })
    line n a h from b i to c j false k f = let z : ◌≡◌ {A = ℕ} 0 1 = cc in absurd (omega arith)

    to : (n : ℕ) (a : List ℕ) → ring_of s ≡ Got n a → (from : Point) (b : List ℕ) → corner_of a ≡ Got from b → (m : Parsed Point) → corner_of b ≡ m → and_then m (λ to v. ended (record { ring = n; from = from; to = to }) v) ≡ Got e t → (s ≡ edge_line e ++ t) × EdgeFits e
    to n a h from b i (Got q c) j f = line n a h from b i q c j (begins (10 ∷ []) c) refl f
    to n a h from b i Wrong j f = let z : ◌≡◌ {A = ℕ} 0 1 = cc in absurd (omega arith)

    from : (n : ℕ) (a : List ℕ) → ring_of s ≡ Got n a → (m : Parsed Point) → corner_of a ≡ m → and_then m (λ from u. and_then (corner_of u) (λ to v. ended (record { ring = n; from = from; to = to }) v)) ≡ Got e t → (s ≡ edge_line e ++ t) × EdgeFits e
    from n a h (Got p b) i f = to n a h p b i (corner_of b) refl f
    from n a h Wrong i f = let z : ◌≡◌ {A = ℕ} 0 1 = cc in absurd (omega arith)

    ring : (m : Parsed ℕ) → ring_of s ≡ m → and_then m (λ ring a. and_then (corner_of a) (λ from u. and_then (corner_of u) (λ to v. ended (record { ring = ring; from = from; to = to }) v))) ≡ Got e t → (s ≡ edge_line e ++ t) × EdgeFits e
    ring (Got n a) h f = from n a h (corner_of a) refl f
    ring Wrong h f = let z : ◌≡◌ {A = ℕ} 0 1 = cc in absurd (omega arith)

-- ---- edges one after the other

pub edges-front : (l : List Edge) (t : List ℕ) → AllFit l → edges_of (length l) (edge_lines l ++ t) ≡ record { list = l; missing = 0; rest = t }
unfolding edges_of edge_lines on_edge
edges-front [] t h = refl
edges-front (e ∷ l) t h = rw (append_assoc, edge-front e (edge_lines l ++ t) h.0, edges-front l t h.1)

pub edges-split : (n : ℕ) (s : List ℕ) → (edges_of n s).missing ≡ 0 → (s ≡ edge_lines (edges_of n s).list ++ (edges_of n s).rest) × AllFit (edges_of n s).list
unfolding edges_of edge_lines on_edge
edges-split zero s h = (refl, tt)
edges-split (suc n) s h = go (edge_of s) refl h (λ t. edges-split n t)
  where
    go : (x : Parsed Edge) → edge_of s ≡ x → (on_edge x (suc n) s (edges_of n)).missing ≡ 0 → ((t : List ℕ) → (edges_of n t).missing ≡ 0 → (t ≡ edge_lines (edges_of n t).list ++ (edges_of n t).rest) × AllFit (edges_of n t).list) → (s ≡ edge_lines (on_edge x (suc n) s (edges_of n)).list ++ (on_edge x (suc n) s (edges_of n)).rest) × AllFit (on_edge x (suc n) s (edges_of n)).list
    go (Got e t) i m r =
        let p = edge-split s e t i in
        let q = r t m in
        (p.0 ∙ ap (λ (l : List ℕ). edge_line e ++ l) q.0 ∙ sym (append_assoc (edge_line e) (edge_lines (edges_of n t).list) (edges_of n t).rest), (p.1, q.1))
    go Wrong i m r = absurd (omega arith)

-- ---- a count

ends : (t : List ℕ) → run (10 ∷ t) ≡ 0
unfolding run digit_of
ends t = refl

over-front : (t : List ℕ) → over (10 ∷ t) ≡ true
unfolding over
over-front t = rw (word-front (10 ∷ []) t, or-true (eqb (length (10 ∷ t)) 0))

with-front : (n : ℕ) (t : List ℕ) → count_with n (10 ∷ t) ≡ Count n t
unfolding count_with
with-front n t = rw (word-front (10 ∷ []) t)

pub count-front : (word : List ℕ) (most n : ℕ) (t : List ℕ) → n ≤ most → n < 4294967296 → count_of word most (count_line word n ++ t) ≡ Count n t
unfolding count_of count_from count_by count_line
count-front word most n t h k =
    rw (append_assoc word (decimal n ++ (10 ∷ [])) t, word-front word ((decimal n ++ (10 ∷ [])) ++ t), drop-append_seam word ((decimal n ++ (10 ∷ [])) ++ t), append_assoc (decimal n) (10 ∷ []) t, numeral-front n (10 ∷ t) (ends t) (omega arith), ne_eqb (length (decimal n)) 0 (λ e. omega (arith, decimal-some n)), drop-append_seam (decimal n) (10 ∷ t), over-front t, decimal-front n (10 ∷ t) (omega arith), le-ltb most n h, with-front n t)

module _ (most n : ℕ) (t : List ℕ) where
  by-split : (r : Option ℕ) (s : List ℕ) → count_by most r s ≡ Count n t → (r ≡ Some n) × (s ≡ 10 ∷ t)
  unfolding count_by count_with
  by-split (Some v) s e = go (ltb most v) (begins (10 ∷ []) s) refl e
    where
      go : (x y : Bool) → begins (10 ∷ []) s ≡ y → cond x Many (cond y (Count v (drop 1 s)) Malformed) ≡ Count n t → (Some v ≡ Some n) × (s ≡ 10 ∷ t)
      go true y i f = let z : ◌≡◌ {A = ℕ} 0 1 = cc in absurd (omega arith)
      go false true i f =
          let same : v ≡ n = cc in
          let rest : drop 1 s ≡ t = cc in
          (ap Some same, word_split (10 ∷ []) s i ∙ ap (λ (l : List ℕ). 10 ∷ l) rest)
      go false false i f = let z : ◌≡◌ {A = ℕ} 0 1 = cc in absurd (omega arith)
  by-split None s e = let z : ◌≡◌ {A = ℕ} 0 1 = cc in absurd (omega arith)

  from-split : (s : List ℕ) → count_from most (numeral s) s ≡ Count n t → s ≡ decimal n ++ (10 ∷ t)
  unfolding count_from
  from-split s e = go (eqb (numeral s) 0) refl (over (drop (numeral s) s)) e
    where
      go : (x : Bool) → eqb (numeral s) 0 ≡ x → (y : Bool) → cond x Malformed (cond y (count_by most (decimal_at s 0 (numeral s)) (drop (numeral s) s)) Malformed) ≡ Count n t → s ≡ decimal n ++ (10 ∷ t)
      go true h y f = let z : ◌≡◌ {A = ℕ} 0 1 = cc in absurd (omega arith)
      go false h true f =
          let p = by-split (decimal_at s 0 (numeral s)) (drop (numeral s) s) f in
          numeral-split s (numeral s) n refl (eqb-false (numeral s) 0 h) p.0 ∙ ap (λ (l : List ℕ). decimal n ++ l) p.1
      go false h false f = let z : ◌≡◌ {A = ℕ} 0 1 = cc in absurd (omega arith)

  pub count-split : (word s : List ℕ) → count_of word most s ≡ Count n t → s ≡ count_line word n ++ t
  unfolding count_of count_line
  count-split word s e = go (begins word s) refl e
    where
      go : (x : Bool) → begins word s ≡ x → cond x (count_from most (numeral (drop (length word) s)) (drop (length word) s)) Malformed ≡ Count n t → s ≡ (word ++ (decimal n ++ (10 ∷ []))) ++ t
      go true h f =
          word_split word s h
          ∙ ap (λ (l : List ℕ). word ++ l) (from-split (drop (length word) s) f ∙ sym (append_assoc (decimal n) (10 ∷ []) t))
          ∙ sym (append_assoc word (decimal n ++ (10 ∷ [])) t)
      go false h f = let z : ◌≡◌ {A = ℕ} 0 1 = cc in absurd (omega arith)

-- ---- a layer

pub layer-front : (word : List ℕ) (most line : ℕ) (l : List Edge) (t : List ℕ) → AllFit l → length l ≤ most → length l < 4294967296 → layer_of word most line (layer_bytes word l ++ t) ≡ Whole l t
unfolding layer_of layer_by whole_by layer_bytes
layer-front word most line l t h k m =
    rw (append_assoc (count_line word (length l)) (edge_lines l) t, count-front word most (length l) (edge_lines l ++ t) k m, edges-front l t h)

pub layer-split : (word : List ℕ) (most line : ℕ) (s : List ℕ) (l : List Edge) (t : List ℕ) → layer_of word most line s ≡ Whole l t → (s ≡ layer_bytes word l ++ t) × AllFit l
unfolding layer_of layer_by whole_by layer_bytes
layer-split word most line s l t e = count (count_of word most s) refl e
  where
    edges : (n : ℕ) (u : List ℕ) → count_of word most s ≡ Count n u → (m : ℕ) → (edges_of n u).missing ≡ m → whole_by (line + 1) (edges_of n u).list m (edges_of n u).rest ≡ Whole l t → (s ≡ layer_bytes word l ++ t) × AllFit l
    edges n u h zero i f =
        let q = edges-split n u i in
        let many : n ≡ length (edges_of n u).list = omega (arith, all n u) in
        let same : (edges_of n u).list ≡ l = cc in
        let rest : (edges_of n u).rest ≡ t = cc in
        subst₂ (λ (g : List Edge) (w : List ℕ). (s ≡ (count_line word (length g) ++ edge_lines g) ++ w) × AllFit g) same rest (
          count-split most n u word s h
              ∙ ap (λ (k : ℕ). count_line word k ++ u) many
              ∙ ap (λ (v : List ℕ). count_line word (length (edges_of n u).list) ++ v) q.0
              ∙ sym (append_assoc (count_line word (length (edges_of n u).list)) (edge_lines (edges_of n u).list) (edges_of n u).rest),
          q.1,
        )
    edges n u h (suc m) i f = let z : ◌≡◌ {A = ℕ} 0 1 = cc in absurd (omega arith)

    count : (x : Counted) → count_of word most s ≡ x → layer_by line x ≡ Whole l t → (s ≡ layer_bytes word l ++ t) × AllFit l
    count (Count n u) h f = edges n u h (edges_of n u).missing refl f
    count Many h f = let z : ◌≡◌ {A = ℕ} 0 1 = cc in absurd (omega arith)
    count Malformed h f = let z : ◌≡◌ {A = ℕ} 0 1 = cc in absurd (omega arith)
