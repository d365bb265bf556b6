-- A line is read alike whatever comes after it; so a layer that is broken at a line is begun by the lines before it, and by none with it.
use Rattle.refusals.specs.declared.Reason.{Reason}
use Rattle.refusals.specs.declared.Reason.TheVariants as Reason
use mathlib.Core.Path.{◌≡◌, refl, sym, ap, ◌∙◌, subst}
use mathlib.Core.List.{List, [], ◌∷◌, ◌++◌, append_assoc}
use Prim.Native.Nat.{ℕ, zero, suc, ◌+◌, ◌≤◌}
use native.Mathlib.Omega.{arith}
use lib.ListN.{length, replicate, length-append, length-replicate}
use Rattle.class.specs.declared.Operation.{Operation}
use Rattle.sheet.specs.declared.edges.Edge.{Edge}
use Rattle.sheet.specs.Sheet.{AllFit, operation_line, count_line, edge_line, edge_lines, layer_bytes}
use Rattle.sheet.specs.Reading.{Parsed, Got, Wrong, operation_of, edge_of, on_edge, edges_of, Counted, Count, Many, Malformed, count_of, Whole, Broken, whole_by, layer_by, layer_of}
use Rattle.sheet.specs.Lines.{first_lines}
use Rattle.sheet.proofs.Sections.{all, count-few}
use Rattle.sheet.proofs.Written.{operation-front, operation-split, edge-front, edge-split, count-front, count-split}
use Rattle.sheet.proofs.Cuts.{Within, Lines, lines_join, lines_none, operation-line, count-line, edge-line, edge-lines, same_line}

-- ---- a line is read alike whatever comes after it

pub operation-alike : (x y : List ℕ) → first_lines 1 y ≡ first_lines 1 x → operation_of x ≡ Wrong → operation_of y ≡ Wrong
operation-alike x y e h = go (operation_of y) refl
  where
    go : (m : Parsed Operation) → operation_of y ≡ m → operation_of y ≡ Wrong
    go (Got o t) i =
        let p = same_line (operation_line o) (operation-line o) t x (ap (first_lines 1) (sym (operation-split y o t i)) ∙ e) in
        let q : operation_of x ≡ Got o p.0 = ap operation_of p.1 ∙ operation-front o p.0 in
        let z : ◌≡◌ {A = ℕ} 0 1 = cc in absurd (omega arith)
    go Wrong i = i

edge-alike : (x y : List ℕ) → first_lines 1 y ≡ first_lines 1 x → edge_of x ≡ Wrong → edge_of y ≡ Wrong
edge-alike x y e h = go (edge_of y) refl
  where
    go : (m : Parsed Edge) → edge_of y ≡ m → edge_of y ≡ Wrong
    go (Got g t) i =
        let s = edge-split y g t i in
        let p = same_line (edge_line g) (edge-line g) t x (ap (first_lines 1) (sym s.0) ∙ e) in
        let q : edge_of x ≡ Got g p.0 = ap edge_of p.1 ∙ edge-front g p.0 s.1 in
        let z : ◌≡◌ {A = ℕ} 0 1 = cc in absurd (omega arith)
    go Wrong i = i

count-alike : (word : List ℕ) (most : ℕ) (x y : List ℕ) → Within word → most ≤ 256 → first_lines 1 y ≡ first_lines 1 x → (n : ℕ) (t : List ℕ) → count_of word most y ≡ Count n t → (r : List ℕ) × (count_of word most x ≡ Count n r)
count-alike word most x y w few e n t h =
    let p = same_line (count_line word n) (count-line word n w) t x (ap (first_lines 1) (sym (count-split most n t word y h)) ∙ e) in
    let small : n ≤ most = count-few most n t word y h in
    (p.0, ap (count_of word most) p.1 ∙ count-front word most n p.0 small (omega arith))

-- ---- edges before a line that is none

stuck-front : (l : List Edge) (m : ℕ) (y : List ℕ) → AllFit l → edge_of y ≡ Wrong → edges_of (length l + suc m) (edge_lines l ++ y) ≡ record { list = l; missing = suc m; rest = y }
unfolding edges_of edge_lines on_edge
stuck-front [] m y h w = let q : 0 + suc m ≡ suc m = omega arith in rw (q, w)
stuck-front (e ∷ l) m y h w =
    let q : suc (length l) + suc m ≡ suc (length l + suc m) = omega arith in
    rw (q, append_assoc, edge-front e (edge_lines l ++ y) h.0, stuck-front l m y h.1 w)

stuck-split : (n : ℕ) (s : List ℕ) (m : ℕ) → (edges_of n s).missing ≡ suc m → (s ≡ edge_lines (edges_of n s).list ++ (edges_of n s).rest) × AllFit (edges_of n s).list × (edge_of (edges_of n s).rest ≡ Wrong)
unfolding edges_of edge_lines on_edge
stuck-split zero s m h = absurd (omega arith)
stuck-split (suc n) s m h = go (edge_of s) refl h (λ t. stuck-split n t m)
  where
    go : (x : Parsed Edge) → edge_of s ≡ x → (on_edge x (suc n) s (edges_of n)).missing ≡ suc m → ((t : List ℕ) → (edges_of n t).missing ≡ suc m → (t ≡ edge_lines (edges_of n t).list ++ (edges_of n t).rest) × AllFit (edges_of n t).list × (edge_of (edges_of n t).rest ≡ Wrong)) → (s ≡ edge_lines (on_edge x (suc n) s (edges_of n)).list ++ (on_edge x (suc n) s (edges_of n)).rest) × AllFit (on_edge x (suc n) s (edges_of n)).list × (edge_of (on_edge x (suc n) s (edges_of n)).rest ≡ Wrong)
    go (Got e t) i f r =
        let p = edge-split s e t i in
        let q = r t f in
        (p.0 ∙ ap (λ (l : List ℕ). edge_line e ++ l) q.0 ∙ sym (append_assoc (edge_line e) (edge_lines (edges_of n t).list) (edges_of n t).rest), (p.1, q.1), q.2)
    go Wrong i f r = (refl, tt, i)

-- edges that fit, as many as are missing
padded : List Edge → ℕ → List Edge
padded l m = l ++ replicate m (record { ring = 0; from = record { x = 0; y = 0 }; to = record { x = 0; y = 0 } })

padded-fit : (l : List Edge) (m : ℕ) → AllFit l → AllFit (padded l m)
unfolding padded
padded-fit [] zero h = tt
padded-fit [] (suc m) h =
    (record { ring = omega arith; from = record { x = omega arith; y = omega arith }; to = record { x = omega arith; y = omega arith } }, padded-fit [] m tt)
padded-fit (e ∷ l) m h = (h.0, padded-fit l m h.1)

padded-length : (l : List Edge) (m : ℕ) → length (padded l m) ≡ length l + m
unfolding padded
padded-length l m = simp (length-append, length-replicate)

padded-lines : (l : List Edge) (m : ℕ) → edge_lines (padded l m) ≡ edge_lines l ++ edge_lines (padded [] m)
unfolding padded edge_lines
padded-lines [] m = refl
padded-lines (e ∷ l) m = ap (λ (s : List ℕ). edge_line e ++ s) (padded-lines l m) ∙ sym (append_assoc (edge_line e) (edge_lines l) (edge_lines (padded [] m)))

-- ---- a layer that is broken at a line: the lines before it, some layer that they begin, and no layer with it

pub record Stuck (word : List ℕ) (most line : ℕ) (s : List ℕ) (at : ℕ) : Type 0 where
  pub before : List ℕ
  pub rest : List ℕ
  pub parts : s ≡ before ++ rest
  pub count : ℕ
  pub lines : Lines count before
  pub told : at ≡ line + count
  pub edges : List Edge
  pub fit : AllFit edges
  pub few : length edges ≤ most
  pub more : List ℕ
  pub begins : layer_bytes word edges ≡ before ++ more
  pub fails : (y : List ℕ) → first_lines 1 y ≡ first_lines 1 rest → (l : List Edge) (t : List ℕ) → layer_of word most line (before ++ y) ≡ Whole l t → ⊥

module _ (word : List ℕ) (w : Within word) (most line : ℕ) (small : most ≤ 256) (s : List ℕ) where
  at_count : ((n : ℕ) (t : List ℕ) → count_of word most s ≡ Count n t → ⊥) → Stuck word most line s line
  unfolding layer_of layer_by
  at_count none =
      record {
        before = [];
        rest = s;
        parts = refl;
        count = 0;
        lines = lines_none;
        told = omega arith;
        edges = [];
        fit = tt;
        few = omega arith;
        more = layer_bytes word [];
        begins = refl;
        fails = λ y e l t h. other y e l t (count_of word most y) refl h;
      }
    where
      other : (y : List ℕ) → first_lines 1 y ≡ first_lines 1 s → (l : List Edge) (t : List ℕ) (x : Counted) → count_of word most y ≡ x → layer_by line x ≡ Whole l t → ⊥
      other y e l t (Count n u) i h = let p = count-alike word most s y w small e n u i in none n p.0 p.1
      other y e l t Many i h = let z : ◌≡◌ {A = ℕ} 0 1 = cc in omega arith
      other y e l t Malformed i h = let z : ◌≡◌ {A = ℕ} 0 1 = cc in omega arith

  at_edge : (n : ℕ) (u : List ℕ) → count_of word most s ≡ Count n u → (m : ℕ) → (edges_of n u).missing ≡ suc m → Stuck word most line s (line + 1 + length (edges_of n u).list)
  unfolding layer_of layer_by layer_bytes whole_by
  at_edge n u h m i =
      let got = (edges_of n u).list in
      let left = (edges_of n u).rest in
      let p = stuck-split n u m i in
      let limit : n ≤ most = count-few most n u word s h in
      let sum : length got + suc m ≡ n = omega (arith, all n u) in
      record {
        before = count_line word n ++ edge_lines got;
        rest = left;
        parts = count-split most n u word s h ∙ ap (λ (v : List ℕ). count_line word n ++ v) p.0 ∙ sym (append_assoc (count_line word n) (edge_lines got) left);
        count = 1 + length got;
        lines = lines_join 1 (length got) (count_line word n) (edge_lines got) (count-line word n w) (edge-lines got);
        told = omega arith;
        edges = padded got (suc m);
        fit = padded-fit got (suc m) p.1;
        few = omega (arith, padded-length got (suc m));
        more = edge_lines (padded [] (suc m));
        begins =
            ap (λ (k : ℕ). count_line word k ++ edge_lines (padded got (suc m))) (padded-length got (suc m) ∙ sum)
            ∙ ap (λ (v : List ℕ). count_line word n ++ v) (padded-lines got (suc m))
            ∙ sym (append_assoc (count_line word n) (edge_lines got) (edge_lines (padded [] (suc m))));
        fails = λ y e l t f. other y (edge-alike left y e p.2) l t f;
      }
    where
      other : (y : List ℕ) → edge_of y ≡ Wrong → (l : List Edge) (t : List ℕ) → layer_of word most line ((count_line word n ++ edge_lines (edges_of n u).list) ++ y) ≡ Whole l t → ⊥
      other y x l t f =
          let got = (edges_of n u).list in
          let fit = (stuck-split n u m i).1 in
          let limit : n ≤ most = count-few most n u word s h in
          let sum : length got + suc m ≡ n = omega (arith, all n u) in
          let read : edges_of n (edge_lines got ++ y) ≡ record { list = got; missing = suc m; rest = y } = ap (λ (k : ℕ). edges_of k (edge_lines got ++ y)) (sym sum) ∙ stuck-front got m y fit x in
          let g : Broken Reason.Malformed (line + 1 + length got) ≡ Whole l t = rw (append_assoc (count_line word n) (edge_lines got) y, count-front word most n (edge_lines got ++ y) limit (omega arith), read) at f in
          let z : ◌≡◌ {A = ℕ} 0 1 = cc in omega arith

  pub stuck : (n : Reason) (at : ℕ) → layer_of word most line s ≡ Broken n at → Stuck word most line s at
  unfolding layer_of layer_by whole_by
  stuck n at e = count (count_of word most s) refl e
    where
      edges : (k : ℕ) (u : List ℕ) → count_of word most s ≡ Count k u → (m : ℕ) → (edges_of k u).missing ≡ m → whole_by (line + 1) (edges_of k u).list m (edges_of k u).rest ≡ Broken n at → Stuck word most line s at
      edges k u h zero i f = let z : ◌≡◌ {A = ℕ} 0 1 = cc in absurd (omega arith)
      edges k u h (suc m) i f =
          let same : line + 1 + length (edges_of k u).list ≡ at = cc in
          subst (λ (a : ℕ). Stuck word most line s a) same (at_edge k u h m i)

      count : (x : Counted) → count_of word most s ≡ x → layer_by line x ≡ Broken n at → Stuck word most line s at
      count (Count k u) h f = edges k u h (edges_of k u).missing refl f
      count Many h f =
          let same : line ≡ at = cc in
          subst (λ (a : ℕ). Stuck word most line s a) same (at_count (λ k t i. let z : ◌≡◌ {A = ℕ} 0 1 = cc in omega arith))
      count Malformed h f =
          let same : line ≡ at = cc in
          subst (λ (a : ℕ). Stuck word most line s a) same (at_count (λ k t i. let z : ◌≡◌ {A = ℕ} 0 1 = cc in omega arith))
