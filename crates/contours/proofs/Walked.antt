-- What a walk is, edge by edge, and what all walks together do: each position is walked once; and where every point ends an even number of
-- edges, each walk comes home. The idea of the second: (open ends at v) + [v is where the walk stands] + [v is home] is even for every v.
use Rattle.std.proofs.Common.{Option, None, Some}
use mathlib.Core.Path.{◌≡◌, refl, sym, ap, ◌∙◌}
use mathlib.Core.Logic.{◌≢◌, ◌⊎◌, inl, inr}
use mathlib.Core.Bool.{Bool, true, false}
use mathlib.Core.List.{List, [], ◌∷◌, ◌++◌, map, Memᴰ}
use Prim.Native.Nat.{ℕ, zero, suc, ◌+◌, ◌≤◌, ◌<◌, ◌%◌}
use native.Mathlib.Omega.{arith}
use native.Mathlib.Decide.{ℕ_discrete}
use borrow.Author.Tests.{eq-eqb}
use lib.ListN.{length, get_or, set, replicate, length-set, length-replicate, get_or-replicate}
use lib.Seq.{get_or-set_other}
use lib.Dec.{eqb}
use Rattle.contours.specs.Table.{Row}
use Rattle.contours.specs.Round.{is_open, seek, tries}
use Rattle.contours.specs.Walk.{halt, onward, mark, marks, walk, corners}
use Rattle.contours.specs.Contours.{Contour, Answer, done, halted, trail_at, trace}
use Rattle.contours.specs.Outline.{final, closes}
use Rattle.contours.proofs.Lists.{All}
use Rattle.contours.proofs.Marks.{bit, open_from, open-count, open_none, open-le, open-set, flag, flag-set, flag-open, flag-shut, seek-some, seek-none}
use Rattle.contours.proofs.Round.{tries-in, tries-out}
use Rattle.contours.proofs.Turns.{Ends, marked, more, trace-end}

-- ---- what a table owes

module _ {P : Type 0} (n : ℕ) (row : ℕ → Row P) where
  -- links are in range, mutual and proper
  pub record Good : Type 0 where
    pub near : (i : ℕ) → i < n → (row i).other < n
    pub back : (i : ℕ) → i < n → (row (row i).other).other ≡ i
    pub proper : (i : ℕ) → i < n → (row i).other ≢ i

  -- equality by value is one among the rows' points
  pub record ByValue (same : P → P → Bool) : Type 0 where
    pub self : (i : ℕ) → i < n → same (row i).point (row i).point ≡ true
    pub alike : (i j k : ℕ) → i < n → j < n → k < n → same (row i).point (row j).point ≡ true → same (row k).point (row i).point ≡ same (row k).point (row j).point

  -- a trail begins at a left end
  abbrev pub Begins : List ℕ → Type 0
  Begins [] = ⊥
  Begins (i ∷ t) = (row i).left ≡ true

  -- a right end stands after its left end
  abbrev pub RightLater : Type 0
  RightLater = (i : ℕ) → i < n → (row i).left ≡ false → (row i).other < i

  -- how often a trail, and how often the trails of all contours, walk an edge that has an end at position j
  unfoldable pub visits : ℕ → List ℕ → ℕ
  visits j [] = 0
  visits j (i ∷ t) = bit (eqb i j) + (bit (eqb (row i).other j) + visits j t)

  unfoldable pub walks : ℕ → List Contour → ℕ
  walks j [] = 0
  walks j (k ∷ cs) = visits j k.trail + walks j cs

  -- every contour closes
  abbrev pub AllClosed : (P → P → Bool) → List Contour → Type 0
  AllClosed same [] = Unit {0}
  AllClosed same (k ∷ cs) = (closes same (corners same n row k.trail) ≡ true) × AllClosed same cs

pub all_snoc : {A : Type 0} (D : A → Type 0) (l : List A) (a : A) → All D l → D a → All D (l ++ (a ∷ []))
all_snoc D [] a h d = (d, tt)
all_snoc D (x ∷ l) a h d = (h.0, all_snoc D l a h.1 d)

module _ {P : Type 0} (same : P → P → Bool) (n : ℕ) (row : ℕ → Row P) (good : Good n row) (value : ByValue n row same) where
  abbrev pub pt : ℕ → P
  pt i = (row i).point

  abbrev pub oth : ℕ → ℕ
  oth i = (row i).other

  abbrev pub mk : ℕ → List ℕ → ℕ → List ℕ
  mk c ms i = mark same n row c ms i

  -- how many ends at the point of v are not yet walked
  abbrev open_at : ℕ → List ℕ → ℕ
  open_at v ms = open_from (λ j. same (pt v) (pt j)) 0 ms

  -- ---- one edge

  -- as many marks as rows, and both ends of an edge are open or neither
  pub record Fine (ms : List ℕ) : Type 0 where
    pub size : length ms ≡ n
    pub mated : (j : ℕ) → j < n → get_or ms j 1 ≡ 0 → get_or ms (oth j) 1 ≡ 0

  module _ (c : ℕ) (ms : List ℕ) (fine : Fine ms) (i : ℕ) (l : i < n) (e : get_or ms i 1 ≡ 0) where
    -- the other end is still open when this one is marked
    mate-open : get_or (set ms i (suc c)) (oth i) 1 ≡ 0
    mate-open = rw (get_or-set_other ms i (oth i) (suc c) 1 (good.proper i l)) (fine.mated i l e)

    pub count-mark : (f : ℕ → Bool) → open_from f 0 ms ≡ bit (f i) + (bit (f (oth i)) + open_from f 0 (mk c ms i))
    unfolding mark
    count-mark f = open-count f ms i c e ∙ ap (λ (k : ℕ). bit (f i) + k) (open-count f (set ms i (suc c)) (oth i) c mate-open)

    flag-mark : (j : ℕ) → flag ms j ≡ bit (eqb i j) + (bit (eqb (oth i) j) + flag (mk c ms i) j)
    unfolding mark
    flag-mark j = flag-set ms i j c e ∙ ap (λ (k : ℕ). bit (eqb i j) + k) (flag-set (set ms i (suc c)) (oth i) j c mate-open)

    open-mark : (j : ℕ) → get_or (mk c ms i) j 1 ≡ 0 → (j ≢ i) × (j ≢ oth i) × (get_or ms j 1 ≡ 0)
    unfolding mark
    open-mark j h =
        let a : (j ≢ oth i) × (get_or (set ms i (suc c)) j 1 ≡ 0) = open-set (set ms i (suc c)) (oth i) j c h in
        let b : (j ≢ i) × (get_or ms j 1 ≡ 0) = open-set ms i j c a.1 in
        (b.0, a.0, b.1)

    pub fine-mark : Fine (mk c ms i)
    unfolding mark
    fine-mark = record { size = length-set (set ms i (suc c)) (oth i) (suc c) ∙ length-set ms i (suc c) ∙ fine.size; mated = mate }
      where
        mate : (j : ℕ) → j < n → get_or (set (set ms i (suc c)) (oth i) (suc c)) j 1 ≡ 0 → get_or (set (set ms i (suc c)) (oth i) (suc c)) (oth j) 1 ≡ 0
        mate j m h =
            let k : (j ≢ i) × (j ≢ oth i) × (get_or ms j 1 ≡ 0) = open-mark j h in
            let x : oth j ≢ oth i = λ q. k.0 (sym (good.back j m) ∙ ap oth q ∙ good.back i l) in
            let y : oth j ≢ i = λ q. k.1 (sym (good.back j m) ∙ ap oth q) in
            rw (get_or-set_other (set ms i (suc c)) (oth i) (oth j) (suc c) 1 x, get_or-set_other ms i (oth j) (suc c) 1 y) (fine.mated j m k.2)

  -- ---- one contour, from h

  -- why a contour ends after the edge from i: it is home, or no end is left at the point that it came to
  abbrev pub Ended : ℕ → ℕ → List ℕ → ℕ → Type 0
  Ended h c ms i = (same (pt h) (pt (oth i)) ≡ true) ⊎ ((j : ℕ) → j < n → same (pt (oth i)) (pt j) ≡ true → get_or (mk c ms i) j 1 ≢ 0)

  pub data Steps (h c : ℕ) : ℕ → List ℕ → List ℕ → Type 0 where
    last : {i : ℕ} {ms : List ℕ} → i < n → get_or ms i 1 ≡ 0 → Ended h c ms i → Steps h c i ms (i ∷ [])
    next : {i j : ℕ} {ms t : List ℕ} → i < n → get_or ms i 1 ≡ 0 → j < n → same (pt (oth i)) (pt j) ≡ true → Steps h c j (mk c ms i) t → Steps h c i ms (i ∷ t)

  walked : (k h c : ℕ) (ms : List ℕ) (i : ℕ) → h < n → Fine ms → i < n → get_or ms i 1 ≡ 0 → open_from (λ j. true) 0 ms ≤ k → Steps h c i ms (walk same n row k (pt h) c ms i)
  unfolding walk onward halt bit
  walked zero h c ms i hn f l e z = absurd (omega (arith, count-mark c ms f i l e (λ j. true)))
  walked (suc k) h c ms i hn f l e z =
      go (seek (mk c ms i) (tries same n row (oth i))) refl
      (λ j m o. walked k h c (mk c ms i) j hn (fine-mark c ms f i l e) m o (omega (arith, count-mark c ms f i l e (λ j. true))))
    where
      Rest : Type 0
      Rest = (j : ℕ) → j < n → get_or (mk c ms i) j 1 ≡ 0 → Steps h c j (mk c ms i) (walk same n row k (pt h) c (mk c ms i) j)

      stop : (b : Bool) (j : ℕ) → same (pt h) (pt j) ≡ b → (j < n) × (same (pt (oth i)) (pt j) ≡ true) → get_or (mk c ms i) j 1 ≡ 0 → Rest
          → Steps h c i ms (i ∷ halt b (λ j. walk same n row k (pt h) c (mk c ms i) j) j)
      stop true j q r o w = last l e (inl (value.alike (oth i) j h (good.near i l) r.0 hn r.1 ∙ q))
      stop false j q r o w = next l e r.0 r.1 (w j r.0 o)

      go : (o : Option ℕ) → seek (mk c ms i) (tries same n row (oth i)) ≡ o → Rest
          → Steps h c i ms (i ∷ onward o (λ j. same (pt h) (pt j)) (λ j. walk same n row k (pt h) c (mk c ms i) j))
      go None q w = last l e (inr (λ j m s o. seek-none _ _ q j (tries-in same n row (oth i) j m (open-mark c ms f i l e j o).1 s) o))
      go (Some j) q w =
          let s : (get_or (mk c ms i) j 1 ≡ 0) × Memᴰ j (tries same n row (oth i)) = seek-some _ _ j q in
          stop (same (pt h) (pt j)) j refl (tries-out same n row (oth i) j (good.near i l) s.1) s.0 w

  -- the marks after a contour
  pub fine-marks : {h c i : ℕ} {ms t : List ℕ} → Steps h c i ms t → Fine ms → Fine (marks same n row c ms t)
  unfolding marks
  fine-marks {c = c} (last {i = i} {ms = ms} l e d) f = fine-mark c ms f i l e
  fine-marks {c = c} (next {i = i} {ms = ms} l e m s r) f = fine-marks r (fine-mark c ms f i l e)

  visits-steps : {h c i : ℕ} {ms t : List ℕ} (j : ℕ) → Steps h c i ms t → Fine ms → flag ms j ≡ visits n row j t + flag (marks same n row c ms t) j
  unfolding marks visits
  visits-steps {c = c} j (last {i = i} {ms = ms} l e d) f = omega (arith, flag-mark c ms f i l e j)
  visits-steps {c = c} j (next {i = i} {ms = ms} l e m s r) f = omega (arith, flag-mark c ms f i l e j, visits-steps j r (fine-mark c ms f i l e))

  start-shut : {h c i : ℕ} {ms t : List ℕ} → Steps h c i ms t → Fine ms → flag (marks same n row c ms t) i ≡ 0
  unfolding visits bit
  start-shut {i = i} (last {ms = ms} l e d) f = omega (arith, visits-steps i (last l e d) f, flag-open ms i e, ap bit (eq-eqb i i refl))
  start-shut {i = i} (next {ms = ms} l e m s r) f = omega (arith, visits-steps i (next l e m s r) f, flag-open ms i e, ap bit (eq-eqb i i refl))

  pub steps-in : {h c i : ℕ} {ms t : List ℕ} → Steps h c i ms t → All (λ j. j < n) t
  steps-in (last l e d) = (l, tt)
  steps-in (next l e m s r) = (l, steps-in r)

  -- every point ends an even number of edges that are not yet walked
  Even : List ℕ → Type 0
  Even ms = (v : ℕ) → v < n → open_at v ms % 2 ≡ 0

  same-sym : (i j : ℕ) → i < n → j < n → same (pt i) (pt j) ≡ true → same (pt j) (pt i) ≡ true
  same-sym i j l m e = value.alike i j j l m m e ∙ value.self j m

  closes_at : {h c i : ℕ} {ms t : List ℕ} → Steps h c i ms t → h < n → Fine ms → ((v : ℕ) → v < n → (open_at v ms + (bit (same (pt v) (pt i)) + bit (same (pt v) (pt h)))) % 2 ≡ 0)
      → (p : P) → (same (pt h) (final p (map (λ j. pt (oth j)) t)) ≡ true) × Even (marks same n row c ms t)
  unfolding marks final Even bit
  closes_at {h} {c} (last {i = i} {ms = ms} l e d) hn f ev p =
      (home-again d, λ v m. omega (arith, ev v m, count-mark c ms f i l e (λ j. same (pt v) (pt j)), ap bit (value.alike h (oth i) v hn on m (home-again d))))
    where
      on : oth i < n
      on = good.near i l

      pick : (b : Bool) → same (pt (oth i)) (pt h) ≡ b → open_at (oth i) (mk c ms i) ≡ 0 → same (pt h) (pt (oth i)) ≡ true
      pick true q z = same-sym (oth i) h on hn q
      pick false q z = absurd (omega (arith, ev (oth i) on, count-mark c ms f i l e (λ j. same (pt (oth i)) (pt j)), z, ap bit q, ap bit (value.self (oth i) on)))

      home-again : (same (pt h) (pt (oth i)) ≡ true) ⊎ ((j : ℕ) → j < n → same (pt (oth i)) (pt j) ≡ true → get_or (mk c ms i) j 1 ≢ 0) → same (pt h) (pt (oth i)) ≡ true
      home-again (inl q) = q
      home-again (inr q) =
          pick (same (pt (oth i)) (pt h)) refl (open_none (λ j. same (pt (oth i)) (pt j)) (mk c ms i) (λ j m s. q j (omega (arith, m, (fine-mark c ms f i l e).size)) s))
  closes_at {h} {c} (next {i = i} {j = j} {ms = ms} l e m s r) hn f ev p =
      closes_at r hn (fine-mark c ms f i l e)
      (λ v k. omega (arith, ev v k, count-mark c ms f i l e (λ j. same (pt v) (pt j)), ap bit (value.alike (oth i) j v (good.near i l) m k s)))
      (pt (oth i))

  -- ---- all contours

  abbrev trail : ℕ → List Contour → List ℕ → List ℕ
  trail i cs ms = trail_at same n row i (length cs) ms

  abbrev after : ℕ → List Contour → List ℕ → List ℕ
  after i cs ms = marked same n row i cs ms

  pub steps : (c i : ℕ) (ms : List ℕ) → Fine ms → i < n → get_or ms i 1 ≡ 0 → Steps i c i ms (walk same n row n (pt i) c ms i)
  steps c i ms f l e = walked n i c ms i l f l e (omega (arith, open-le (λ j. true) 0 ms, f.size))

  pub fresh : Fine (replicate n 0)
  fresh = record { size = length-replicate n 0; mated = λ j l e. get_or-replicate n (oth j) 0 1 (good.near j l) }

  -- ---- each edge once

  walks_snoc : (j : ℕ) (cs : List Contour) (k : Contour) → walks n row j (cs ++ (k ∷ [])) ≡ walks n row j cs + visits n row j k.trail
  unfolding walks
  walks_snoc j [] k = omega arith
  walks_snoc j (x ∷ cs) k = omega (arith, walks_snoc j cs k)

  record Once (i : ℕ) (ms : List ℕ) (cs : List Contour) : Type 0 where
    fine : Fine ms
    begun : RightLater n row → All (λ k. Begins n row k.trail) cs
    inside : All (λ k. All (λ j. j < n) k.trail) cs
    shut : (j : ℕ) → j < i → flag ms j ≡ 0
    sum : (j : ℕ) → j < n → walks n row j cs + flag ms j ≡ 1

  once-skip : (i : ℕ) (ms : List ℕ) (cs : List Contour) → i < n → Once i ms cs → is_open (get_or ms i 1) ≡ false → Once (suc i) ms cs
  once-skip i ms cs l h e = record { fine = h.fine; begun = h.begun; inside = h.inside; shut = shut'; sum = h.sum }
    where
      shut' : (j : ℕ) → j < suc i → flag ms j ≡ 0
      shut' j m = go (ℕ_discrete j i)
        where
          go : Dec (j ≡ i) → flag ms j ≡ 0
          go (yes q) = rw q (flag-shut ms i e)
          go (no q) = h.shut j (omega arith)

  begins : {h c i : ℕ} {ms t : List ℕ} → Steps h c i ms t → (row i).left ≡ true → Begins n row t
  begins (last l e d) q = q
  begins (next l e m s r) q = q

  once-make : (i : ℕ) (ms : List ℕ) (cs : List Contour) (p : Option ℕ) (d : ℕ) → i < n → Once i ms cs → get_or ms i 1 ≡ 0 → Once (suc i) (after i cs ms) (more same n row i cs ms p d)
  once-make i ms cs p d l h e =
      record { fine = fine-marks s h.fine; begun = λ q. all_snoc (λ k. Begins n row k.trail) cs _ (h.begun q) (begins s (at_left q)); inside = all_snoc (λ k. All (λ j. j < n) k.trail) cs _ h.inside (steps-in s); shut = shut'; sum = λ j m. rw walks_snoc (omega (arith, h.sum j m, visits-steps j s h.fine)) }
    where
      s : Steps i (length cs) i ms (trail i cs ms)
      s = steps (length cs) i ms h.fine l e

      -- else its left end, which was walked, would be open too
      at_left : RightLater n row → (row i).left ≡ true
      at_left q = pick (row i).left refl
        where
          pick : (b : Bool) → (row i).left ≡ b → b ≡ true
          pick true r = refl
          pick false r = absurd (omega (arith, h.shut (oth i) (q i l r), flag-open ms (oth i) (h.fine.mated i l e)))

      shut' : (j : ℕ) → j < suc i → flag (after i cs ms) j ≡ 0
      shut' j m = go (ℕ_discrete j i)
        where
          go : Dec (j ≡ i) → flag (after i cs ms) j ≡ 0
          go (yes q) = rw q (start-shut s h.fine)
          go (no q) = omega (arith, h.shut j (omega arith), visits-steps j s h.fine)

  once : Ends n Once (trace same n row)
  unfolding walks
  once =
      trace-end same n row Once once-skip once-make
      (record { fine = fresh; begun = λ q. tt; inside = tt; shut = λ j m. absurd (omega arith); sum = λ j m. omega (arith, flag-open (replicate n 0) j (get_or-replicate n j 0 1 m)) })

  -- each position lies on exactly one edge that is walked, once, in one contour
  pub each-once : (ms : List ℕ) (cs : List Contour) → trace same n row ≡ done ms cs → (j : ℕ) → j < n → walks n row j cs ≡ 1
  each-once ms cs e j l = let r : Once n ms cs = rw e at once in omega (arith, r.sum j l, r.shut j l)

  pub trails-in : (ms : List ℕ) (cs : List Contour) → trace same n row ≡ done ms cs → All (λ k. All (λ j. j < n) k.trail) cs
  trails-in ms cs e = let r : Once n ms cs = rw e at once in r.inside

  -- a contour never begins at a right end
  pub begins-left : RightLater n row → Ends n (λ i ms cs. All (λ k. Begins n row k.trail) cs) (trace same n row)
  begins-left q = go (trace same n row) once
    where
      go : (t : Answer) → Ends n Once t → Ends n (λ i ms cs. All (λ k. Begins n row k.trail) cs) t
      go (done ms cs) h = h.begun q
      go (halted k i ms cs) h = (h.0, h.1, h.2.begun q)

  -- ---- every contour closes

  closed-snoc : (cs : List Contour) (k : Contour) → AllClosed n row same cs → closes same (corners same n row k.trail) ≡ true → AllClosed n row same (cs ++ (k ∷ []))
  closed-snoc [] k a b = (b, tt)
  closed-snoc (x ∷ cs) k a b = (a.0, closed-snoc cs k a.1 b)

  record Shut (i : ℕ) (ms : List ℕ) (cs : List Contour) : Type 0 where
    fine : Fine ms
    even : Even ms
    all : AllClosed n row same cs

  closed-steps : {c i : ℕ} {ms t : List ℕ} → Steps i c i ms t → ((p : P) → same (pt i) (final p (map (λ j. pt (oth j)) t)) ≡ true) → closes same (corners same n row t) ≡ true
  unfolding corners closes
  closed-steps {i = i} (last l e d) h = h (pt i)
  closed-steps {i = i} (next l e m s r) h = h (pt i)

  shut-make : (i : ℕ) (ms : List ℕ) (cs : List Contour) (p : Option ℕ) (d : ℕ) → i < n → Shut i ms cs → get_or ms i 1 ≡ 0 → Shut (suc i) (after i cs ms) (more same n row i cs ms p d)
  unfolding Even
  shut-make i ms cs p d l h e = record { fine = fine-marks s h.fine; even = (c (pt i)).1; all = closed-snoc cs _ h.all (closed-steps s (λ p. (c p).0)) }
    where
      s : Steps i (length cs) i ms (trail i cs ms)
      s = steps (length cs) i ms h.fine l e

      c : (p : P) → (same (pt i) (final p (map (λ j. pt (oth j)) (trail i cs ms))) ≡ true) × Even (after i cs ms)
      c p = closes_at s l h.fine (λ v m. omega (arith, h.even v m)) p

  -- if every point ends an even number of edges, every contour closes
  pub all_closed : ((v : ℕ) → v < n → open_from (λ j. same (pt v) (pt j)) 0 (replicate n 0) % 2 ≡ 0) → (ms : List ℕ) (cs : List Contour) → trace same n row ≡ done ms cs → AllClosed n row same cs
  unfolding Even
  all_closed ev ms cs e =
      let r : Shut n ms cs =
      rw e at (trace-end same n row Shut (λ i ms cs l h o. record { fine = h.fine; even = h.even; all = h.all }) shut-make (record { fine = fresh; even = ev; all = tt }))
      in
      r.all
