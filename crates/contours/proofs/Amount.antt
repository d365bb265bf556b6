-- How much there is at most: no more contours and holes than result edges, no more corners than result events. Each edge that is walked takes one
-- left end and two ends from what is not yet walked.
use Rattle.std.proofs.Common.{Option, None, Some}
use mathlib.Core.Path.{◌≡◌, refl, ap}
use mathlib.Core.Bool.{Bool, true, false, not, cond}
use mathlib.Core.List.{List, [], ◌∷◌, ◌++◌}
use Prim.Native.Nat.{ℕ, zero, suc, ◌+◌, ◌≤◌, ◌<◌}
use native.Mathlib.Omega.{arith}
use borrow.Author.Tests.{eqb-true, ne_eqb}
use lib.ListN.{length, get_or, replicate, length-map}
use lib.Dec.{eqb}
use Rattle.checks.specs.Numbers.{numbers_from}
use Rattle.checks.proofs.Lowest.{length-numbers}
use Rattle.contours.specs.Result.{keep}
use Rattle.contours.specs.Table.{Row}
use Rattle.contours.specs.Walk.{mark, marks, corners}
use Rattle.contours.specs.Contours.{Contour, contour, trail_at, trace}
use Rattle.contours.specs.Outline.{is_parent, holes_of, outline, outlines_from, corner_count, hole_count}
use Rattle.contours.proofs.Marks.{bit, open_from}
use Rattle.contours.proofs.Turns.{Ends, marked, more, trace-end}
use Rattle.contours.proofs.Walked.{Good, ByValue, Fine, Steps, last, next, count-mark, fine-mark, fine-marks, steps, fresh}

-- the edges of contours, and their corners
unfoldable pub edge_total : List Contour → ℕ
edge_total [] = 0
edge_total (k ∷ cs) = length k.trail + edge_total cs

unfoldable pub corner_total : {P : Type 0} → (P → P → Bool) → ℕ → (ℕ → Row P) → List Contour → ℕ
corner_total same n row [] = 0
corner_total same n row (k ∷ cs) = length (corners same n row k.trail) + corner_total same n row cs

edge-snoc : (cs : List Contour) (k : Contour) → edge_total (cs ++ (k ∷ [])) ≡ edge_total cs + length k.trail
unfolding edge_total
edge-snoc [] k = omega arith
edge-snoc (x ∷ cs) k = omega (arith, edge-snoc cs k)

pub count-snoc : (cs : List Contour) (k : Contour) → length (cs ++ (k ∷ [])) ≡ suc (length cs)
count-snoc [] k = refl
count-snoc (x ∷ cs) k = ap suc (count-snoc cs k)

two-sides : (b : Bool) → bit b + bit (not b) ≡ 1
unfolding bit
two-sides true = refl
two-sides false = refl

module _ {P : Type 0} (same : P → P → Bool) (n : ℕ) (row : ℕ → Row P) (good : Good n row) (value : ByValue n row same)
    (sides : (i : ℕ) → i < n → (row (row i).other).left ≡ not (row i).left) where
  corner-snoc : (cs : List Contour) (k : Contour) → corner_total same n row (cs ++ (k ∷ [])) ≡ corner_total same n row cs + length (corners same n row k.trail)
  unfolding corner_total
  corner-snoc [] k = omega arith
  corner-snoc (x ∷ cs) k = omega (arith, corner-snoc cs k)

  abbrev pub lefts : List ℕ → ℕ
  lefts ms = open_from (λ j. (row j).left) 0 ms

  abbrev pub ends : List ℕ → ℕ
  ends ms = open_from (λ j. true) 0 ms

  -- one contour
  record Walk (ms t ms' : List ℕ) : Type 0 where
    left : lefts ms ≡ length t + lefts ms'
    all : ends ms ≡ length t + (length t + ends ms')
    some-edge : 1 ≤ length t
    points : length (corners same n row t) ≡ suc (length t)

  pub one_left : (c : ℕ) (ms : List ℕ) (f : Fine same n row good value ms) (i : ℕ) (l : i < n) (e : get_or ms i 1 ≡ 0) → lefts ms ≡ suc (lefts (mark same n row c ms i))
  one_left c ms f i l e =
      let q = count-mark same n row good value c ms f i l e (λ j. (row j).left) in
      omega (arith, q, two-sides (row i).left, ap bit (sides i l))

  pub two_ends : (c : ℕ) (ms : List ℕ) (f : Fine same n row good value ms) (i : ℕ) (l : i < n) (e : get_or ms i 1 ≡ 0) → ends ms ≡ suc (suc (ends (mark same n row c ms i)))
  unfolding bit
  two_ends c ms f i l e = let q = count-mark same n row good value c ms f i l e (λ j. true) in omega (arith, q)

  walk-amount : {h c i : ℕ} {ms t : List ℕ} → Steps same n row good value h c i ms t → Fine same n row good value ms → Walk ms t (marks same n row c ms t)
  unfolding marks corners
  walk-amount {c = c} (last {i = i} {ms = ms} l e d) f =
      record { left = omega (arith, one_left c ms f i l e); all = omega (arith, two_ends c ms f i l e); some-edge = omega arith; points = refl }
  walk-amount {c = c} (next {i = i} {ms = ms} {t = t} l e m s r) f =
      let w = walk-amount r (fine-mark same n row good value c ms f i l e) in
      record {
        left = omega (arith, one_left c ms f i l e, w.left);
        all = omega (arith, two_ends c ms f i l e, w.all);
        some-edge = omega arith;
        points = ap (λ (k : ℕ). suc (suc k)) (length-map t (λ j. (row (row j).other).point));
      }

  -- all contours
  pub record Amount (i : ℕ) (ms : List ℕ) (cs : List Contour) : Type 0 where
    pub fine : Fine same n row good value ms
    pub left : edge_total cs + lefts ms ≡ lefts (replicate n 0)
    pub all : edge_total cs + edge_total cs + ends ms ≡ ends (replicate n 0)
    pub count : length cs ≤ edge_total cs
    pub points : corner_total same n row cs ≡ edge_total cs + length cs

  amount-make : (i : ℕ) (ms : List ℕ) (cs : List Contour) (p : Option ℕ) (d : ℕ) → i < n → Amount i ms cs → get_or ms i 1 ≡ 0
      → Amount (suc i) (marked same n row i cs ms) (more same n row i cs ms p d)
  amount-make i ms cs p d l h e =
      record {
        fine = fine-marks same n row good value s h.fine;
        left = rw edge-snoc (omega (arith, h.left, w.left));
        all = rw edge-snoc (omega (arith, h.all, w.all));
        count = rw (edge-snoc, count-snoc) (omega (arith, h.count, w.some-edge));
        points = rw (corner-snoc, edge-snoc, count-snoc) (omega (arith, h.points, w.points));
      }
    where
      s : Steps same n row good value i (length cs) i ms (trail_at same n row i (length cs) ms)
      s = steps same n row good value (length cs) i ms h.fine l e

      w : Walk ms (trail_at same n row i (length cs) ms) (marked same n row i cs ms)
      w = walk-amount s h.fine

  pub amount : Ends n Amount (trace same n row)
  unfolding edge_total corner_total
  amount =
      trace-end same n row Amount (λ i ms cs l h o. record { fine = h.fine; left = h.left; all = h.all; count = h.count; points = h.points }) amount-make
      (record { fine = fresh same n row good value; left = omega arith; all = omega arith; count = omega arith; points = omega arith })

-- ---- what outlines take

module _ {P : Type 0} (same : P → P → Bool) (n : ℕ) (row : ℕ → Row P) where
  pub outline-count : (all l : List Contour) (c : ℕ) → length (outlines_from same n row all c l) ≡ length l
  unfolding outlines_from
  outline-count all [] c = refl
  outline-count all (k ∷ l) c = ap suc (outline-count all l (suc c))

  pub corner-count : (all l : List Contour) (c : ℕ) → corner_count (outlines_from same n row all c l) ≡ corner_total same n row l
  unfolding outlines_from outline corner_count corner_total
  corner-count all [] c = refl
  corner-count all (k ∷ l) c = omega (arith, corner-count all l (suc c))

-- a contour is a hole of one other at most
module _ (par : ℕ → Option ℕ) where
  -- the holes, among l, of k contours from c on
  holes_from : ℕ → ℕ → List ℕ → ℕ
  holes_from c zero l = 0
  holes_from c (suc k) l = length (keep (λ j. is_parent c (par j)) l) + holes_from (suc c) k l

  -- whether one of the k from c on is the parent
  owners : ℕ → ℕ → Option ℕ → ℕ
  owners c zero p = 0
  owners c (suc k) p = bit (is_parent c p) + owners (suc c) k p

  owners-none : (c k q : ℕ) → q < c → owners c k (Some q) ≡ 0
  unfolding owners is_parent bit
  owners-none c zero q h = refl
  owners-none c (suc k) q h = rw (ne_eqb q c (λ e. absurd (omega arith))) (omega (arith, owners-none (suc c) k q (omega arith)))

  one-owner : (c k : ℕ) (p : Option ℕ) → owners c k p ≤ 1
  unfolding owners is_parent bit
  one-owner c zero p = omega arith
  one-owner c (suc k) None = omega (arith, one-owner (suc c) k None)
  one-owner c (suc k) (Some q) = go (eqb q c) refl (one-owner (suc c) k (Some q))
    where
      go : (b : Bool) → eqb q c ≡ b → owners (suc c) k (Some q) ≤ 1 → bit b + owners (suc c) k (Some q) ≤ 1
      go true e i = let z : q ≡ c = eqb-true q c e in omega (arith, owners-none (suc c) k q (omega arith))
      go false e i = omega arith

  holes-cons : (c k j : ℕ) (l : List ℕ) → holes_from c k (j ∷ l) ≡ owners c k (par j) + holes_from c k l
  unfolding holes_from owners keep bit
  holes-cons c zero j l = refl
  holes-cons c (suc k) j l = go (is_parent c (par j)) (holes-cons (suc c) k j l)
    where
      go : (b : Bool) → holes_from (suc c) k (j ∷ l) ≡ owners (suc c) k (par j) + holes_from (suc c) k l
          → length (cond b (j ∷ keep (λ j. is_parent c (par j)) l) (keep (λ j. is_parent c (par j)) l)) + holes_from (suc c) k (j ∷ l)
          ≡ bit b + owners (suc c) k (par j) + (length (keep (λ j. is_parent c (par j)) l) + holes_from (suc c) k l)
      go true i = omega arith
      go false i = omega arith

  holes-nil : (c k : ℕ) → holes_from c k [] ≡ 0
  unfolding holes_from keep
  holes-nil c zero = refl
  holes-nil c (suc k) = omega (arith, holes-nil (suc c) k)

  holes-few : (c k : ℕ) (l : List ℕ) → holes_from c k l ≤ length l
  holes-few c k [] = omega (arith, holes-nil c k)
  holes-few c k (j ∷ l) = omega (arith, holes-cons c k j l, one-owner c k (par j), holes-few c k l)

module _ {P : Type 0} (same : P → P → Bool) (n : ℕ) (row : ℕ → Row P) (all : List Contour) where
  abbrev parent_of : ℕ → Option ℕ
  parent_of j = (get_or all j (contour [] None 0)).parent

  holes-are : (l : List Contour) (c : ℕ) → hole_count (outlines_from same n row all c l) ≡ holes_from parent_of c (length l) (numbers_from 0 (length all))
  unfolding outlines_from outline hole_count holes_of holes_from
  holes-are [] c = refl
  holes-are (k ∷ l) c = ap (λ (m : ℕ). length (keep (λ j. is_parent c (parent_of j)) (numbers_from 0 (length all))) + m) (holes-are l (suc c))

  pub hole-count : hole_count (outlines_from same n row all 0 all) ≤ length all
  hole-count = omega (arith, holes-are all 0, holes-few parent_of 0 (length all) (numbers_from 0 (length all)), length-numbers 0 (length all))
