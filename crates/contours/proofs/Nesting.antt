-- What numbers are told of contours: every parent and every hole is one of them, and every depth is below how many they are. A contour made takes its
-- parent and its depth from one before it, whose number the marks hold.
use Rattle.std.proofs.Common.{Option, None, Some}
use mathlib.Core.Path.{◌≡◌}
use mathlib.Core.Bool.{Bool, true, false}
use mathlib.Core.List.{List, [], ◌∷◌}
use Prim.Native.Nat.{ℕ, zero, suc, ◌+◌, ◌≤◌, ◌<◌}
use native.Mathlib.Omega.{arith}
use lib.ListN.{length, get_or, set, replicate}
use Rattle.contours.specs.Table.{Row, Below, nothing, over}
use Rattle.checks.specs.Numbers.{numbers_from}
use Rattle.contours.specs.Walk.{mark, marks}
use Rattle.contours.specs.Contours.{Contour, contour, Place, refuse, placed, hole, under, loose, owned, context, trail_at, trace}
use Rattle.contours.specs.Outline.{Outline, is_parent, holes_of, outline, outlines_from}
use Rattle.contours.proofs.Lists.{All, all_of, all-mem, mem-get_d, all_keep}
use Rattle.contours.proofs.Turns.{Ends, marked, more, trace-placed}
use Rattle.contours.proofs.Walked.{all_snoc}
use Rattle.contours.proofs.Amount.{count-snoc}

-- ---- parents and depths

-- one of the first n
abbrev pub ParentIn : ℕ → Option ℕ → Type 0
ParentIn n None = Unit {0}
ParentIn n (Some p) = p < n

abbrev PlaceIn : ℕ → Place → Type 0
PlaceIn n refuse = Unit {0}
PlaceIn n (placed p d) = ParentIn n p × (d < n)

pub record Nested (n : ℕ) (k : Contour) : Type 0 where
  pub parent : ParentIn n k.parent
  pub depth : k.depth < n

parent-more : (n : ℕ) (p : Option ℕ) → ParentIn n p → ParentIn (suc n) p
parent-more n None h = tt
parent-more n (Some p) h = omega arith

hole-in : (n : ℕ) (p : Option ℕ) (c d : ℕ) → ParentIn n p → c < n → d < n → PlaceIn (suc n) (hole p c d)
unfolding hole
hole-in n None c d h k l = (omega arith, omega arith)
hole-in n (Some p) c d h k l = (omega arith, omega arith)

under-in : (n : ℕ) (b : Bool) (c : ℕ) (k : Contour) → Nested n k → c < n → PlaceIn (suc n) (under b c k)
unfolding under
under-in n false c k h l = let d : k.depth < n = h.depth in (tt, omega arith)
under-in n true c k h l = hole-in n k.parent c k.depth h.parent l h.depth

loose-in : (n : ℕ) (b : Bool) → PlaceIn (suc n) (loose b)
unfolding loose
loose-in n true = tt
loose-in n false = (tt, omega arith)

-- ---- the marks and the contours on the way

pub record Numbered (i : ℕ) (ms : List ℕ) (cs : List Contour) : Type 0 where
  pub marked-in : (j : ℕ) → get_or ms j 0 ≤ length cs
  pub nested : All (Nested (length cs)) cs

context-in : (i : ℕ) (ms : List ℕ) (cs : List Contour) → Numbered i ms cs → (b : Below) → PlaceIn (suc (length cs)) (context ms cs b)
unfolding context owned
context-in i ms cs h nothing = (tt, omega arith)
context-in i ms cs h (over q b) = go (get_or ms q 0) (h.marked-in q)
  where
    go : (m : ℕ) → m ≤ length cs → PlaceIn (suc (length cs)) (owned b cs m)
    go zero l = loose-in (length cs) b
    go (suc c) l = under-in (length cs) b c _ (all-mem (Nested (length cs)) cs _ h.nested (mem-get_d cs c (contour [] None 0) l)) l

-- a mark at most b
set-in : (ms : List ℕ) (i x j b : ℕ) → x ≤ b → get_or ms j 0 ≤ b → get_or (set ms i x) j 0 ≤ b
set-in [] i x j b h l = l
set-in (m ∷ ms) zero x zero b h l = h
set-in (m ∷ ms) zero x (suc j) b h l = l
set-in (m ∷ ms) (suc i) x zero b h l = l
set-in (m ∷ ms) (suc i) x (suc j) b h l = set-in ms i x j b h l

none-marked : (n j : ℕ) → get_or (replicate n 0) j 0 ≤ 0
none-marked zero j = omega arith
none-marked (suc n) zero = omega arith
none-marked (suc n) (suc j) = none-marked n j

module _ {P : Type 0} (same : P → P → Bool) (n : ℕ) (row : ℕ → Row P) where
  marks-in : (c : ℕ) (ms t : List ℕ) (b : ℕ) → suc c ≤ b → ((j : ℕ) → get_or ms j 0 ≤ b) → (j : ℕ) → get_or (marks same n row c ms t) j 0 ≤ b
  unfolding marks mark
  marks-in c ms [] b h l j = l j
  marks-in c ms (i ∷ t) b h l j = marks-in c (set (set ms i (suc c)) (row i).other (suc c)) t b h (λ j. set-in (set ms i (suc c)) (row i).other (suc c) j b h (set-in ms i (suc c) j b h (l j))) j

  numbered-make : (i : ℕ) (ms : List ℕ) (cs : List Contour) (p : Option ℕ) (d : ℕ) → i < n → Numbered i ms cs → get_or ms i 1 ≡ 0 → context ms cs (row i).below ≡ placed p d
      → Numbered (suc i) (marked same n row i cs ms) (more same n row i cs ms p d)
  numbered-make i ms cs p d l h o e =
      let k = contour (trail_at same n row i (length cs) ms) p d in
      let at : PlaceIn (suc (length cs)) (placed p d) = rw e at (context-in i ms cs h (row i).below) in
      let those : All (Nested (suc (length cs))) cs = all_of (Nested (suc (length cs))) cs (λ a m. let w = all-mem (Nested (length cs)) cs a h.nested m in record { parent = parent-more (length cs) a.parent w.parent; depth = omega (arith, w.depth) }) in
      record {
        marked-in = λ j. rw (count-snoc cs k) (marks-in (length cs) ms _ (suc (length cs)) (omega arith) (λ j. omega (arith, h.marked-in j)) j);
        nested = rw (count-snoc cs k) (all_snoc (Nested (suc (length cs))) cs k those (record { parent = at.0; depth = at.1 }));
      }

  pub numbered : Ends n Numbered (trace same n row)
  numbered =
      trace-placed same n row Numbered (λ i ms cs l h o. record { marked-in = h.marked-in; nested = h.nested }) numbered-make
      (record { marked-in = none-marked n; nested = tt })

-- ---- what outlines tell, where there are n

pub record Numbers {P : Type 0} (n : ℕ) (o : Outline P) : Type 0 where
  pub parent : ParentIn n o.parent
  pub depth : o.depth < n
  pub holes : All (λ h. h < n) o.holes

numbers-below : (i k n : ℕ) → i + k ≤ n → All (λ j. j < n) (numbers_from i k)
unfolding numbers_from
numbers-below i zero n h = tt
numbers-below i (suc k) n h = (omega arith, numbers-below (suc i) k n (omega arith))

module _ {P : Type 0} (same : P → P → Bool) (n : ℕ) (row : ℕ → Row P) (all : List Contour) where
  pub outlines-in : (l : List Contour) (c : ℕ) → All (Nested (length all)) l → All (Numbers (length all)) (outlines_from same n row all c l)
  unfolding outlines_from outline holes_of
  outlines-in [] c h = tt
  outlines-in (k ∷ l) c h = (
    record {
      parent = h.0.parent;
      depth = h.0.depth;
      holes = all_keep (λ j. is_parent c (get_or all j (contour [] None 0)).parent) (λ j. j < length all) (numbers_from 0 (length all)) (numbers-below 0 (length all) (length all) (omega arith));
    },
    outlines-in l (suc c) h.1,
  )
