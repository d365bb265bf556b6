-- Edge lines in another order within their sections are the same edges in another order.
use mathlib.Core.Path.{◌≡◌, refl, ap}
use mathlib.Core.List.{List, [], ◌∷◌, ◌++◌, map, Permᴰ}
use Prim.Native.Nat.{ℕ}
use native.Mathlib.Omega.{arith}
use lib.ListN.{length, length-append}
use Rattle.numbers.specs.declared.Point.{Point}
use Rattle.loading.specs.Loading as L
use Rattle.loading.specs.OnPool.{edge_of, edges_of}
use Rattle.contours.proofs.Lists.{length-perm}
use Rattle.sheet.specs.declared.edges.Edge.{Edge}
use Rattle.sheet.specs.Sheet.{Sheet}
use Rattle.sheet.specs.Stored.{ends_of, labels_of}
use Rattle.sweep_order.specs.OnPool.{Reordered}
use Rattle.overlay_work.specs.Overlay.{ends_in, labels_in}
use Rattle.overlay_order.specs.Lines.{Permuted}

-- ---- other orders

pub same-order : {A : Type 0} (l : List A) → Permᴰ l l
same-order [] = Permᴰ.nil
same-order (a ∷ l) = Permᴰ.cons refl (same-order l)

of-all : {A B : Type 0} (f : A → B) {l m : List A} → Permᴰ l m → Permᴰ (map f l) (map f m)
of-all f Permᴰ.nil = Permᴰ.nil
of-all f (Permᴰ.cons e p) = Permᴰ.cons (ap f e) (of-all f p)
of-all f (Permᴰ.swap {l = l} e g) = Permᴰ.swap (ap f e) (ap f g)
of-all f (Permᴰ.trans p q) = Permᴰ.trans (of-all f p) (of-all f q)

in-front : {A : Type 0} (k : List A) {l m : List A} → Permᴰ l m → Permᴰ (l ++ k) (m ++ k)
in-front k Permᴰ.nil = same-order k
in-front k (Permᴰ.cons e p) = Permᴰ.cons e (in-front k p)
in-front k (Permᴰ.swap e g) = Permᴰ.swap e g
in-front k (Permᴰ.trans p q) = Permᴰ.trans (in-front k p) (in-front k q)

behind : {A : Type 0} (k : List A) {l m : List A} → Permᴰ l m → Permᴰ (k ++ l) (k ++ m)
behind [] p = p
behind (a ∷ k) p = Permᴰ.cons refl (behind k p)

-- ---- the edges of a sheet

abbrev edge_in : ℕ → Edge → L.Edge Point
edge_in k e = edge_of (ends_of e) (labels_of k e)

clip-edges : (l : List Edge) → edges_of (map ends_of l) (map (labels_of 0) l) ≡ map (edge_in 0) l
unfolding edges_of
clip-edges [] = refl
clip-edges (e ∷ l) = ap (λ (x : List (L.Edge Point)). edge_in 0 e ∷ x) (clip-edges l)

sheet-edges : (a b : List Edge) → edges_of (map ends_of a ++ map ends_of b) (map (labels_of 1) a ++ map (labels_of 0) b) ≡ map (edge_in 1) a ++ map (edge_in 0) b
unfolding edges_of
sheet-edges [] b = clip-edges b
sheet-edges (e ∷ a) b = ap (λ (x : List (L.Edge Point)). edge_in 1 e ∷ x) (sheet-edges a b)

both_long : {A B : Type 0} (f g : A → B) {a b a' b' : List A} → Permᴰ a a' → Permᴰ b b' → length (map f a' ++ map g b') ≡ length (map f a ++ map g b)
both_long f g {a} {b} {a'} {b'} p q =
    omega
    (arith, length-append (map f a') (map g b'), length-append (map f a) (map g b), length-perm (of-all f p), length-perm (of-all g q))

pub reordered : (s s' : Sheet) → Permuted s s' → Reordered (ends_in s) (labels_in s) (ends_in s') (labels_in s')
reordered s s' h =
    record {
      as_many_ends = both_long ends_of ends_of h.subject h.clip;
      as_many_labels = both_long (labels_of 1) (labels_of 0) h.subject h.clip;
      edges = rw (sheet-edges s.subject s.clip, sheet-edges s'.subject s'.clip) all;
    }
  where
    all : Permᴰ (map (edge_in 1) s.subject ++ map (edge_in 0) s.clip) (map (edge_in 1) s'.subject ++ map (edge_in 0) s'.clip)
    all =
        Permᴰ.trans (in-front (map (edge_in 0) s.clip) (of-all (edge_in 1) h.subject))
        (behind (map (edge_in 1) s'.subject) (of-all (edge_in 0) h.clip))
