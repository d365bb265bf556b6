-- A layer in order: layers that are the same are put in one order, and what is put in order is the same layer in as many bytes.
use mathlib.Core.Path.{◌≡◌, refl, sym, ap, ◌∙◌}
use mathlib.Core.List.Permᴰ
use mathlib.Core.List.{List, [], ◌∷◌, map, map-map, Permᴰ}
use native.Mathlib.Omega.{arith}
use lib.ListN.{length, length-append, length-map}
use Rattle.contours.specs.Result.{sort}
use Rattle.contours.proofs.Lists.{All, all_of, all-perm, length-perm}
use Rattle.contours.proofs.Sort.{sort-is, sort-map}
use Rattle.sheet.specs.declared.edges.Edge.{Edge}
use Rattle.sheet.specs.Sheet.{EdgeFits, AllFit, edge_line, edge_lines}
use Rattle.sorting.specs.Rows.{at_most, sorted, joined}
use Rattle.sorting.proofs.Sorted.{sorted-same}
use Rattle.arranging.specs.Order.{edge_key, edge_at_most, layer_key}
use Rattle.arranging.specs.Arranged.{plain, in_order}
use Rattle.arranging.specs.Drawing.{SameEdges, SameLayer}
use Rattle.arranging.proofs.Keys.{layer-told}
use Rattle.arranging.proofs.Plain.{plain_fits, plain-long, edge-alike, edge_same}

-- ---- what holds of any edge

abbrev Any : Edge → Type 0
Any e = Unit {0}

any : (l : List Edge) → All Any l
any l = all_of Any l (λ e m. tt)

-- ---- what fits

pub fit-each : (l : List Edge) → AllFit l → All EdgeFits l
fit-each [] h = tt
fit-each (e ∷ l) h = (h.0, fit-each l h.1)

each-fit : (l : List Edge) → All EdgeFits l → AllFit l
each-fit [] h = tt
each-fit (e ∷ l) h = (h.0, each-fit l h.1)

fit-perm : {l m : List Edge} → Permᴰ l m → AllFit l → AllFit m
fit-perm {l} {m} p h = each-fit m (all-perm EdgeFits p (fit-each l h))

plains-fit : (l : List Edge) → AllFit l → AllFit (map plain l)
plains-fit [] h = tt
plains-fit (e ∷ l) h = (plain_fits e h.0, plains-fit l h.1)

-- ---- the same edges, plainly told and in order

pub in-order-is : (l : List Edge) → Permᴰ (map plain l) (in_order l)
unfolding in_order
in-order-is l = sort-is edge_at_most (map plain l)

pub in-order-fits : (l : List Edge) → AllFit l → AllFit (in_order l)
in-order-fits l h = fit-perm (in-order-is l) (plains-fit l h)

pub in-order-many : (l : List Edge) → length (in_order l) ≡ length l
in-order-many l = sym (length-perm (in-order-is l)) ∙ length-map l plain

-- .. by what they are put in order by
pub in-order-keys : (l : List Edge) → map edge_key (in_order l) ≡ sorted (map (λ e. edge_key (plain e)) l)
unfolding in_order sorted edge_at_most
in-order-keys l =
    sym (sort-map edge_at_most at_most edge_key Any (λ a b c d. refl) (map plain l) (any (map plain l))) ∙ ap (sort at_most) (map-map edge_key plain l)

-- ---- layers that are the same

edges-alike : (l m : List Edge) → AllFit l → AllFit m → SameEdges l m → map plain l ≡ map plain m
edges-alike [] [] h k s = refl
edges-alike [] (f ∷ m) h k s = absurd s
edges-alike (e ∷ l) [] h k s = absurd s
edges-alike (e ∷ l) (f ∷ m) h k s = rw (edge-alike e f h.0 k.0 s.0, edges-alike l m h.1 k.1 s.1)

in-order-perm : {l m : List Edge} → AllFit l → AllFit m → Permᴰ l m → in_order l ≡ in_order m
unfolding layer_key
in-order-perm {l} {m} h k p =
    let e = in-order-keys l ∙ sorted-same (Permᴰ.map (λ e. edge_key (plain e)) p) ∙ sym (in-order-keys m) in
    layer-told (in_order l) (in_order m) (in-order-fits l h) (in-order-fits m k) (ap joined e)

pub layer-alike : (l m : List Edge) → AllFit l → AllFit m → SameLayer l m → in_order l ≡ in_order m
unfolding in_order
layer-alike l m h k s =
    let q = fit-perm s.reordered h in
    in-order-perm h q s.reordered ∙ ap (sort edge_at_most) (edges-alike s.listed m q k s.told)

-- ---- the layer in order is the same

-- edges by how they are plainly told
module _ (l : List Edge) where
  by_plain : List Edge
  by_plain = sort (λ a b. edge_at_most (plain a) (plain b)) l

  by-plain-is : Permᴰ l by_plain
  unfolding by_plain
  by-plain-is = sort-is (λ a b. edge_at_most (plain a) (plain b)) l

  by-plain-told : map plain by_plain ≡ in_order l
  unfolding by_plain in_order
  by-plain-told = sym (sort-map (λ a b. edge_at_most (plain a) (plain b)) edge_at_most plain Any (λ a b c d. refl) l (any l))

plain-edges : (l : List Edge) → SameEdges l (map plain l)
plain-edges [] = tt
plain-edges (e ∷ l) = (edge_same e, plain-edges l)

pub layer-same : (l : List Edge) → SameLayer l (in_order l)
layer-same l =
    record {
      listed = by_plain l;
      reordered = by-plain-is l;
      told = rw (by-plain-told l) at (plain-edges (by_plain l));
    }

-- ---- its lines

lines-perm : {l m : List Edge} → Permᴰ l m → length (edge_lines l) ≡ length (edge_lines m)
unfolding edge_lines
lines-perm Permᴰ.nil = refl
lines-perm (Permᴰ.cons {b = b} {l₁ = l} {l₂ = m} e p) =
    rw e (omega (arith, length-append (edge_line b) (edge_lines l), length-append (edge_line b) (edge_lines m), lines-perm p))
lines-perm (Permᴰ.swap {a = a} {b = b} {l = l} e f) =
    rw (← e, ← f) (simp length-append (omega arith))
lines-perm (Permᴰ.trans p q) = lines-perm p ∙ lines-perm q

lines-plain : (l : List Edge) → length (edge_lines (map plain l)) ≡ length (edge_lines l)
unfolding edge_lines
lines-plain [] = refl
lines-plain (e ∷ l) = simp length-append (omega (arith, plain-long e, lines-plain l))

pub in-order-long : (l : List Edge) → length (edge_lines (in_order l)) ≡ length (edge_lines l)
in-order-long l = sym (lines-perm (in-order-is l)) ∙ lines-plain l
