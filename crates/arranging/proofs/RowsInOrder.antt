-- Rows of words put in order by what their edges are put in order by: the rows of the layer in order.
use mathlib.Core.Path.{◌≡◌, refl, sym, ap, ◌∙◌}
use mathlib.Core.Bool.{Bool, true, false, and-true, and-false}
use mathlib.Core.List.{List, [], ◌∷◌, map}
use Prim.Native.Nat.{ℕ}
use Rattle.class.specs.declared.Operation.{Operation}
use Rattle.sheet.specs.declared.edges.Edge.{Edge}
use Rattle.sheet.specs.Sheet.{AllFit}
use Rattle.sheet.specs.Stored.{row_of, edge_of_row}
use Rattle.sheet.proofs.Stored.{edge-of-row}
use Rattle.sorting.specs.Rows.{at_most, sorted, joined}
use Rattle.arranging.specs.Order.{edge_key, layer_key, layer_at_most}
use Rattle.arranging.specs.Arranged.{plain, in_order, symmetric}
use Rattle.arranging.specs.Steps.{key_of_row, row_of_key, keys_in_order, rows_in_order, clip_first}
use Rattle.arranging.proofs.Keys.{row_back}
use Rattle.arranging.proofs.InOrder.{in-order-fits, in-order-keys}

pub edges-back : (l : List Edge) → map edge_of_row (map row_of l) ≡ l
edges-back [] = refl
edges-back (e ∷ l) = rw (edge-of-row e, edges-back l)

keys_of : (l : List Edge) → map key_of_row (map row_of l) ≡ map (λ e. edge_key (plain e)) l
unfolding key_of_row
keys_of [] = refl
keys_of (e ∷ l) = rw (edge-of-row e, keys_of l)

pub keys-in-order : (l : List Edge) → sorted (map key_of_row (map row_of l)) ≡ map edge_key (in_order l)
keys-in-order l = ap sorted (keys_of l) ∙ sym (in-order-keys l)

rows_back : (l : List Edge) → AllFit l → map row_of_key (map edge_key l) ≡ map row_of l
rows_back [] h = refl
rows_back (e ∷ l) h = rw (row_back e h.0, rows_back l h.1)

pub rows-in-order : (l : List Edge) → AllFit l → map row_of_key (sorted (map key_of_row (map row_of l))) ≡ map row_of (in_order l)
rows-in-order l h = ap (map row_of_key) (keys-in-order l) ∙ rows_back (in_order l) (in-order-fits l h)

pub rows-at-most : (l m : List Edge) → at_most (joined (sorted (map key_of_row (map row_of l)))) (joined (sorted (map key_of_row (map row_of m)))) ≡ layer_at_most (in_order l) (in_order m)
unfolding layer_at_most layer_key
rows-at-most l m = rw (keys-in-order l, keys-in-order m)

-- ---- as the code goes

pub rows_are : (rows keys out : List (List ℕ)) → keys ≡ keys_in_order rows → out ≡ map row_of_key keys → out ≡ rows_in_order rows
unfolding rows_in_order
rows_are rows keys out h k = k ∙ ap (map row_of_key) h

module _ (o : Operation) (subject clip ks kc : List (List ℕ)) (h : ks ≡ keys_in_order subject) (k : kc ≡ keys_in_order clip) (t : Bool) (e : t ≡ at_most (joined ks) (joined kc)) where
  asked : t ≡ at_most (joined (keys_in_order subject)) (joined (keys_in_order clip))
  asked = rw (← h, ← k) e

  pub subject-goes-first : t ≡ true → false ≡ clip_first o subject clip
  unfolding clip_first
  subject-goes-first q = rw (← asked, q, and-false)

  pub clip-may-go-first : t ≡ false → (r : Bool) → r ≡ symmetric o → r ≡ clip_first o subject clip
  unfolding clip_first
  clip-may-go-first q r g = rw (← asked, q, ← g, and-true)
