-- Two layers' rows in order, whichever goes first, are the arranged sheet, in bytes and in the form that loading takes.
use mathlib.Core.Path.{◌≡◌, ap}
use mathlib.Core.Bool.{Bool, true, false, not, cond, ◌&&◌}
use mathlib.Core.List.{List, map}
use Prim.Native.Nat.{ℕ}
use lib.ListN.{length, length-map}
use lib.Seq.{sets}
use Rattle.class.specs.declared.Operation.{Operation}
use Rattle.sheet.specs.declared.edges.Edge.{Edge}
use Rattle.sheet.specs.Sheet.{AllFit}
use Rattle.sheet.specs.Reading.{Accepted}
use Rattle.sheet.specs.Stored.{row_of, ends_of, labels_of, ends_of_row, labels_of_row, leave}
use Rattle.sheet.proofs.Puts.{put_both}
use Rattle.sheet.proofs.Stored.{ends-of-rows, labels-of-rows}
use Rattle.printing.specs.Rows.{sheet_of_rows}
use Rattle.arranging.specs.Arranged.{symmetric, sheet, exchanged, lesser_first, arranged, in_order}
use Rattle.arranging.specs.Steps.{keys_in_order, rows_in_order, clip_first, sheet_in_order, stored, stored_in_order}
use Rattle.arranging.proofs.InOrder.{in-order-fits}
use Rattle.arranging.proofs.RowsInOrder.{edges-back, rows-in-order, rows-at-most}

-- ---- which goes first, as the code goes

module _ (o : Operation) (s c s' c' : List (List ℕ)) (h : s' ≡ rows_in_order s) (k : c' ≡ rows_in_order c) (t : Bool) (e : t ≡ clip_first o s c) where
  pub sheet-clip : t ≡ true → sheet_of_rows o c' s' ≡ sheet_in_order o s c
  unfolding sheet_in_order
  sheet-clip q = rw (← e, q, h, k)

  pub sheet-subject : t ≡ false → sheet_of_rows o s' c' ≡ sheet_in_order o s c
  unfolding sheet_in_order
  sheet-subject q = rw (← e, q, h, k)

  pub stored-clip : t ≡ true → (ends labels : List (List ℕ)) → stored o c' s' ends labels ≡ stored_in_order o s c ends labels
  unfolding stored_in_order
  stored-clip q ends labels = rw (← e, q, h, k)

  pub stored-subject : t ≡ false → (ends labels : List (List ℕ)) → stored o s' c' ends labels ≡ stored_in_order o s c ends labels
  unfolding stored_in_order
  stored-subject q ends labels = rw (← e, q, h, k)

-- ---- the rows of a sheet

module _ (o : Operation) (l m : List Edge) (f : AllFit l) (g : AllFit m) where
  in_order_lem : (k : List Edge) → AllFit k → rows_in_order (map row_of k) ≡ map row_of (in_order k)
  unfolding rows_in_order keys_in_order
  in_order_lem k h = rows-in-order k h

  first-is : clip_first o (map row_of l) (map row_of m) ≡ exchanged o (in_order l) (in_order m)
  unfolding clip_first keys_in_order exchanged
  first-is = ap (λ (t : Bool). symmetric o && not t) (rows-at-most l m)

  pub sheet-in-order : sheet_in_order o (map row_of l) (map row_of m) ≡ arranged (sheet o l m)
  unfolding sheet_in_order sheet_of_rows arranged lesser_first
  sheet-in-order = rw (first-is, in_order_lem l f, in_order_lem m g, edges-back (in_order l), edges-back (in_order m))

stored_is : (o : Operation) (l m : List Edge) → AllFit l → AllFit m → (ends labels : List (List ℕ)) → stored o (map row_of l) (map row_of m) ends labels ≡ leave (Accepted (sheet o l m)) ends labels
unfolding stored leave
stored_is o l m f g ends labels =
    let e = put_both ends_of ends_of ends _ _ l m (length (map row_of l)) (length-map l row_of) (ap (sets ends 0) (ends-of-rows l)) (ap (sets (sets ends 0 (map ends_of_row (map row_of l))) (length (map row_of l))) (ends-of-rows m)) in
    let n = put_both (labels_of 1) (labels_of 0) labels _ _ l m (length (map row_of l)) (length-map l row_of) (ap (sets labels 0) (labels-of-rows 1 l f)) (ap (sets (sets labels 0 (map (labels_of_row 1) (map row_of l))) (length (map row_of l))) (labels-of-rows 0 m g)) in
    rw (e, n, length-map l row_of, length-map m row_of)

module _ (o : Operation) (l m : List Edge) (f : AllFit l) (g : AllFit m) (ends labels : List (List ℕ)) where
  pub stored-in-order : stored_in_order o (map row_of l) (map row_of m) ends labels ≡ leave (Accepted (arranged (sheet o l m))) ends labels
  unfolding stored_in_order arranged lesser_first
  stored-in-order = rw (first-is o l m f g, in_order_lem o l m f g l f, in_order_lem o l m f g m g) (go (exchanged o (in_order l) (in_order m)))
    where
      go : (t : Bool) → cond t (stored o (map row_of (in_order m)) (map row_of (in_order l)) ends labels) (stored o (map row_of (in_order l)) (map row_of (in_order m)) ends labels) ≡ leave (Accepted (cond t (sheet o (in_order m) (in_order l)) (sheet o (in_order l) (in_order m)))) ends labels
      go true = stored_is o (in_order m) (in_order l) (in-order-fits m g) (in-order-fits l f) ends labels
      go false = stored_is o (in_order l) (in_order m) (in-order-fits l f) (in-order-fits m g) ends labels
