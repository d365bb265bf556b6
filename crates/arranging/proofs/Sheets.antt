-- A sheet in order: sheets that are one drawing become one sheet, and that is the same drawing in as many bytes.
use mathlib.Core.Path.{◌≡◌, refl, sym, ap, ◌∙◌}
use mathlib.Core.Bool.{Bool, true, false, not, cond, ◌&&◌, true≢false}
use mathlib.Core.List.{List}
use Prim.Native.Nat.{ℕ, ◌+◌}
use native.Mathlib.Omega.{arith}
use lib.ListN.{length, length-append}
use Rattle.class.specs.declared.Operation.{Operation}
use Rattle.text.specs.Digits.{decimal}
use Rattle.sheet.specs.declared.edges.Edge.{Edge}
use Rattle.sheet.specs.Sheet.{Sheet, AllFit, Fits, operation_line, subject_word, clip_word, count_line, edge_lines, layer_bytes, written}
use Rattle.sorting.specs.Rows.{at_most}
use Rattle.sorting.proofs.Order.{total, antisymmetric}
use Rattle.arranging.specs.Order.{layer_key, layer_at_most}
use Rattle.arranging.specs.Arranged.{in_order, symmetric, sheet, exchanged, lesser_first, arranged}
use Rattle.arranging.specs.Drawing.{SameDrawing, as_called, called_otherwise}
use Rattle.arranging.proofs.Keys.{layer-told}
use Rattle.arranging.proofs.InOrder.{in-order-fits, in-order-many, in-order-long, layer-alike, layer-same}
use Rattle.arranging.proofs.Same.{drawing-meets}

-- what holds of both, where the operation does not ask which layer is which
pub either-layer : (P : Sheet → Type 0) (o : Operation) (l m : List Edge) → P (sheet o l m) → (symmetric o ≡ true → P (sheet o m l)) → P (lesser_first o l m)
unfolding lesser_first exchanged
either-layer P o l m h k = go (symmetric o) (layer_at_most l m) k
  where
    go : (a b : Bool) → (a ≡ true → P (sheet o m l)) → P (cond (a && not b) (sheet o m l) (sheet o l m))
    go true true i = h
    go true false i = i refl
    go false true i = h
    go false false i = h

-- ---- it is a sheet, and the same drawing

pub arranged-fits : (s : Sheet) → Fits s → Fits (arranged s)
unfolding arranged
arranged-fits s h =
    let p = in-order-fits s.subject h.subject in
    let q = in-order-fits s.clip h.clip in
    let m = in-order-many s.subject in
    let n = in-order-many s.clip in
    let few = h.few in
    either-layer Fits s.operation (in_order s.subject) (in_order s.clip) (record { subject = p; clip = q; few = omega arith }) (λ e. record { subject = q; clip = p; few = omega arith })

pub arranged-drawing : (s : Sheet) → SameDrawing s (arranged s)
unfolding arranged
arranged-drawing s =
    let p = layer-same s.subject in
    let q = layer-same s.clip in
    either-layer (SameDrawing s) s.operation (in_order s.subject) (in_order s.clip) (as_called refl p q) (λ e. called_otherwise refl e p q)

-- ---- one drawing

-- the lesser layer first, whichever was called the subject
either_first : (o : Operation) (l m : List Edge) → AllFit l → AllFit m → symmetric o ≡ true → lesser_first o l m ≡ lesser_first o m l
unfolding lesser_first exchanged layer_at_most
either_first o l m h k e = rw e (go (at_most (layer_key l) (layer_key m)) (at_most (layer_key m) (layer_key l)) refl refl)
  where
    go : (a b : Bool) → at_most (layer_key l) (layer_key m) ≡ a → at_most (layer_key m) (layer_key l) ≡ b → cond (not a) (sheet o m l) (sheet o l m) ≡ cond (not b) (sheet o l m) (sheet o m l)
    go true true c d = rw (layer-told l m h k (antisymmetric (layer_key l) (layer_key m) c d))
    go true false c d = refl
    go false true c d = refl
    go false false c d = absurd (true≢false (sym (total (layer_key l) (layer_key m) c) ∙ d))

pub arranged-same : (s t : Sheet) → Fits s → Fits t → SameDrawing s t → arranged s ≡ arranged t
unfolding arranged
arranged-same s t h k (as_called e p q) =
    rw (e, layer-alike s.subject t.subject h.subject k.subject p, layer-alike s.clip t.clip h.clip k.clip q)
arranged-same s t h k (called_otherwise e f p q) =
    let turn = either_first t.operation (in_order t.clip) (in_order t.subject) (in-order-fits t.clip k.clip) (in-order-fits t.subject k.subject) (sym (ap symmetric e) ∙ f) in
    rw (e, layer-alike s.subject t.clip h.subject k.clip p, layer-alike s.clip t.subject h.clip k.subject q) turn

-- .. and nothing else becomes that sheet
pub same-arranged : (s t : Sheet) → arranged s ≡ arranged t → SameDrawing s t
same-arranged s t e = drawing-meets s t (arranged t) (rw e at (arranged-drawing s)) (arranged-drawing t)

-- ---- its bytes

-- those of a layer after its word
size : List Edge → ℕ
size l = length (decimal (length l)) + length (edge_lines l)

size-kept : (l : List Edge) → size (in_order l) ≡ size l
unfolding size
size-kept l = rw (in-order-many l, in-order-long l)

sheet-long : (o : Operation) (l m : List Edge) → length (written (sheet o l m)) ≡ length (operation_line o) + (length subject_word + length clip_word + 2) + (size l + size m)
unfolding written layer_bytes count_line size
sheet-long o l m = simp length-append (omega arith)

as_long : (s : Sheet) (l m : List Edge) → size l ≡ size s.subject → size m ≡ size s.clip → length (written (lesser_first s.operation l m)) ≡ length (written s)
as_long s l m p q =
    let k = sheet-long s.operation s.subject s.clip in
    either-layer (λ t. length (written t) ≡ length (written s)) s.operation l m (omega (arith, sheet-long s.operation l m)) (λ e. omega (arith, sheet-long s.operation m l))

pub same_length : (s : Sheet) → length (written (arranged s)) ≡ length (written s)
unfolding arranged
same_length s =
    as_long s (in_order s.subject) (in_order s.clip) (size-kept s.subject) (size-kept s.clip)
