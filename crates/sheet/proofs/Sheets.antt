-- The format in both directions: every sheet within the limits is accepted, and what is accepted is the one sheet that the bytes are.
use mathlib.Core.Path.{◌≡◌, refl, sym, ap, ◌∙◌}
use mathlib.Core.List.{List, [], ◌∷◌, ◌++◌, append-nil}
use Prim.Native.Nat.{ℕ, ◌+◌, ◌-◌, ◌≤◌, ◌<◌}
use native.Mathlib.Omega.{arith}
use lib.ListN.{length}
use Rattle.class.specs.declared.Operation.{Operation}
use Rattle.sheet.specs.declared.edges.Edge.{Edge}
use Rattle.sheet.specs.Sheet.{Sheet, AllFit, Fits, operation_line, subject_word, clip_word, layer_bytes, written}
use Rattle.sheet.specs.Reading.{Parsed, Got, Wrong, operation_of, Layer, Whole, Broken, layer_of, Accepted, after_operation, after_subject, after_clip, read_sheet}
use Rattle.sheet.proofs.Sections.{layer-few}
use Rattle.sheet.proofs.Written.{operation-front, operation-split, layer-front, layer-split}

layer-last : (word : List ℕ) (most line : ℕ) (l : List Edge) → AllFit l → length l ≤ most → length l < 4294967296 → layer_of word most line (layer_bytes word l) ≡ Whole l []
layer-last word most line l h k m =
    ap (layer_of word most line) (sym (append-nil (layer_bytes word l))) ∙ layer-front word most line l [] h k m

-- every sheet is accepted
pub accepts : (s : Sheet) → Fits s → read_sheet (written s) ≡ Accepted s
unfolding read_sheet after_operation after_subject after_clip written
accepts s h =
    let few = h.few in
    rw (operation-front s.operation (layer_bytes subject_word s.subject ++ layer_bytes clip_word s.clip), layer-front subject_word 256 2 s.subject (layer_bytes clip_word s.clip) h.subject (omega arith) (omega arith), layer-last clip_word (256 - length s.subject) (3 + length s.subject) s.clip h.clip (omega arith) (omega arith))

-- .. and nothing else
pub describes : (b : List ℕ) (s : Sheet) → read_sheet b ≡ Accepted s → (b ≡ written s) × Fits s
unfolding read_sheet after_operation after_subject after_clip written
describes b s e = operation (operation_of b) refl e
  where
    clip : (o : Operation) (t : List ℕ) → operation_of b ≡ Got o t → (l : List Edge) (u : List ℕ) → layer_of subject_word 256 2 t ≡ Whole l u → (x : Layer) → layer_of clip_word (256 - length l) (3 + length l) u ≡ x → after_clip o l x ≡ Accepted s → (b ≡ written s) × Fits s
    clip o t h l u i (Whole m []) j f =
        let p = layer-split subject_word 256 2 t l u i in
        let q = layer-split clip_word (256 - length l) (3 + length l) u m [] j in
        let same : record { operation = o; subject = l; clip = m } ≡ s = cc in
        rw (← same) (
          operation-split b o t h ∙ ap (λ (v : List ℕ). operation_line o ++ v) (p.0 ∙ ap (λ (v : List ℕ). layer_bytes subject_word l ++ v) (q.0 ∙ append-nil (layer_bytes clip_word m))),
          record { subject = p.1; clip = q.1; few = omega (arith, layer-few subject_word 256 2 t l u i, layer-few clip_word (256 - length l) (3 + length l) u m [] j) },
        )
    clip o t h l u i (Whole m (c ∷ v)) j f = let z : ◌≡◌ {A = ℕ} 0 1 = cc in absurd (omega arith)
    clip o t h l u i (Broken n k) j f = let z : ◌≡◌ {A = ℕ} 0 1 = cc in absurd (omega arith)

    subject : (o : Operation) (t : List ℕ) → operation_of b ≡ Got o t → (x : Layer) → layer_of subject_word 256 2 t ≡ x → after_subject o x ≡ Accepted s → (b ≡ written s) × Fits s
    subject o t h (Whole l u) i f = clip o t h l u i (layer_of clip_word (256 - length l) (3 + length l) u) refl f
    subject o t h (Broken n k) i f = let z : ◌≡◌ {A = ℕ} 0 1 = cc in absurd (omega arith)

    operation : (x : Parsed Operation) → operation_of b ≡ x → after_operation x ≡ Accepted s → (b ≡ written s) × Fits s
    operation (Got o t) h f = subject o t h (layer_of subject_word 256 2 t) refl f
    operation Wrong h f = let z : ◌≡◌ {A = ℕ} 0 1 = cc in absurd (omega arith)
