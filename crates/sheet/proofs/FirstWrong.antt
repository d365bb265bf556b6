-- The line told is the first that is wrong: the lines before it are those of some sheet, and with it they are those of none.
use Rattle.refusals.specs.declared.Reason.{Reason}
use Rattle.refusals.specs.declared.Reason.TheVariants as Reason
use mathlib.Core.Path.{◌≡◌, refl, sym, ap, ◌∙◌, subst}
use mathlib.Core.List.{List, [], ◌∷◌, ◌++◌, append_assoc, append-nil}
use Prim.Native.Nat.{ℕ, suc, ◌+◌, ◌-◌, ◌≤◌, ◌<◌}
use native.Mathlib.Omega.{arith}
use lib.ListN.{length, drop}
use lib.Seq.{drop-append_seam}
use Rattle.class.specs.declared.Operation.{Operation}
use Rattle.class.specs.declared.Operation.TheVariants.{Union}
use Rattle.sheet.specs.declared.edges.Edge.{Edge}
use Rattle.sheet.specs.Sheet.{Sheet, Fits, operation_line, subject_word, clip_word, layer_bytes, written}
use Rattle.sheet.specs.Reading.{Parsed, Got, Wrong, operation_of, Layer, Whole, Broken, layer_of, Accepted, Refused, after_operation, after_subject, after_clip, read_sheet}
use Rattle.sheet.specs.Lines.{first_lines, Begun}
use Rattle.sheet.proofs.Sections.{layer-few}
use Rattle.sheet.proofs.Written.{operation-front, operation-split, layer-front, layer-split}
use Rattle.sheet.proofs.Sheets.{accepts}
use Rattle.sheet.proofs.Cuts.{Lines, lines_join, lines_none, operation-line, within-subject, within-clip, layer-lines, in-front}
use Rattle.sheet.proofs.Stuck.{operation-alike, Stuck, stuck}

broken : (o : Operation) (l : List Edge) (n : Reason) (a : ℕ) (s : Sheet) → after_clip o l (Broken n a) ≡ Accepted s → ⊥
unfolding after_clip
broken o l n a s f = let z : ◌≡◌ {A = ℕ} 0 1 = cc in omega arith

goes_on : (o : Operation) (l m : List Edge) (c : ℕ) (v : List ℕ) (s : Sheet) → after_clip o l (Whole m (c ∷ v)) ≡ Accepted s → ⊥
unfolding after_clip
goes_on o l m c v s f = let z : ◌≡◌ {A = ℕ} 0 1 = cc in omega arith

-- ---- where reading stops: the lines before, some sheet that they begin, and no sheet with the next line

record Cut (b : List ℕ) (at : ℕ) : Type 0 where
  before : List ℕ
  rest : List ℕ
  parts : b ≡ before ++ rest
  count : ℕ
  lines : Lines count before
  told : at ≡ suc count
  sheet : Sheet
  fits : Fits sheet
  more : List ℕ
  begins : written sheet ≡ before ++ more
  fails : (y : List ℕ) → first_lines 1 y ≡ first_lines 1 rest → (s : Sheet) → read_sheet (before ++ y) ≡ Accepted s → ⊥

at-operation : (b : List ℕ) → operation_of b ≡ Wrong → Cut b 1
unfolding read_sheet after_operation
at-operation b h =
    record {
      before = [];
      rest = b;
      parts = refl;
      count = 0;
      lines = lines_none;
      told = omega arith;
      sheet = record { operation = Union; subject = []; clip = [] };
      fits = record { subject = tt; clip = tt; few = omega arith };
      more = written (record { operation = Union; subject = []; clip = [] });
      begins = refl;
      fails = λ y e s f. let w = operation-alike b y e h in let g : Refused Reason.Malformed 1 ≡ Accepted s = rw w at f in let z : ◌≡◌ {A = ℕ} 0 1 = cc in omega arith;
    }

module _ (b : List ℕ) (o : Operation) (t : List ℕ) (h : operation_of b ≡ Got o t) where
  at-subject : (at : ℕ) → Stuck subject_word 256 2 t at → Cut b at
  unfolding read_sheet after_operation after_subject written
  at-subject at k =
      record {
        before = operation_line o ++ k.before;
        rest = k.rest;
        parts = operation-split b o t h ∙ ap (λ (v : List ℕ). operation_line o ++ v) k.parts ∙ sym (append_assoc (operation_line o) k.before k.rest);
        count = 1 + k.count;
        lines = lines_join 1 k.count (operation_line o) k.before (operation-line o) k.lines;
        told = omega (arith, k.told);
        sheet = record { operation = o; subject = k.edges; clip = [] };
        fits = record { subject = k.fit; clip = tt; few = omega (arith, k.few) };
        more = k.more ++ layer_bytes clip_word [];
        begins =
            ap (λ (v : List ℕ). operation_line o ++ (v ++ layer_bytes clip_word [])) k.begins
            ∙ ap (λ (v : List ℕ). operation_line o ++ v) (append_assoc k.before k.more (layer_bytes clip_word []))
            ∙ sym (append_assoc (operation_line o) k.before (k.more ++ layer_bytes clip_word []));
        fails = λ y e s f. other y e s (layer_of subject_word 256 2 (k.before ++ y)) refl (rw (append_assoc (operation_line o) k.before y, operation-front o (k.before ++ y)) at f);
      }
    where
      other : (y : List ℕ) → first_lines 1 y ≡ first_lines 1 k.rest → (s : Sheet) (x : Layer) → layer_of subject_word 256 2 (k.before ++ y) ≡ x → after_subject o x ≡ Accepted s → ⊥
      other y e s (Whole l u) i f = k.fails y e l u i
      other y e s (Broken n a) i f = let z : ◌≡◌ {A = ℕ} 0 1 = cc in omega arith

  module _ (l : List Edge) (u : List ℕ) (i : layer_of subject_word 256 2 t ≡ Whole l u) where
    -- the bytes of the operation and the subject
    front : List ℕ
    front = operation_line o ++ layer_bytes subject_word l

    front-parts : b ≡ front ++ u
    unfolding front
    front-parts =
        operation-split b o t h
        ∙ ap (λ (v : List ℕ). operation_line o ++ v) (layer-split subject_word 256 2 t l u i).0
        ∙ sym (append_assoc (operation_line o) (layer_bytes subject_word l) u)

    front-lines : Lines (1 + (1 + length l)) front
    unfolding front
    front-lines = lines_join 1 (1 + length l) (operation_line o) (layer_bytes subject_word l) (operation-line o) (layer-lines subject_word l within-subject)

    front_read : (v : List ℕ) → read_sheet (front ++ v) ≡ after_clip o l (layer_of clip_word (256 - length l) (3 + length l) v)
    unfolding front read_sheet after_operation after_subject
    front_read v =
        let few : length l ≤ 256 = layer-few subject_word 256 2 t l u i in
        rw (append_assoc (operation_line o) (layer_bytes subject_word l) v, operation-front o (layer_bytes subject_word l ++ v), layer-front subject_word 256 2 l v (layer-split subject_word 256 2 t l u i).1 few (omega arith))

    at-clip : (at : ℕ) → Stuck clip_word (256 - length l) (3 + length l) u at → Cut b at
    unfolding front written
    at-clip at k =
        let few : length l ≤ 256 = layer-few subject_word 256 2 t l u i in
        record {
          before = front ++ k.before;
          rest = k.rest;
          parts = front-parts ∙ ap (λ (v : List ℕ). front ++ v) k.parts ∙ sym (append_assoc front k.before k.rest);
          count = 1 + (1 + length l) + k.count;
          lines = lines_join (1 + (1 + length l)) k.count front k.before front-lines k.lines;
          told = omega (arith, k.told);
          sheet = record { operation = o; subject = l; clip = k.edges };
          fits = record { subject = (layer-split subject_word 256 2 t l u i).1; clip = k.fit; few = omega (arith, k.few) };
          more = k.more;
          begins =
              sym (append_assoc (operation_line o) (layer_bytes subject_word l) (layer_bytes clip_word k.edges))
              ∙ ap (λ (v : List ℕ). front ++ v) k.begins
              ∙ sym (append_assoc front k.before k.more);
          fails = λ y e s f. other y e s (layer_of clip_word (256 - length l) (3 + length l) (k.before ++ y)) refl (sym (ap read_sheet (append_assoc front k.before y) ∙ front_read (k.before ++ y)) ∙ f);
        }
      where
        other : (y : List ℕ) → first_lines 1 y ≡ first_lines 1 k.rest → (s : Sheet) (x : Layer) → layer_of clip_word (256 - length l) (3 + length l) (k.before ++ y) ≡ x → after_clip o l x ≡ Accepted s → ⊥
        other y e s (Whole m v) j f = k.fails y e m v j
        other y e s (Broken n a) j f = broken o l n a s f

    -- something comes after the last edge
    at-end : (m : List Edge) (c : ℕ) (v : List ℕ) → layer_of clip_word (256 - length l) (3 + length l) u ≡ Whole m (c ∷ v) → Cut b (4 + (length l + length m))
    unfolding front written first_lines
    at-end m c v j =
        let few : length l ≤ 256 = layer-few subject_word 256 2 t l u i in
        let fewer : length m ≤ 256 - length l = layer-few clip_word (256 - length l) (3 + length l) u m (c ∷ v) j in
        let p = layer-split clip_word (256 - length l) (3 + length l) u m (c ∷ v) j in
        record {
          before = front ++ layer_bytes clip_word m;
          rest = c ∷ v;
          parts = front-parts ∙ ap (λ (w : List ℕ). front ++ w) p.0 ∙ sym (append_assoc front (layer_bytes clip_word m) (c ∷ v));
          count = 1 + (1 + length l) + (1 + length m);
          lines = lines_join (1 + (1 + length l)) (1 + length m) front (layer_bytes clip_word m) front-lines (layer-lines clip_word m within-clip);
          told = omega arith;
          sheet = record { operation = o; subject = l; clip = m };
          fits = record { subject = (layer-split subject_word 256 2 t l u i).1; clip = p.1; few = omega arith };
          more = [];
          begins = sym (append_assoc (operation_line o) (layer_bytes subject_word l) (layer_bytes clip_word m)) ∙ sym (append-nil (front ++ layer_bytes clip_word m));
          fails = λ y e s f. other y e s (sym (ap read_sheet (append_assoc front (layer_bytes clip_word m) y) ∙ front_read (layer_bytes clip_word m ++ y) ∙ ap (after_clip o l) (layer-front clip_word (256 - length l) (3 + length l) m y p.1 fewer (omega arith))) ∙ f);
        }
      where
        other : (y : List ℕ) → first_lines 1 y ≡ first_lines 1 (c ∷ v) → (s : Sheet) → after_clip o l (Whole m y) ≡ Accepted s → ⊥
        other [] e s f = let z : ◌≡◌ {A = ℕ} 0 1 = cc in omega arith
        other (d ∷ y) e s f = goes_on o l m d y s f

cut : (b : List ℕ) (n : Reason) (at : ℕ) → read_sheet b ≡ Refused n at → Cut b at
unfolding read_sheet after_operation after_subject after_clip
cut b n at e = operation (operation_of b) refl e
  where
    clip : (o : Operation) (t : List ℕ) (h : operation_of b ≡ Got o t) (l : List Edge) (u : List ℕ) (i : layer_of subject_word 256 2 t ≡ Whole l u) (x : Layer) → layer_of clip_word (256 - length l) (3 + length l) u ≡ x → after_clip o l x ≡ Refused n at → Cut b at
    clip o t h l u i (Whole m []) j f = let z : ◌≡◌ {A = ℕ} 0 1 = cc in absurd (omega arith)
    clip o t h l u i (Whole m (c ∷ v)) j f =
        let same : 4 + (length l + length m) ≡ at = cc in
        subst (λ (a : ℕ). Cut b a) same (at-end b o t h l u i m c v j)
    clip o t h l u i (Broken k a) j f =
        let same : a ≡ at = cc in
        subst (λ (x : ℕ). Cut b x) same (at-clip b o t h l u i a (stuck clip_word within-clip (256 - length l) (3 + length l) (omega arith) u k a j))

    subject : (o : Operation) (t : List ℕ) → operation_of b ≡ Got o t → (x : Layer) → layer_of subject_word 256 2 t ≡ x → after_subject o x ≡ Refused n at → Cut b at
    subject o t h (Whole l u) i f = clip o t h l u i (layer_of clip_word (256 - length l) (3 + length l) u) refl f
    subject o t h (Broken k a) i f =
        let same : a ≡ at = cc in
        subst (λ (x : ℕ). Cut b x) same (at-subject b o t h a (stuck subject_word within-subject 256 2 (omega arith) t k a i))

    operation : (x : Parsed Operation) → operation_of b ≡ x → after_operation x ≡ Refused n at → Cut b at
    operation (Got o t) h f = subject o t h (layer_of subject_word 256 2 t) refl f
    operation Wrong h f =
        let same : 1 ≡ at = cc in
        subst (λ (x : ℕ). Cut b x) same (at-operation b h)

-- ---- the first wrong line

module _ (b : List ℕ) (at : ℕ) (k : Cut b at) where
  lines-before : first_lines (at - 1) b ≡ k.before
  unfolding first_lines
  lines-before =
      let n : at - 1 ≡ k.count + 0 = omega (arith, k.told) in
      ap (λ (m : ℕ). first_lines m b) n ∙ ap (first_lines (k.count + 0)) k.parts ∙ k.lines 0 k.rest ∙ append-nil k.before

  begun-before : Begun (at - 1) b
  unfolding first_lines
  begun-before =
      let n : at - 1 ≡ k.count + 0 = omega (arith, k.told) in
      record {
        sheet = k.sheet;
        fits = k.fits;
        alike = ap (λ (m : ℕ). first_lines m (written k.sheet)) n ∙ ap (first_lines (k.count + 0)) k.begins ∙ k.lines 0 k.more ∙ append-nil k.before ∙ sym lines-before;
      }

  none-with : Begun at b → ⊥
  none-with g =
      let n : at ≡ k.count + 1 = omega (arith, k.told) in
      let w = written g.sheet in
      let whole : first_lines (k.count + 1) w ≡ k.before ++ first_lines 1 k.rest = ap (λ (m : ℕ). first_lines m w) (sym n) ∙ g.alike ∙ ap (λ (m : ℕ). first_lines m b) n ∙ ap (first_lines (k.count + 1)) k.parts ∙ k.lines 1 k.rest in
      let p = in-front (k.count + 1) w in
      let y = first_lines 1 k.rest ++ p.0 in
      let split : w ≡ k.before ++ y = p.1 ∙ ap (λ (l : List ℕ). l ++ p.0) whole ∙ append_assoc k.before (first_lines 1 k.rest) p.0 in
      let same : k.before ++ first_lines 1 y ≡ k.before ++ first_lines 1 k.rest = sym (k.lines 1 y) ∙ ap (first_lines (k.count + 1)) (sym split) ∙ whole in
      let next : first_lines 1 y ≡ first_lines 1 k.rest = sym (drop-append_seam k.before (first_lines 1 y)) ∙ ap (drop (length k.before)) same ∙ drop-append_seam k.before (first_lines 1 k.rest) in
      k.fails y next g.sheet (ap read_sheet (sym split) ∙ accepts g.sheet g.fits)

pub first-wrong : (b : List ℕ) (n : Reason) (at : ℕ) → read_sheet b ≡ Refused n at → (0 < at) × Begun (at - 1) b × (Begun at b → ⊥)
first-wrong b n at e =
    let k = cut b n at e in
    (omega (arith, k.told), begun-before b at k, none-with b at k)
