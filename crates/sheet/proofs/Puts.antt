-- Edges are stored one after the other: what is left of them, stored further on, gives the whole store.
use Rattle.std.proofs.Common.{None, Some, Ok, Err, Option, Result}
use Rattle.sheet.specs.declared.layers.Miscount.{Miscount}
use Rattle.sheet.specs.declared.layers.Miscount.TheVariants as Miscount
use mathlib.Core.Path.{◌≡◌, refl, sym, ap, ◌∙◌}
use Rattle.refusals.specs.declared.Reason.TheVariants as Reason
use mathlib.Core.List.{List, [], ◌∷◌, ◌++◌, map}
use Prim.Native.Nat.{ℕ, suc, ◌+◌, ◌-◌, ◌≤◌, ◌<◌}
use native.Mathlib.Nat.{add-zero, sub-zero}
use native.Mathlib.Numerals.{add-one}
use native.Mathlib.Omega.{arith}
use lib.ListN.{length, get_or, drop, set, length-map, drop_of_length-le}
use lib.Seq.{sets, drop-cons}
use Rattle.class.specs.declared.Operation.{Operation}
use Rattle.refusals.specs.declared.Refusal.{Refusal}
use Rattle.sheet.specs.declared.edges.Edge.{Edge}
use Rattle.sheet.specs.declared.layers.Section.{Section}
use Rattle.sheet.specs.declared.Counts.{Counts}
use Rattle.refusals.specs.declared.Refusal.{Refusal}
use Rattle.sheet.specs.Sheet.{Sheet, subject_word, clip_word}
use Rattle.sheet.specs.Reading.{Layer, Whole, Broken, edges_of, operation_of, count_of, layer_of, Reading, Accepted, after_clip, after_subject, after_operation, read_sheet}
use Rattle.sheet.specs.Shown.{shown_count, begun, shown_layer, shown_operation, told}
use Rattle.sheet.proofs.Sections.{whole-begun}

module _ {E A : Type 0} (f : E → A) (b whole : List A) (place i : ℕ) (l : List E) (inv : sets b (place + i) (map f l) ≡ whole) where
  pub put-again : (e : E) (m : List E) → l ≡ e ∷ m → (c : List A) → c ≡ set b (place + i) (f e) → sets c (place + (i + 1)) (map f m) ≡ whole
  put-again e m h c g =
      let q : place + (i + 1) ≡ suc (place + i) = omega arith in
      rw (g, q) (rw h at inv)

  pub put-end : l ≡ [] → b ≡ whole
  put-end h = rw h at inv

-- what is left of rows
pub left-of : {A : Type 0} (z : A) (rows : List A) (i : ℕ) → i < length rows → drop i rows ≡ get_or rows i z ∷ drop (i + 1) rows
left-of z rows i h = rw add-one (drop-cons rows i z h)

pub put-begun : {A : Type 0} (f : Edge → A) (b : List A) (s : List ℕ) (place count at : ℕ) → sets b (place + 0) (map f (edges_of (count - 0) (drop at s)).list) ≡ sets b place (map f (edges_of count (drop at s)).list)
put-begun f b s place count at = rw (add-zero place, sub-zero count)

-- ---- both layers

-- two lists stored one after the other
pub sets-append : {A : Type 0} (b : List A) (i : ℕ) (c d : List A) → sets b i (c ++ d) ≡ sets (sets b i c) (i + length c) d
sets-append b i [] d = ap (λ (n : ℕ). sets b n d) (sym (add-zero i))
sets-append b i (x ∷ c) d =
    sets-append (set b i x) (suc i) c d
    ∙ ap (λ (n : ℕ). sets (sets (set b i x) (suc i) c) n d) (omega arith)

pub put_both : {A : Type 0} (f g : Edge → A) (b c d : List A) (l m : List Edge) (n : ℕ) → n ≡ length l → c ≡ sets b 0 (map f l) → d ≡ sets c n (map g m) → d ≡ sets b 0 (map f l ++ map g m)
put_both f g b c d l m n h e k =
    let q : 0 + length (map f l) ≡ n = omega (arith, length-map l f) in
    rw (sets-append b 0 (map f l) (map g m), q, ← e) k

-- ---- what was read of a layer is stored

module _ {A : Type 0} (f : Edge → A) (a : List A) (place : ℕ) (b word : List ℕ) (at most : ℕ) (r : Result (ℕ × ℕ) Miscount) (h : shown_count b r ≡ count_of word most (drop at b)) where
  pub stored-read : (n first : ℕ) → r ≡ Ok (n, first) → (c : List A) → c ≡ sets a place (map f (edges_of n (drop first b)).list) → c ≡ sets a place (map f (begun (count_of word most (drop at b))))
  stored-read n first e c g = rw (← h, e) g

  stored-many : r ≡ Err Miscount.Many → a ≡ sets a place (map f (begun (count_of word most (drop at b))))
  stored-many e = rw (← h, e)

  stored-malformed : r ≡ Err Miscount.Malformed → a ≡ sets a place (map f (begun (count_of word most (drop at b))))
  stored-malformed e = rw (← h, e)

  pub stored-miscounted : (m : Miscount) → r ≡ Err m → a ≡ sets a place (map f (begun (count_of word most (drop at b))))
  stored-miscounted Miscount.Many = stored-many
  stored-miscounted Miscount.Malformed = stored-malformed

-- ---- the answers, each by what decides it

module _ (b : List ℕ) (o : Operation) (subject clip : List Edge) (n m p : ℕ) (hn : n ≡ length subject) (hm : m ≡ length clip) where
  pub clip-more : p < length b → Err (record { reason = Reason.Malformed; place = 4 + (n + m) }) ≡ told (after_clip o subject (Whole clip (drop p b)))
  unfolding after_clip
  clip-more h = rw (drop-cons b p 0 h, hn, hm)

  pub clip-read : length b ≤ p → Ok (record { operation = o; subject = n; clip = m }) ≡ told (after_clip o subject (Whole clip (drop p b)))
  unfolding after_clip
  clip-read h = rw (drop_of_length-le b {i = p} h, hn, hm)

pub no_line : (b : List ℕ) (s : Option (Operation × ℕ)) → shown_operation b s ≡ operation_of b → s ≡ None → Err (record { reason = Reason.Malformed; place = 1 }) ≡ told (read_sheet b)
unfolding read_sheet after_operation
no_line b s h e = rw (← h, e)

module _ (b : List ℕ) (o : Operation) (r : Result Section Refusal) (k : List Edge) where
  module _ (l : List Edge) (n p : ℕ) (hn : n ≡ length l) (hr : shown_layer k b r ≡ layer_of clip_word (256 - n) (3 + n) (drop p b)) where
    by-clip : after_clip o l (shown_layer k b r) ≡ after_subject o (Whole l (drop p b))
    unfolding after_subject
    by-clip = rw (hr, hn)

    pub subject-on : (x : Section) → r ≡ Ok x → (y : Result Counts Refusal) → y ≡ told (after_clip o l (Whole k (drop x.after b))) → y ≡ told (after_subject o (Whole l (drop p b)))
    subject-on x e y g = rw (← by-clip, e) g

    pub subject-broken : (q : Refusal) → r ≡ Err q → Err q ≡ told (after_subject o (Whole l (drop p b)))
    unfolding after_clip
    subject-broken q e = rw (← by-clip, e)

  module _ (s : Option (Operation × ℕ)) (hs : shown_operation b s ≡ operation_of b) (p : ℕ) (es : s ≡ Some (o, p)) (hr : shown_layer k b r ≡ layer_of subject_word 256 2 (drop p b)) where
    by-subject : after_subject o (shown_layer k b r) ≡ read_sheet b
    unfolding read_sheet after_operation
    by-subject = rw (← hs, es, ← hr)

    pub sheet-on : (x : Section) → r ≡ Ok x → after_subject o (Whole k (drop x.after b)) ≡ read_sheet b
    sheet-on x e = rw e at by-subject

    pub sheet-broken : (q : Refusal) → r ≡ Err q → Err q ≡ told (read_sheet b)
    unfolding after_subject
    sheet-broken q e = rw (← by-subject, e)

-- ---- an accepted sheet is stored

pub refused_none : (x : Reading) (q : Refusal) → Err q ≡ told x → (s : Sheet) → x ≡ Accepted s → ⊥
refused_none x q h s e =
    let f : Err q ≡ told (Accepted s) = rw e at h in
    let z : ◌≡◌ {A = ℕ} 0 1 = cc in
    omega arith

-- its layers are those that were read
parts : (o : Operation) (l : List Edge) (u : List ℕ) (s : Sheet) → after_subject o (Whole l u) ≡ Accepted s → (l ≡ s.subject) × (begun (count_of clip_word (256 - length l) u) ≡ s.clip)
unfolding after_subject after_clip
parts o l u s e = go (layer_of clip_word (256 - length l) (3 + length l) u) refl e
  where
    go : (x : Layer) → layer_of clip_word (256 - length l) (3 + length l) u ≡ x → after_clip o l x ≡ Accepted s → (l ≡ s.subject) × (begun (count_of clip_word (256 - length l) u) ≡ s.clip)
    go (Whole m []) h f =
        let same : record { operation = o; subject = l; clip = m } ≡ s = cc in
        (ap (λ (x : Sheet). x.subject) same, whole-begun clip_word (256 - length l) (3 + length l) u m [] h ∙ ap (λ (x : Sheet). x.clip) same)
    go (Whole m (c ∷ v)) h f = let z : ◌≡◌ {A = ℕ} 0 1 = cc in absurd (omega arith)
    go (Broken n k) h f = let z : ◌≡◌ {A = ℕ} 0 1 = cc in absurd (omega arith)

module _ {A : Type 0} (f g : Edge → A) (a c d : List A) (b : List ℕ) (o : Operation) (l : List Edge) (n p : ℕ) (hn : n ≡ length l) (hb : after_subject o (Whole l (drop p b)) ≡ read_sheet b) where
  pub both_stored : c ≡ sets a 0 (map f l) → d ≡ sets c n (map g (begun (count_of clip_word (256 - n) (drop p b)))) → (s : Sheet) → read_sheet b ≡ Accepted s → d ≡ sets a 0 (map f s.subject ++ map g s.clip)
  both_stored hc hd s e =
      let q = parts o l (drop p b) s (hb ∙ e) in
      let clip : begun (count_of clip_word (256 - n) (drop p b)) ≡ s.clip = ap (λ (i : ℕ). begun (count_of clip_word (256 - i) (drop p b))) hn ∙ q.1 in
      put_both f g a c d s.subject s.clip n (hn ∙ ap length q.0) (rw (← q.0) hc) (rw (← clip) hd)
