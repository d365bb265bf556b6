-- Bytes of whole lines: what is written for a sheet is cut at its line feeds.
use mathlib.Core.Path.{◌≡◌, refl, sym, ap, ◌∙◌, subst}
use mathlib.Core.Bool.{Bool, true, false, cond}
use mathlib.Core.List.{List, [], ◌∷◌, ◌++◌, append_assoc}
use Prim.Native.Nat.{ℕ, zero, suc, ◌+◌, ◌/◌, ◌%◌, ◌≤◌, ◌<◌}
use native.Mathlib.Decide.{dec_lt}
use native.Mathlib.Omega.{arith}
use borrow.Author.Tests.{ne_eqb}
use lib.Dec.{eqb}
use lib.ListN.{length}
use Rattle.numbers.specs.declared.Point.{Point}
use Rattle.class.specs.declared.Operation.{Operation}
use Rattle.class.specs.declared.Operation.TheVariants.{Intersection, Difference, Union, Xor}
use Rattle.text.specs.Quoted.{quoted}
use Rattle.text.specs.Digits.{digit, digits, hex, places, decimal}
use Rattle.text.proofs.Writing.{digit_low, digit-high}
use Rattle.sheet.specs.declared.edges.Edge.{Edge}
use Rattle.sheet.specs.Sheet.{operation_word, operation_line, subject_word, clip_word, count_line, number_bytes, corner_bytes, edge_line, edge_lines, layer_bytes}
use Rattle.sheet.specs.Lines.{first_lines}

-- bytes within a line, and bytes of j whole lines
abbrev pub Within : List ℕ → Type 0
Within a = (k : ℕ) (t : List ℕ) → first_lines (suc k) (a ++ t) ≡ a ++ first_lines (suc k) t

abbrev pub Lines : ℕ → List ℕ → Type 0
Lines j a = (k : ℕ) (t : List ℕ) → first_lines (j + k) (a ++ t) ≡ a ++ first_lines k t

-- ---- put together

within-join : (a c : List ℕ) → Within a → Within c → Within (a ++ c)
within-join a c h i k t =
    ap (first_lines (suc k)) (append_assoc a c t) ∙ h k (c ++ t) ∙ ap (λ (l : List ℕ). a ++ l) (i k t) ∙ sym (append_assoc a c (first_lines (suc k) t))

line-join : (a c : List ℕ) → Within a → Lines 1 c → Lines 1 (a ++ c)
line-join a c h i k t =
    let one : 1 + k ≡ suc k = omega arith in
    ap (λ (n : ℕ). first_lines n ((a ++ c) ++ t)) one
    ∙ ap (first_lines (suc k)) (append_assoc a c t)
    ∙ h k (c ++ t)
    ∙ ap (λ (n : ℕ). a ++ first_lines n (c ++ t)) (sym one)
    ∙ ap (λ (l : List ℕ). a ++ l) (i k t)
    ∙ sym (append_assoc a c (first_lines k t))

pub lines_join : (i j : ℕ) (a c : List ℕ) → Lines i a → Lines j c → Lines (i + j) (a ++ c)
lines_join i j a c h m k t =
    ap (λ (n : ℕ). first_lines n ((a ++ c) ++ t)) (omega arith)
    ∙ ap (first_lines (i + (j + k))) (append_assoc a c t)
    ∙ h (j + k) (c ++ t)
    ∙ ap (λ (l : List ℕ). a ++ l) (m k t)
    ∙ sym (append_assoc a c (first_lines k t))

pub lines_none : Lines 0 []
lines_none k t = ap (λ (n : ℕ). first_lines n t) (omega arith)

fed : Lines 1 (10 ∷ [])
unfolding first_lines
fed k t = let one : 1 + k ≡ suc k = omega arith in rw one

-- ---- digits

within-byte : (b : ℕ) → (b ≡ 10 → ⊥) → Within (b ∷ [])
unfolding first_lines
within-byte b h k t = rw (ne_eqb b 10 h)

digit-above : (d : ℕ) → 48 ≤ digit d
digit-above d = go (dec_lt d 10)
  where
    go : Dec (d < 10) → 48 ≤ digit d
    go (yes l) = omega (arith, digit_low d l)
    go (no l) = omega (arith, digit-high d (omega arith))

within-digits : (base k w : ℕ) → Within (digits base k w)
unfolding digits
within-digits base zero w = λ k t. refl
within-digits base (suc k) w =
    within-join (digits base k (w / base)) (digit (w % base) ∷ []) (within-digits base k (w / base)) (within-byte (digit (w % base)) (λ e. omega (arith, digit-above (w % base))))

within-decimal : (w : ℕ) → Within (decimal w)
unfolding decimal
within-decimal w = within-digits 10 (places 10 20 w) w

within-number : (w : ℕ) → Within (number_bytes w)
unfolding number_bytes
within-number w = within-join (32 ∷ []) (hex w) (within-byte 32 (λ e. omega arith)) (within-digits 16 16 w)

within-corner : (p : Point) → Within (corner_bytes p)
unfolding corner_bytes
within-corner p = within-join (number_bytes p.x) (number_bytes p.y) (within-number p.x) (within-number p.y)

-- ---- the lines of a sheet

pub operation-line : (o : Operation) → Lines 1 (operation_line o)
unfolding first_lines operation_line operation_word quoted
operation-line Intersection k t = let one : 1 + k ≡ suc k = omega arith in rw one
operation-line Difference k t = let one : 1 + k ≡ suc k = omega arith in rw one
operation-line Union k t = let one : 1 + k ≡ suc k = omega arith in rw one
operation-line Xor k t = let one : 1 + k ≡ suc k = omega arith in rw one

pub within-subject : Within subject_word
unfolding first_lines subject_word quoted
within-subject k t = refl

pub within-clip : Within clip_word
unfolding first_lines clip_word quoted
within-clip k t = refl

pub count-line : (word : List ℕ) (n : ℕ) → Within word → Lines 1 (count_line word n)
unfolding count_line
count-line word n h = line-join word (decimal n ++ (10 ∷ [])) h (line-join (decimal n) (10 ∷ []) (within-decimal n) fed)

pub edge-line : (e : Edge) → Lines 1 (edge_line e)
unfolding edge_line
edge-line e =
    line-join (decimal e.ring) (corner_bytes e.from ++ (corner_bytes e.to ++ (10 ∷ []))) (within-decimal e.ring)
    (line-join (corner_bytes e.from) (corner_bytes e.to ++ (10 ∷ [])) (within-corner e.from)
    (line-join (corner_bytes e.to) (10 ∷ []) (within-corner e.to) fed))

pub edge-lines : (l : List Edge) → Lines (length l) (edge_lines l)
unfolding edge_lines
edge-lines [] = lines_none
edge-lines (e ∷ l) =
    let one : 1 + length l ≡ suc (length l) = omega arith in
    subst (λ (n : ℕ). Lines n (edge_line e ++ edge_lines l)) one (lines_join 1 (length l) (edge_line e) (edge_lines l) (edge-line e) (edge-lines l))

pub layer-lines : (word : List ℕ) (l : List Edge) → Within word → Lines (1 + length l) (layer_bytes word l)
unfolding layer_bytes
layer-lines word l h = lines_join 1 (length l) (count_line word (length l)) (edge_lines l) (count-line word (length l) h) (edge-lines l)

-- ---- any bytes

-- the first lines stand in front
pub in-front : (k : ℕ) (s : List ℕ) → (r : List ℕ) × (s ≡ first_lines k s ++ r)
unfolding first_lines
in-front zero s = (s, refl)
in-front (suc k) [] = ([], refl)
in-front (suc k) (b ∷ s) = go (eqb b 10) (in-front k s) (in-front (suc k) s)
  where
    go : (x : Bool) → (r : List ℕ) × (s ≡ first_lines k s ++ r) → (r : List ℕ) × (s ≡ first_lines (suc k) s ++ r) → (r : List ℕ) × (b ∷ s ≡ b ∷ (cond x (first_lines k s) (first_lines (suc k) s) ++ r))
    go true p q = (p.0, ap (λ (l : List ℕ). b ∷ l) p.1)
    go false p q = (q.0, ap (λ (l : List ℕ). b ∷ l) q.1)

-- bytes whose first line is the line a begin with it
pub same_line : (a : List ℕ) → Lines 1 a → (t x : List ℕ) → first_lines 1 (a ++ t) ≡ first_lines 1 x → (r : List ℕ) × (x ≡ a ++ r)
unfolding first_lines
same_line a h t x e =
    let p = in-front 1 x in
    (p.0, p.1 ∙ ap (λ (l : List ℕ). l ++ p.0) (sym e ∙ h 0 t) ∙ append_assoc a [] p.0)
