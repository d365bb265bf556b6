-- No sheet is longer than 20,268 bytes: the operation's line, two counts of at most three digits, and at most 256 edges, each a ring of at most ten
-- digits, four numbers of 17 bytes and the line feed.
use Rattle.refusals.specs.declared.Reason.{Reason}
use mathlib.Core.Path.{◌≡◌, refl, ap}
use mathlib.Core.List.{List, [], ◌∷◌}
use Prim.Native.Nat.{ℕ, suc, ◌+◌, ◌*◌, ◌^◌, ◌≤◌, ◌<◌}
use native.Mathlib.Omega.{arith}
use lib.ListN.{length, length-append}
use Rattle.numbers.specs.declared.Point.{Point}
use Rattle.class.specs.declared.Operation.{Operation}
use Rattle.class.specs.declared.Operation.TheVariants.{Intersection, Difference, Union, Xor}
use Rattle.text.specs.Quoted.{quoted}
use Rattle.text.proofs.Writing.{digits-length}
use Rattle.sheet.specs.declared.edges.Edge.{Edge}
use Rattle.sheet.specs.Sheet.{Sheet, EdgeFits, AllFit, Fits, operation_word, operation_line, subject_word, clip_word, count_line, number_bytes, corner_bytes, edge_line, edge_lines, layer_bytes, written}
use Rattle.sheet.specs.Reading.{Reading, Accepted, Refused, read_sheet}
use Rattle.sheet.proofs.Fronts.{decimal-most}
use Rattle.sheet.proofs.Sheets.{describes}

-- in bytes
abbrev pub longest_sheet : ℕ
longest_sheet = 20268

-- ---- lines

operation-short : (o : Operation) → length (operation_line o) ≤ 23
unfolding operation_line operation_word quoted
operation-short Intersection = omega arith
operation-short Difference = omega arith
operation-short Union = omega arith
operation-short Xor = omega arith

-- a word, a number of at most k + 1 digits and the line feed
pub line-short : (word : List ℕ) (k n : ℕ) → n < 10 ^ suc k → length (count_line word n) ≤ length word + (k + 2)
unfolding count_line
line-short word k n h = simp length-append (omega (arith, decimal-most k n h))

pub number-long : (w : ℕ) → length (number_bytes w) ≡ 17
unfolding number_bytes
number-long w = omega (arith, digits-length 16 16 w)

corner-long : (p : Point) → length (corner_bytes p) ≡ 34
unfolding corner_bytes
corner-long p = omega (arith, length-append (number_bytes p.x) (number_bytes p.y), number-long p.x, number-long p.y)

edge-short : (e : Edge) → EdgeFits e → length (edge_line e) ≤ 79
unfolding edge_line
edge-short e h = simp length-append (omega (arith, decimal-most 9 e.ring (omega (arith, h.ring)), corner-long e.from, corner-long e.to))

edges-short : (l : List Edge) → AllFit l → length (edge_lines l) ≤ 79 * length l
unfolding edge_lines
edges-short [] h = omega arith
edges-short (e ∷ l) h = simp length-append (omega (arith, edge-short e h.0, edges-short l h.1))

-- ---- the whole

layer-short : (word : List ℕ) (l : List Edge) → AllFit l → length l < 10 ^ 3 → length (layer_bytes word l) ≤ length word + (4 + 79 * length l)
unfolding layer_bytes
layer-short word l h k = simp length-append (omega (arith, line-short word 2 (length l) k, edges-short l h))

pub written-short : (s : Sheet) → Fits s → length (written s) ≤ longest_sheet
unfolding written subject_word clip_word quoted
written-short s h = simp length-append (omega (arith, h.few, operation-short s.operation, layer-short subject_word s.subject h.subject (omega (arith, h.few)), layer-short clip_word s.clip h.clip (omega (arith, h.few))))

-- No sheet is longer.
pub sheet-short : (b : List ℕ) (s : Sheet) → read_sheet b ≡ Accepted s → length b ≤ longest_sheet
sheet-short b s e = let d = describes b s e in omega (arith, ap length d.0, written-short s d.1)

-- .. and what is longer is refused
pub long-refused : (b : List ℕ) → longest_sheet < length b → (reason : Reason) × (line : ℕ) × (read_sheet b ≡ Refused reason line)
long-refused b l = go (read_sheet b) refl
  where
    go : (r : Reading) → read_sheet b ≡ r → (reason : Reason) × (line : ℕ) × (read_sheet b ≡ Refused reason line)
    go (Accepted s) e = absurd (omega (arith, sheet-short b s e))
    go (Refused reason line) e = (reason, line, e)
