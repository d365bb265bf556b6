-- Reading bytes as a sheet, line by line from line 1. A line that is not what stands there is refusal 10 at that line, and so is one that is
-- missing or ends without its line feed; a count above what is left of the limit is refusal 1 at its line, however many digits it has, and also
-- where the bytes end in its digits.
use Rattle.refusals.specs.declared.Reason.{Reason}
use Rattle.refusals.specs.declared.Reason.TheVariants as Reason
use Rattle.std.specs.Prelude.{Bool, cond, ◌&&◌, ◌||◌, List, [], ◌∷◌, ℕ, zero, suc, ◌+◌, ◌-◌, eqb, ltb, length, drop, None, Option, Some}
use Rattle.numbers.specs.declared.Point.{Point}
use Rattle.class.specs.declared.Operation.{Operation}
use Rattle.class.specs.declared.Operation.TheVariants.{Intersection, Difference, Union, Xor}
use Rattle.text.specs.Words.{begins}
use Rattle.text.specs.Digits.{digit_of, hex_at, decimal_at}
use Rattle.sheet.specs.declared.edges.Edge.{Edge}
use Rattle.sheet.specs.Sheet.{Sheet, operation_line, subject_word, clip_word, most_edges}

-- what stands in front, and the bytes after it
pub data Parsed (A : Type 0) : Type 0 where
  Got : A → List ℕ → Parsed A
  Wrong : Parsed A

unfoldable pub and_then : {A B : Type 0} → Parsed A → (A → List ℕ → Parsed B) → Parsed B
and_then (Got a s) next = next a s
and_then Wrong next = Wrong

unfoldable pub got : Option ℕ → List ℕ → Parsed ℕ
got (Some v) s = Got v s
got None s = Wrong

-- with a line feed after it
unfoldable pub ended : {A : Type 0} → A → List ℕ → Parsed A
ended a s = cond (begins (10 ∷ []) s) (Got a (drop 1 s)) Wrong

-- ---- numbers

-- how many decimal digits stand in front
unfoldable pub run : List ℕ → ℕ
run [] = 0
run (b ∷ s) = cond (ltb (digit_of b) 10) (suc (run s)) 0

-- .. as a number without leading zeros; 0 where there is none
unfoldable pub numeral : List ℕ → ℕ
numeral s = cond (ltb 1 (run s) && begins (48 ∷ []) s) 0 (run s)

unfoldable pub ring_by : Option ℕ → List ℕ → Parsed ℕ
ring_by (Some v) s = cond (ltb v 4294967296) (Got v s) Wrong
ring_by None s = Wrong

unfoldable pub ring_from : ℕ → List ℕ → Parsed ℕ
ring_from n s = cond (eqb n 0) Wrong (ring_by (decimal_at s 0 n) (drop n s))

unfoldable pub ring_of : List ℕ → Parsed ℕ
ring_of s = ring_from (numeral s) s

-- a space and 16 hex digits
unfoldable pub number_of : List ℕ → Parsed ℕ
number_of s = cond (begins (32 ∷ []) s) (got (hex_at s 1) (drop 17 s)) Wrong

-- ---- edges

unfoldable pub corner_of : List ℕ → Parsed Point
corner_of s = and_then (number_of s) (λ x t. and_then (number_of t) (λ y u. Got (record { x = x; y = y }) u))

unfoldable pub edge_of : List ℕ → Parsed Edge
edge_of s =
    and_then (ring_of s)
    (λ ring t. and_then (corner_of t) (λ from u. and_then (corner_of u) (λ to v. ended (record { ring = ring; from = from; to = to }) v)))

-- edges before a line that is none: how many of those wanted are missing, and the bytes from there on
pub record Edges : Type 0 where
  pub list : List Edge
  pub missing : ℕ
  pub rest : List ℕ

-- one edge, and those after it
unfoldable pub on_edge : Parsed Edge → ℕ → List ℕ → (List ℕ → Edges) → Edges
on_edge (Got e t) n s next = record { list = e ∷ (next t).list; missing = (next t).missing; rest = (next t).rest }
on_edge Wrong n s next = record { list = []; missing = n; rest = s }

unfoldable pub edges_of : ℕ → List ℕ → Edges
edges_of zero s = record { list = []; missing = 0; rest = s }
edges_of (suc n) s = on_edge (edge_of s) (suc n) s (edges_of n)

-- ---- layers

pub data Counted : Type 0 where
  Count : ℕ → List ℕ → Counted
  Many : Counted
  Malformed : Counted

-- what follows its digits is a line feed, or nothing: a count that is above the limit stays so, however it would go on
unfoldable pub over : List ℕ → Bool
over s = eqb (length s) 0 || begins (10 ∷ []) s

-- one within the limit wants its line feed
unfoldable pub count_with : ℕ → List ℕ → Counted
count_with v s = cond (begins (10 ∷ []) s) (Count v (drop 1 s)) Malformed

-- a number of more than 19 digits is above every limit
unfoldable pub count_by : ℕ → Option ℕ → List ℕ → Counted
count_by most (Some v) s = cond (ltb most v) Many (count_with v s)
count_by most None s = Many

unfoldable pub count_from : ℕ → ℕ → List ℕ → Counted
count_from most n s = cond (eqb n 0) Malformed (cond (over (drop n s)) (count_by most (decimal_at s 0 n) (drop n s)) Malformed)

unfoldable pub count_of : List ℕ → ℕ → List ℕ → Counted
count_of word most s = cond (begins word s) (count_from most (numeral (drop (length word) s)) (drop (length word) s)) Malformed

-- a layer and the bytes after it, or a refusal's reason and line
pub data Layer : Type 0 where
  Whole : List Edge → List ℕ → Layer
  Broken : Reason → ℕ → Layer

-- its edges begin at the line given
unfoldable pub whole_by : ℕ → List Edge → ℕ → List ℕ → Layer
whole_by line l zero s = Whole l s
whole_by line l (suc n) s = Broken Reason.Malformed (line + length l)

unfoldable pub layer_by : ℕ → Counted → Layer
layer_by line (Count n s) = whole_by (line + 1) (edges_of n s).list (edges_of n s).missing (edges_of n s).rest
layer_by line Many = Broken Reason.Size line
layer_by line Malformed = Broken Reason.Malformed line

unfoldable pub layer_of : List ℕ → ℕ → ℕ → List ℕ → Layer
layer_of word most line s = layer_by line (count_of word most s)

-- ---- the whole

pub data Reading : Type 0 where
  Accepted : Sheet → Reading
  Refused : Reason → ℕ → Reading

unfoldable pub line_of : Operation → List ℕ → Parsed Operation → Parsed Operation
line_of o s other = cond (begins (operation_line o) s) (Got o (drop (length (operation_line o)) s)) other

unfoldable pub operation_of : List ℕ → Parsed Operation
operation_of s = line_of Intersection s (line_of Union s (line_of Difference s (line_of Xor s Wrong)))

unfoldable pub after_clip : Operation → List Edge → Layer → Reading
after_clip o subject (Whole clip []) = Accepted (record { operation = o; subject = subject; clip = clip })
after_clip o subject (Whole clip (b ∷ s)) = Refused Reason.Malformed (4 + (length subject + length clip))
after_clip o subject (Broken reason line) = Refused reason line

unfoldable pub after_subject : Operation → Layer → Reading
after_subject o (Whole subject s) = after_clip o subject (layer_of clip_word (most_edges - length subject) (3 + length subject) s)
after_subject o (Broken reason line) = Refused reason line

unfoldable pub after_operation : Parsed Operation → Reading
after_operation (Got o s) = after_subject o (layer_of subject_word most_edges 2 s)
after_operation Wrong = Refused Reason.Malformed 1

unfoldable pub read_sheet : List ℕ → Reading
read_sheet s = after_operation (operation_of s)
