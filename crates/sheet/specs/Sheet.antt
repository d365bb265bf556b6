-- The sheet (01, 'The sheet'): an operation and the edges of two layers, and the bytes that are such a sheet. All of the format is here.
use Rattle.std.specs.Prelude.{List, [], ◌∷◌, ◌++◌, ℕ, ◌+◌, ◌≤◌, ◌<◌, length}
use Rattle.numbers.specs.declared.Point.{Point}
use Rattle.class.specs.declared.Operation.{Operation}
use Rattle.class.specs.declared.Operation.TheVariants.{Intersection, Difference, Union, Xor}
use Rattle.text.specs.Digits.{decimal, hex}
use Rattle.text.specs.Quoted.{quoted}
use Rattle.sheet.specs.declared.edges.Edge.{Edge}

-- an edge has its ring and two corners, a corner the bits of its two numbers
pub record Sheet : Type 0 where
  pub operation : Operation
  pub subject : List Edge
  pub clip : List Edge

-- ---- what the numbers may be

pub record CornerFits (p : Point) : Type 0 where
  pub x : p.x < 18446744073709551616
  pub y : p.y < 18446744073709551616

pub record EdgeFits (e : Edge) : Type 0 where
  pub ring : e.ring < 4294967296
  pub from : CornerFits e.from
  pub to : CornerFits e.to

abbrev pub AllFit : List Edge → Type 0
AllFit [] = Unit {0}
AllFit (e ∷ l) = EdgeFits e × AllFit l

-- the most edges, in both layers together
abbrev pub most_edges : ℕ
most_edges = 256

pub record Fits (s : Sheet) : Type 0 where
  pub subject : AllFit s.subject
  pub clip : AllFit s.clip
  pub few : length s.subject + length s.clip ≤ most_edges

-- ---- its bytes: 32 is the space, 10 the line feed

unfoldable pub operation_word : Operation → List ℕ
operation_word Intersection = quoted "intersection"
operation_word Difference = quoted "difference"
operation_word Union = quoted "union"
operation_word Xor = quoted "xor"

unfoldable pub operation_line : Operation → List ℕ
operation_line o = quoted "operation " ++ (operation_word o ++ (10 ∷ []))

unfoldable pub subject_word : List ℕ
subject_word = quoted "subject "

unfoldable pub clip_word : List ℕ
clip_word = quoted "clip "

unfoldable pub count_line : List ℕ → ℕ → List ℕ
count_line word n = word ++ (decimal n ++ (10 ∷ []))

unfoldable pub number_bytes : ℕ → List ℕ
number_bytes w = 32 ∷ hex w

unfoldable pub corner_bytes : Point → List ℕ
corner_bytes p = number_bytes p.x ++ number_bytes p.y

unfoldable pub edge_line : Edge → List ℕ
edge_line e = decimal e.ring ++ (corner_bytes e.from ++ (corner_bytes e.to ++ (10 ∷ [])))

unfoldable pub edge_lines : List Edge → List ℕ
edge_lines [] = []
edge_lines (e ∷ l) = edge_line e ++ edge_lines l

-- a layer: its count, and its edges
unfoldable pub layer_bytes : List ℕ → List Edge → List ℕ
layer_bytes word l = count_line word (length l) ++ edge_lines l

unfoldable pub written : Sheet → List ℕ
written s = operation_line s.operation ++ (layer_bytes subject_word s.subject ++ layer_bytes clip_word s.clip)
