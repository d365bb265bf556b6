-- When two sheets are one drawing: they differ in the order of edge lines within their sections, in the direction of edges, in the sign of zeros and,
-- where the operation does not ask which layer is which, in which layer is called subject, and in nothing else.
use Rattle.std.specs.Prelude.{◌≡◌, true, ℕ}
use mathlib.Core.List.{List, [], ◌∷◌, Permᴰ}
use Rattle.numbers.specs.declared.Point.{Point}
use Rattle.numbers.specs.Words.{unsigned_word}
use Rattle.sheet.specs.declared.edges.Edge.{Edge}
use Rattle.sheet.specs.Sheet.{Sheet}
use Rattle.arranging.specs.Arranged.{symmetric}

-- the same bits, or zeros of either sign
abbrev pub SameNumber : ℕ → ℕ → Type 0
SameNumber v w = unsigned_word v ≡ unsigned_word w

pub record SameCorner (p q : Point) : Type 0 where
  pub x : SameNumber p.x q.x
  pub y : SameNumber p.y q.y

pub data SameEdge (e f : Edge) : Type 0 where
  one_way : e.ring ≡ f.ring → SameCorner e.from f.from → SameCorner e.to f.to → SameEdge e f
  other_way : e.ring ≡ f.ring → SameCorner e.from f.to → SameCorner e.to f.from → SameEdge e f

-- one after the other, as many in each
abbrev pub SameEdges : List Edge → List Edge → Type 0
SameEdges [] [] = Unit {0}
SameEdges [] (f ∷ m) = ⊥
SameEdges (e ∷ l) [] = ⊥
SameEdges (e ∷ l) (f ∷ m) = SameEdge e f × SameEdges l m

-- listed in another order, then each told in another way
pub record SameLayer (l m : List Edge) : Type 0 where
  pub listed : List Edge
  pub reordered : Permᴰ l listed
  pub told : SameEdges listed m

pub data SameDrawing (s t : Sheet) : Type 0 where
  as_called : s.operation ≡ t.operation → SameLayer s.subject t.subject → SameLayer s.clip t.clip → SameDrawing s t
  called_otherwise : s.operation ≡ t.operation → symmetric s.operation ≡ true → SameLayer s.subject t.clip → SameLayer s.clip t.subject → SameDrawing s t
