-- All contours of a table (`connect_edges`): each position in turn that is not yet walked starts one. Parent and depth by the edge below it
-- (`initialize_from_context`).
use Rattle.refusals.specs.declared.Reason.{Reason}
use Rattle.std.specs.Prelude.{Bool, true, false, List, [], ◌∷◌, ◌++◌, ℕ, zero, suc, ◌+◌, length, get_or, replicate, Option, None, Some}
use Rattle.refusals.specs.declared.Reason.TheVariants as Reason
use Rattle.contours.specs.Table.{Below, nothing, over, Row}
use Rattle.contours.specs.Round.{is_open}
use Rattle.contours.specs.Walk.{marks, walk}

pub record Contour : Type 0 where
  pub trail : List ℕ
  -- the contour that this one is a hole of
  pub parent : Option ℕ
  pub depth : ℕ

abbrev pub contour : List ℕ → Option ℕ → ℕ → Contour
contour t p d = record { trail = t; parent = p; depth = d }

-- with the marks at the end; or stopped by a refusal at a position, with what was finished before it
pub data Answer : Type 0 where
  done : List ℕ → List Contour → Answer
  halted : Reason → (position : ℕ) → List ℕ → List Contour → Answer

-- ---- parent and depth

pub data Place : Type 0 where
  refuse : Place
  placed : Option ℕ → ℕ → Place

-- in contour c of depth d: a hole of it, or, where it is itself a hole, of its parent
unfoldable pub hole : Option ℕ → ℕ → ℕ → Place
hole None c d = placed (Some c) (suc d)
hole (Some p) c d = placed (Some p) d

-- above an edge of contour c, which is k: inside it if the edge is OutIn
unfoldable pub under : Bool → ℕ → Contour → Place
under false c k = placed None k.depth
under true c k = hole k.parent c k.depth

-- above an edge that has no contour: refusal 9 if it is OutIn
unfoldable pub loose : Bool → Place
loose true = refuse
loose false = placed None 0

-- above an edge with this mark
unfoldable pub owned : Bool → List Contour → ℕ → Place
owned b cs zero = loose b
owned b cs (suc c) = under b c (get_or cs c (contour [] None 0))

unfoldable pub context : List ℕ → List Contour → Below → Place
context ms cs nothing = placed None 0
context ms cs (over p b) = owned b cs (get_or ms p 0)

-- ---- all contours

-- a position that is open starts a contour, any other is passed by
unfoldable pub turn : Bool → (Unit {0} → Answer) → (Unit {0} → Answer) → Answer
turn true make pass = make tt
turn false make pass = pass tt

unfoldable pub make : Place → Answer → (Option ℕ → ℕ → Answer) → Answer
make refuse a f = a
make (placed p d) a f = f p d

module _ {P : Type 0} (same : P → P → Bool) (n : ℕ) (row : ℕ → Row P) where
  -- the trail of contour c, from i
  abbrev pub trail_at : ℕ → ℕ → List ℕ → List ℕ
  trail_at i c ms = walk same n row n (row i).point c ms i

  -- k positions from i on
  unfoldable pub turns : ℕ → ℕ → List ℕ → List Contour → Answer
  turns zero i ms cs = done ms cs
  turns (suc k) i ms cs =
      turn (is_open (get_or ms i 1))
      (λ _. make (context ms cs (row i).below) (halted Reason.Loose i ms cs)
      (λ p d. turns k (i + 1) (marks same n row (length cs) ms (trail_at i (length cs) ms)) (cs ++ (contour (trail_at i (length cs) ms) p d ∷ []))))
      (λ _. turns k (i + 1) ms cs)

  unfoldable pub trace : Answer
  trace = turns n 0 (replicate n 0) []
