-- One contour (`contours.specs.Walk`) over the table in lent arrays: the marks after it, its corners in the lent points,
-- where they end, and whether it is open.
-- `near` tells what a walk tries at a point (`round.specs.Round`): with `near` false, or the points in order, the trail is the definition's.
-- A corner beyond the lent points is not stored; all places but those of the corners stay as lent.
use Rattle.std.specs.Prelude.{◌≡◌, Bool, not, cond, List, [], ◌∷◌, map, ℕ, zero, suc, ◌+◌, length, set, Option, None, Some}
use Rattle.std.proofs.lemmas.List.Edits.{sets}
use Rattle.numbers.specs.declared.Point.{Point}
use Rattle.events.specs.Coordinates.{same}
use Rattle.events.specs.Binary64.{at_binary64}
use Rattle.contours.specs.Round.{seek}
use Rattle.contours.specs.Walk.{mark, marks, onward, corners}
use Rattle.contours.specs.Outline.{final, closes}
use Rattle.rows.specs.Rows.{Rows, size, point_at, end_at, point_code, table_row}
use Rattle.round.specs.Round.{tried}
use Rattle.walks.specs.declared.Walk.{Walk}

-- what a walk leaves and tells
pub record Toured : Type 0 where
  pub walked : List ℕ
  pub corners : List (List ℕ)
  pub told : Walk

abbrev pub toured : List ℕ → List (List ℕ) → Walk → Toured
toured m o w = record { walked = m; corners = o; told = w }

abbrev pub told : ℕ → Bool → Walk
told e b = record { end = e; unclosed = b }

module _ (t : Rows) where
  -- the definition's walk, by what is tried here: at most k edges from i on
  unfoldable pub trail : Bool → ℕ → Point → ℕ → List ℕ → ℕ → List ℕ
  trail near zero home c ms i = []
  trail near (suc k) home c ms i =
      i ∷ onward (seek (mark (same at_binary64) (size t) (table_row t) c ms i) (tried t near (table_row t i).other)) (λ j. same at_binary64 home (table_row t j).point)
      (λ j. trail near k home c (mark (same at_binary64) (size t) (table_row t) c ms i) j)

  -- the trail of contour c from i, the corners of a trail, as the definition has them and as the array holds them, and the marks after it
  unfoldable pub trail_from : Bool → ℕ → ℕ → List ℕ → List ℕ
  trail_from near c i ms = trail near (size t) (table_row t i).point c ms i

  unfoldable pub corners_of : List ℕ → List (List ℕ)
  corners_of r = map point_code (corners (same at_binary64) (size t) (table_row t) r)

  unfoldable pub unclosed_trail : List ℕ → Bool
  unclosed_trail r = not (closes (same at_binary64) (corners (same at_binary64) (size t) (table_row t) r))

  unfoldable pub marks_of : ℕ → List ℕ → List ℕ → List ℕ
  marks_of c ms r = marks (same at_binary64) (size t) (table_row t) c ms r

  -- the contour with this trail, its corners from `first` on
  unfoldable pub walked_along : ℕ → ℕ → List ℕ → List (List ℕ) → List ℕ → Toured
  walked_along c first ms out r = toured (marks_of c ms r) (sets out first (corners_of r)) (told (first + length (corners_of r)) (unclosed_trail r))

  unfoldable pub walked_from : Bool → ℕ → ℕ → ℕ → List ℕ → List (List ℕ) → Toured
  walked_from near c i first ms out = walked_along c first ms out (trail_from near c i ms)

-- ---- its parts

-- what edges leave: where their corners end, and the other end of the last
pub record Trip : Type 0 where
  pub walked : List ℕ
  pub corners : List (List ℕ)
  pub end : ℕ
  pub last : ℕ

abbrev pub trip : List ℕ → List (List ℕ) → ℕ → ℕ → Trip
trip m o e l = record { walked = m; corners = o; end = e; last = l }

module _ (t : Rows) where
  abbrev pub other_of : ℕ → ℕ
  other_of i = (end_at t i).other

  -- the corner after the edge from i
  unfoldable pub corner_after : ℕ → List ℕ
  corner_after i = point_code (point_at t (other_of i))

  -- the edge from i, whose other end is q
  unfoldable pub marked : ℕ → List ℕ → ℕ → ℕ → List ℕ
  marked c ms i q = set (set ms i (suc c)) q (suc c)

  module _ (home : Point) where
    -- after an end l, the edges of a trail, the first corner behind them stored at e
    unfoldable pub edges_along : ℕ → List ℕ → List (List ℕ) → ℕ → ℕ → List ℕ → Trip
    edges_along c ms out e l r = trip (marks_of t c ms r) (sets out e (map corner_after r)) (e + length r) (final l (map other_of r))

    -- at most k edges from i on
    unfoldable pub edges_from : Bool → ℕ → ℕ → List ℕ → List (List ℕ) → ℕ → ℕ → ℕ → Trip
    edges_from near c k ms out e l i = edges_along c ms out e l (trail t near k home c ms i)

    -- a walk goes on to a position that is found, unless it is home; m for nowhere
    unfoldable pub head_to : ℕ → Option ℕ → ℕ
    head_to m None = m
    head_to m (Some j) = cond (same at_binary64 home (point_at t j)) m j

    -- from the end at q
    unfoldable pub heading : Bool → List ℕ → ℕ → ℕ
    heading near ms q = head_to (length ms) (seek ms (tried t near q))

    -- one edge walked from i to q, its corner stored at e: the marks and points after it, and where the walk goes on
    pub record Stepped (near : Bool) (c : ℕ) (ms : List ℕ) (out : List (List ℕ)) (i q e : ℕ) (ms' : List ℕ) (out' : List (List ℕ)) (j : ℕ) : Type 0 where
      pub walked : ms' ≡ marked c ms i q
      pub corners : out' ≡ set out e (point_code (point_at t q))
      pub next : j ≡ heading near ms' q
