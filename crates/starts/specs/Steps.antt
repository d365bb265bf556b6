-- The parts of all contours, as the code goes (`near` as in `walks.specs.Walks`): parent and depth read from what was kept of the contours before.
use Rattle.std.specs.Prelude.{Bool, false, cond, List, [], ◌∷◌, ℕ, zero, suc, ◌+◌, ◌-◌, ◌*◌, ◌≤◌, get_or, set, eqb, ltb}
use Rattle.rows.specs.Rows.{Rows, end_at}
use Rattle.round.specs.Round.{mark_in}
use Rattle.walks.specs.Walks.{Toured, walked_from}
use Rattle.starts.specs.declared.Turn.{Turn}
use Rattle.starts.specs.declared.context.Place.{Place}
use Rattle.starts.specs.Starts.{Sheet, sheet, turn_of}

abbrev pub place : Bool → ℕ → ℕ → Place
place b p d = record { refused = b; parent = p; depth = d }

unfoldable pub mark_below : List ℕ → ℕ → ℕ
mark_below ms i = get_or ms i 0

abbrev pub blank : List ℕ
blank = 0 ∷ 0 ∷ 0 ∷ 0 ∷ []

-- contour j of the first c
unfoldable pub nest_at : List (List ℕ) → ℕ → ℕ → List ℕ
nest_at ns c j = cond (ltb j c) (get_or ns j blank) blank

-- above an edge of a contour, whose number + 1 is m
unfoldable pub above : Bool → ℕ → List ℕ → Place
above b m k =
    cond b
    (cond (eqb (get_or k 2 0) 0) (place false m (get_or k 3 0 + 1)) (place false (get_or k 2 0) (get_or k 3 0)))
    (place false 0 (get_or k 3 0))

-- above an edge that is marked m
unfoldable pub above_mark : List (List ℕ) → ℕ → Bool → ℕ → Place
above_mark ns c b m = cond (eqb m 0) (place b 0 0) (above b m (nest_at ns c (m - 1)))

unfoldable pub context_of : List ℕ → List (List ℕ) → ℕ → ℕ → Bool → Place
context_of ms ns c w b = cond (eqb w 0) (place false 0 0) (above_mark ns c b (mark_below ms (w - 1)))

-- after a walk
unfoldable pub ended : Sheet → ℕ → ℕ → Toured → Sheet
ended s p d w =
    sheet w.walked w.corners (set s.nests s.turn.count (s.turn.end ∷ w.told.end ∷ p ∷ d ∷ []))
    (turn_of (s.turn.count + 1) w.told.end (s.turn.unclosed + cond w.told.unclosed 1 0) 0 0)

module _ (t : Rows) (near : Bool) where
  -- the contour from i is walked
  unfoldable pub made_at : Sheet → ℕ → ℕ → ℕ → Sheet
  made_at s i p d = ended s p d (walked_from t near s.turn.count i s.turn.end s.walked s.corners)

  unfoldable pub place_at : Sheet → ℕ → Place → Sheet
  place_at s i p = cond p.refused (sheet s.walked s.corners s.nests (turn_of s.turn.count s.turn.end s.turn.unclosed 9 i)) (made_at s i p.parent p.depth)

  unfoldable pub start_at : Sheet → ℕ → Sheet
  start_at s i = cond (eqb (mark_in s.walked i) 0) (place_at s i (context_of s.walked s.nests s.turn.count (end_at t i).below (end_at t i).out_in)) s

  -- the positions after one are tried unless it was refused
  unfoldable pub after : (Sheet → Sheet) → Sheet → Sheet
  after rest s = cond (eqb s.turn.stop 0) (rest s) s

  -- k positions from i on
  unfoldable pub starts : ℕ → ℕ → Sheet → Sheet
  starts zero i s = s
  starts (suc k) i s = after (starts k (i + 1)) (start_at s i)

-- no depth passes b
abbrev pub Shallow : List (List ℕ) → ℕ → ℕ → Type 0
Shallow ns c b = (j : ℕ) → get_or (nest_at ns c j) 3 0 ≤ b

-- how far a turn has come before position i
pub record Within (s : Turn) (ns : List (List ℕ)) (i : ℕ) : Type 0 where
  pub count : s.count ≤ i
  pub unclosed : s.unclosed ≤ i
  pub end : s.end ≤ 4097 * i
  pub deep : Shallow ns s.count i
