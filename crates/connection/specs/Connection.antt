-- Connection as a call (`contours.specs.OnPool`): its answer, and what the pool and the lent points, contours and holes hold afterwards.
-- A contour is held as its first corner, where its corners end, its parent's number + 1 or 0, its depth, its first hole and how many holes
-- (`tracing.specs.Tracing`).
use Rattle.std.specs.Prelude.{List, [], ℕ, length, Err, Ok}
use Rattle.refusals.specs.Refusals.{Verdict}
use Rattle.std.proofs.lemmas.List.Edits.{sets}
use Rattle.numbers.specs.declared.Point.{Point}
use Rattle.events.specs.Pool.{Pool}
use Rattle.contours.specs.Outline.{Outline, open_count, corner_count, hole_count}
use Rattle.contours.specs.Accept.{Room}
use Rattle.contours.specs.Connect.{refused, stopped, connected}
use Rattle.contours.specs.Connect as C
use Rattle.contours.specs.OnPool.{connect_pool}
use Rattle.tracing.specs.Tracing.{corners_in, rows_in, holes_in}
use Rattle.connection.specs.declared.Connected.{Connected}

-- ---- the lent arrays

pub record Lent : Type 0 where
  pub corners : List (List ℕ)
  pub contours : List (List ℕ)
  pub holes : List ℕ

abbrev pub lent : List (List ℕ) → List (List ℕ) → List ℕ → Lent
lent cs ks hs = record { corners = cs; contours = ks; holes = hs }

abbrev pub room_of : Lent → Room
room_of l = record { points = length l.corners; contours = length l.contours; holes = length l.holes }

-- from the first place on; unused places stay as lent
unfoldable pub written : List (Outline Point) → Lent → Lent
written os l = lent (sets l.corners 0 (corners_in os)) (sets l.contours 0 (rows_in 0 0 os)) (sets l.holes 0 (holes_in os))

-- ---- the call

-- of these outlines, and why they end
unfoldable pub told : List (Outline Point) → Verdict → Connected
told os x = record { contours = length os; corners = corner_count os; holes = hole_count os; «open» = open_count os; outcome = x }

pub record After : Type 0 where
  pub answer : Connected
  pub pool : Pool
  pub outlines : Lent

-- what is left of a call
abbrev pub left : Connected → Pool → Lent → After
left a p l = record { answer = a; pool = p; outlines = l }

unfoldable pub after : C.Outcome Point Pool → Pool → Lent → After
after (refused r) p l = left (told [] (Err r)) p l
after (stopped r f) p l = left (told f.outlines (Err r)) f.pool (written f.outlines l)
after (connected f) p l = left (told f.outlines (Ok tt)) f.pool (written f.outlines l)

unfoldable pub connect_edges : Pool → List ℕ → Lent → After
connect_edges p list l = after (connect_pool p list (room_of l)) p l
