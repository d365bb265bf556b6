-- The parts of the call: the contracts of private functions.
use Rattle.refusals.specs.declared.Reason.TheVariants as Reason
use Rattle.std.specs.Prelude.{cond, List, ℕ, ◌≤◌, length, get_or, eqb, Err, Ok}
use Rattle.refusals.specs.Refusals.{Verdict}
use Rattle.events.specs.Binary64.{at_binary64}
use Rattle.events.specs.Pool.{Pool, stored}
use Rattle.checks.specs.Checks.{max_events}
use Rattle.contours.specs.Connect.{outcome_of, traced}
use Rattle.rows.specs.Rows.{Rows}
use Rattle.tracing.specs.declared.Traced.{Traced}
use Rattle.tracing.specs.Tracing.{Sheet}
use Rattle.numbering.specs.Numbering.{settled_by}
use Rattle.connection.specs.declared.Connected.{Connected}
use Rattle.connection.specs.Connection.{Lent, lent, After, left, after}

-- ---- what is told of a traced table, whose rows are those of the records o

unfoldable pub record_at : List ℕ → ℕ → ℕ
record_at o i = get_or o i 0

unfoldable pub outcome_in : List ℕ → ℕ → ℕ → Verdict
outcome_in o stop i = cond (eqb stop 0) (Ok tt) (Err (record { reason = Reason.Loose; place = record_at o i }))

unfoldable pub answer_in : List ℕ → Traced → Connected
answer_in o t =
    record { contours = t.contours; corners = t.corners; holes = t.holes; «open» = t.unclosed; outcome = outcome_in o t.stop t.place }

-- with contour numbers by the places q
unfoldable pub laid_down : (o q : List ℕ) → Pool → Sheet → After
laid_down o q p s = left (answer_in o s.told) (settled_by q s.walked p) (lent s.corners s.contours s.holes)

-- ---- a list that has passed the checks

-- what they leave of the sizes
pub record Small (p : Pool) (list : List ℕ) : Type 0 where
  pub list_is : length list ≤ max_events
  pub pool_is : length p.points ≤ max_events

-- arrays with a place for each of its entries; the places, for each record of the pool
pub record Spacious (p : Pool) (list o q : List ℕ) (t : Rows) (ms : List ℕ) : Type 0 where
  pub order : length list ≤ length o
  pub places : length p.points ≤ length q
  pub rows : length list ≤ length t.rows
  pub points : length list ≤ length t.at
  pub walked : length list ≤ length ms

unfoldable pub connect_accepted : Pool → List ℕ → Lent → After
connect_accepted p list l = after (outcome_of at_binary64 stored p list (traced at_binary64 stored p list)) p l
