-- What the arrays hold of a traced table, and what is told of it, is what connection gives.
use Rattle.refusals.specs.declared.Reason.{Reason}
use Rattle.refusals.specs.declared.Reason.TheVariants as Reason
use Rattle.refusals.specs.Refusals.{number}
use Rattle.std.proofs.Common.{Err, Ok}
use Rattle.refusals.specs.Refusals.{Verdict}
use mathlib.Core.Path.{◌≡◌, sym, ap, ◌∙◌}
use mathlib.Core.List.{List}
use Prim.Native.Nat.{ℕ, ◌≤◌, ◌<◌}
use native.Mathlib.Omega.{arith}
use borrow.Author.Tests.{ne_eqb}
use lib.ListN.{length, get_or}
use Rattle.numbers.specs.declared.Point.{Point}
use Rattle.events.specs.Coordinates.{same}
use Rattle.events.specs.Binary64.{at_binary64}
use Rattle.events.specs.Pool.{Pool, size, row_at, stored}
use Rattle.contours.specs.Result.{ordered}
use Rattle.contours.specs.Table.{place}
use Rattle.contours.specs.Table as T
use Rattle.contours.specs.Contours.{Contour, Answer, done, halted}
use Rattle.contours.specs.Connect.{Finished, finished, outcome_of, traced}
use Rattle.contours.proofs.Turns.{Ends, by-nine}
use Rattle.positions.specs.Positions.{ordered_in}
use Rattle.rows.specs.Rows.{void}
use Rattle.tabulation.specs.Tabulation.{table_in}
use Rattle.tracing.specs.Tracing.{sheet, answered, traced_all, traced_on}
use Rattle.tracing.specs.Tracing as Tr
use Rattle.numbering.specs.Numbering.{settled_by}
use Rattle.numbering.proofs.ByPlaces.{finished-pool}
use Rattle.connection.specs.Connection.{Lent, left, told, written, after}
use Rattle.connection.specs.Steps.{record_at, outcome_in, answer_in, laid_down, connect_accepted}

-- refusal 9 is not 0, which tells that nothing stopped
abbrev refused_at : List ℕ → Reason → ℕ → Verdict
refused_at o reason i = Err (record { reason = reason; place = record_at o i })

stop_is : (o : List ℕ) (reason : Reason) (i : ℕ) → reason ≡ Reason.Loose → outcome_in o (number reason) i ≡ refused_at o reason i
unfolding outcome_in
stop_is o reason i b = rw b

-- q tells the position of every record among the ordered ones
module _ (p : Pool) (list q : List ℕ) (l : Lent) (h : size p ≤ length q) (e : (r : ℕ) → r < size p → get_or q r 0 ≡ place (ordered (row_at p) at_binary64 list) r) where
  abbrev sheet_of : Answer → Tr.Sheet
  sheet_of a = answered (length (table_in p list)) (T.row_at void (table_in p list)) l.corners l.contours l.holes a

  abbrev given : List ℕ → List Contour → Finished Point Pool
  given ms cs = finished at_binary64 stored p list ms cs

  pool_is : (ms : List ℕ) (cs : List Contour) → settled_by q ms p ≡ (finished at_binary64 stored p list ms cs).pool
  pool_is ms cs = sym (finished-pool p list q ms cs h e)

  answer_is : (a : Answer) → Ends (length (table_in p list)) (λ i ms cs. Unit {0}) a → laid_down (ordered_in p list) q p (sheet_of a) ≡ after (outcome_of at_binary64 stored p list a) p l
  unfolding answered Tr.written laid_down answer_in outcome_in record_at ordered_in table_in after outcome_of told written finished stored void
  answer_is (done ms cs) b = ap (λ (x : Pool). left (told (given ms cs).outlines (Ok tt)) x (written (given ms cs).outlines l)) (pool_is ms cs)
  answer_is (halted reason i ms cs) b =
      ap (λ (x : Verdict). left (told (given ms cs).outlines x) (settled_by q ms p) (written (given ms cs).outlines l)) (stop_is (ordered_in p list) reason i b.0)
      ∙ ap (λ (x : Pool). left (told (given ms cs).outlines (refused_at (ordered_in p list) reason i)) x (written (given ms cs).outlines l)) (pool_is ms cs)

  pub traced-is : laid_down (ordered_in p list) q p (traced_all (length (table_in p list)) (T.row_at void (table_in p list)) l.corners l.contours l.holes) ≡ connect_accepted p list l
  unfolding traced_all connect_accepted traced table_in stored void
  traced-is = answer_is (traced at_binary64 stored p list) (by-nine (same at_binary64) (length (table_in p list)) (T.row_at void (table_in p list)))
