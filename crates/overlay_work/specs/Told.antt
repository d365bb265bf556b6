-- The work on what a reading told and left in the arrays: a contract of private parts.
use Rattle.std.specs.Prelude.{List, ℕ, ◌+◌, take, Ok, Err, Result}
use Rattle.sheet.specs.declared.Counts.{Counts}
use Rattle.refusals.specs.declared.Refusal.{Refusal}
use Rattle.overlay_work.specs.Overlay.{Work, Stopped, overlay_edges}

-- how many edges it tells
unfoldable pub told_count : Result Counts Refusal → ℕ
told_count (Ok l) = l.subject + l.clip
told_count (Err r) = 0

unfoldable pub told_to : Result Counts Refusal → List (List ℕ) → List (List ℕ) → Work
told_to (Ok l) ends labels = overlay_edges l.operation (take (l.subject + l.clip) ends) (take (l.subject + l.clip) labels)
told_to (Err r) ends labels = Stopped r
