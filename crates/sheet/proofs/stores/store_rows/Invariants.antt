-- The invariant: the rows that are left, stored further on, give the whole store.
use mathlib.Core.Path.{◌≡◌}
use mathlib.Core.List.{map}
use Prim.Native.Nat.{◌+◌}
use lib.ListN.{drop}
use lib.Seq.{sets}
use Rattle.sheet.specs.Stored.{ends_of_row, labels_of_row}
use Rattle.sheet.proofs.stores.store_rows.Given as goal

abbrev pub invariant-loop-i : goal.invariant-loop-i
invariant-loop-i l =
    (sets l.ends (l.at + l.i) (map ends_of_row (drop l.i l.rows)) ≡ sets l.initial.ends l.at (map ends_of_row l.rows))
    × (sets l.labels (l.at + l.i) (map (labels_of_row l.subject) (drop l.i l.rows)) ≡ sets l.initial.labels l.at (map (labels_of_row l.subject) l.rows))
