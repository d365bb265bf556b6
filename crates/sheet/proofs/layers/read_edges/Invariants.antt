-- The invariant: the edges that are read and those that are left are all of them, what comes after is the same, and those that are left, stored
-- further on, give the whole store.
use mathlib.Core.Path.{◌≡◌}
use mathlib.Core.List.{map}
use Prim.Native.Nat.{◌+◌, ◌-◌}
use lib.ListN.{length, drop}
use lib.Seq.{sets}
use Rattle.sheet.specs.Reading.{edges_of}
use Rattle.sheet.specs.Stored.{row_of}
use Rattle.sheet.proofs.layers.read_edges.Given as goal

abbrev pub invariant-loop-read : goal.invariant-loop-read
invariant-loop-read l =
    (l.read + length (edges_of (l.count - l.read) (drop l.line l.s)).list ≡ length (edges_of l.count (drop l.at l.s)).list)
    × ((edges_of (l.count - l.read) (drop l.line l.s)).rest ≡ (edges_of l.count (drop l.at l.s)).rest)
    × (sets l.rows (l.place + l.read) (map row_of (edges_of (l.count - l.read) (drop l.line l.s)).list) ≡ sets l.initial.rows l.place (map row_of (edges_of l.count (drop l.at l.s)).list))
