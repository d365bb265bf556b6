-- Bytes put into a lent array from a place on. What does not fit is not stored; the answer is the place after them all the same, at most the largest
-- place that can be told.
use Rattle.std.specs.Prelude.{◌≡◌, List, ℕ, ◌+◌, min, length}
use Rattle.std.proofs.lemmas.List.Edits.{sets}

abbrev pub most_places : ℕ
most_places = 18446744073709551615

pub record Put (out : List ℕ) (at : ℕ) (bytes after : List ℕ) (place : ℕ) : Type 0 where
  pub stored : after ≡ sets out at bytes
  pub next : place ≡ min (at + length bytes) most_places
