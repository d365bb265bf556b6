-- The sheet whose edges stand in two arrays of rows of words.
use Rattle.std.specs.Prelude.{List, map, ℕ}
use Rattle.class.specs.declared.Operation.{Operation}
use Rattle.sheet.specs.Sheet.{Sheet}
use Rattle.sheet.specs.Stored.{edge_of_row}

unfoldable pub sheet_of_rows : Operation → (subject clip : List (List ℕ)) → Sheet
sheet_of_rows o a b = record { operation = o; subject = map edge_of_row a; clip = map edge_of_row b }
