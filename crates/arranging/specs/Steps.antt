-- What private parts do with rows of words: contracts that nobody need believe.
use Rattle.std.specs.Prelude.{Bool, not, cond, ◌&&◌, List, [], ◌∷◌, map, ℕ, ◌-◌, ltb, length, get_or, Ok}
use Rattle.std.proofs.lemmas.List.Edits.{sets}
use Rattle.class.specs.declared.Operation.{Operation}
use Rattle.sheet.specs.Sheet.{Sheet}
use Rattle.sheet.specs.Stored.{edge_of_row, ends_of_row, labels_of_row, After, left}
use Rattle.printing.specs.Rows.{sheet_of_rows}
use Rattle.sorting.specs.Rows.{at_most, sorted, joined}
use Rattle.arranging.specs.Order.{sign_bit, edge_key}
use Rattle.arranging.specs.Arranged.{plain, symmetric}

-- the word at a place of totalOrder
unfoldable pub word_of : ℕ → ℕ
word_of r = cond (ltb r sign_bit) (18446744073709551615 - r) (r - sign_bit)

-- what the edge of a row is put in order by
unfoldable pub key_of_row : List ℕ → List ℕ
key_of_row r = edge_key (plain (edge_of_row r))

-- the row of the edge that is put in order by it
unfoldable pub row_of_key : List ℕ → List ℕ
row_of_key k = word_of (get_or k 0 0) ∷ word_of (get_or k 1 0) ∷ word_of (get_or k 2 0) ∷ word_of (get_or k 3 0) ∷ get_or k 4 0 ∷ []

-- ---- the rows of a layer

unfoldable pub keys_in_order : List (List ℕ) → List (List ℕ)
keys_in_order rows = sorted (map key_of_row rows)

unfoldable pub rows_in_order : List (List ℕ) → List (List ℕ)
rows_in_order rows = map row_of_key (keys_in_order rows)

-- whether the second layer goes first
unfoldable pub clip_first : Operation → List (List ℕ) → List (List ℕ) → Bool
clip_first o subject clip = symmetric o && not (at_most (joined (keys_in_order subject)) (joined (keys_in_order clip)))

-- ---- both layers

-- the arranged sheet of two layers' rows
unfoldable pub sheet_in_order : Operation → List (List ℕ) → List (List ℕ) → Sheet
sheet_in_order o subject clip =
    cond (clip_first o subject clip) (sheet_of_rows o (rows_in_order clip) (rows_in_order subject)) (sheet_of_rows o (rows_in_order subject) (rows_in_order clip))

-- two layers' rows stored in the form that loading takes
unfoldable pub stored : Operation → List (List ℕ) → List (List ℕ) → List (List ℕ) → List (List ℕ) → After
stored o a c ends labels =
    left (Ok (record { operation = o; subject = length a; clip = length c })) (sets (sets ends 0 (map ends_of_row a)) (length a) (map ends_of_row c))
    (sets (sets labels 0 (map (labels_of_row 1) a)) (length a) (map (labels_of_row 0) c))

unfoldable pub stored_in_order : Operation → List (List ℕ) → List (List ℕ) → List (List ℕ) → List (List ℕ) → After
stored_in_order o subject clip ends labels =
    cond (clip_first o subject clip) (stored o (rows_in_order clip) (rows_in_order subject) ends labels) (stored o (rows_in_order subject) (rows_in_order clip) ends labels)
