-- Single numbers of a pool's two arrays, changed. Where there is no such record, or its row no such number, nothing is.
use Rattle.std.specs.Prelude.{List, [], ℕ, ◌-◌, ◌%◌, ◌&&◌, cond, get_or, length, ltb, set}

unfoldable pub with_number : List (List ℕ) → (numbers row field value : ℕ) → List (List ℕ)
with_number rows numbers row field value =
    cond (ltb row (length rows) && ltb field numbers) (set rows row (set (get_or rows row []) field value)) rows

-- a coordinate
unfoldable pub with_coordinate : List (List ℕ) → (row field value : ℕ) → List (List ℕ)
with_coordinate points row field value = with_number points 2 row field value

-- the low 32 bits are what a mark holds
unfoldable pub with_mark : List (List ℕ) → (row field value : ℕ) → List (List ℕ)
with_mark marks row field value = with_number marks 12 row field (value % 4294967296)

-- the twelve marks come first, then the coordinates
unfoldable pub marks_after : List (List ℕ) → (row field value : ℕ) → List (List ℕ)
marks_after marks row field value = cond (ltb field 12) (with_mark marks row field value) marks

unfoldable pub points_after : List (List ℕ) → (row field value : ℕ) → List (List ℕ)
points_after points row field value = cond (ltb field 12) points (with_coordinate points row (field - 12) value)
