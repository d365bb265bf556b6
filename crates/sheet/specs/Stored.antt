-- What reading leaves: its answer, and the edges, stored by `read_rows` as rows of words, each layer by itself, and by `read_sheet` in the form that
-- loading takes, subject first. A refused sheet leaves the arrays as lent, and an edge past the end of an array is not stored in it.
use Rattle.std.specs.Prelude.{List, [], ◌∷◌, ◌++◌, map, ℕ, ◌%◌, length, get_or, Ok, Err, Result}
use Rattle.std.proofs.lemmas.List.Edits.{sets}
use Rattle.sheet.specs.declared.Counts.{Counts}
use Rattle.refusals.specs.declared.Refusal.{Refusal}
use Rattle.sheet.specs.declared.edges.Edge.{Edge}
use Rattle.sheet.specs.Sheet.{Sheet}
use Rattle.sheet.specs.Reading.{Reading, Accepted, Refused}

-- ---- an edge as a row of words: its two ends, then its ring

unfoldable pub row_of : Edge → List ℕ
row_of e = e.from.x ∷ e.from.y ∷ e.to.x ∷ e.to.y ∷ e.ring ∷ []

unfoldable pub edge_of_row : List ℕ → Edge
edge_of_row r =
    record { ring = get_or r 4 0; from = record { x = get_or r 0 0; y = get_or r 1 0 }; to = record { x = get_or r 2 0; y = get_or r 3 0 } }

abbrev pub rows_in : Sheet → List (List ℕ)
rows_in s = map row_of s.subject ++ map row_of s.clip

-- the rows of each layer, from place 0 of an array of its own
pub record AfterRows : Type 0 where
  pub answer : Result Counts Refusal
  pub subject : List (List ℕ)
  pub clip : List (List ℕ)

abbrev pub left_rows : Result Counts Refusal → List (List ℕ) → List (List ℕ) → AfterRows
left_rows answer subject clip = record { answer = answer; subject = subject; clip = clip }

unfoldable pub leave_rows : Reading → List (List ℕ) → List (List ℕ) → AfterRows
leave_rows (Accepted s) subject clip =
    left_rows (Ok (record { operation = s.operation; subject = length s.subject; clip = length s.clip })) (sets subject 0 (map row_of s.subject)) (sets clip 0 (map row_of s.clip))
leave_rows (Refused reason line) subject clip = left_rows (Err (record { reason = reason; place = line })) subject clip

-- ---- in the form that loading takes

unfoldable pub ends_of : Edge → List ℕ
ends_of e = e.from.x ∷ e.from.y ∷ e.to.x ∷ e.to.y ∷ []

-- the ring, and 1 for the subject
unfoldable pub labels_of : ℕ → Edge → List ℕ
labels_of subject e = e.ring ∷ subject ∷ []

-- the same of a row, whose ring is the last 32 bits of its word
unfoldable pub ends_of_row : List ℕ → List ℕ
ends_of_row r = ends_of (edge_of_row r)

unfoldable pub labels_of_row : ℕ → List ℕ → List ℕ
labels_of_row subject r = get_or r 4 0 % 4294967296 ∷ subject ∷ []

pub record After : Type 0 where
  pub answer : Result Counts Refusal
  pub ends : List (List ℕ)
  pub labels : List (List ℕ)

abbrev pub left : Result Counts Refusal → List (List ℕ) → List (List ℕ) → After
left answer ends labels = record { answer = answer; ends = ends; labels = labels }

unfoldable pub leave : Reading → List (List ℕ) → List (List ℕ) → After
leave (Accepted s) ends labels =
    left (Ok (record { operation = s.operation; subject = length s.subject; clip = length s.clip })) (sets ends 0 (map ends_of s.subject ++ map ends_of s.clip))
    (sets labels 0 (map (labels_of 1) s.subject ++ map (labels_of 0) s.clip))
leave (Refused reason line) ends labels = left (Err (record { reason = reason; place = line })) ends labels
