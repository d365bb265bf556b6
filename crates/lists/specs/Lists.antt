-- A list of numbers: a member's place, counted from 0, insertion and removal. Where the list is the first n places of a lent slice: what the whole slice
-- holds after.
use Rattle.std.specs.Prelude.{Bool, cond, List, [], ◌∷◌, ◌++◌, ℕ, suc, ◌+◌, ◌-◌, leb, ltb, length, take, drop}

-- the place of the first member that a test holds of, or how many there are
unfoldable pub slot : (ℕ → Bool) → List ℕ → ℕ
slot test [] = 0
slot test (x ∷ l) = cond (test x) 0 (suc (slot test l))

-- v put in at i
unfoldable pub insert_at : List ℕ → ℕ → ℕ → List ℕ
insert_at l i v = take i l ++ (v ∷ drop i l)

-- what stands at i taken out
unfoldable pub remove_at : List ℕ → ℕ → List ℕ
remove_at l i = take i l ++ drop (suc i) l

-- ---- in a slice

-- one more of the first places is in use
unfoldable pub entered : List ℕ → ℕ → ℕ → ℕ → List ℕ
entered s n i v = insert_at (take n s) i v ++ drop (n + 1) s

-- one less is; the freed place keeps what it had
unfoldable pub left : List ℕ → ℕ → ℕ → List ℕ
left s n i = remove_at (take n s) i ++ drop (n - 1) s

-- nothing changes where i is beyond the list, or the slice has no room for one more
unfoldable pub inserted : List ℕ → ℕ → ℕ → ℕ → List ℕ
inserted s n i v = cond (ltb n i) s (cond (leb (length s) n) s (entered s n i v))

-- nor where nothing of the list stands at i, or the list is longer than the slice
unfoldable pub removed : List ℕ → ℕ → ℕ → List ℕ
removed s n i = cond (leb n i) s (cond (ltb (length s) n) s (left s n i))
