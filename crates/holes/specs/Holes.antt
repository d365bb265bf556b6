-- Contours and their holes as the lent arrays hold them. A contour is: first corner, where its corners end, parent + 1 or 0, depth, first hole, number of
-- holes. What is beyond an array is not stored; all other places stay as lent.
use Rattle.std.specs.Prelude.{cond, List, [], ◌∷◌, ◌++◌, ℕ, zero, suc, ◌+◌, length, get_or, set, eqb, leb}
use Rattle.std.proofs.lemmas.List.Edits.{sets}
use Rattle.checks.specs.Checks.{max_events}
use Rattle.checks.specs.Numbers.{numbers_from}
use Rattle.contours.specs.Result.{keep}

unfoldable pub nest_in : List (List ℕ) → ℕ → List ℕ
nest_in ns j = get_or ns j (0 ∷ 0 ∷ 0 ∷ 0 ∷ [])

-- the arrays, and how many holes there are
pub record Held : Type 0 where
  pub contours : List (List ℕ)
  pub holes : List ℕ
  pub end : ℕ

abbrev pub holding : List (List ℕ) → List ℕ → ℕ → Held
holding k h e = record { contours = k; holes = h; end = e }

module _ (ns : List (List ℕ)) where
  -- the holes of contour c among m contours from j on
  unfoldable pub holes_at : ℕ → ℕ → ℕ → List ℕ
  holes_at c m j = keep (λ i. eqb (get_or (nest_in ns i) 2 0) (c + 1)) (numbers_from j m)

  -- of n contours: contour c whole, whose first hole is at e
  unfoldable pub contour_row : ℕ → ℕ → ℕ → List ℕ
  contour_row n c e = get_or (nest_in ns c) 0 0 ∷ get_or (nest_in ns c) 1 0 ∷ get_or (nest_in ns c) 2 0 ∷ get_or (nest_in ns c) 3 0 ∷ e ∷ length (holes_at c n 0) ∷ []

  -- k contours from c on, and their holes
  unfoldable pub contour_rows : ℕ → ℕ → ℕ → ℕ → List (List ℕ)
  contour_rows n zero c e = []
  contour_rows n (suc k) c e = contour_row n c e ∷ contour_rows n k (suc c) (e + length (holes_at c n 0))

  unfoldable pub all_holes : ℕ → ℕ → ℕ → List ℕ
  all_holes n zero c = []
  all_holes n (suc k) c = holes_at c n 0 ++ all_holes n k (suc c)

  unfoldable pub held_from : ℕ → ℕ → ℕ → List (List ℕ) → List ℕ → ℕ → Held
  held_from n k c ks hs e = holding (sets ks c (contour_rows n k c e)) (sets hs e (all_holes n k c)) (e + length (all_holes n k c))

  -- all of n contours
  unfoldable pub holed_on : ℕ → List (List ℕ) → List ℕ → Held
  holed_on n ks hs = cond (leb n max_events) (held_from n n 0 ks hs 0) (holding ks hs 0)

  -- ---- its parts

  unfoldable pub hold_one : ℕ → ℕ → List (List ℕ) → List ℕ → ℕ → Held
  hold_one n c ks hs e = holding (set ks c (contour_row n c e)) (sets hs e (holes_at c n 0)) (e + length (holes_at c n 0))

-- numbers stored one after the other, and where they end
pub record Pile : Type 0 where
  pub holes : List ℕ
  pub end : ℕ

abbrev pub pile : List ℕ → ℕ → Pile
pile h e = record { holes = h; end = e }

unfoldable pub piled : List ℕ → ℕ → List ℕ → Pile
piled hs e vs = pile (sets hs e vs) (e + length vs)

-- j is put at the end if c is its parent
unfoldable pub add_hole : List (List ℕ) → ℕ → List ℕ → ℕ → ℕ → Pile
add_hole ns c hs e j = cond (eqb (get_or (nest_in ns j) 2 0) (c + 1)) (pile (set hs e j) (e + 1)) (pile hs e)
