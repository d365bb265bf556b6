-- Rows one after the other: what is stored for a record is the definition's row, and the loop stores the rest of the order's rows.
use Rattle.std.proofs.Common.{None, Some, Option}
use mathlib.Core.Path.{◌≡◌, refl, ap, ◌∙◌}
use mathlib.Core.Bool.{Bool}
use mathlib.Core.List.{List, [], ◌∷◌, map}
use Prim.Native.Nat.{ℕ, suc, ◌+◌, ◌≤◌, ◌<◌}
use native.Mathlib.Numerals.{add-one}
use native.Mathlib.Omega.{arith}
use lib.ListN.{length, get_or, drop, drop_of_length-le}
use lib.Seq.{drop-cons}
use Rattle.numbers.specs.declared.Point.{Point}
use Rattle.events.specs.Event.{Event}
use Rattle.events.specs.Pool.{Pool, row_at}
use Rattle.checks.specs.Checks.{max_events}
use Rattle.contours.specs.Table.{Row, below_of, row_of}
use Rattle.positions.specs.Positions.{place_in}
use Rattle.rows.specs.declared.End.{End}
use Rattle.rows.specs.Rows.{Rows, put, end_for, below_number, below_flag}
use Rattle.positions.proofs.Told.{place-most}
use Rattle.tabulation.specs.Tabulation.{row_code, at_code}
use Rattle.tabulation.specs.Steps.{Few, Placing, below_place, below_out_in, below_in, row_in, put_row, rows_of, puts, filled}

-- ---- one row

pub place_few : (q : List ℕ) (n b : ℕ) → Few q n → place_in q n b ≤ max_events
place_few q n b f = f.each b

pub below_number_is : (p : Pool) (q : List ℕ) (n : ℕ) (l : Option ℕ) → below_place q n l ≡ below_number (below_in p q n l)
unfolding below_place below_in below_number
below_number_is p q n None = refl
below_number_is p q n (Some b) = add-one (place_in q n b)

pub below_flag_is : (p : Pool) (q : List ℕ) (n : ℕ) (l : Option ℕ) → below_out_in p l ≡ below_flag (below_in p q n l)
unfolding below_out_in below_in below_flag
below_flag_is p q n None = refl
below_flag_is p q n (Some b) = refl

pub end_is : (p : Pool) (q : List ℕ) (n : ℕ) (e : Event Point) (o k : ℕ) (f : Bool)
    → o ≡ place_in q n e.partner → k ≡ below_place q n e.below → f ≡ below_out_in p e.below
    → record { left = e.left; other = o; below = k; out_in = f } ≡ end_for (row_in p q n e)
unfolding row_in end_for
end_is p q n e o k f g h i = rw (g, h, i, below_number_is p q n e.below, below_flag_is p q n e.below)

pub put_is : (p : Pool) (q : List ℕ) (n r i : ℕ) (e : Event Point) (d : End) (t t' : Rows)
    → e ≡ row_at p r → d ≡ end_for (row_in p q n e) → t' ≡ put t i e.point d → t' ≡ put_row t i (row_in p q n (row_at p r))
unfolding put_row row_in
put_is p q n r i e d t t' g h k = k ∙ ap (put t i e.point) h ∙ ap (λ (f : Event Point). put_row t i (row_in p q n f)) g

-- ---- the rest of the rows

-- those from i on
unfoldable pub rest_of : Pool → List ℕ → ℕ → List (Row Point)
rest_of p s i = map (row_of (row_at p) s) (drop i s)

-- the places that the array tells are those of the definition
row-in : (p : Pool) (s q : List ℕ) (n r : ℕ) → Placing s q n → row_in p q n (row_at p r) ≡ row_of (row_at p) s r
unfolding row_in row_of below_in below_of
row-in p s q n r h = rw (h.each (row_at p r).partner, below (row_at p r).below)
  where
    below : (l : Option ℕ) → below_in p q n l ≡ below_of (row_at p) s l
    below None = refl
    below (Some b) = rw (h.each b)

put_first : (t : Rows) (i : ℕ) (r : Row Point) (rs : List (Row Point)) → puts t i (r ∷ rs) ≡ puts (put_row t i r) (suc i) rs
unfolding puts put_row put row_code at_code
put_first t i r rs = refl

rest_more : (p : Pool) (s : List ℕ) (i : ℕ) → i < length s → rest_of p s i ≡ row_of (row_at p) s (get_or s i 0) ∷ rest_of p s (suc i)
unfolding rest_of
rest_more p s i h = rw (drop-cons s i 0 h)

rest-none : (p : Pool) (s : List ℕ) (i : ℕ) → length s ≤ i → rest_of p s i ≡ []
unfolding rest_of
rest-none p s i h = rw (drop_of_length-le s h)

module _ (p : Pool) (s : List ℕ) where
  pub puts_all : (t : Rows) → puts t 0 (rest_of p s 0) ≡ filled p s t
  unfolding rest_of filled rows_of
  puts_all t = refl

  pub puts_more : (q : List ℕ) (n i : ℕ) (t : Rows) → Placing s q n → i < length s → puts (put_row t i (row_in p q n (row_at p (get_or s i 0)))) (i + 1) (rest_of p s (i + 1)) ≡ puts t i (rest_of p s i)
  puts_more q n i t h l = rw (add-one i, row-in p s q n (get_or s i 0) h, rest_more p s i l, put_first)

  pub puts_none : (i : ℕ) (t : Rows) → length s ≤ i → puts t i (rest_of p s i) ≡ t
  unfolding puts
  puts_none i t h = rw (rest-none p s i h)

-- no place is above the limit
pub few : (s q : List ℕ) (n : ℕ) → Placing s q n → Few q n
few s q n h = record { each = λ r. rw (h.each r) (omega (arith, place-most s r, h.count, h.few)) }
