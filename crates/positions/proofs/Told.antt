-- What the arrays tell of the ordered list: it is no longer than the list, and the places cover every record, one outside the pool being in no list.
use mathlib.Core.Path.{◌≡◌, refl, sym, ap, ◌∙◌}
use mathlib.Core.Logic.{◌≢◌}
use mathlib.Core.Bool.{Bool, true, false, cond, true≢false}
use mathlib.Core.List.{List, [], ◌∷◌, map}
use Prim.Native.Nat.{ℕ, suc, ◌≤◌}
use native.Mathlib.Omega.{arith}
use borrow.Author.Tests.{ltb-true, ltb-false, ne_eqb, le-ltb}
use lib.Dec.{eqb, ltb}
use lib.ListN.{length, get_or}
use Rattle.events.specs.Binary64.{at_binary64}
use Rattle.numbers.specs.declared.Point.{Point}
use Rattle.events.specs.Event.{Event, has_transition}
use Rattle.events.specs.Pool.{Pool, row_at, blank}
use Rattle.checks.specs.Numbers.{numbers_from}
use Rattle.contours.specs.Result.{insert, in_result, results, earlier, ordered}
use Rattle.contours.specs.Table.{place}
use Rattle.contours.proofs.Lists.{All, all_of, all-perm, all-mem, keep_out}
use Rattle.contours.proofs.Sort.{sort-is}
use Rattle.positions.specs.Positions.{ordered_in, places_in, place_in}
use Rattle.positions.specs.Steps.{added, earlier_in}
use Rattle.positions.proofs.Sorted.{length-insert, ordered-cons, ordered-nil}
use Rattle.positions.proofs.Placing.{length-each, get_d-each}

-- ---- how many

added-most : (p : Pool) (a : ℕ) (s : List ℕ) → length (added p a s) ≤ suc (length s)
unfolding added
added-most p a s = go (in_result (row_at p) a)
  where
    go : (t : Bool) → length (cond t (insert (earlier_in p) a s) s) ≤ suc (length s)
    go true = rw (length-insert (earlier_in p) a s) (omega arith)
    go false = omega arith

pub count_most : (p : Pool) (l : List ℕ) → length (ordered_in p l) ≤ length l
count_most p [] = rw (ordered-nil p) (omega arith)
count_most p (a ∷ l) = rw (ordered-cons p a l) (omega (arith, added-most p a (ordered_in p l), count_most p l))

-- ---- the place of a record that is not there

pub place-most : (s : List ℕ) (r : ℕ) → place s r ≤ length s
unfolding place
place-most [] r = omega arith
place-most (x ∷ s) r = go (eqb x r) (place-most s r)
  where
    go : (t : Bool) → place s r ≤ length s → cond t 0 (suc (place s r)) ≤ suc (length s)
    go true h = omega arith
    go false h = omega (arith, h)

absent : (s : List ℕ) (r : ℕ) → All (λ (x : ℕ). x ≢ r) s → place s r ≡ length s
unfolding place
absent [] r h = refl
absent (x ∷ s) r h = rw (ne_eqb x r h.0, absent s r h.1)

-- a record outside the pool is blank, and its own partner
row_out : (p : Pool) (r : ℕ) → length p.points ≤ r → row_at p r ≡ blank r
unfolding row_at
row_out p r h = rw (le-ltb _ _ h)

blank-out : (p : Pool) (r : ℕ) → length p.points ≤ r → in_result (row_at p) r ≡ false
unfolding in_result blank has_transition
blank-out p r h = rw (row_out p r h) (ap (λ (e : Event Point). has_transition e.transition) (row_out p r h))

all_in : (p : Pool) (l : List ℕ) → All (λ (x : ℕ). in_result (row_at p) x ≡ true) (ordered_in p l)
unfolding ordered_in ordered results
all_in p l =
    all-perm (λ (x : ℕ). in_result (row_at p) x ≡ true) (sort-is (earlier (row_at p) at_binary64) (results (row_at p) l))
    (all_of (λ (x : ℕ). in_result (row_at p) x ≡ true) (results (row_at p) l) (λ x m. (keep_out (in_result (row_at p)) l x m).1))

place_out : (p : Pool) (l : List ℕ) (r : ℕ) → length p.points ≤ r → place (ordered_in p l) r ≡ length (ordered_in p l)
place_out p l r h =
    absent (ordered_in p l) r
    (all_of (λ (x : ℕ). x ≢ r) (ordered_in p l)
    (λ x m e. true≢false (sym (all-mem (λ (y : ℕ). in_result (row_at p) y ≡ true) (ordered_in p l) x (all_in p l) m) ∙ ap (in_result (row_at p)) e ∙ blank-out p r h)))

-- ---- every record has its place

place_read : (s : List ℕ) (k r : ℕ) → (k ≤ r → place s r ≡ length s) → place_in (places_in s k) (length s) r ≡ place s r
unfolding place_in places_in
place_read s k r out = rw (length-each (place s) 0 k) (go (ltb r k) refl)
  where
    go : (t : Bool) → ltb r k ≡ t → cond t (get_or (map (place s) (numbers_from 0 k)) r 0) (length s) ≡ place s r
    go true e = get_d-each (place s) 0 k r 0 (ltb-true r k e) ∙ ap (place s) (omega arith)
    go false e = sym (out (ltb-false r k e))

pub each-place : (p : Pool) (l : List ℕ) (k r : ℕ) → length p.points ≤ k
    → place_in (places_in (ordered_in p l) k) (length (ordered_in p l)) r ≡ place (ordered_in p l) r
each-place p l k r h = place_read (ordered_in p l) k r (λ g. place_out p l r (omega (arith, h, g)))
