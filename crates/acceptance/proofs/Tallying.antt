-- The tally of a list tells for each record whether it is listed, and whether twice.
use mathlib.Core.Path.{◌≡◌, refl, sym, ap, ◌∙◌}
use mathlib.Core.Bool.{Bool, true, false, cond, ◌&&◌, ◌||◌}
use mathlib.Core.List.{List, [], ◌∷◌}
use Prim.Native.Nat.{ℕ, zero, suc, ◌<◌, ◌≤◌}
use native.Mathlib.Omega.{arith}
use native.Mathlib.Decide.{ℕ_discrete}
use borrow.Author.Tests.{eq-eqb, ne_eqb, lt-ltb}
use lib.Dec.{eqb, ltb}
use lib.ListN.{length, get_or, set, length-set, length-replicate, get_or-replicate, get_or-eq_default}
use lib.Seq.{get_or-set_same, get_or-set_other}
use Rattle.contours.specs.Accept.{listed, twice}
use Rattle.acceptance.specs.Seen.{again, seen_in, zeros, seen_at, noted, tallied}

-- ---- what is seen in a list

or_above : (n : ℕ) → (ltb 0 n || ltb 1 n) ≡ ltb 1 (again n)
unfolding again
or_above zero = refl
or_above (suc n) = rw (lt-ltb 0 (suc n) (omega arith))

above-again : (n : ℕ) → true ≡ ltb 0 (again n)
unfolding again
above-again zero = refl
above-again (suc n) = refl

pub listed-seen : (l : List ℕ) (r : ℕ) → listed l r ≡ ltb 0 (seen_in l r)
unfolding listed seen_in
listed-seen [] r = refl
listed-seen (x ∷ l) r = by (eqb x r) (listed-seen l r)
  where
    by : (t : Bool) → listed l r ≡ ltb 0 (seen_in l r) → (t || listed l r) ≡ ltb 0 (cond t (again (seen_in l r)) (seen_in l r))
    by true e = above-again (seen_in l r)
    by false e = e

pub twice-seen : (l : List ℕ) (r : ℕ) → twice l r ≡ ltb 1 (seen_in l r)
unfolding twice seen_in
twice-seen [] r = refl
twice-seen (x ∷ l) r = by (eqb x r) (twice-seen l r)
  where
    by : (t : Bool) → twice l r ≡ ltb 1 (seen_in l r) → ((t && listed l r) || twice l r) ≡ ltb 1 (cond t (again (seen_in l r)) (seen_in l r))
    by true e = rw (listed-seen l r, e) (or_above (seen_in l r))
    by false e = e

-- ---- the array

pub nothing-beyond : (seen : List ℕ) (r : ℕ) → length seen ≤ r → 0 ≡ seen_at seen r
unfolding seen_at
nothing-beyond seen r h = sym (get_or-eq_default seen 0 h)

module _ (n : ℕ) where
  length-tallied : (list : List ℕ) → length (tallied (zeros n) list) ≡ n
  unfolding tallied noted
  length-tallied [] = length-replicate n 0
  length-tallied (x ∷ l) = length-set (tallied (zeros n) l) x _ ∙ length-tallied l

  pub tallied-seen : (list : List ℕ) (r : ℕ) → r < n → seen_at (tallied (zeros n) list) r ≡ seen_in list r
  unfolding tallied noted seen_at seen_in
  tallied-seen [] r h = get_or-replicate n r 0 0 h
  tallied-seen (x ∷ l) r h = by (ℕ_discrete r x) (tallied-seen l r h)
    where
      was : List ℕ
      was = tallied (zeros n) l

      by : Dec (r ≡ x) → get_or was r 0 ≡ seen_in l r
          → get_or (set was x (again (get_or was x 0))) r 0 ≡ cond (eqb x r) (again (seen_in l r)) (seen_in l r)
      by (yes e) q = rw (← e, eq-eqb r r refl, get_or-set_same was r (again (get_or was r 0)) 0 (omega (arith, length-tallied l))) (ap again q)
      by (no e) q = rw (ne_eqb x r (λ y. e (sym y))) (get_or-set_other was x r (again (get_or was x 0)) 0 e ∙ q)

  pub unseen-beyond : (list : List ℕ) (r : ℕ) → n ≤ r → seen_at (tallied (zeros n) list) r ≡ 0
  unseen-beyond list r h = sym (nothing-beyond (tallied (zeros n) list) r (omega (arith, length-tallied list)))
