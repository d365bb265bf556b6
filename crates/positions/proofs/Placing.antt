-- The places: from the order's end on, each record has its place among what was seen.
use Prim.Native.Nat.{ℕ, zero, suc, ◌+◌, ◌-◌, ◌≤◌, ◌<◌}
use mathlib.Core.Path.{◌≡◌, refl, sym, ap, ◌∙◌}
use mathlib.Core.Bool.{cond}
use mathlib.Core.List.{List, map}
use native.Mathlib.Numerals.{sub-one}
use native.Mathlib.Omega.{arith}
use native.Mathlib.Decide.{ℕ_discrete}
use lib.Dec.{eqb}
use lib.ListN.{length, get_or, take, drop, set, replicate, length-set, length-map, length-replicate, get_or-replicate, drop_of_length-le}
use lib.Seq.{drop-cons, get_or-take, length-take-le, get_or-set_same, get_or-set_other, ext_get_or}
use borrow.Author.Tests.{eq-eqb, ne_eqb}
use Rattle.checks.specs.Numbers.{numbers_from}
use Rattle.checks.proofs.Lowest.{length-numbers, number_at}
use Rattle.contours.specs.Table.{place}
use Rattle.contours.proofs.Lists.{get_d_map}
use Rattle.positions.specs.Positions.{places_in}
use Rattle.positions.specs.Steps.{Placed}

pub placed-start : (o q q₁ : List ℕ) (n : ℕ) → n ≤ length o → q₁ ≡ replicate (length q) n → Placed (drop n (take n o)) n q q₁
unfolding place
placed-start o q q₁ n h e =
    let l : length (take n o) ≤ n = rw (length-take-le n o h) (omega arith) in
    rw (drop_of_length-le (take n o) l) (record { size = rw e (length-replicate (length q) n); each = λ r g. rw e (get_or-replicate (length q) r n 0 g ∙ omega arith) })

placed-more : (s q q' q'' : List ℕ) (k : ℕ) → 0 < k → k ≤ length s → Placed (drop k s) k q q' → q'' ≡ set q' (get_or s (k - 1) 0) (k - 1) → Placed (drop (k - 1) s) (k - 1) q q''
unfolding place
placed-more s q q' q'' zero h l p e = absurd (omega arith)
placed-more s q q' q'' (suc k) h l p e = rw sub-one (at (rw sub-one at e))
  where
    at : q'' ≡ set q' (get_or s k 0) k → Placed (drop k s) k q q''
    at e = record { size = ap length e ∙ length-set q' (get_or s k 0) k ∙ p.size; each = λ r g. rw (e, drop-cons s k 0 (omega arith)) (go r g (ℕ_discrete r (get_or s k 0))) }
      where
        go : (r : ℕ) → r < length q → Dec (r ≡ get_or s k 0) → get_or (set q' (get_or s k 0) k) r 0 ≡ k + cond (eqb (get_or s k 0) r) 0 (suc (place (drop (suc k) s) r))
        go r g (yes e) = rw (e, eq-eqb (get_or s k 0) (get_or s k 0) refl, get_or-set_same q' (get_or s k 0) k 0 (omega (arith, p.size, e))) (omega arith)
        go r g (no e) = rw (ne_eqb (get_or s k 0) r (λ x. e (sym x)), get_or-set_other q' (get_or s k 0) r k 0 e) (p.each r g ∙ omega arith)

pub placed-turn : (o q q' q'' : List ℕ) (n k : ℕ) → n ≤ length o → 0 < k → k ≤ n → Placed (drop k (take n o)) k q q' → q'' ≡ set q' (get_or o (k - 1) 0) (k - 1) → Placed (drop (k - 1) (take n o)) (k - 1) q q''
placed-turn o q q' q'' n k f h l p e =
    placed-more (take n o) q q' q'' k h (rw (length-take-le n o f) l) p (rw (get_or-take n o (k - 1) 0 (omega arith)) e)

-- ---- as a list

pub length-each : {A : Type 0} (f : ℕ → A) (i k : ℕ) → length (map f (numbers_from i k)) ≡ k
length-each f i k = length-map (numbers_from i k) f ∙ length-numbers i k

pub get_d-each : {A : Type 0} (f : ℕ → A) (i k r : ℕ) (d : A) → r < k → get_or (map f (numbers_from i k)) r d ≡ f (i + r)
get_d-each f i k r d h = get_d_map f (numbers_from i k) r d 0 (rw (length-numbers i k) h) ∙ ap f (number_at i k r h)

place-from : (s : List ℕ) (r : ℕ) → 0 + place s r ≡ place s (0 + r)
place-from s r = let e : 0 + r ≡ r = omega arith in rw e (omega arith)

pub placed_is : (s q q' : List ℕ) → Placed s 0 q q' → q' ≡ places_in s (length q)
unfolding places_in
placed_is s q q' p =
    ext_get_or 0 q' (map (place s) (numbers_from 0 (length q))) (p.size ∙ sym (length-each (place s) 0 (length q)))
    (λ r h. let g : r < length q = omega (arith, h, p.size) in p.each r g ∙ place-from s r ∙ sym (get_d-each (place s) 0 (length q) r 0 g))
