-- A record with another contour number says the same in all its other marks, so that only the contour's two are written.
use Rattle.std.proofs.Common.{Option}
use mathlib.Core.Path.{◌≡◌, refl, sym, ap, ap₂, ◌∙◌}
use mathlib.Core.Bool.{false, true≢false}
use mathlib.Core.List.{List, [], ◌∷◌}
use Prim.Native.Nat.{ℕ, ◌<◌}
use native.Mathlib.Omega.{arith}
use lib.ListN.{length, get_or, set, length-set}
use lib.Seq.{get_or-set_same, get_or-set_other, set-get_or, ext_get_or}
use Rattle.events.specs.Event.{Event}
use Rattle.events.specs.Lent.{among}
use Rattle.events.specs.Pool.{event_of, there_over, link_over, marks_over}
use Rattle.events.proofs.Lent.{twelve, Agree, left, subject, ring, partner, there, below, edge_type, transition, in_out, other_in_out, over-kept}
use Rattle.contours.specs.Connect.{with_contour}
use Rattle.numbering.specs.Numbering.{marks_with}

pub contour-alone : {P : Type 0} (e : Event P) (l : Option ℕ) (k : ℕ) → k < 12 → among k (10 ∷ 11 ∷ []) ≡ false → Agree e (with_contour l e) k
unfolding with_contour
contour-alone e l = twelve (λ k. among k (10 ∷ 11 ∷ []) ≡ false → Agree e (with_contour l e) k) (λ h. left refl) (λ h. subject refl) (λ h. ring refl) (λ h. partner refl) (λ h. there refl) (λ h. below refl) (λ h. edge_type refl) (λ h. transition refl) (λ h. in_out refl) (λ h. other_in_out refl) (λ h. absurd (true≢false h)) (λ h. absurd (true≢false h))

module _ (q : List ℕ) (m : List ℕ) (l : Option ℕ) (size : length m ≡ 12) where
  abbrev there' : ℕ
  there' = there_over (get_or m 10 0) (get_or m 11 0) l

  abbrev number' : ℕ
  number' = link_over (get_or m 10 0) (get_or m 11 0) l

  abbrev written : List ℕ
  written = set (set m 10 there') 11 number'

  abbrev At : ℕ → Type 0
  At k = get_or written k 0 ≡ get_or (marks_with q m l) k 0

  beside : (k : ℕ) → k < 10 → among k (10 ∷ 11 ∷ []) ≡ false → At k
  unfolding marks_with
  beside k h n =
      get_or-set_other (set m 10 there') 11 k number' 0 (λ e. omega arith)
      ∙ get_or-set_other m 10 k there' 0 (λ e. omega arith)
      ∙ sym (over-kept q m (with_contour l (event_of q m)) k (contour-alone (event_of q m) l k (omega arith) n))

  tenth : At 10
  unfolding marks_with marks_over with_contour
  tenth = get_or-set_other (set m 10 there') 11 10 number' 0 (λ e. omega arith) ∙ get_or-set_same m 10 there' 0 (omega arith)

  eleventh : At 11
  unfolding marks_with marks_over with_contour
  eleventh = get_or-set_same (set m 10 there') 11 number' 0 (omega (arith, length-set m 10 there'))

  size-with : length written ≡ length (marks_with q m l)
  unfolding marks_with marks_over
  size-with = length-set (set m 10 there') 11 number' ∙ length-set m 10 there' ∙ size

  pub two-marks : written ≡ marks_with q m l
  two-marks =
      ext_get_or 0 written (marks_with q m l) size-with
      (λ k h. twelve At (beside 0 (omega arith) refl) (beside 1 (omega arith) refl) (beside 2 (omega arith) refl) (beside 3 (omega arith) refl) (beside 4 (omega arith) refl) (beside 5 (omega arith) refl) (beside 6 (omega arith) refl) (beside 7 (omega arith) refl) (beside 8 (omega arith) refl) (beside 9 (omega arith) refl) tenth eleventh k (omega (arith, length-set (set m 10 there') 11 number', length-set m 10 there')))

  -- nothing is written where both say it already
  pub stays : there' ≡ get_or m 10 0 → number' ≡ get_or m 11 0 → m ≡ marks_with q m l
  stays h k = sym (ap₂ (λ (t : ℕ) (n : ℕ). set (set m 10 t) 11 n) h k ∙ ap (λ (s : List ℕ). set s 11 (get_or m 11 0)) (set-get_or m 10 0) ∙ set-get_or m 11 0) ∙ two-marks
