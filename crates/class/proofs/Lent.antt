-- Edge class writes flags, below link and transition, marks 4, 5, 7, 8 and 9; the other marks of the record, and every other record, are as lent.
use Rattle.std.proofs.Common.{Option, Some, None}
use mathlib.Core.Path.{◌≡◌, refl}
use mathlib.Core.Logic.{◌≢◌}
use mathlib.Core.Bool.{false, true≢false}
use mathlib.Core.List.{List, [], ◌∷◌}
use Prim.Native.Nat.{ℕ, ◌<◌}
use Rattle.events.specs.Event.{Event}
use Rattle.events.specs.Pool.{Pool, size, row_at, stored}
use Rattle.events.specs.Lent.{among, AsLentBut}
use Rattle.events.proofs.Lent.{twelve, Agree, left, subject, ring, partner, edge_type, numbered, contour, lent-here, lent-away}
use Rattle.class.specs.declared.Operation.{Operation}
use Rattle.class.specs.Class.{written, set_from_lower, fields, Neighbour}
use Rattle.class.specs.OnPool.{lower_at, classified_at}

abbrev pub class_marks : List ℕ
class_marks = 4 ∷ 5 ∷ 7 ∷ 8 ∷ 9 ∷ []

module _ {P : Type 0} (op : Operation) (e : Event P) where
  pub point-stays : (lower : Option (Neighbour P)) → e.point ≡ (fields op e lower).point
  unfolding fields set_from_lower written
  point-stays None = refl
  point-stays (Some n) = refl

  pub class-alone : (lower : Option (Neighbour P)) (k : ℕ) → k < 12 → among k class_marks ≡ false → Agree e (fields op e lower) k
  unfolding fields set_from_lower written
  class-alone None =
      twelve (λ k. among k class_marks ≡ false → Agree e (fields op e None) k) (λ h. left refl) (λ h. subject refl) (λ h. ring refl) (λ h. partner refl) (λ h. absurd (true≢false h)) (λ h. absurd (true≢false h)) (λ h. edge_type refl) (λ h. absurd (true≢false h)) (λ h. absurd (true≢false h)) (λ h. absurd (true≢false h)) (λ h. numbered refl) (λ h. contour refl)
  class-alone (Some n) =
      twelve (λ k. among k class_marks ≡ false → Agree e (fields op e (Some n)) k) (λ h. left refl) (λ h. subject refl) (λ h. ring refl) (λ h. partner refl) (λ h. absurd (true≢false h)) (λ h. absurd (true≢false h)) (λ h. edge_type refl) (λ h. absurd (true≢false h)) (λ h. absurd (true≢false h)) (λ h. absurd (true≢false h)) (λ h. numbered refl) (λ h. contour refl)

module _ (op : Operation) (p : Pool) (e : ℕ) (lower : Option ℕ) where
  pub class-lent : e < size p → AsLentBut class_marks p (classified_at op p e lower) e
  unfolding classified_at stored
  class-lent h = lent-here p e class_marks (row_at p e) _ h refl (point-stays op (row_at p e) (lower_at p lower)) (class-alone op (row_at p e) (lower_at p lower))

  pub others-lent : (r : ℕ) → r ≢ e → AsLentBut [] p (classified_at op p e lower) r
  unfolding classified_at stored
  others-lent r d = lent-away p e r _ d
