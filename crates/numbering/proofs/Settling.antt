-- The loop: the first r records have their numbers. Storing a record with another contour leaves its point as it stands.
use Rattle.std.proofs.Common.{Option}
use mathlib.Core.Path.{◌≡◌, refl, sym, ap, ◌∙◌}
use mathlib.Core.List.{List, [], ◌∷◌}
use Prim.Native.Nat.{ℕ, ◌+◌, ◌<◌}
use native.Mathlib.Numerals.{add-one}
use native.Mathlib.Omega.{arith}
use borrow.Author.Tests.{lt-ltb}
use lib.ListN.{length, get_or, set}
use lib.Seq.{set-get_or}
use Rattle.numbers.specs.declared.Point.{Point}
use Rattle.events.specs.Event.{Event}
use Rattle.events.specs.Pool.{pool, size, event_of, point_of, marks_over, row_at, store, stored}
use Rattle.contours.specs.Connect.{with_contour, settle, settled}
use Rattle.numbering.specs.Numbering.{number_at, marks_with, Renumbered, settled_by}

-- two numbers make a point, and the point makes them
pub stored-point : (q : List ℕ) (m : List ℕ) → length q ≡ 2 → point_of (event_of q m) ≡ q
unfolding point_of event_of
stored-point [] m h = absurd (omega arith)
stored-point (x ∷ []) m h = absurd (omega arith)
stored-point (x ∷ y ∷ []) m h = refl
stored-point (x ∷ y ∷ z ∷ q) m h = absurd (omega arith)

one-settled : (points : List (List ℕ)) (marks : List (List ℕ)) (r : ℕ) (l : Option ℕ) (written : List ℕ) → r < length points → r < length marks
    → Renumbered (get_or points r []) (get_or marks r []) l written → pool points (set marks r written) ≡ settle stored (pool points marks) r l
unfolding settle stored row_at store marks_with with_contour point_of
one-settled points marks r l written h k n =
    rw (n.marks, lt-ltb r (length points) h, lt-ltb r (length marks) k)
    (ap (λ (ps : List (List ℕ)). pool ps (set marks r (marks_over (get_or marks r []) (with_contour l e)))) same_points)
  where
    e : Event Point
    e = event_of (get_or points r []) (get_or marks r [])

    same_points : points ≡ set points r (point_of e)
    same_points = rw n.point (sym (set-get_or points r []))

module _ (places walked : List ℕ) (points : List (List ℕ)) (marks₀ : List (List ℕ)) where
  abbrev pub Settling : ℕ → List (List ℕ) → Type 0
  Settling r marks = pool points marks ≡ settled stored (number_at places walked) r (pool points marks₀)

  pub none-settled : Settling 0 marks₀
  unfolding settled
  none-settled = refl

  pub more-settled : (r : ℕ) (marks : List (List ℕ)) {l : Option ℕ} {written : List ℕ} → r < length points → r < length marks → Settling r marks → l ≡ number_at places walked r
      → Renumbered (get_or points r []) (get_or marks r []) l written → Settling (r + 1) (set marks r written)
  unfolding settled
  more-settled r marks {l} {written} h k s q w = rw add-one (one-settled points marks r l written h k w ∙ rw (q, s))

  pub all_settled : (r : ℕ) (marks : List (List ℕ)) → r ≡ size (pool points marks₀) → Settling r marks → pool points marks ≡ settled_by places walked (pool points marks₀)
  unfolding settled_by
  all_settled r marks e s = rw e at s
