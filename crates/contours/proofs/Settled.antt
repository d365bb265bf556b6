-- The pool after contour numbers are written: every record has its own and is otherwise as it was.
use Rattle.std.proofs.Common.{Option}
use mathlib.Core.Path.{◌≡◌, refl, ap, ◌∙◌}
use mathlib.Core.Logic.{◌≢◌}
use Prim.Native.Nat.{ℕ, zero, suc, ◌<◌, ◌≤◌}
use native.Mathlib.Omega.{arith}
use native.Mathlib.Decide.{ℕ_discrete}
use Rattle.events.specs.Store.{Store}
use Rattle.events.proofs.Stored.{Stored}
use Rattle.contours.specs.Connect.{with_contour, settle, settled}

module _ {P S : Type 0} (K : Store P S) (stored : Stored K) where
  settle-size : (s : S) (r : ℕ) (l : Option ℕ) → K.size (settle K s r l) ≡ K.size s
  unfolding settle
  settle-size s r l = stored.size-store s r (with_contour l (K.row_at s r))

  settle-here : (s : S) (r : ℕ) (l : Option ℕ) → r < K.size s → K.row_at (settle K s r l) r ≡ with_contour l (K.row_at s r)
  unfolding settle
  settle-here s r l h = stored.here s r (with_contour l (K.row_at s r)) h

  settle-away : (s : S) (r j : ℕ) (l : Option ℕ) → j ≢ r → K.row_at (settle K s r l) j ≡ K.row_at s j
  unfolding settle
  settle-away s r j l h = stored.away s r j (with_contour l (K.row_at s r)) h

  module _ (number : ℕ → Option ℕ) (s : S) where
    pub settled-size : (k : ℕ) → K.size (settled K number k s) ≡ K.size s
    unfolding settled
    settled-size zero = refl
    settled-size (suc k) = settle-size (settled K number k s) k (number k) ∙ settled-size k

    -- a record that is not yet reached
    pub settled_on : (k r : ℕ) → k ≤ r → K.row_at (settled K number k s) r ≡ K.row_at s r
    unfolding settled
    settled_on zero r h = refl
    settled_on (suc k) r h = settle-away (settled K number k s) k r (number k) (λ q. absurd (omega arith)) ∙ settled_on k r (omega arith)

    -- a record that is
    pub settled-row : (k r : ℕ) → k ≤ K.size s → r < k → K.row_at (settled K number k s) r ≡ with_contour (number r) (K.row_at s r)
    unfolding settled
    settled-row zero r h l = absurd (omega arith)
    settled-row (suc k) r h l = go (ℕ_discrete r k) (λ m. settled-row k r (omega arith) m)
      where
        go : Dec (r ≡ k) → (r < k → K.row_at (settled K number k s) r ≡ with_contour (number r) (K.row_at s r)) → K.row_at (settle K (settled K number k s) k (number k)) r ≡ with_contour (number r) (K.row_at s r)
        go (yes q) f =
            rw q (settle-here (settled K number k s) k (number k) (omega (arith, settled-size k)) ∙ ap (with_contour (number k)) (settled_on k k (omega arith)))
        go (no q) f = settle-away (settled K number k s) k r (number k) q ∙ f (omega arith)
