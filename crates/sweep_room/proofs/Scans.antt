-- A scan over the first places sees nothing beyond them: the event to be taken, its rivals, and the largest x of a layer.
use mathlib.Core.Path.{◌≡◌, refl, ap₂}
use mathlib.Core.Bool.{Bool, true, false}
use Prim.Native.Nat.{ℕ, zero, suc, ◌<◌}
use native.Mathlib.Omega.{arith}
use Rattle.events.specs.Coordinates.{Coordinates}
use Rattle.events.specs.Event.{Event}
use Rattle.class.specs.declared.Operation.{Operation}
use Rattle.waiting.specs.Waiting.{first, rivals, rivalled}
use Rattle.sweep.specs.Bounds.{rightmost, is_past, past}

module _ (w w' : ℕ → Bool) (before : ℕ → ℕ → Bool) where
  pub first_alike : (n : ℕ) → ((r : ℕ) → r < n → w' r ≡ w r) → first w' before n ≡ first w before n
  unfolding first
  first_alike zero h = refl
  first_alike (suc n) h = rw (h n (omega arith), first_alike n (λ r l. h r (omega arith)))

  pub rivalled-alike : (e n : ℕ) → ((r : ℕ) → r < n → w' r ≡ w r) → rivalled w' before e n ≡ rivalled w before e n
  unfolding rivalled rivals
  rivalled-alike e zero h = refl
  rivalled-alike e (suc n) h = rw (h n (omega arith), rivalled-alike e n (λ r l. h r (omega arith)))

module _ {P : Type 0} (C : Coordinates P) (row row' : ℕ → Event P) where
  rightmost-alike : (subject : Bool) (k : ℕ) → ((r : ℕ) → r < k → row' r ≡ row r) → rightmost C row' subject k ≡ rightmost C row subject k
  unfolding rightmost
  rightmost-alike subject zero h = refl
  rightmost-alike subject (suc k) h = rw (h k (omega arith), rightmost-alike subject k (λ r l. h r (omega arith)))

  pub past-alike : (op : Operation) (k : ℕ) → ((r : ℕ) → r < k → row' r ≡ row r) → past C op row' k ≡ past C op row k
  unfolding past
  past-alike op k h = ap₂ {C = P → Bool} (λ a b p. is_past C op a b p) (rightmost-alike true k h) (rightmost-alike false k h)
