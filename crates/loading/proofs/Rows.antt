-- What stands in a store once edges are loaded: each edge's two ends at its two places, and at every other place what stood there.
use mathlib.Core.Path.{◌≡◌, refl, ◌∙◌}
use mathlib.Core.List.{List, [], ◌∷◌}
use Prim.Native.Nat.{ℕ, suc, ◌+◌, ◌*◌, ◌<◌, ◌≤◌}
use native.Mathlib.Omega.{arith}
use lib.ListN.{length}
use Rattle.events.specs.Coordinates.{Coordinates}
use Rattle.events.specs.Event.{Event}
use Rattle.events.specs.Store.{Store}
use Rattle.events.proofs.Stored.{Stored}
use Rattle.loading.specs.Loading.{Edge, first_end, second_end, loaded_edge, loaded}

-- the edges l, which are those from i on, each at its two places
pub data Rows {P : Type 0} (C : Coordinates P) (row : ℕ → Event P) : ℕ → List (Edge P) → Type 0 where
  none : (i : ℕ) → Rows C row i []
  more : (i : ℕ) (e : Edge P) (l : List (Edge P)) → row (2 * i) ≡ first_end C i e → row (2 * i + 1) ≡ second_end C i e → Rows C row (suc i) l → Rows C row i (e ∷ l)

module _ {P S : Type 0} (C : Coordinates P) {K : Store P S} (laws : Stored K) where
  sized : (s : S) (i : ℕ) (e : Edge P) → K.size (loaded_edge C K s i e) ≡ K.size s
  unfolding loaded_edge
  sized s i e = laws.size-enter _ (2 * i + 1) (second_end C i e) ∙ laws.size-enter s (2 * i) (first_end C i e)

  -- one edge
  first : (s : S) (i : ℕ) (e : Edge P) → 2 * i < K.size s → K.row_at (loaded_edge C K s i e) (2 * i) ≡ first_end C i e
  unfolding loaded_edge
  first s i e h = laws.away-enter _ (2 * i + 1) (2 * i) (second_end C i e) (λ q. omega arith) ∙ laws.here-enter s (2 * i) (first_end C i e) h

  second : (s : S) (i : ℕ) (e : Edge P) → 2 * i + 1 < K.size s → K.row_at (loaded_edge C K s i e) (2 * i + 1) ≡ second_end C i e
  unfolding loaded_edge
  second s i e h =
      let q = laws.size-enter s (2 * i) (first_end C i e) in
      laws.here-enter _ (2 * i + 1) (second_end C i e) (omega (arith, q))

  other : (s : S) (i : ℕ) (e : Edge P) (r : ℕ) → (r ≡ 2 * i → ⊥) → (r ≡ 2 * i + 1 → ⊥) → K.row_at (loaded_edge C K s i e) r ≡ K.row_at s r
  unfolding loaded_edge
  other s i e r h k = laws.away-enter _ (2 * i + 1) r (second_end C i e) k ∙ laws.away-enter s (2 * i) r (first_end C i e) h

  -- the places below the first edge, and beyond the last, stay as lent
  pub below : (l : List (Edge P)) (s : S) (i r : ℕ) → r < 2 * i → K.row_at (loaded C K s i l) r ≡ K.row_at s r
  unfolding loaded
  below [] s i r h = refl
  below (e ∷ l) s i r h = below l (loaded_edge C K s i e) (suc i) r (omega arith) ∙ other s i e r (λ q. omega arith) (λ q. omega arith)

  pub beyond : (l : List (Edge P)) (s : S) (i r : ℕ) → 2 * (i + length l) ≤ r → K.row_at (loaded C K s i l) r ≡ K.row_at s r
  unfolding loaded
  beyond [] s i r h = refl
  beyond (e ∷ l) s i r h = beyond l (loaded_edge C K s i e) (suc i) r (omega arith) ∙ other s i e r (λ q. omega arith) (λ q. omega arith)

  pub rows : (l : List (Edge P)) (s : S) (i : ℕ) → 2 * (i + length l) ≤ K.size s → Rows C (K.row_at (loaded C K s i l)) i l
  unfolding loaded
  rows [] s i h = none i
  rows (e ∷ l) s i h =
      let t = loaded_edge C K s i e in
      let q = sized s i e in
      more i e l
      (below l t (suc i) (2 * i) (omega arith) ∙ first s i e (omega arith))
      (below l t (suc i) (2 * i + 1) (omega arith) ∙ second s i e (omega arith))
      (rows l t (suc i) (omega (arith, q)))

  pub size-loaded : (l : List (Edge P)) (s : S) (i : ℕ) → K.size (loaded C K s i l) ≡ K.size s
  unfolding loaded
  size-loaded [] s i = refl
  size-loaded (e ∷ l) s i = size-loaded l (loaded_edge C K s i e) (suc i) ∙ sized s i e
