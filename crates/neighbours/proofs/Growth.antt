-- Nothing takes places into use but divisions, two each, and no more than there are; no store changes the size. An invariant of the walk (`Invariants`).
use mathlib.Core.Path.{◌≡◌, refl, ◌∙◌}
use Prim.Native.Nat.{ℕ, ◌+◌, ◌*◌, ◌≤◌}
use native.Mathlib.Omega.{arith}
use Rattle.events.specs.Coordinates.{Coordinates, Crossing}
use Rattle.events.specs.Store.{Store}
use Rattle.events.proofs.Stored.{Stored}
use Rattle.division.proofs.Outcomes.{passed, used-after, same_size}
use Rattle.neighbours.proofs.Invariants.{Kept, store_alone, any-kept}

-- from a store with n places in use to one with n'
pub record Grows {P S : Type 0} (K : Store P S) (s : S) (n : ℕ) (s' : S) (n' : ℕ) : Type 0 where
  pub size : K.size s' ≡ K.size s
  pub divisions : ℕ
  pub used : n' ≡ n + 2 * divisions
  pub within : n ≤ K.size s → n' ≤ K.size s

pub grows-still : {P S : Type 0} (K : Store P S) (s : S) (n : ℕ) → Grows K s n s n
grows-still K s n = record { size = refl; divisions = 0; used = omega arith; within = λ h. h }

pub grows-kept : {P S : Type 0} (C : Coordinates P) (K : Store P S) (crossing : Crossing P) → Stored K → (s : S) (n : ℕ) → Kept (store_alone (λ m t. Grows K s n t m)) C K crossing
grows-kept C K crossing L s n =
    any-kept C K crossing (λ m t. Grows K s n t m)
    (λ m t i e g. record { size = L.size-store t i e ∙ g.size; divisions = g.divisions; used = g.used; within = g.within })
    (λ m t i p d g e.
    let more = used-after C K t m i p d e in
    let free = (passed C K t m i p d e).free in
    let size = g.size in
    let used = g.used in
    record { size = same_size C K t m i p L ∙ size; divisions = g.divisions + 1; used = omega arith; within = λ h. omega arith })
