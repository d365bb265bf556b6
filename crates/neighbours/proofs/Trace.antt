-- What was stored on the way, one after the other: records over ones with their faces, and divisions. A trace is an invariant like any other (`Invariants`), so
-- that every run has one, and what is to be shown of runs can be shown of traces. The run's divisions are those of its trace.
use Rattle.std.proofs.Common.{Ok}
use mathlib.Core.Path.{◌≡◌}
use Prim.Native.Nat.{ℕ, suc, ◌+◌, ◌*◌, ◌≤◌}
use native.Mathlib.Omega.{arith}
use Rattle.events.specs.Coordinates.{Coordinates, Crossing}
use Rattle.events.specs.Event.{Event}
use Rattle.events.specs.Store.{Store, look}
use Rattle.events.proofs.Stored.{Stored}
use Rattle.events.proofs.Faces.{Face}
use Rattle.division.specs.declared.Divided.{Divided}
use Rattle.division.specs.Division.{divide}
use Rattle.division.proofs.Outcomes.{passed, used-after, same_size}
use Rattle.neighbours.proofs.Invariants.{store_alone, Kept, store_kept}

-- from the store `first`, with `from` places in use, to a store with so many in use
pub data Trace {P S : Type 0} (C : Coordinates P) (K : Store P S) (first : S) (from : ℕ) : ℕ → S → Type 0 where
  begun : Trace C K first from from first
  stored : {n : ℕ} {s : S} → Trace C K first from n s → (i : ℕ) (e : Event P) → Face e (look K s n i) → Trace C K first from n (K.store s i e)
  divided : {n : ℕ} {s : S} → Trace C K first from n s → (i : ℕ) (p : P) (d : Divided) → (divide C K s n i p).answer ≡ Ok d
      → Trace C K first from (divide C K s n i p).used (divide C K s n i p).store

module _ {P S : Type 0} {C : Coordinates P} {K : Store P S} {first : S} {from : ℕ} where
  unfoldable pub divisions : {n : ℕ} {s : S} → Trace C K first from n s → ℕ
  divisions begun = 0
  divisions (stored t i e f) = divisions t
  divisions (divided t i p d h) = suc (divisions t)

  pub used-traced : {n : ℕ} {s : S} (t : Trace C K first from n s) → n ≡ from + 2 * divisions t
  unfolding divisions
  used-traced begun = omega arith
  used-traced (stored t i e f) = used-traced t
  used-traced (divided {n} {s} t i p d h) = let more = used-after C K s n i p d h in omega (arith, used-traced t)

  within : Stored K → from ≤ K.size first → {n : ℕ} {s : S} → Trace C K first from n s → n ≤ K.size s
  within st l begun = l
  within st l (stored {n} {s} t i e f) = rw (st.size-store s i e) (within st l t)
  within st l (divided {n} {s} t i p d h) =
      let more = used-after C K s n i p d h in
      let free = (passed C K s n i p d h).free in
      let size = same_size C K s n i p st in
      omega arith

pub trace-kept : {P S : Type 0} (C : Coordinates P) (K : Store P S) (crossing : Crossing P) → Stored K → (first : S) (from : ℕ) → from ≤ K.size first
    → Kept (store_alone (Trace C K first from)) C K crossing
trace-kept C K crossing st first from l =
    store_kept C K crossing (Trace C K first from) st (λ n s t. within st l t) (λ n s i e t f. stored t i e f) (λ n s i p d t h. divided t i p d h)
