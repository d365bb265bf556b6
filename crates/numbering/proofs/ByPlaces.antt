-- Where the arrays hold the places among the ordered records and the marks of the walk, the numbers written are connection's.
use Rattle.std.proofs.Common.{Option}
use mathlib.Core.Path.{◌≡◌, refl, sym, ap, ◌∙◌}
use mathlib.Core.List.{List}
use Prim.Native.Nat.{ℕ, zero, suc, ◌<◌, ◌≤◌}
use native.Mathlib.Omega.{arith}
use lib.ListN.{length, get_or}
use Rattle.events.specs.Store.{Store}
use Rattle.events.specs.Binary64.{at_binary64}
use Rattle.events.specs.Pool.{Pool, size, row_at, stored}
use Rattle.contours.specs.Result.{ordered}
use Rattle.contours.specs.Table.{place}
use Rattle.contours.specs.Contours.{Contour}
use Rattle.contours.specs.Connect.{contour_of, settled, number_in, finished}
use Rattle.numbering.specs.Numbering.{number_at, settled_by}
use Rattle.std.proofs.lemmas.List.{get_or_default}

-- only the numbers of the first k records matter
same_numbers : {P S : Type 0} (K : Store P S) (f g : ℕ → Option ℕ) (s : S) (k : ℕ) → ((r : ℕ) → r < k → f r ≡ g r) → settled K f k s ≡ settled K g k s
unfolding settled
same_numbers K f g s zero h = refl
same_numbers K f g s (suc k) h = rw (same_numbers K f g s k (λ r l. h r (omega arith)), h k (omega arith))

module _ (places walked order : List ℕ) (p : Pool) where
  pub by-places : size p ≤ length places → ((r : ℕ) → r < size p → get_or places r 0 ≡ place order r)
      → settled_by places walked p ≡ settled stored (number_in order walked) (size p) p
  unfolding settled_by number_at number_in
  by-places h e =
      same_numbers
      stored
      (number_at places walked)
      (number_in order walked)
      p
      (size p)
      (λ r l. ap (λ (i : ℕ). contour_of (get_or walked i 0)) (get_or_default places r (length walked) 0 (omega arith) ∙ e r l))

-- what connection gives of the pool
pub finished-pool : (p : Pool) (list places walked : List ℕ) (cs : List Contour) → size p ≤ length places
    → ((r : ℕ) → r < size p → get_or places r 0 ≡ place (ordered (row_at p) at_binary64 list) r) → (finished at_binary64 stored p list walked cs).pool ≡ settled_by places walked p
unfolding finished stored
finished-pool p list places walked cs h e = sym (by-places places walked (ordered (row_at p) at_binary64 list) p h e)
