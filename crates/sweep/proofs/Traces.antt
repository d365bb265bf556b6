-- A sweep as what it stored, one after the other: it changes what the orders and the divisions see of a record by divisions alone.
use Prim.Native.Nat.{ℕ, ◌≤◌}
use Rattle.events.specs.Coordinates.{Coordinates, Crossing}
use Rattle.events.specs.Store.{Store}
use Rattle.events.proofs.Stored.{Stored}
use Rattle.class.specs.declared.Operation.{Operation}
use Rattle.neighbours.proofs.Invariants.{store_alone}
use Rattle.neighbours.proofs.Trace.{Trace, begun, trace-kept}
use Rattle.sweep.specs.Run.{subdivide}
use Rattle.sweep.proofs.Kept.{kept-sweep}

pub traced : {P S : Type 0} (C : Coordinates P) (K : Store P S) → Stored K → (crossing : Crossing P) (op : Operation) (s : S) (n : ℕ) → n ≤ K.size s
    → Trace C K s n (subdivide C K crossing op s n).used (subdivide C K crossing op s n).store
unfolding store_alone
traced C K st crossing op s n l = (kept-sweep (store_alone (Trace C K s n)) (trace-kept C K crossing st s n l) (λ m e l. tt) op s n begun).store
