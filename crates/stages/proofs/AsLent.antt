-- The checks of a stage refuse by their own numbers, and those of its work are others: so by the number alone the counts are told exactly where
-- something was done.
use Rattle.refusals.specs.declared.Reason.{Reason}
use Rattle.std.proofs.Common.{Err}
use Rattle.refusals.specs.declared.Reason.TheVariants as Reason
use mathlib.Core.Path.{◌≡◌, refl, ap, ◌∙◌}
use mathlib.Core.Logic.{⊎_elim}
use mathlib.Core.Bool.{true}
use mathlib.Core.List.{List}
use Prim.Native.Nat.{ℕ}
use Rattle.refusals.specs.declared.Refusal.{Refusal}
use Rattle.events.specs.Binary64.{at_binary64}
use Rattle.events.specs.Pool.{Pool, size as places, row_at}
use Rattle.class.specs.declared.Operation.{Operation}
use Rattle.loading.specs.OnPool as Load
use Rattle.sweep.specs.OnPool as Sweep
use Rattle.sweep.specs.OnPool.{subdivide_pool}
use Rattle.sweep.proofs.Refusals.{given_by}
use Rattle.contours.specs.Connect.{refused}
use Rattle.contours.specs.OnPool.{connect_pool}
use Rattle.contours.specs.Accept.{Room}
use Rattle.contours.proofs.Cause.{Cause, Short}
use Rattle.contours.proofs.AtBinary64.{cause}
use Rattle.connection.specs.Connection.{Lent, room_of, connect_edges}
use Rattle.connection.specs.Connection as Connection
use Rattle.stages.specs.Told.{by_checks, counts_by, sweep_counts, connect_counts, load_used, LoadAsLent, SweepAsLent, ConnectAsLent}

-- ---- reasons of the checks

by_reason : (reason other : Reason) → reason ≡ other → by_checks other ≡ true → by_checks reason ≡ true
by_reason reason other e f = ap by_checks e ∙ f

size : by_checks Reason.Size ≡ true
unfolding by_checks
size = refl

coordinate : by_checks Reason.Coordinate ≡ true
unfolding by_checks
coordinate = refl

link : by_checks Reason.Link ≡ true
unfolding by_checks
link = refl

half-edge : by_checks Reason.HalfEdge ≡ true
unfolding by_checks
half-edge = refl

room-told : by_checks Reason.Room ≡ true
unfolding by_checks
room-told = refl

lent_by : (why : Refusal) (told lent : List ℕ) → by_checks why.reason ≡ true → counts_by (Err why) told lent ≡ lent
unfolding counts_by
lent_by why told lent e = rw e

-- ---- loading

pub load-as-lent : (ends : List (List ℕ)) (labels : List (List ℕ)) (p : Pool) (lent : ℕ) (r : Refusal) → Load.accept ends labels p ≡ Err r
    → LoadAsLent (Load.load ends labels p) p lent
unfolding Load.load Load.after_checks load_used
load-as-lent ends labels p lent r e = rw e (record { pool = refl; used = refl })

-- ---- the sweep

pub sweep-as-lent : (op : Operation) (mode : ℕ) (p : Pool) (n : ℕ) (list lent : List ℕ) (r : Refusal) → Sweep.accept p n list ≡ Err r
    → SweepAsLent (subdivide_pool op mode p n list) p list lent
unfolding subdivide_pool Sweep.after_checks Sweep.as_lent sweep_counts
sweep-as-lent op mode p n list lent r e =
    let by : by_checks r.reason ≡ true =
    ⊎_elim (λ h. by_reason _ Reason.Size h size) (λ h. ⊎_elim (λ k. by_reason _ Reason.Coordinate k coordinate) (λ k. by_reason _ Reason.Link k link) h) (given_by op mode p n list r e)
    in
    rw e (record { pool = refl; taken = refl; counts = lent_by _ _ lent by })

-- ---- connection

short-by : {room : Room} {events edges : ℕ} {r : Refusal} → Short room events edges r → r.reason ≡ Reason.Room
short-by (Short.short-points a e) = ap (λ (y : Refusal). y.reason) e
short-by (Short.short-contours a b e) = ap (λ (y : Refusal). y.reason) e
short-by (Short.short-holes a b c e) = ap (λ (y : Refusal). y.reason) e

cause-by : (p : Pool) (list : List ℕ) (room : Room) (points marks : ℕ) (r : Refusal) → Cause at_binary64 (row_at p) (places p) points marks list room r → by_checks r.reason ≡ true
cause-by p list room points marks r (Cause.list1 a e) = by_reason _ Reason.Size (ap (λ (y : Refusal). y.reason) e) size
cause-by p list room points marks r (Cause.size1 a b e) = by_reason _ Reason.Size (ap (λ (y : Refusal). y.reason) e) size
cause-by p list room points marks r (Cause.unfit2 t) = by_reason _ Reason.Coordinate t.reason_is coordinate
cause-by p list room points marks r (Cause.mistake4 a t) = by_reason _ Reason.Link t.reason_is link
cause-by p list room points marks r (Cause.half8 a b t) = by_reason _ Reason.HalfEdge t.reason_is half-edge
cause-by p list room points marks r (Cause.room5 a b c s) = by_reason _ Reason.Room (short-by s) room-told

pub connect-as-lent : (p : Pool) (list : List ℕ) (l : Lent) (lent : List ℕ) (r : Refusal) → connect_pool p list (room_of l) ≡ refused r
    → ConnectAsLent (connect_edges p list l) p l lent
unfolding connect_edges Connection.after Connection.told connect_counts
connect-as-lent p list l lent r e =
    let by = cause-by p list (room_of l) _ _ r (cause p list (room_of l) r e) in
    rw e (record { pool = refl; outlines = refl; counts = lent_by _ _ lent by })
