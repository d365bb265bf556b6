-- Loaded in another order, with no tie at any taking, the sweep takes the renamed events in the same order: the same text is told, or the same number.
use Rattle.std.proofs.Common.{Err, Ok}
use Rattle.refusals.specs.Refusals.{Verdict}
use mathlib.Core.Path.{◌≡◌, refl, sym, ap, ap₂, ◌∙◌}
use mathlib.Core.Bool.{false}
use mathlib.Core.List.{List, map}
use Prim.Native.Nat.{ℕ, ◌≤◌}
use native.Mathlib.Omega.{arith}
use lib.ListN.{length, take, length-map}
use lib.Seq.{length-sets}
use Rattle.lists.proofs.Fronts.{first-are}
use Rattle.crossing.specs.Modes.{ordered}
use Rattle.events.specs.Binary64.{at_binary64, in_mode}
use Rattle.events.specs.Pool.{Pool, size, stored}
use Rattle.events.proofs.Stored.{pool-stored}
use Rattle.class.specs.declared.Operation.{Operation}
use Rattle.loading.specs.OnPool.{load}
use Rattle.sweep.specs.declared.Swept.{Swept}
use Rattle.sweep.specs.OnPool.{accept, after_run, as_lent, after_checks, subdivide_pool}
use Rattle.sweep.specs.OnPool as Sweeps
use Rattle.sweep.proofs.Ends.{counted}
use Rattle.sweep.proofs.Answers.{used-counted}
use Rattle.sweep_order.specs.SameBut.{Renaming, rename_refusal}
use Rattle.sweep_order.specs.OnPool.{Reordered, SameAfter, OrderFreeCalls, rename_outcome, rename_swept}
use Rattle.sweep_order.proofs.AtBinary64.{order-of-loading}
use Rattle.sweep_room.specs.Room.{first_places}
use Rattle.overlay_work.specs.Overlay.{pool_places, no_points, none_taken, empty_pool, overlay_taken, swept_to, after_sweep, loaded_to, after_loading, overlay_edges_in, overlay_edges}
use Rattle.overlay_work.proofs.Handing.{taken-within, in_use}
use Rattle.overlay_order.specs.Lines.{SameWork, same_number}
use Rattle.overlay_order.proofs.InUse.{renumbered}
use Rattle.overlay_order.proofs.Renumbered.{connected_alike}

-- ---- one sweep

module _ (op : Operation) (p : Pool) (n : ℕ) (taken : List ℕ) where
  abbrev swept : Sweeps.After
  swept = subdivide_pool op ordered p n taken

  size-kept : (x : Verdict) → accept p n taken ≡ x → stored.size swept.pool ≡ stored.size p
  unfolding subdivide_pool after_checks after_run as_lent
  size-kept (Ok _) h = rw h (counted at_binary64 stored pool-stored (in_mode ordered) op p n).grows.size
  size-kept (Err r) h = rw h

  fits : swept.answer.outcome ≡ Ok tt → swept.answer.used ≤ stored.size swept.pool
  fits d = omega (arith, in_use op p n taken swept.answer swept.pool swept.taken refl d, size-kept (accept p n taken) refl)

  points-fit : swept.answer.outcome ≡ Ok tt → swept.answer.used ≤ length swept.pool.points
  unfolding stored size
  points-fit d = let u = fits d in omega (arith, u)

  marks-fit : swept.answer.outcome ≡ Ok tt → swept.answer.used ≤ length swept.pool.marks
  unfolding stored size
  marks-fit d = let u = fits d in omega (arith, u)

-- ---- two sweeps

module _ (op : Operation) (n : ℕ) (ρ : Renaming n) (p p' : Pool) (lent : List ℕ) (h : SameAfter ρ.to p lent (subdivide_pool op ordered p n lent) p' lent (subdivide_pool op ordered p' n lent)) where
  abbrev a : Sweeps.After
  a = subdivide_pool op ordered p n lent

  abbrev a' : Sweeps.After
  a' = subdivide_pool op ordered p' n lent

  same-used : a'.answer.used ≡ a.answer.used
  unfolding rename_swept
  same-used = ap (λ (x : Swept). x.used) h.answer

  same_count : a'.answer.taken ≡ a.answer.taken
  unfolding rename_swept
  same_count = ap (λ (x : Swept). x.taken) h.answer

  same_end : a'.answer.outcome ≡ rename_outcome ρ.to a.answer.outcome
  unfolding rename_swept
  same_end = ap (λ (x : Swept). x.outcome) h.answer

  room : a.answer.taken ≤ length lent
  room =
      let w = taken-within op p n lent a.answer a.pool a.taken refl in
      omega (arith, w, ap length h.told, length-sets lent 0 h.events)

  listed : take a.answer.taken a.taken ≡ h.events
  listed = ap (take a.answer.taken) h.told ∙ first-are lent h.events a.answer.taken h.counted room

  listed' : take a'.answer.taken a'.taken ≡ map ρ.to h.events
  listed' =
      let k : a.answer.taken ≡ length (map ρ.to h.events) = omega (arith, h.counted, length-map h.events ρ.to) in
      ap₂ take same_count h.told' ∙ first-are lent (map ρ.to h.events) a.answer.taken k room

  renamed-done : (o : Verdict) → o ≡ Ok tt → rename_outcome ρ.to o ≡ Ok tt
  unfolding rename_outcome
  renamed-done o e = rw e

  done-alike : a.answer.outcome ≡ Ok tt
      → SameWork (overlay_taken (first_places a.answer.used a.pool) (take a.answer.taken a.taken)) (overlay_taken (first_places a'.answer.used a'.pool) (take a'.answer.taken a'.taken))
  unfolding overlay_taken
  done-alike d =
      let d' : a'.answer.outcome ≡ Ok tt = same_end ∙ renamed-done a.answer.outcome d in
      let n-in : n ≤ a.answer.used = omega (arith, used-counted op ordered p n lent) in
      let p₁ : a.answer.used ≤ length a'.pool.points = omega (arith, same-used, points-fit op p' n lent d') in
      let m₁ : a.answer.used ≤ length a'.pool.marks = omega (arith, same-used, marks-fit op p' n lent d') in
      rw (listed, listed', same-used)
      (connected_alike ρ.to _ _ (renumbered n ρ a.answer.used n-in a.pool a'.pool (points-fit op p n lent d) (marks-fit op p n lent d) p₁ m₁ h.records) h.events _)

  outcomes : (o : Verdict) → a.answer.outcome ≡ o
      → SameWork (swept_to o (first_places a.answer.used a.pool) (take a.answer.taken a.taken)) (swept_to (rename_outcome ρ.to o) (first_places a'.answer.used a'.pool) (take a'.answer.taken a'.taken))
  unfolding swept_to rename_outcome rename_refusal
  outcomes (Ok _) d = done-alike d
  outcomes (Err r) d = same_number refl

  pub swept-alike : SameWork (after_sweep a) (after_sweep a')
  unfolding after_sweep
  swept-alike = rw same_end (outcomes a.answer.outcome refl)

-- ---- two loadings

abbrev start : Pool
start = empty_pool pool_places

abbrev none : List ℕ
none = none_taken pool_places

all-long : (length start.points ≡ 1024) × (length none ≡ 1024)
unfolding no_points none_taken
all-long = (refl, refl)

module _ (op : Operation) (ends : List (List ℕ)) (labels : List (List ℕ)) (ends' : List (List ℕ)) (labels' : List (List ℕ)) (o : Reordered ends labels ends' labels')
    (n : ℕ) (d : (load ends labels start).answer ≡ Ok n) (u : (subdivide_pool op ordered (load ends labels start).pool n none).answer.tied ≡ false) where
  free : OrderFreeCalls op ordered n ends labels start none ends' labels' start none
  free =
      let k : length none ≡ length start.points = all-long.1 ∙ sym all-long.0 in
      order-of-loading op ordered ends labels start none ends' labels' start none o (record { points = refl; marks = refl; takes = k; takes' = k }) n d u

  pub loaded-alike : SameWork (overlay_edges op ends labels) (overlay_edges op ends' labels')
  unfolding overlay_edges overlay_edges_in after_loading loaded_to
  loaded-alike = rw (d, free.loads) (swept-alike op n free.runs.renaming (load ends labels start).pool (load ends' labels' start).pool none free.calls)
