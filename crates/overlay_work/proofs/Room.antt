-- Edges that a smaller pool does not refuse by 6 are worked in it as in the large one: loading and the sweep leave there what the large pool has in its
-- first places (`sweep_room`), and no more than those are in use.
use Rattle.refusals.specs.Refusals.{same_reason}
use Rattle.std.proofs.Common.{Err, Ok, Result}
use Rattle.refusals.specs.declared.Reason.TheVariants as Reason
use Rattle.refusals.specs.declared.Refusal.{Refusal}
use Rattle.refusals.specs.Refusals.{Verdict}
use mathlib.Core.Path.{◌≡◌, refl, sym, ap, ap₂, ◌∙◌}
use mathlib.Core.Bool.{Bool, true, false, cond}
use mathlib.Core.List.{List}
use Prim.Native.Nat.{ℕ, ◌*◌, ◌≤◌}
use native.Mathlib.Omega.{arith}
use lib.Dec.{eqb, ltb}
use lib.ListN.{length, take, replicate, length-take}
use lib.Seq.{sets, take-take}
use Rattle.events.specs.Pool.{Pool, pool, size, stored}
use Rattle.class.specs.declared.Operation.{Operation}
use Rattle.checks.specs.Checks.{max_events}
use Rattle.loading.specs.OnPool.{edges_of, accept, after_checks, load}
use Rattle.loading.specs.OnPool as Loads
use Rattle.loading.proofs.Edges.{length-edges}
use Rattle.loading.proofs.Kept.{points_kept, marks-kept}
use Rattle.crossing.specs.Modes.{ordered}
use Rattle.sweep.specs.OnPool.{subdivide_pool}
use Rattle.sweep.specs.OnPool as Sweeps
use Rattle.sweep_room.specs.Room.{first_places, Larger, wants_room, first_of_loaded, first_of_swept}
use Rattle.sweep_room.proofs.Places.{take-alike}
use Rattle.sweep_room.proofs.Calls.{load-room, sweep-room}
use Rattle.overlay_work.specs.Overlay.{Work, Text, Stopped, After, left, put, wanted, is_full, pool_places, few_places, no_points, no_marks, none_taken, empty_pool, swept_to, after_sweep, loaded_to, after_loading, overlay_edges_in, overlay_edges}
use Rattle.overlay_work.proofs.Empty.{points-room, marks-room, taken-room}
use Rattle.overlay_work.proofs.Handing.{taken-within, in_use}

-- ---- loading

-- two records for each edge
records-few : (ends : List (List ℕ)) (labels : List (List ℕ)) (p : Pool) (k : ℕ) → (load ends labels p).answer ≡ Ok k → k ≤ 2 * length ends
unfolding load after_checks
records-few ends labels p k = go (accept ends labels p)
  where
    go : (x : Verdict) → (after_checks x (edges_of ends labels) p).answer ≡ Ok k → k ≤ 2 * length ends
    go (Ok _) e = let z : 2 * length (edges_of ends labels) ≡ k = cc in omega (arith, z, length-edges ends labels)
    go (Err r) e = absurd (let z : ◌≡◌ {A = ℕ} 0 1 = cc in omega arith)

-- ---- the sweep

-- stopped as the pool was full
abbrev stopped_full : Work → Bool
stopped_full (Text t) = false
stopped_full (Stopped r) = same_reason r.reason Reason.Full

module _ (o : Operation) (n : ℕ) (p : Pool) (k : ℕ) (taken : List ℕ) (larger : Larger n p taken) (few : k ≤ n) where
  abbrev small : Sweeps.After
  small = subdivide_pool o ordered (first_places n p) k (take n taken)

  abbrev large : Sweeps.After
  large = subdivide_pool o ordered p k taken

  not_full : stopped_full (after_sweep small) ≡ false → wants_room small.answer.outcome ≡ false
  unfolding after_sweep swept_to wants_room
  not_full = go small.answer.outcome
    where
      go : (x : Verdict) → stopped_full (swept_to x (first_places small.answer.used small.pool) (take small.answer.taken small.taken)) ≡ false → wants_room x ≡ false
      go (Ok _) h = refl
      go (Err r) h = h

  module _ (e : small ≡ first_of_swept n large) where
    small_is : Sweeps.after large.answer (first_places n large.pool) (take n large.taken) ≡ small
    unfolding first_of_swept
    small_is = sym e

    -- the small pool has all that is in use, and all that was taken
    used-few : large.answer.outcome ≡ Ok tt → large.answer.used ≤ n
    unfolding stored size
    used-few d =
        let u = in_use o (first_places n p) k (take n taken) large.answer (first_places n large.pool) (take n large.taken) small_is d in
        omega (arith, u, length-take n p.points)

    taken-few : large.answer.taken ≤ n
    taken-few =
        let t = taken-within o (first_places n p) k (take n taken) large.answer (first_places n large.pool) (take n large.taken) small_is in
        omega (arith, t, length-take n large.taken)

    same-places : (x : Verdict) → large.answer.outcome ≡ x
        → swept_to x (first_places large.answer.used (first_places n large.pool)) (take large.answer.taken (take n large.taken)) ≡ swept_to x (first_places large.answer.used large.pool) (take large.answer.taken large.taken)
    unfolding swept_to
    same-places (Ok _) d =
        let u = used-few d in
        rw (take-take large.answer.used n large.pool.points u, take-take large.answer.used n large.pool.marks u, take-take large.answer.taken n large.taken taken-few)
    same-places (Err r) d = refl

    same_after : after_sweep small ≡ after_sweep large
    unfolding after_sweep first_of_swept
    same_after = ap after_sweep e ∙ same-places large.answer.outcome refl

  swept-room : stopped_full (after_sweep small) ≡ false → after_sweep small ≡ after_sweep large
  swept-room h = same_after (sweep-room o ordered n p k taken larger few (not_full h))

-- ---- both, from empty places

module _ (n m : ℕ) (within : n ≤ m) (few : m ≤ max_events) (o : Operation) (ends : List (List ℕ)) (labels : List (List ℕ)) (room : 2 * length ends ≤ n) where
  first-points : take n (no_points m) ≡ no_points n
  unfolding no_points
  first-points = take-alike n m (replicate 2 0) within

  first_marks : take n (no_marks m) ≡ no_marks n
  unfolding no_marks
  first_marks = take-alike n m (replicate {A = ℕ} 12 0) within

  first_taken : take n (none_taken m) ≡ none_taken n
  unfolding none_taken
  first_taken = take-alike {A = ℕ} n m 0 within

  abbrev x : Loads.After
  x = load ends labels (empty_pool m)

  loads : load ends labels (empty_pool n) ≡ Loads.after x.answer (first_places n x.pool)
  unfolding first_of_loaded
  loads =
      sym (ap₂ (λ (ps : List (List ℕ)) (ms : List (List ℕ)). load ends labels (pool ps ms)) first-points first_marks)
      ∙ load-room n ends labels (empty_pool m) (omega (arith, within, points-room m)) (marks-room m ∙ sym (points-room m)) (omega (arith, few, points-room m)) room

  larger : Larger n x.pool (none_taken m)
  larger =
      let a = points_kept ends labels (empty_pool m) ∙ points-room m in
      let b = marks-kept ends labels (empty_pool m) ∙ marks-room m in
      let t = taken-room m in
      record { within = omega (arith, a, within); marks = b ∙ sym a; takes = t ∙ sym a; few = omega (arith, a, few) }

  outcomes : (y : Result ℕ Refusal) → x.answer ≡ y → stopped_full (loaded_to o (take n (none_taken m)) y (first_places n x.pool)) ≡ false
      → loaded_to o (take n (none_taken m)) y (first_places n x.pool) ≡ loaded_to o (none_taken m) y x.pool
  unfolding loaded_to
  outcomes (Ok k) e h = swept-room o n x.pool k (none_taken m) larger (omega (arith, room, records-few ends labels (empty_pool m) k e)) h
  outcomes (Err r) e h = refl

  smaller-is : overlay_edges_in n o ends labels ≡ loaded_to o (take n (none_taken m)) x.answer (first_places n x.pool)
  unfolding overlay_edges_in after_loading
  smaller-is =
      ap (λ (y : Loads.After). loaded_to o (none_taken n) y.answer y.pool) loads
      ∙ sym (ap (λ (l : List ℕ). loaded_to o l x.answer (first_places n x.pool)) first_taken)

  -- worked in n places and not stopped by 6, as in m
  pub same-work : stopped_full (overlay_edges_in n o ends labels) ≡ false → overlay_edges_in n o ends labels ≡ overlay_edges_in m o ends labels
  unfolding overlay_edges_in after_loading
  same-work h = smaller-is ∙ outcomes x.answer refl (sym (ap stopped_full smaller-is) ∙ h)

-- ---- what is answered

-- refused by 6, the bytes are as lent
full-stays : (w : Work) (out : List ℕ) → is_full (put w out).answer ≡ true → (put w out).out ≡ out
unfolding put is_full
full-stays (Text t) out h = go (ltb (length out) (wanted t)) h
  where
    go : (b : Bool) → let y = cond b (left (Err (record { reason = Reason.Room; place = wanted t })) out) (left (Ok (wanted t)) (sets out 0 t)) in is_full y.answer ≡ true → y.out ≡ out
    go true h = refl
    go false h = absurd (let z : ◌≡◌ {A = ℕ} 0 1 = cc in omega arith)
full-stays (Stopped r) out h = refl

not_stopped : (w : Work) (out : List ℕ) → is_full (put w out).answer ≡ false → stopped_full w ≡ false
unfolding put is_full
not_stopped (Text t) out h = refl
not_stopped (Stopped r) out h = h

module _ (o : Operation) (ends : List (List ℕ)) (labels : List (List ℕ)) (out : List ℕ) where
  pub in-large : (y : After) → y ≡ put (overlay_edges_in pool_places o ends labels) out → y ≡ put (overlay_edges o ends labels) out
  unfolding overlay_edges
  in-large y h = h

  module _ (a : Result ℕ Refusal) (out' : List ℕ) (e : left a out' ≡ put (overlay_edges_in few_places o ends labels) out) (b : Bool) (is : b ≡ is_full a) where
    tested : b ≡ is_full (put (overlay_edges_in few_places o ends labels) out).answer
    tested = is ∙ ap (λ (x : After). is_full x.answer) e

    -- full, the bytes are as lent, and it is worked again
    pub again : b ≡ true → (y : After) → y ≡ put (overlay_edges_in pool_places o ends labels) out' → y ≡ put (overlay_edges o ends labels) out
    again h y g =
        let same : out' ≡ out = ap (λ (x : After). x.out) e ∙ full-stays (overlay_edges_in few_places o ends labels) out (sym tested ∙ h) in
        in-large y (g ∙ ap (put (overlay_edges_in pool_places o ends labels)) same)

    -- not full, it is what the large pool gives
    pub in_small : b ≡ false → 2 * length ends ≤ few_places → left a out' ≡ put (overlay_edges o ends labels) out
    in_small h few =
        let same = same-work few_places pool_places (omega arith) (omega arith) o ends labels few (not_stopped (overlay_edges_in few_places o ends labels) out (sym tested ∙ h)) in
        in-large _ (e ∙ ap (λ (w : Work). put w out) same)
