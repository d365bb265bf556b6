-- The whole sweep: what the run starts from, and what its last turn tells.
use Rattle.std.proofs.Common.{Err, Ok, Option}
use Rattle.refusals.specs.Refusals.{Verdict, passed}
use mathlib.Core.Path.{◌≡◌, refl, ap, ◌∙◌}
use mathlib.Core.Bool.{Bool, true, false, not, cond, ◌||◌}
use mathlib.Core.List.{List, [], ◌∷◌}
use Prim.Native.Nat.{ℕ, zero, suc, ◌+◌, ◌-◌, ◌/◌, ◌≤◌}
use native.Mathlib.Numerals.{add-one}
use native.Mathlib.Omega.{arith}
use borrow.Author.Tests.{eqb-true, ltb-false, not-false}
use lib.Dec.{eqb, ltb}
use lib.ListN.{length, take, drop, replicate, take-append-drop}
use lib.Seq.{sets, length-take-le}
use Rattle.lists.proofs.Fronts.{sets-front}
use Rattle.refusals.specs.declared.Refusal.{Refusal}
use Rattle.numbers.specs.declared.Point.{Point}
use Rattle.events.specs.Binary64.{at_binary64, in_mode}
use Rattle.events.specs.Coordinates.{Crossing}
use Rattle.events.specs.Pool.{Pool, size, row_at, stored}
use Rattle.events.proofs.Stored.{pool-stored}
use Rattle.class.specs.declared.Operation.{Operation}
use Rattle.checks.specs.Checks.{max_events, missized, size_refusal, sized}
use Rattle.checks.specs.Sound.{Sized}
use Rattle.checks.proofs.Told.{not-both, both-passed}
use Rattle.checks.proofs.Passed.{sized-passed}
use Rattle.sweep.specs.declared.turn.Turn.{Turn}
use Rattle.sweep.specs.State.{State, start}
use Rattle.sweep.specs.Bounds.{rightmost, is_past, past}
use Rattle.sweep.specs.Run.{run, subdivide, divisions}
use Rattle.sweep.specs.OnPool.{After, after, sizes, accept, outcome_of, answer_of, after_run, as_lent, after_checks, subdivide_pool}
use Rattle.sweep.specs.Turn.{state, start_turn, lined_turn, Lends, Fits, Beyond}
use Rattle.sweep.proofs.Flags.{trues-all}
use Rattle.sweep.proofs.Ends.{counted}

-- ---- the checks

-- the lent arrays of an accepted pool are of one size, and hold all records loaded
pub accepted : (p : Pool) (n : ℕ) (taken : List ℕ) → accept p n taken ≡ Ok tt → Sized (length p.points) (length p.marks) × (length p.points ≡ length taken) × (n ≤ length p.points)
unfolding accept sizes sized
accepted p n taken h = by (missized a b) refl (not (eqb a k)) refl (ltb a n) refl (both-passed (sizes a b k n) _ h).0
  where
    a : ℕ
    a = length p.points

    b : ℕ
    b = length p.marks

    k : ℕ
    k = length taken

    by : (x : Bool) → missized a b ≡ x → (y : Bool) → not (eqb a k) ≡ y → (z : Bool) → ltb a n ≡ z → cond (x || (y || z)) (Err size_refusal) passed ≡ Ok tt → Sized a b × (a ≡ k) × (n ≤ a)
    by true i y j z l e = absurd (not-both _ _ e refl)
    by false i true j z l e = absurd (not-both _ _ e refl)
    by false i false j true l e = absurd (not-both _ _ e refl)
    by false i false j false l e = (sized-passed a b (rw i), eqb-true a k (not-false _ j), ltb-false a n l)

-- ---- the start

pub places-are : (p : Pool) → Sized (length p.points) (length p.marks) → length p.points ≡ stored.size p
unfolding stored size
places-are p s = omega (arith, s.equal)

pub loaded-within : (p : Pool) (n : ℕ) (taken : List ℕ) → accept p n taken ≡ Ok tt → n ≤ stored.size p
loaded-within p n taken h = let a = accepted p n taken h in omega (arith, a.2, places-are p a.0)

prefix : {A : Type 0} (n m : ℕ) (a : A) → n ≤ m → take n (replicate m a) ≡ replicate n a
prefix zero m a h = refl
prefix (suc n) zero a h = absurd (omega arith)
prefix (suc n) (suc m) a h = ap (λ l. a ∷ l) (prefix n m a (omega arith))

-- the flags of the pool's places, in an array of flags for so many
module _ (n : ℕ) (w : List Bool) (queue status : List ℕ) (l : Lends n w queue status) where
  pub flags-at-start : take n w ≡ replicate n true
  flags-at-start = rw l.flags (prefix n l.places true l.room)

-- the same of a pool, and its queue's room
module _ (p : Pool) (w : List Bool) (queue status : List ℕ) (s : Sized (length p.points) (length p.marks)) (l : Lends (length p.points) w queue status) where
  pub all-flags : take (length p.points) w ≡ replicate (stored.size p) true
  all-flags = flags-at-start (length p.points) w queue status l ∙ ap (λ n. replicate n true) (places-are p s)

  pub queue-at-start : (stored.size p ≤ length queue) × (length queue ≤ max_events)
  queue-at-start =
      let places = places-are p s in
      let long = l.queued in
      let room = l.room in
      (omega arith, omega (arith, l.few))

-- the queue is filled before the run
pub begun : (n waiting : ℕ) (t r : Turn) → r ≡ lined_turn t waiting → t ≡ start_turn n → r ≡ lined_turn (start_turn n) waiting
begun n waiting t r h e = h ∙ ap (λ u. lined_turn u waiting) e

pub fits-at-start : (n loaded waiting : ℕ) (w : List Bool) (queue status taken : List ℕ) (t : Turn) → Lends n w queue status → n ≡ length taken → t ≡ lined_turn (start_turn loaded) waiting → Fits (take n w) status taken t
unfolding start_turn lined_turn
fits-at-start n loaded waiting w queue status taken t l is ht =
    let all = trues-all n in
    let long = l.ranked in
    let enough = l.room in
    let few = l.few in
    rw (ht, flags-at-start n w queue status l) (record { counted = omega (arith, all, is); ranked = omega arith; room = omega (arith, long, is, enough); few = omega (arith, long, few) })

-- ---- the end

-- the events taken stand from the first place on, and the rest is as lent
listed : (c : ℕ) (lent now : List ℕ) → c ≤ length lent → length now ≡ length lent → drop c now ≡ drop c lent → sets lent 0 (take c now) ≡ now
listed c lent now h l e =
    let long : length (take c now) ≡ c = length-take-le c now (omega arith) in
    sets-front lent (take c now) (omega arith) ∙ rw (long, ← e) (take-append-drop c now)

-- before anything is done no event is taken and no segment is in the status
pub none_yet : (n waiting : ℕ) (t : Turn) (l : List ℕ) → t ≡ lined_turn (start_turn n) waiting → (take t.members l ≡ []) × (take t.count l ≡ [])
unfolding start_turn lined_turn
none_yet n waiting t l h = rw h (refl, refl)

-- the run from there: p, l, k and so on, the pool, the status and the events taken, before it and, with a mark, after it
module _ (crossing : Crossing Point) (p : Pool) (n loaded waiting : ℕ) (op : Operation) (w : List Bool) (l k : List ℕ) (t r : Turn) (subject clip : Option Point) (p' : Pool) (w' : List Bool) (l' k' : List ℕ) (places : n ≡ stored.size p) (hs : subject ≡ rightmost at_binary64 (row_at p) true loaded) (hc : clip ≡ rightmost at_binary64 (row_at p) false loaded) (hw : w ≡ replicate n true) (hl : l ≡ []) (hk : k ≡ []) (ht : t ≡ lined_turn (start_turn loaded) waiting) (hr : state p' w' l' k' r ≡ run at_binary64 stored crossing op (is_past at_binary64 op subject clip) (n + 1) (state p w l k t)) where
  swept-state : state p' w' l' k' r ≡ subdivide at_binary64 stored crossing op p loaded
  unfolding subdivide start past start_turn lined_turn stored
  swept-state = hr ∙ rw (ht, hw, hl, hk, hs, hc, places, add-one)

  -- the places in use do not become fewer
  pub not-fewer : loaded ≤ r.used
  not-fewer =
      let more = (counted at_binary64 stored pool-stored crossing op p loaded).grows.used in
      let same = ap (λ (z : State Pool). z.used) swept-state in
      omega (arith, more, same)

  pub swept-is : (o : Verdict) (status' taken taken' : List ℕ) → k' ≡ take r.count taken' → o ≡ outcome_of r.stop → Fits w' status' taken' r → Beyond taken taken' t r → length taken' ≡ length taken
      → after (record { taken = r.count; divisions = (r.used - loaded) / 2; used = r.used; tied = r.tied; outcome = o }) p' taken' ≡ after_run (subdivide at_binary64 stored crossing op p loaded) loaded taken
  unfolding after_run answer_of divisions
  swept-is o status' taken taken' hk' ho fits beyond same =
      let within : r.count ≤ length taken' = omega (arith, fits.counted) in
      let long = length-take-le r.count taken' within in
      let list = listed r.count taken taken' (omega (arith, within, same)) same beyond.rest in
      rw (← swept-state, hk', list, long, ho)

-- ---- refused, or swept

module _ (op : Operation) (mode : ℕ) (p : Pool) (n : ℕ) (taken : List ℕ) (x : Verdict) (is : x ≡ accept p n taken) where
  pub refused-is : (r : Refusal) → x ≡ Err r → as_lent r p n taken ≡ subdivide_pool op mode p n taken
  unfolding subdivide_pool after_checks
  refused-is r h = rw (← is, h)

  pub passed_is : (y : After) → x ≡ Ok tt → y ≡ after_run (subdivide at_binary64 stored (in_mode mode) op p n) n taken → y ≡ subdivide_pool op mode p n taken
  unfolding subdivide_pool after_checks
  passed_is y h e = rw (← is, h) e
