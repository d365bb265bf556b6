-- What the entry's counts tell: the events counted are those of the run, in their order, at the start of the taken list, whose rest is as lent; the
-- loaded records and two for each division counted are in use; a sweep that was not refused has come to its end, and if nothing could end it early it has
-- taken every place in use.
use Rattle.std.proofs.Common.{Err, Ok, Option}
use Rattle.refusals.specs.Refusals.{Verdict}
use mathlib.Core.Path.{◌≡◌, refl}
use mathlib.Core.Bool.{false}
use mathlib.Core.List.{List, ◌++◌, Memᴰ}
use Prim.Native.Nat.{ℕ, ◌+◌, ◌*◌, ◌≤◌, ◌<◌}
use native.Mathlib.Omega.{arith}
use lib.ListN.{length, take, drop}
use lib.Seq.{sets, take-append_seam, drop-append_seam}
use Rattle.lists.proofs.Fronts.{sets-front, first-are}
use Rattle.numbers.specs.declared.Point.{Point}
use Rattle.events.specs.Binary64.{at_binary64, in_mode}
use Rattle.events.specs.Pool.{Pool, stored}
use Rattle.events.proofs.Stored.{pool-stored}
use Rattle.class.specs.declared.Operation.{Operation}
use Rattle.sweep.specs.declared.turn.Stop.{Stop}
use Rattle.sweep.specs.declared.turn.Stop.TheVariants as Stops
use Rattle.sweep.specs.State.{State}
use Rattle.sweep.specs.Bounds.{is_past}
use Rattle.sweep.specs.Run.{subdivide}
use Rattle.sweep.specs.OnPool.{accept, outcome_of, answer_of, after_run, as_lent, after_checks, subdivide_pool}
use Rattle.sweep.proofs.Ends.{counted, ends, used-is}
use Rattle.sweep.proofs.Sweeps.{accepted, places-are, loaded-within}
use Rattle.sweep.proofs.Whole.{all-taken}

module _ (op : Operation) (mode : ℕ) (p : Pool) (n : ℕ) (lent : List ℕ) where
  abbrev last : State Pool
  last = subdivide at_binary64 stored (in_mode mode) op p n

  -- refused or not
  pub used-counted : (subdivide_pool op mode p n lent).answer.used ≡ n + 2 * (subdivide_pool op mode p n lent).answer.divisions
  unfolding subdivide_pool after_checks after_run answer_of as_lent
  used-counted = go (accept p n lent)
    where
      go : (x : Verdict) → (after_checks x op mode p n lent).answer.used ≡ n + 2 * (after_checks x op mode p n lent).answer.divisions
      go (Ok _) = used-is at_binary64 stored pool-stored (in_mode mode) op p n
      go (Err r) = omega arith

  module _ (h : accept p n lent ≡ Ok tt) where
    room : length last.taken ≤ length lent
    room =
        let a = accepted p n lent h in
        let s = places-are p a.0 in
        let k = (counted at_binary64 stored pool-stored (in_mode mode) op p n).places in
        omega (arith, s, k, a.1)

    list : sets lent 0 last.taken ≡ last.taken ++ drop (length last.taken) lent
    list = sets-front lent last.taken room

    pub events-counted : take (subdivide_pool op mode p n lent).answer.taken (subdivide_pool op mode p n lent).taken ≡ last.taken
    unfolding subdivide_pool after_checks after_run answer_of
    events-counted = rw (h, list) (take-append_seam last.taken _)

    pub rest-as-lent : drop (subdivide_pool op mode p n lent).answer.taken (subdivide_pool op mode p n lent).taken ≡ drop (subdivide_pool op mode p n lent).answer.taken lent
    unfolding subdivide_pool after_checks after_run answer_of
    rest-as-lent = rw (h, list) (drop-append_seam last.taken _)

    pub done-ended : (subdivide_pool op mode p n lent).answer.outcome ≡ Ok tt → last.stop ≡ Stops.Ended
    unfolding subdivide_pool after_checks after_run answer_of outcome_of
    done-ended = rw h (λ e. by last.stop refl e)
      where
        by : (x : Stop) → last.stop ≡ x → outcome_of x ≡ Ok tt → last.stop ≡ Stops.Ended
        by Stops.Going s e = absurd (ends at_binary64 stored pool-stored (in_mode mode) op p n s)
        by Stops.Ended s e = s
        by (Stops.Refused r) s e = absurd (let z : ◌≡◌ {A = ℕ} 0 1 = cc in omega arith)

  -- every place in use is listed, where no point lies past all that matters
  pub all_listed : ((a b : Option Point) (q : Point) → is_past at_binary64 op a b q ≡ false) → (subdivide_pool op mode p n lent).answer.outcome ≡ Ok tt
      → (r : ℕ) → r < (subdivide_pool op mode p n lent).answer.used → Memᴰ r (take (subdivide_pool op mode p n lent).answer.taken (subdivide_pool op mode p n lent).taken)
  unfolding subdivide_pool after_checks after_run answer_of as_lent
  all_listed never d = go (accept p n lent) refl
    where
      go : (x : Verdict) → accept p n lent ≡ x → (r : ℕ) → r < (after_checks x op mode p n lent).answer.used → Memᴰ r (take (after_checks x op mode p n lent).answer.taken (after_checks x op mode p n lent).taken)
      go (Ok _) h r l = rw (first-are lent last.taken (length last.taken) refl (room h)) (all-taken at_binary64 stored pool-stored (in_mode mode) op never p n (loaded-within p n lent h) (done-ended h d) r l)
      go (Err x) h r l = let e : Err x ≡ Ok tt = rw h at d in absurd (let z : ◌≡◌ {A = ℕ} 0 1 = cc in omega arith)
