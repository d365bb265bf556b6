-- The code's steps of one event, one equation each, put together to the definition's next state.
use Rattle.std.proofs.Common.{Err, None, Ok, Option, Result}
use mathlib.Core.Path.{◌≡◌, refl}
use mathlib.Core.Bool.{Bool, true, false}
use mathlib.Core.List.{List}
use Prim.Native.Nat.{ℕ, ◌+◌, ◌-◌, ◌<◌, ◌≤◌}
use native.Mathlib.Numerals.{add-one}
use native.Mathlib.Omega.{arith}
use borrow.Author.Tests.{lt-ltb, le-ltb}
use lib.Dec.{eqb}
use lib.ListN.{length, take, length-take}
use lib.Seq.{length-take-le}
use Rattle.refusals.specs.declared.Refusal.{Refusal}
use Rattle.numbers.specs.declared.Point.{Point}
use Rattle.lists.specs.Lists.{slot, insert_at, inserted, removed}
use Rattle.lists.proofs.Slots.{slot-within}
use Rattle.lists.proofs.Members.{members-inserted, members-removed}
use Rattle.events.specs.Binary64.{at_binary64}
use Rattle.events.specs.Coordinates.{Crossing}
use Rattle.events.specs.Event.{Event}
use Rattle.events.specs.Pool.{Pool, stored}
use Rattle.events.specs.Store.{look}
use Rattle.class.specs.declared.Operation.{Operation}
use Rattle.neighbours.specs.Neighbours.{meeting}
use Rattle.status.specs.Status.{member, below}
use Rattle.sweep.specs.declared.turn.Turn.{Turn}
use Rattle.sweep.specs.State.{halt, ranked, go_on, and_then, stop_by, meets}
use Rattle.sweep_events.specs.Event.{between, close_up, is_below}
use Rattle.sweep.specs.Event.{enter, leave_at, leave, turn}
use Rattle.sweep.specs.Turn.{ended_turn, met_turn, Does, Worked}

-- ---- the turns that the code makes

module _ (t r : Turn) where
  pub worked-met : (m n : ℕ) (x : Result ℕ Refusal) → r ≡ met_turn t m n x → m ≤ t.members + 1 → Worked t r
  unfolding met_turn
  worked-met m n x h b = rw h (record { count = refl; members = b })

  pub worked-ended : r ≡ ended_turn t → Worked t r
  unfolding ended_turn
  worked-ended h = rw h (record { count = refl; members = omega arith })

-- ---- a segment enters

pub lowest-none : (l : List ℕ) (k : ℕ) → k ≡ 0 → None ≡ below l (k - 1)
unfolding below
lowest-none l k h = rw h

members-in : (status : List ℕ) (n k e : ℕ) → k ≤ length (take n status) → n < length status → take (n + 1) (inserted status n k e) ≡ insert_at (take n status) k e
members-in status n k e h r =
    let q = length-take n status in
    rw add-one (members-inserted status n k e (omega arith) r)

pub enter-does : (crossing : Crossing Point) (s s' : Pool) (status status' : List ℕ) (t r : Turn) (op : Operation) (e k n : ℕ) (lower upper lowest : Option ℕ) (x : Result ℕ Refusal) → t.members < length status
    → k ≡ slot (is_below at_binary64 stored crossing s t.used e) (take t.members status) → lower ≡ below (take t.members status) k → upper ≡ member (take t.members status) k → lowest ≡ below (take t.members status) (k - 1)
    → meeting s' n x ≡ between at_binary64 stored op crossing s t.used e lower upper lowest → status' ≡ inserted status t.members k e → r ≡ met_turn t (t.members + 1) n x
    → Does (λ z. enter at_binary64 stored crossing op z e) s (take t.members status) t s' (take r.members status') r
unfolding enter meets ranked met_turn
enter-does crossing s s' status status' t r op e k n lower upper lowest x room hk hl hu hb hm hs hr =
    record {
      is = λ waits taken. rw
          (hr, hs, members-in status t.members k e (rw hk (slot-within _ _)) room, ← hk, ← hl, ← hu, ← hb, ← hm);
    }

-- ---- a segment leaves

module _ (crossing : Crossing Point) (s s' : Pool) (status : List ℕ) (t r : Turn) (k n : ℕ) (lower upper : Option ℕ) (x : Result ℕ Refusal) (hl : lower ≡ below (take t.members status) k) (hu : upper ≡ member (take t.members status) (k + 1)) (hm : meeting s' n x ≡ close_up at_binary64 stored crossing s t.used lower upper) where
  pub leave-refused : (q : Refusal) → x ≡ Err q → r ≡ met_turn t t.members n x
      → Does (λ z. leave_at at_binary64 stored crossing z k) s (take t.members status) t s' (take r.members status) r
  unfolding leave_at and_then go_on meets met_turn stop_by
  leave-refused q h hr = record { is = λ waits taken. rw (hr, ← hl, ← rw add-one at hu, ← hm, h) }

  pub leave-done : (code : ℕ) (status' : List ℕ) → k < t.members → t.members ≤ length status → x ≡ Ok code → status' ≡ removed status t.members k → r ≡ met_turn t (t.members - 1) n x
      → Does (λ z. leave_at at_binary64 stored crossing z k) s (take t.members status) t s' (take r.members status') r
  unfolding leave_at and_then go_on meets ranked met_turn stop_by
  leave-done code status' there fit h hs hr =
      record { is = λ waits taken. rw (hr, hs, members-removed status t.members k there fit, ← hl, ← rw add-one at hu, ← hm, h) }

module _ (crossing : Crossing Point) (s : Pool) (status : List ℕ) (t : Turn) (o k : ℕ) (fit : t.members ≤ length status) (hk : k ≡ slot (λ x. eqb x o) (take t.members status)) where
  pub leaves : (s' : Pool) (l' : List ℕ) (r : Turn) → k < t.members → Does (λ z. leave_at at_binary64 stored crossing z k) s (take t.members status) t s' l' r
      → Does (λ z. leave at_binary64 stored crossing z o) s (take t.members status) t s' l' r
  unfolding leave
  leaves s' l' r h d = record { is = λ waits taken. rw (← hk, length-take-le t.members status fit, lt-ltb k t.members h) (d.is waits taken) }

  pub not-member : t.members ≤ k → Does (λ z. leave at_binary64 stored crossing z o) s (take t.members status) t s (take t.members status) t
  unfolding leave
  not-member h = record { is = λ waits taken. rw (← hk, length-take-le t.members status fit, le-ltb k t.members h) }

-- ---- either, or the end

module _ (crossing : Crossing Point) (s : Pool) (status : List ℕ) (t : Turn) (op : Operation) (past : Point → Bool) (e : ℕ) (f : Event Point) (b : Bool) (hf : f ≡ look stored s t.used e) (hb : b ≡ past f.point) where
  pub turn-ended : (r : Turn) → b ≡ true → r ≡ ended_turn t → Does (λ z. turn at_binary64 stored crossing op past z e) s (take t.members status) t s (take r.members status) r
  unfolding turn halt ended_turn
  turn-ended r h hr = record { is = λ waits taken. rw (hr, ← hf, ← hb, h) }

  pub turn-enters : (s' : Pool) (l' : List ℕ) (r : Turn) → b ≡ false → f.left ≡ true → Does (λ z. enter at_binary64 stored crossing op z e) s (take t.members status) t s' l' r
      → Does (λ z. turn at_binary64 stored crossing op past z e) s (take t.members status) t s' l' r
  unfolding turn
  turn-enters s' l' r h k d = record { is = λ waits taken. rw (← hf, ← hb, h, k) (d.is waits taken) }

  pub turn-leaves : (s' : Pool) (l' : List ℕ) (r : Turn) → b ≡ false → f.left ≡ false → Does (λ z. leave at_binary64 stored crossing z f.partner) s (take t.members status) t s' l' r
      → Does (λ z. turn at_binary64 stored crossing op past z e) s (take t.members status) t s' l' r
  unfolding turn
  turn-leaves s' l' r h k d = record { is = λ waits taken. rw (← hf, ← hb, h, k) (d.is waits taken) }
