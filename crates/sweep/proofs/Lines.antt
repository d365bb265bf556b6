-- The queue through the sweep: its last member is the event to be taken, the one below tells whether another ties, and the work of the event taken leaves
-- it a queue again, with the new records and the partners that they took put in.
use Rattle.std.proofs.Common.{Some}
use mathlib.Core.Path.{◌≡◌, refl, sym, ap, ap₂, ◌∙◌, subst}
use mathlib.Core.Logic.{◌≢◌}
use mathlib.Core.Bool.{Bool, true, false}
use mathlib.Core.List.{List, []}
use Prim.Native.Nat.{ℕ, ◌+◌, ◌-◌, ◌<◌, ◌≤◌}
use native.Mathlib.Nat.{zero-add}
use native.Mathlib.Omega.{arith}
use lib.ListN.{length, take, set}
use borrow.Author.Tests.{lt-ltb, eq-eqb, ne_eqb}
use Rattle.events.specs.Coordinates.{Coordinates, Crossing}
use Rattle.events.specs.Store.{Store, look}
use Rattle.events.proofs.Stored.{Stored}
use Rattle.events.proofs.Looks.{Blanks}
use Rattle.order.specs.Order.{before}
use Rattle.order.specs.Keys.{key_used}
use Rattle.order.proofs.Laws.{total, trans}
use Rattle.class.specs.declared.Operation.{Operation}
use Rattle.division.proofs.Sides.{MoveLaws}
use Rattle.status.specs.Status.{below}
use Rattle.waiting.specs.Waiting.{flagged}
use Rattle.waiting.specs.Queue.{Queued, ties_with, requeued}
use Rattle.waiting.proofs.Leading.{Orders}
use Rattle.waiting.proofs.First.{Found, found}
use Rattle.waiting.proofs.Queues.{next-is, tie-is, take-is, few, nothing}
use Rattle.waiting.proofs.Requeues.{requeue-is}
use Rattle.sweep.specs.State.{State, start, takes}
use Rattle.sweep.specs.Event.{turn}
use Rattle.sweep.specs.Run.{is_before, next, is_tied}
use Rattle.sweep.specs.Lined.{Good, Lined}
use Rattle.sweep.proofs.Flags.{down, all-flagged}
use Rattle.sweep.proofs.Growth.{beside, turn-size}
use Rattle.sweep.proofs.Kept.{store-turn}
use Rattle.sweep.proofs.Frames.{Framed, framed, framed-still}

-- ---- the flags when one is taken

taken-flag : (w : List Bool) (e : ℕ) → flagged (set w e false) e ≡ false
taken-flag w e = down w e e ∙ rw (eq-eqb e e refl)

other-flags : (w : List Bool) (e r : ℕ) → r ≢ e → flagged (set w e false) r ≡ flagged w r
other-flags w e r d = down w e r ∙ rw (ne_eqb r e d)

module _ {P S : Type 0} {C : Coordinates P} {K : Store P S} (M : MoveLaws C) (st : Stored K) (bl : Blanks K) where
  -- event order on the records in use
  orders : (s : State S) → Good C K s.store s.used → Orders (is_before C K s) s.used
  unfolding is_before key_used
  orders s g =
      let k = key_used K s.store s.used in
      record {
        total = λ a b x y. total M.order (k a) (k b);
        trans = λ a b c x y z. trans M.order (k a) (k b) (k c) (g.sound a x).side (g.sound b y).side (g.sound c z).side;
      }

  -- ---- what the queue tells

  module _ {s : State S} {l : List ℕ} (h : Lined C K s l) where
    pub lined-next : below l (length l) ≡ next C K s
    unfolding next
    lined-next = next-is h.queued

    pub lined-tie : (e : ℕ) → next C K s ≡ Some e → ties_with (is_before C K s) e (below l (length l - 1)) ≡ is_tied C K s e
    unfolding is_tied
    lined-tie e n = tie-is h.queued (orders s h.good) e (lined-next ∙ n)

    pub lined-few : length l ≤ s.used
    lined-few = few h.queued (orders s h.good)

    -- the event found, taken out
    lined-found : (e : ℕ) → next C K s ≡ Some e → Found (flagged s.waits) s.used e
    unfolding next
    lined-found e n = found (flagged s.waits) (is_before C K s) s.used e n

    lined-take : (e : ℕ) → next C K s ≡ Some e → Queued (flagged (set s.waits e false)) (is_before C K s) s.used (take (length l - 1) l)
    lined-take e n =
        take-is h.queued (orders s h.good) e (lined-next ∙ n) (flagged (set s.waits e false)) (taken-flag s.waits e)
        (λ r d. other-flags s.waits e r d)

  -- ---- the records that came into use, put in

  -- from a queue of the records that were in use
  module _ (s t : State S) (w : ℕ → Bool) (room : ℕ) (l : List ℕ) (f : Framed C K s.store s.used t.store t.used) where
    abbrev mate : ℕ → ℕ
    mate r = (look K t.store t.used r).partner

    same-order : (a b : ℕ) → a < s.used → b < s.used → mate a < s.used → mate b < s.used → is_before C K t a b ≡ is_before C K s a b
    unfolding is_before
    same-order a b x y i j = ap₂ (before C) (f.keys a x i) (f.keys b y j)

    put_in : (n : ℕ) → s.used + n ≡ t.used → Orders (is_before C K s) s.used → Queued w (is_before C K s) s.used l → ((r : ℕ) → s.used ≤ r → r < t.used → w r ≡ true) → t.used ≤ room
        → Queued w (is_before C K t) t.used (requeued mate s.used w (is_before C K t) room n l)
    put_in n e old q new fits =
        subst (λ k. Queued w (is_before C K t) k (requeued mate s.used w (is_before C K t) room n l)) e
        (requeue-is mate s.used n room w (is_before C K s) (is_before C K t) l old q (λ r x y. new r x (subst (λ k. r < k) e y))
        (λ r x. let p = (f.good.sound r (subst (λ k. r < k) e x)).paired in (subst (λ k. mate r < k) (sym e) p.other, p.back))
        same-order (subst (Orders (is_before C K t)) (sym e) (orders t f.good)) (subst (λ k. k ≤ room) (sym e) fits))

  -- ---- one event's work

  module _ (crossing : Crossing P) (op : Operation) (past : P → Bool) (s : State S) (l : List ℕ) (room : ℕ) (h : Lined C K s l) (fits : K.size s.store ≤ room)
      (e : ℕ) (b : Bool) (n : next C K s ≡ Some e) where
    abbrev s' : State S
    s' = turn C K crossing op past (takes s e b) e

    frame : Framed C K s.store s.used s'.store s'.used
    unfolding takes
    frame =
        store-turn (λ m t. Framed C K s.store s.used t m) (framed M st bl s.store s.used crossing) op past (takes s e b) e
        (framed-still M st bl s.store s.used h.good)

    flags : s'.waits ≡ set s.waits e false
    unfolding takes
    flags = (beside C K crossing op past (takes s e b) e).waits

    size : K.size s'.store ≡ K.size s.store
    unfolding takes
    size = turn-size C K st crossing op past (takes s e b) e

    still-wait : (r : ℕ) → s.used ≤ r → r < K.size s.store → flagged s'.waits r ≡ true
    still-wait r x y =
        let below = (lined-found h e n).below in
        ap (λ w. flagged w r) flags ∙ other-flags s.waits e r (λ q. omega arith) ∙ h.fresh r x y

    pub lined-step : Lined C K s' (requeued (λ i. (look K s'.store s'.used i).partner) s.used (flagged s'.waits) (is_before C K s') room (s'.used - s.used) (take (length l - 1) l))
    lined-step =
        let more = frame.low in
        let within = frame.good.fits in
        record {
          good = frame.good;
          queued =
              put_in s s' (flagged s'.waits) room (take (length l - 1) l) frame (s'.used - s.used) (omega arith) (orders s h.good)
              (subst (λ w. Queued (flagged w) (is_before C K s) s.used (take (length l - 1) l)) (sym flags) (lined-take h e n))
              (λ r x y. still-wait r x (omega (arith, size))) (omega (arith, size));
          fresh = λ r x y. still-wait r (omega arith) (omega (arith, size));
        }

  -- ---- the start

  module _ (s : S) (n room : ℕ) (g : Good C K s n) (fits : K.size s ≤ room) where
    abbrev z : State S
    z = start s (K.size s) n

    -- nothing is in use yet
    abbrev y : State S
    y = start s (K.size s) 0

    all-wait : (r : ℕ) → r < K.size s → flagged z.waits r ≡ true
    unfolding start
    all-wait r l = all-flagged (K.size s) r ∙ lt-ltb r (K.size s) l

    pub lined-start : Lined C K z (requeued (λ i. (look K s n i).partner) 0 (flagged z.waits) (is_before C K z) room n [])
    unfolding start
    lined-start =
        let within = g.fits in
        let nobody : Good C K s 0 = record { fits = omega arith; sound = λ r l. absurd (omega arith) } in
        let none : Framed C K s 0 s n = record { good = g; low = omega arith; keys = λ r l m. absurd (omega arith) } in
        record {
          good = g;
          queued = put_in y z (flagged z.waits) room [] none n (zero-add n) (orders y nobody) (nothing (flagged z.waits) (is_before C K y)) (λ r x y. all-wait r (omega arith)) (omega arith);
          fresh = λ r x y. all-wait r y;
        }
