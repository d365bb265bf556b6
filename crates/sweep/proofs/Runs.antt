-- One step of the code, and the run backwards: what is left of it from here is what it was at the start.
use Rattle.std.proofs.Common.{None, Option, Some}
use mathlib.Core.Path.{◌≡◌, refl, sym, ◌∙◌}
use mathlib.Core.Bool.{Bool, true, false, false≢true, true≢false}
use mathlib.Core.List.{List, [], ◌∷◌, ◌++◌}
use Prim.Native.Nat.{ℕ, zero, suc, ◌+◌, ◌-◌, ◌<◌, ◌≤◌}
use native.Mathlib.Numerals.{add-one, sub-one}
use native.Mathlib.Omega.{arith}
use lib.ListN.{length, take, drop, set, length-set}
use lib.Seq.{take-suc-set, drop-set-lt, drop-drop}
use Rattle.numbers.specs.declared.Point.{Point}
use Rattle.events.specs.Binary64.{at_binary64}
use Rattle.events.specs.Coordinates.{Coordinates, Crossing}
use Rattle.events.specs.Pool.{Pool, stored}
use Rattle.events.specs.Store.{Store}
use Rattle.class.specs.declared.Operation.{Operation}
use Rattle.checks.specs.Checks.{max_events}
use Rattle.waiting.specs.Waiting.{flagged}
use Rattle.sweep.specs.declared.turn.Turn.{Turn}
use Rattle.sweep.specs.declared.turn.Stop.{Stop}
use Rattle.sweep.specs.declared.turn.Stop.TheVariants.{Going, Ended, Refused}
use Rattle.sweep.specs.State.{State, halt, takes, go_on}
use Rattle.sweep.specs.Event.{turn}
use Rattle.sweep.specs.Run.{next, is_tied, step_by, step, run}
use Rattle.sweep.specs.Turn.{state, ended_turn, taken_turn, lined_turn, is_stopped, Fits, Queues, Does, Worked, Beyond}
use Rattle.sweep.proofs.Flags.{first-waits, flag-within, one_less}
use Rattle.sweep.proofs.AtBinary64.{relined}

-- ---- one step

module _ (crossing : Crossing Point) (p : Pool) (w : List Bool) (status taken : List ℕ) (t : Turn) (op : Operation) (past : Point → Bool) (n : Option ℕ) (is : n ≡ next at_binary64 stored (state p w (take t.members status) (take t.count taken) t)) where
  pub step-none : (r : Turn) → n ≡ None → r ≡ ended_turn t
      → state p w (take r.members status) (take r.count taken) r ≡ step at_binary64 stored crossing op past (state p w (take t.members status) (take t.count taken) t)
  unfolding step step_by halt ended_turn
  step-none r h hr = rw (hr, ← is, h)

  pub step-some : (e : ℕ) (rival : Bool) (u r : Turn) (p' : Pool) (w' : List Bool) (l' taken' : List ℕ) → n ≡ Some e → rival ≡ is_tied at_binary64 stored (state p w (take t.members status) (take t.count taken) t) e → t.count < length taken
      → u ≡ taken_turn t rival → w' ≡ set w e false → taken' ≡ set taken t.count e
      → Does (λ z. turn at_binary64 stored crossing op past z e) p (take u.members status) u p' l' r → Worked u r
      → state p' w' l' (take r.count taken') r ≡ step at_binary64 stored crossing op past (state p w (take t.members status) (take t.count taken) t)
  unfolding step step_by takes taken_turn
  step-some e rival u r p' w' l' taken' h hr room hu hw ht d k =
      let more : take (t.count + 1) (set taken t.count e) ≡ take t.count taken ++ (e ∷ []) = rw add-one (take-suc-set taken t.count e room) in
      rw k.count (d.is w' (take u.count taken') ∙ rw (hu, hw, ht, more, ← is, h, ← hr))

-- the event to be taken waits
pub next-waits : {P S : Type 0} (C : Coordinates P) (K : Store P S) (s : State S) (e : ℕ) → next C K s ≡ Some e → flagged s.waits e ≡ true
unfolding next
next-waits C K s e h = first-waits _ _ _ e h

-- ---- the arrays' room for it

module _ (w : List Bool) (status taken : List ℕ) (t : Turn) (e : ℕ) (fits : Fits w status taken t) (waiting : flagged w e ≡ true) where
  pub taking-room : (e < length w) × (t.count < length taken) × (length taken ≤ max_events)
  taking-room =
      let one = one_less w e waiting in
      (flag-within w e waiting, omega (arith, one, fits), omega (arith, fits))

  module _ (rival : Bool) (u : Turn) (hu : u ≡ taken_turn t rival) where
    pub working-room : (u.members < length status) × (length status ≤ max_events)
    unfolding taken_turn
    working-room = rw hu (let one = one_less w e waiting in (omega (arith, one, fits), fits.few))

    module _ (r : Turn) (taken' : List ℕ) (worked : Worked u r) (ht : taken' ≡ set taken t.count e) where
      pub fits_on : (w' : List Bool) (status' : List ℕ) → w' ≡ set w e false → length status' ≡ length status → Fits w' status' taken' r
      unfolding taken_turn
      fits_on w' status' hw long =
          let one = one_less w e waiting in
          let same = length-set taken t.count e in
          let count : r.count ≡ t.count + 1 = rw hu at worked.count in
          let members : r.members ≤ t.members + 1 = rw hu at worked.members in
          rw (hw, ht)
          (record {
            counted = omega (arith, one, same, count, fits.counted);
            ranked = omega (arith, count, members, fits.ranked);
            room = omega (arith, same, long, fits.room);
            few = omega (arith, long, fits.few);
          })

      pub beyond-on : Beyond taken taken' t r
      unfolding taken_turn
      beyond-on =
          let count : r.count ≡ t.count + 1 = rw hu at worked.count in
          rw ht (record { more = omega arith; rest = drop-set-lt r.count taken t.count e (omega arith) })

pub queue-room : (p : Pool) (w : List Bool) (queue : List ℕ) (t : Turn) → Queues p w queue t → (t.waiting - 1 ≤ length queue) × (length queue ≤ max_events)
queue-room p w queue t q = (omega (arith, q.within), q.few)

-- ---- how many wait is of the turn alone

module _ (v r : Turn) (m : ℕ) (h : r ≡ lined_turn v m) where
  pub does-lined : (f : State Pool → State Pool) (p p' : Pool) (l l' : List ℕ) (u : Turn) → Does f p l u p' (take v.members l') v → Does f p l u p' (take r.members l') r
  unfolding lined_turn
  does-lined f p p' l l' u d = rw h (record { is = d.is })

  pub worked-lined : (u : Turn) → Worked u v → Worked u r
  unfolding lined_turn
  worked-lined u k = rw h (record { count = k.count; members = k.members })

  pub queue-lined : (p : Pool) (w : List Bool) (from room : ℕ) (queue l : List ℕ) → take m queue ≡ relined p w from v.used room l → take r.waiting queue ≡ relined p w from r.used room l
  unfolding lined_turn
  queue-lined p w from room queue l e = rw h e

  pub within-lined : (k : ℕ) → m ≤ k → r.waiting ≤ k
  unfolding lined_turn
  within-lined k e = rw h e

-- ---- the end, and no change

module _ (t r : Turn) (h : r ≡ ended_turn t) where
  pub fits-ended : (w : List Bool) (status taken : List ℕ) → Fits w status taken t → Fits w status taken r
  unfolding ended_turn
  fits-ended w status taken f = rw h (record { counted = f.counted; ranked = f.ranked; room = f.room; few = f.few })

  pub beyond-ended : (taken : List ℕ) → Beyond taken taken t r
  unfolding ended_turn
  beyond-ended taken = rw h (record { more = omega arith; rest = refl })

further : (m n : ℕ) (a b : List ℕ) → m ≤ n → drop m a ≡ drop m b → drop n a ≡ drop n b
further m n a b h e =
    let q : n ≡ m + (n - m) = omega arith in
    rw (q, ← drop-drop (n - m) m a, ← drop-drop (n - m) m b, e)

pub beyond-then : (a b d : List ℕ) (t u r : Turn) → Beyond a b t u → Beyond b d u r → Beyond a d t r
beyond-then a b d t u r x y =
    record { more = omega (arith, x.more, y.more); rest = y.rest ∙ further u.count r.count b a y.more x.rest }

-- ---- the run

goes-not : {S : Type 0} (x : Stop) (s : State S) (f : State S → State S) → is_stopped x ≡ true → s ≡ go_on x s f
unfolding is_stopped go_on
goes-not Going s f h = absurd (false≢true h)
goes-not Ended s f h = refl
goes-not (Refused r) s f h = refl

goes_on : {S : Type 0} (x : Stop) (s : State S) (f : State S → State S) → is_stopped x ≡ false → f s ≡ go_on x s f
unfolding is_stopped go_on
goes_on Going s f h = refl
goes_on Ended s f h = absurd (true≢false h)
goes_on (Refused r) s f h = absurd (true≢false h)

module _ {P S : Type 0} (C : Coordinates P) (K : Store P S) (crossing : Crossing P) (op : Operation) (past : P → Bool) where
  pub run-stopped : (m : ℕ) (s : State S) (b : Bool) → b ≡ is_stopped s.stop → b ≡ true → s ≡ run C K crossing op past m s
  unfolding run
  run-stopped zero s b i h = refl
  run-stopped (suc m) s b i h = goes-not s.stop s _ (sym i ∙ h)

  pub run-over : (m : ℕ) (s : State S) → m ≡ 0 → s ≡ run C K crossing op past m s
  unfolding run
  run-over m s h = rw h

  run_more : (m : ℕ) (s x : State S) → 0 < m → is_stopped s.stop ≡ false → x ≡ step C K crossing op past s → run C K crossing op past (m - 1) x ≡ run C K crossing op past m s
  unfolding run
  run_more zero s x l h e = absurd (omega arith)
  run_more (suc m) s x l h e = rw (sub-one, e) (goes_on s.stop s _ h)

  -- one step further, less is left
  pub run_on : (steps k : ℕ) (s x g : State S) (b : Bool) → run C K crossing op past (steps - k) s ≡ g → k < steps → b ≡ is_stopped s.stop → b ≡ false → x ≡ step C K crossing op past s
      → run C K crossing op past (steps - (k + 1)) x ≡ g
  run_on steps k s x g b i l h f e =
      let d : steps - (k + 1) ≡ steps - k - 1 = omega arith in
      rw d (run_more (steps - k) s x (omega arith) (sym h ∙ f) e ∙ i)
