-- What each step hands on: its refusal, or what it left to the next.
use Rattle.std.proofs.Common.{Err, Ok, Result}
use Rattle.refusals.specs.declared.Reason.TheVariants as Reason
use Rattle.refusals.specs.Refusals.{Verdict}
use mathlib.Core.Path.{◌≡◌, refl, sym, ap, ◌∙◌}
use mathlib.Core.Bool.{Bool, cond}
use mathlib.Core.List.{List}
use Prim.Native.Nat.{ℕ, min, ◌≤◌, ◌<◌}
use native.Mathlib.Nat.{zero-add}
use native.Mathlib.Omega.{arith}
use borrow.Author.Tests.{lt-ltb, le-ltb}
use lib.Dec.{ltb}
use lib.ListN.{length, take, length-take}
use lib.Seq.{sets}
use Rattle.refusals.specs.declared.Refusal.{Refusal}
use Rattle.crossing.specs.Modes as Modes
use Rattle.events.specs.Binary64.{at_binary64, in_mode}
use Rattle.events.specs.Pool.{Pool, size, stored}
use Rattle.events.proofs.Stored.{pool-stored}
use Rattle.class.specs.declared.Operation.{Operation}
use Rattle.loading.specs.OnPool as Loads
use Rattle.sweep.specs.declared.Swept.{Swept}
use Rattle.sweep.specs.OnPool.{accept, answer_of, after_run, as_lent, after_checks, subdivide_pool}
use Rattle.sweep.specs.OnPool as Sweeps
use Rattle.sweep.specs.Run.{subdivide}
use Rattle.sweep.proofs.Ends.{used-within}
use Rattle.sweep.proofs.Sweeps.{loaded-within}
use Rattle.sweep.proofs.Answers.{events-counted}
use Rattle.sweep_room.specs.Room.{first_places}
use Rattle.connection.specs.declared.Connected.{Connected}
use Rattle.connection.specs.Connection.{Lent, connect_edges}
use Rattle.connection.specs.Connection as Connects
use Rattle.printing.specs.Printing.{refusal_line}
use Rattle.printing.specs.Arrays.{printed_arrays}
use Rattle.printing.specs.Put.{Put, most_places}
use Rattle.overlay_work.specs.Overlay.{Text, After, left, put, wanted, connected_to, after_connection, overlay_taken, swept_to, after_sweep, loaded_to, after_loading, overlay, answered, told, answer}

-- ---- the text

-- the place told after all bytes is how many there are
wanted-is : {none t after : List ℕ} {n : ℕ} → Put none 0 t after n → n ≡ wanted t
unfolding wanted
wanted-is {t = t} k = k.next ∙ ap (λ (m : ℕ). min m most_places) (zero-add (length t))

module _ (t out : List ℕ) where
  abbrev fitted : Bool → ℕ → After
  fitted b n = cond b (left (Err (record { reason = Reason.Room; place = n })) out) (left (Ok n) (sets out 0 t))

  fitted-is : (n : ℕ) → n ≡ wanted t → fitted (ltb (length out) n) n ≡ put (Text t) out
  unfolding put
  fitted-is n e = ap (λ (m : ℕ). fitted (ltb (length out) m) m) e

  pub too_long : (none after : List ℕ) (n : ℕ) → Put none 0 t after n → length out < n → left (Err (record { reason = Reason.Room; place = n })) out ≡ put (Text t) out
  too_long none after n k h = sym (ap (λ (b : Bool). fitted b n) (lt-ltb (length out) n h)) ∙ fitted-is n (wanted-is k)

  pub short-enough : (none after out' : List ℕ) (n m : ℕ) → Put none 0 t after n → n ≤ length out → Put out 0 t out' m → left (Ok n) out' ≡ put (Text t) out
  short-enough none after out' n m k h l =
      ap (λ (o : List ℕ). left (Ok n) o) l.stored
      ∙ sym (ap (λ (b : Bool). fitted b n) (le-ltb (length out) n h))
      ∙ fitted-is n (wanted-is k)

-- ---- connection

module _ (out : List ℕ) (c : Connected) (p : Pool) (l : Lent) (x : Connects.After) (e : Connects.left c p l ≡ x) where
  connected-is : (o : Verdict) → c.outcome ≡ o → put (connected_to o c.contours l) out ≡ put (after_connection x) out
  unfolding after_connection
  connected-is o f = ap (λ (o : Verdict). put (connected_to o c.contours l) out) (sym f) ∙ ap (λ (y : Connects.After). put (after_connection y) out) e

  pub unconnected : (r : Refusal) → c.outcome ≡ Err r → left (Err r) out ≡ put (after_connection x) out
  unfolding connected_to put
  unconnected r f = connected-is (Err r) f

  pub connected-on : (y : After) → c.outcome ≡ Ok tt → y ≡ put (Text (printed_arrays l.corners l.contours l.holes c.contours)) out → y ≡ put (after_connection x) out
  unfolding connected_to
  connected-on y f g = g ∙ connected-is (Ok tt) f

-- ---- the sweep

module _ (out : List ℕ) (s : Swept) (p : Pool) (taken : List ℕ) (x : Sweeps.After) (e : Sweeps.after s p taken ≡ x) where
  swept-is : (o : Verdict) → s.outcome ≡ o → put (swept_to o (first_places s.used p) (take s.taken taken)) out ≡ put (after_sweep x) out
  unfolding after_sweep
  swept-is o f = ap (λ (o : Verdict). put (swept_to o (first_places s.used p) (take s.taken taken)) out) (sym f) ∙ ap (λ (y : Sweeps.After). put (after_sweep y) out) e

  pub unswept : (r : Refusal) → s.outcome ≡ Err r → left (Err r) out ≡ put (after_sweep x) out
  unfolding swept_to put
  unswept r f = swept-is (Err r) f

  pub swept-on : (y : After) → s.outcome ≡ Ok tt → y ≡ put (overlay_taken (first_places s.used p) (take s.taken taken)) out → y ≡ put (after_sweep x) out
  unfolding swept_to
  swept-on y f g = g ∙ swept-is (Ok tt) f

-- the events counted are within the taken list
module _ (op : Operation) (p : Pool) (n : ℕ) (lent : List ℕ) where
  abbrev swept : Sweeps.After
  swept = subdivide_pool op Modes.ordered p n lent

  counted : accept p n lent ≡ Ok tt → swept.answer.taken ≡ length (subdivide at_binary64 stored (in_mode Modes.ordered) op p n).taken
  unfolding subdivide_pool after_checks after_run answer_of
  counted h = rw h

  none-counted : (r : Refusal) → accept p n lent ≡ Err r → swept.answer.taken ≡ 0
  unfolding subdivide_pool after_checks as_lent
  none-counted r h = rw h

  counted-within : (x : Verdict) → accept p n lent ≡ x → swept.answer.taken ≤ length swept.taken
  counted-within (Ok _) h = omega (arith, counted h, ap length (events-counted op Modes.ordered p n lent h), length-take swept.answer.taken swept.taken)
  counted-within (Err r) h = omega (arith, none-counted r h)

  pub taken-within : (s : Swept) (q : Pool) (taken : List ℕ) → Sweeps.after s q taken ≡ swept → s.taken ≤ length taken
  taken-within s q taken e =
      let a : s.taken ≡ swept.answer.taken = ap (λ (x : Sweeps.After). x.answer.taken) e in
      let b : length taken ≡ length swept.taken = ap (λ (x : Sweeps.After). length x.taken) e in
      omega (arith, a, b, counted-within (accept p n lent) refl)

  -- the places in use are within the pool, where the sweep was not refused
  used-is : accept p n lent ≡ Ok tt → swept.answer.used ≡ (subdivide at_binary64 stored (in_mode Modes.ordered) op p n).used
  unfolding subdivide_pool after_checks after_run answer_of
  used-is h = rw h

  refused-is : (r : Refusal) → accept p n lent ≡ Err r → swept.answer.outcome ≡ Err r
  unfolding subdivide_pool after_checks as_lent
  refused-is r h = rw h

  not-both : (o : Verdict) (r : Refusal) → o ≡ Ok tt → o ≡ Err r → ⊥
  not-both o r d e = let z : ◌≡◌ {A = ℕ} 0 1 = cc in omega arith

  used-fit : (x : Verdict) → accept p n lent ≡ x → swept.answer.outcome ≡ Ok tt → swept.answer.used ≤ stored.size p
  used-fit (Ok _) h d = omega (arith, used-is h, used-within at_binary64 stored pool-stored (in_mode Modes.ordered) op p n (loaded-within p n lent h))
  used-fit (Err r) h d = absurd (not-both _ r d (refused-is r h))

  module _ (s : Swept) (q : Pool) (taken : List ℕ) (e : Sweeps.after s q taken ≡ swept) (d : s.outcome ≡ Ok tt) where
    pub in_use : s.used ≤ stored.size p
    in_use =
        let a : s.used ≡ swept.answer.used = ap (λ (x : Sweeps.After). x.answer.used) e in
        omega (arith, a, used-fit (accept p n lent) refl (sym (ap (λ (x : Sweeps.After). x.answer.outcome) e) ∙ d))

    pub points-within : length q.points ≡ length p.points → s.used ≤ length q.points
    unfolding stored size
    points-within k = let u = in_use in omega (arith, u, k)

    pub marks-within : length q.marks ≡ length p.marks → s.used ≤ length q.marks
    unfolding stored size
    marks-within k = let u = in_use in omega (arith, u, k)

-- ---- loading

module _ (out : List ℕ) (o : Operation) (taken : List ℕ) (a : Result ℕ Refusal) (p : Pool) (x : Loads.After) (e : Loads.after a p ≡ x) where
  loaded-is : (b : Result ℕ Refusal) → a ≡ b → put (loaded_to o taken b p) out ≡ put (after_loading o taken x) out
  unfolding after_loading
  loaded-is b f = ap (λ (b : Result ℕ Refusal). put (loaded_to o taken b p) out) (sym f) ∙ ap (λ (y : Loads.After). put (after_loading o taken y) out) e

  pub unloaded : (r : Refusal) → a ≡ Err r → left (Err r) out ≡ put (after_loading o taken x) out
  unfolding loaded_to put
  unloaded r f = loaded-is (Err r) f

  pub loaded_on : (y : After) (n : ℕ) → a ≡ Ok n → y ≡ put (after_sweep (subdivide_pool o Modes.ordered p n taken)) out → y ≡ put (after_loading o taken x) out
  unfolding loaded_to
  loaded_on y n f g = g ∙ loaded-is (Ok n) f

-- ---- what the program prints

module _ (bytes out₀ : List ℕ) (a : Result ℕ Refusal) (out : List ℕ) (e : left a out ≡ overlay bytes out₀) where
  told_is : (b : Result ℕ Refusal) → a ≡ b → told b out ≡ answer bytes out₀
  unfolding answer
  told_is b f = ap (λ (b : Result ℕ Refusal). told b out) (sym f) ∙ ap (λ (x : After). told x.answer x.out) e

  pub printed : (n : ℕ) → a ≡ Ok n → answered n out ≡ answer bytes out₀
  unfolding told
  printed n f = told_is (Ok n) f

  pub refused-line : (r : Refusal) (out' : List ℕ) (n : ℕ) → a ≡ Err r → Put out 0 (refusal_line r) out' n → answered n out' ≡ answer bytes out₀
  unfolding told
  refused-line r out' n f k =
      ap (λ (m : ℕ). answered m out') (wanted-is k) ∙ ap (answered (wanted (refusal_line r))) k.stored ∙ told_is (Err r) f
