-- The code's tests and steps, one equation each, put together to the definition of a meeting.
use Rattle.std.proofs.Common.{Err, Ok, Result}
use Rattle.refusals.specs.declared.Reason.TheVariants as Reason
use Rattle.refusals.specs.Refusals.{Verdict}
use mathlib.Core.Path.{◌≡◌, ap, ap₂, ◌∙◌}
use mathlib.Core.Bool.{Bool, true, false, cond}
use Prim.Native.Nat.{ℕ}
use Rattle.refusals.specs.declared.Refusal.{Refusal}
use Rattle.events.specs.Coordinates.{Coordinates, same, Cross, none, lost, point, overlap, Crossing}
use Rattle.events.specs.Event.{Event, Key}
use Rattle.events.specs.Store.{Store, look}
use Rattle.order.specs.Order.{before}
use Rattle.order.specs.Keys.{key_used}
use Rattle.neighbours.specs.Step.{Step, step, go_on, and_then, cut_unless}
use Rattle.neighbours.specs.Neighbours.{Meeting, meeting, met_by, ended, mate_of, right_of, at_end, crossed, left_shared, laid, ends_first, overlapped, one_layer, meet_by, meet}

-- the last step ends the meeting
pub ended_is : {S : Type 0} (t : S) (n m : ℕ) (x : Verdict) (z : Result ℕ Refusal) (y : Step S) (code : ℕ) → step t n x ≡ y → m ≡ n → z ≡ met_by x code → meeting t m z ≡ ended y code
unfolding ended
ended_is t n m x z y code h p q = rw (← h, p, q)

-- nothing is done
pub still-is : {S : Type 0} (s : S) (used m n : ℕ) (z : Result ℕ Refusal) (x : Verdict) → n ≡ used → x ≡ Ok tt → m ≡ n → z ≡ met_by x 0 → meeting s m z ≡ ended (step s used (Ok tt)) 0
unfolding ended
still-is s used m n z x p q e f = rw (e, f, p, q)

module _ {P S : Type 0} (C : Coordinates P) (K : Store P S) (s : S) (used : ℕ) where
  module _ (r : ℕ) (p l : P) (first : Bool) (at : l ≡ (look K s used r).point) (is : first ≡ same C l p) where
    pub at_left : first ≡ true → true ≡ at_end C K s used r p
    unfolding at_end
    at_left h = rw (← at, ← is, h)

    pub at_right : (q : P) (second : Bool) → first ≡ false → q ≡ (right_of C K s used r).point → second ≡ same C q p → second ≡ at_end C K s used r p
    unfolding at_end
    at_right q second h e j = rw (← at, ← is, h, ← e) j

  module _ (a b : ℕ) (p : P) (aEnds bEnds : Bool) (ha : aEnds ≡ at_end C K s used a p) (hb : bEnds ≡ at_end C K s used b p) (t : S) (n : ℕ) (x : Verdict) (h : step t n x ≡ cut_unless C K aEnds s used a p) where
    pub crossed-on : (y : Step S) → x ≡ Ok tt → y ≡ cut_unless C K bEnds t n b p → y ≡ crossed C K s used a b p
    unfolding crossed and_then go_on
    crossed-on y g e = rw (← ha, ← h, ← hb, g) e

    pub crossed-stopped : (r : Refusal) → x ≡ Err r → step t n x ≡ crossed C K s used a b p
    unfolding crossed and_then go_on
    crossed-stopped r g = rw (← ha, ← h, ← hb, g)

  -- h ends first, i begins first
  module _ (a b h k : ℕ) (oneLeft oneRight ends : Bool) (is-ends : ends ≡ before C (key_used K s used (mate_of C K s used a)) (key_used K s used (mate_of C K s used b))) (is-h : h ≡ cond ends a b) (is-k : k ≡ cond ends b a) (z : Meeting S) where
    pub overlapped-left : oneLeft ≡ true → z ≡ ended (left_shared C K s used a b oneRight h k) 2 → z ≡ overlapped C K s used a b oneLeft oneRight
    unfolding overlapped
    overlapped-left o e = rw (o, ← is-ends, ← is-h, ← is-k) e

    pub overlapped-laid : (i j : ℕ) (first : Bool) → oneLeft ≡ false → first ≡ before C (key_used K s used a) (key_used K s used b) → i ≡ cond first a b → j ≡ cond first b a → z ≡ ended (laid C K s used oneRight i j h k) 3 → z ≡ overlapped C K s used a b oneLeft oneRight
    unfolding overlapped
    overlapped-laid i j first o f p q e = rw (o, ← is-ends, ← is-h, ← is-k, ← f, ← p, ← q) e

  -- ---- by what is in common

  module _ (a b : ℕ) (oneLeft oneRight : Bool) (z : Meeting S) where
    pub at-shared-left : (p : P) → oneLeft ≡ true → z ≡ ended (step s used (Ok tt)) 0 → z ≡ meet_by C K (point p) s used a b oneLeft oneRight
    unfolding meet_by
    at-shared-left p h e = rw h e

    pub at-shared-right : (p : P) → oneLeft ≡ false → oneRight ≡ true → z ≡ ended (step s used (Ok tt)) 0 → z ≡ meet_by C K (point p) s used a b oneLeft oneRight
    unfolding meet_by
    at-shared-right p h k e = rw (h, k) e

    pub at-point : (p : P) → oneLeft ≡ false → oneRight ≡ false → z ≡ ended (crossed C K s used a b p) 1 → z ≡ meet_by C K (point p) s used a b oneLeft oneRight
    unfolding meet_by
    at-point p h k e = rw (h, k) e

    pub lost-met : (c : Cross P) → c ≡ lost → z ≡ ended (step s used (Err (record { reason = Reason.Cut; place = a }))) 0 → z ≡ meet_by C K c s used a b oneLeft oneRight
    unfolding meet_by
    lost-met c h e = rw h e

    pub point-met : (c : Cross P) (p : P) → c ≡ point p → z ≡ meet_by C K (point p) s used a b oneLeft oneRight → z ≡ meet_by C K c s used a b oneLeft oneRight
    point-met c p h e = rw h e

    pub none-met : (c : Cross P) → c ≡ none → z ≡ ended (step s used (Ok tt)) 0 → z ≡ meet_by C K c s used a b oneLeft oneRight
    unfolding meet_by
    none-met c h e = rw h e

    pub one-layer : (c : Cross P) (p q : P) (one : Bool) → c ≡ overlap p q → one ≡ one_layer C K s used a b → one ≡ true → z ≡ ended (step s used (Ok tt)) 0 → z ≡ meet_by C K c s used a b oneLeft oneRight
    unfolding meet_by
    one-layer c p q one h k l e = rw (h, ← k, l) e

    pub two_layers : (c : Cross P) (p q : P) (one : Bool) → c ≡ overlap p q → one ≡ one_layer C K s used a b → one ≡ false → z ≡ overlapped C K s used a b oneLeft oneRight → z ≡ meet_by C K c s used a b oneLeft oneRight
    unfolding meet_by
    two_layers c p q one h k l e = rw (h, ← k, l) e

  pub meet-is : (crossing : Crossing P) (a b : ℕ) (p q p' q' : P) (c : Cross P) (oneLeft oneRight : Bool) (z : Meeting S) → p ≡ (look K s used a).point → q ≡ (right_of C K s used a).point → p' ≡ (look K s used b).point → q' ≡ (right_of C K s used b).point
      → c ≡ crossing p q p' q' → oneLeft ≡ same C p p' → oneRight ≡ same C q q' → z ≡ meet_by C K c s used a b oneLeft oneRight → z ≡ meet C K crossing s used a b
  unfolding meet
  meet-is crossing a b p q p' q' c oneLeft oneRight z hp hq hp' hq' hc hl hr e = rw (← hp, ← hq, ← hp', ← hq', ← hc, ← hl, ← hr) e

pub ends_is : {P S : Type 0} (C : Coordinates P) (K : Store P S) (s : S) (used a b : ℕ) (e f : Event P) (i j : Key P) (z : Bool) → e ≡ look K s used a → f ≡ look K s used b → i ≡ key_used K s used e.partner → j ≡ key_used K s used f.partner → z ≡ before C i j → z ≡ ends_first C K s used a b
ends_is C K s used a b e f i j z he hf hi hj hz =
    hz ∙ ap₂ (before C) (hi ∙ ap (λ x. key_used K s used x.partner) he) (hj ∙ ap (λ x. key_used K s used x.partner) hf)
