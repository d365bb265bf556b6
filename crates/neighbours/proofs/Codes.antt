-- A meeting by its code: which step ended it, and that each step before went on.
use Rattle.std.proofs.Common.{Err, Ok, Result}
use Rattle.refusals.specs.Refusals.{Verdict}
use mathlib.Core.Path.{◌≡◌, refl, ap}
use mathlib.Core.Logic.{◌≢◌, ◌⊎◌, inl, inr}
use mathlib.Core.Bool.{Bool, true, false, cond}
use Prim.Native.Nat.{ℕ}
use native.Mathlib.Omega.{arith}
use Rattle.refusals.specs.declared.Refusal.{Refusal}
use Rattle.events.specs.Coordinates.{Coordinates, Cross, none, lost, point, overlap}
use Rattle.events.specs.Store.{Store}
use Rattle.neighbours.specs.Step.{Step, step, go_on, and_then}
use Rattle.neighbours.specs.Neighbours.{Meeting, met_by, ended, crossed, left_shared, ends_first, overlapped, one_layer, meet_by}

-- ---- steps that went on

pub stopped : (r : Refusal) (x : Verdict) → x ≡ Err r → x ≡ Ok tt → ⊥
stopped r x p q = let z : ◌≡◌ {A = ℕ} 0 1 = cc in omega arith

-- a step after which nothing was refused went on from one after which nothing was
pub record WentOn {S : Type 0} (x : Step S) (next : S → ℕ → Step S) : Type 0 where
  pub first : x.stop ≡ Ok tt
  pub then : and_then x next ≡ next x.store x.used

pub went_on : {S : Type 0} (x : Step S) (next : S → ℕ → Step S) → (and_then x next).stop ≡ Ok tt → WentOn x next
unfolding and_then go_on
went_on x next h = go x.stop refl h
  where
    go : (y : Verdict) → x.stop ≡ y → (go_on y x next).stop ≡ Ok tt → WentOn x next
    go (Ok _) e h = record { first = e; then = rw e }
    go (Err r) e h = absurd (stopped r _ e h)

-- ---- the code

number : Result ℕ Refusal → ℕ
number (Ok c) = c
number (Err r) = 0

refused : (r : Refusal) (c : ℕ) (x : Result ℕ Refusal) → x ≡ Err r → x ≡ Ok c → ⊥
refused r c x p q = let z : ◌≡◌ {A = ℕ} 0 1 = cc in omega arith

-- a code is told where nothing was refused
pub went : (x : Verdict) (c d : ℕ) → met_by x c ≡ Ok d → (x ≡ Ok tt) × (c ≡ d)
unfolding met_by number
went (Ok _) c d h = (refl, ap number h)
went (Err r) c d h = absurd (refused r d _ refl h)

-- ---- which step it was

module _ {P S : Type 0} (C : Coordinates P) (K : Store P S) (s : S) (used a b : ℕ) where
  pub data Came (found : Cross P) (oneRight : Bool) : Meeting S → Type 0 where
    at-point : (p : P) → found ≡ point p → Came found oneRight (ended (crossed C K s used a b p) 1)
    one_left : (h k : ℕ) → (k ≡ a) ⊎ (k ≡ b) → Came found oneRight (ended (left_shared C K s used a b oneRight h k) 2)
    another : (x : Step S) (c : ℕ) → c ≢ 1 → c ≢ 2 → Came found oneRight (ended x c)

  nothing : {found : Cross P} {oneRight : Bool} (x : Step S) → Came found oneRight (ended x 0)
  nothing x = another x 0 (λ e. omega arith) (λ e. omega arith)

  either : (t : Bool) → (cond t b a ≡ a) ⊎ (cond t b a ≡ b)
  either true = inr refl
  either false = inl refl

  pub came : (x : Cross P) (oneLeft oneRight : Bool) → Came x oneRight (meet_by C K x s used a b oneLeft oneRight)
  unfolding meet_by overlapped
  came none oneLeft oneRight = nothing _
  came lost oneLeft oneRight = nothing _
  came (point p) true oneRight = nothing _
  came (point p) false true = nothing _
  came (point p) false false = at-point p refl
  came (overlap p q) oneLeft oneRight = go (one_layer C K s used a b) oneLeft
    where
      go : (one left : Bool) → Came (overlap p q) oneRight (cond one (ended (step s used (Ok tt)) 0) (overlapped C K s used a b left oneRight))
      go true left = nothing _
      go false true = one_left _ _ (either (ends_first C K s used a b))
      go false false = another _ 3 (λ e. omega arith) (λ e. omega arith)
