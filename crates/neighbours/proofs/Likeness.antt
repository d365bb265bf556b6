-- What is alike in two runs, over kinds of coordinates and stores that may differ; and then which steps, meetings and crossings are alike. Each of these
-- is told by its outcomes, so that a proof by cases knows in each case how both runs go on.
use Rattle.std.proofs.Common.{Err, Ok}
use Rattle.refusals.specs.declared.Reason.TheVariants as Reason
use Prim.Native.Nat.{ℕ, ◌≤◌}
use Rattle.refusals.specs.declared.Refusal.{Refusal}
use Rattle.events.specs.Coordinates.{Coordinates, Cross, none, lost, point, overlap, Crossing}
use Rattle.events.specs.Store.{Store, look}
use Rattle.division.specs.Division.{After}
use Rattle.neighbours.specs.Step.{Step, step, stop_of}
use Rattle.neighbours.specs.Neighbours.{Meeting, meeting, right_of}

-- Stores, and numbers at hand, each with so many places in use; points; refusals; and the refusals of the second run by which it goes its own way.
pub record Likeness (P S P' S' : Type 0) : Type 1 where
  pub Stores : ℕ → S → S' → Type 0
  pub Numbers : ℕ → ℕ → ℕ → Type 0
  pub Points : P → P' → Type 0
  pub Refusals : Refusal → Refusal → Type 0
  pub Departs : Refusal → Type 0
  pub later : (m n r r' : ℕ) → m ≤ n → Numbers m r r' → Numbers n r r'

-- each relation under a name of its own, so that what it relates is found
pub record StoresAlike {P S P' S' : Type 0} (B : Likeness P S P' S') (n : ℕ) (s : S) (s' : S') : Type 0 where
  pub alike : B.Stores n s s'

pub record NumbersAlike {P S P' S' : Type 0} (B : Likeness P S P' S') (n r r' : ℕ) : Type 0 where
  pub alike : B.Numbers n r r'

pub record PointsAlike {P S P' S' : Type 0} (B : Likeness P S P' S') (p : P) (p' : P') : Type 0 where
  pub alike : B.Points p p'

-- at least `high` places are in use after a step that went on, at least `low` after one that was refused
pub data StepsAlike {P S P' S' : Type 0} (B : Likeness P S P' S') (low high : ℕ) : Step S → Step S' → Type 0 where
  went : {n : ℕ} {s : S} {s' : S'} → high ≤ n → StoresAlike B n s s' → StepsAlike B low high (step s n (Ok tt)) (step s' n (Ok tt))
  halted : {n : ℕ} {s : S} {s' : S'} {r r' : Refusal} → low ≤ n → StoresAlike B n s s' → B.Refusals r r' → StepsAlike B low high (step s n (Err r)) (step s' n (Err r'))
  out : {x : Step S} {n' : ℕ} {s' : S'} {r' : Refusal} → B.Departs r' → StepsAlike B low high x (step s' n' (Err r'))

pub data MeetingsAlike {P S P' S' : Type 0} (B : Likeness P S P' S') (low : ℕ) : Meeting S → Meeting S' → Type 0 where
  met : {n : ℕ} {s : S} {s' : S'} (c : ℕ) → low ≤ n → StoresAlike B n s s' → MeetingsAlike B low (meeting s n (Ok c)) (meeting s' n (Ok c))
  broken : {n : ℕ} {s : S} {s' : S'} {r r' : Refusal} → low ≤ n → StoresAlike B n s s' → B.Refusals r r' → MeetingsAlike B low (meeting s n (Err r)) (meeting s' n (Err r'))
  off : {x : Meeting S} {n' : ℕ} {s' : S'} {r' : Refusal} → B.Departs r' → MeetingsAlike B low x (meeting s' n' (Err r'))

pub data CrossesAlike {P S P' S' : Type 0} (B : Likeness P S P' S') (a a' : ℕ) : Cross P → Cross P' → Type 0 where
  apart : CrossesAlike B a a' none none
  astray : B.Refusals (record { reason = Reason.Cut; place = a }) (record { reason = Reason.Cut; place = a' }) → CrossesAlike B a a' lost lost
  across : {p : P} {p' : P'} → PointsAlike B p p' → CrossesAlike B a a' (point p) (point p')
  along : {p q : P} {p' q' : P'} → CrossesAlike B a a' (overlap p q) (overlap p' q')

-- the crossing of the segments of two records
abbrev pub crossing_of : {P S : Type 0} → Coordinates P → Store P S → Crossing P → S → ℕ → ℕ → ℕ → Cross P
crossing_of C K crossing s n a b = crossing (look K s n a).point (right_of C K s n a).point (look K s n b).point (right_of C K s n b).point

-- a division as a step
abbrev pub step_of : {S : Type 0} → After S → Step S
step_of a = step a.store a.used (stop_of a.answer)
