-- Two meetings side by side: where every test tells the same and every store keeps the stores alike, the whole is alike. One walk through the
-- definition for every fact about two runs, and for every fact about one (`Kept`).
use Rattle.std.proofs.Common.{Ok}
use mathlib.Core.Path.{◌≡◌, refl}
use mathlib.Core.Bool.{Bool, true, false, cond, ◌||◌}
use Prim.Native.Nat.{ℕ, ◌+◌, ◌≤◌}
use native.Mathlib.Omega.{arith}
use lib.Dec.{eqb}
use Rattle.events.specs.Coordinates.{Coordinates, same, Cross, Crossing}
use Rattle.events.specs.Store.{Store, look}
use Rattle.neighbours.specs.Step.{Step, step, go_on, and_then, cut, cut_unless, twice}
use Rattle.neighbours.specs.Neighbours.{Meeting, met_by, ended, right_of, at_end, crossed, coincided, left_shared, laid, begins_first, ends_first, overlapped, one_layer, meet_by, meet}
use Rattle.neighbours.proofs.Likeness.{Likeness, StoresAlike, NumbersAlike, PointsAlike, StepsAlike, went, halted, out, MeetingsAlike, met, broken, off, CrossesAlike, apart, astray, across, along, crossing_of}

-- ---- what a meeting asks: of one record, of two, and of the two primitive stores

pub record MeetingLaws {P S P' S' : Type 0} (B : Likeness P S P' S') (C : Coordinates P) (K : Store P S) (crossing : Crossing P) (C' : Coordinates P') (K' : Store P' S') (crossing' : Crossing P') : Type 0 where
  pub points : {n : ℕ} {s : S} {s' : S'} {r r' : ℕ} → StoresAlike B n s s' → NumbersAlike B n r r' → PointsAlike B (look K s n r).point (look K' s' n r').point
  pub rights : {n : ℕ} {s : S} {s' : S'} {r r' : ℕ} → StoresAlike B n s s' → NumbersAlike B n r r' → PointsAlike B (right_of C K s n r).point (right_of C' K' s' n r').point
  pub at-end : {n : ℕ} {s : S} {s' : S'} {r r' : ℕ} {p : P} {p' : P'} → StoresAlike B n s s' → NumbersAlike B n r r' → PointsAlike B p p' → at_end C' K' s' n r' p' ≡ at_end C K s n r p
  -- the new left end of a division
  pub fresh : {n m : ℕ} {s : S} {s' : S'} → StoresAlike B n s s' → n + 2 ≤ m → NumbersAlike B m (n + 1) (n + 1)
  pub cuts : {n : ℕ} {s : S} {s' : S'} {i i' : ℕ} {p : P} {p' : P'} → StoresAlike B n s s' → NumbersAlike B n i i' → PointsAlike B p p' → StepsAlike B n (n + 2) (cut C K s n i p) (cut C' K' s' n i' p')
  pub one_number : {n : ℕ} {s : S} {s' : S'} {a b a' b' : ℕ} → StoresAlike B n s s' → NumbersAlike B n a a' → NumbersAlike B n b b' → eqb a' b' ≡ eqb a b
  pub one_left : {n : ℕ} {s : S} {s' : S'} {a b a' b' : ℕ} → StoresAlike B n s s' → NumbersAlike B n a a' → NumbersAlike B n b b'
      → same C' (look K' s' n a').point (look K' s' n b').point ≡ same C (look K s n a).point (look K s n b).point
  pub one_right : {n : ℕ} {s : S} {s' : S'} {a b a' b' : ℕ} → StoresAlike B n s s' → NumbersAlike B n a a' → NumbersAlike B n b b'
      → same C' (right_of C' K' s' n a').point (right_of C' K' s' n b').point ≡ same C (right_of C K s n a).point (right_of C K s n b).point
  pub one-layer : {n : ℕ} {s : S} {s' : S'} {a b a' b' : ℕ} → StoresAlike B n s s' → NumbersAlike B n a a' → NumbersAlike B n b b' → one_layer C' K' s' n a' b' ≡ one_layer C K s n a b
  pub begins : {n : ℕ} {s : S} {s' : S'} {a b a' b' : ℕ} → StoresAlike B n s s' → NumbersAlike B n a a' → NumbersAlike B n b b' → begins_first C' K' s' n a' b' ≡ begins_first C K s n a b
  pub ends : {n : ℕ} {s : S} {s' : S'} {a b a' b' : ℕ} → StoresAlike B n s s' → NumbersAlike B n a a' → NumbersAlike B n b b' → ends_first C' K' s' n a' b' ≡ ends_first C K s n a b
  pub crosses : {n : ℕ} {s : S} {s' : S'} {a b a' b' : ℕ} → StoresAlike B n s s' → NumbersAlike B n a a' → NumbersAlike B n b b'
      → CrossesAlike B a a' (crossing_of C K crossing s n a b) (crossing_of C' K' crossing' s' n a' b')
  pub coincides : {n : ℕ} {s : S} {s' : S'} {a b a' b' : ℕ} → StoresAlike B n s s' → NumbersAlike B n a a' → NumbersAlike B n b b'
      → StoresAlike B n (coincided C K s n a b) (coincided C' K' s' n a' b')

-- ---- ways of going on

module _ {P S P' S' : Type 0} {B : Likeness P S P' S'} where
  pub steps-cond : {low high : ℕ} (b b' : Bool) {x y : Step S} {x' y' : Step S'} → b' ≡ b → StepsAlike B low high x x' → StepsAlike B low high y y' → StepsAlike B low high (cond b x y) (cond b' x' y')
  steps-cond true b' e h k = rw e h
  steps-cond false b' e h k = rw e k

  pub meetings-cond : {low : ℕ} (b b' : Bool) {x y : Meeting S} {x' y' : Meeting S'} → b' ≡ b → MeetingsAlike B low x x' → MeetingsAlike B low y y' → MeetingsAlike B low (cond b x y) (cond b' x' y')
  meetings-cond true b' e h k = rw e h
  meetings-cond false b' e h k = rw e k

  pub steps_low : {low high a : ℕ} {x : Step S} {x' : Step S'} → a ≤ low → a ≤ high → StepsAlike B low high x x' → StepsAlike B a a x x'
  steps_low f g (went {n} l w) = went {n = n} (omega arith) w
  steps_low f g (halted {n} l w t) = halted {n = n} (omega arith) w t
  steps_low f g (out o) = out o

  steps_then : {a b : ℕ} {x : Step S} {x' : Step S'} (next : S → ℕ → Step S) (next' : S' → ℕ → Step S') → a ≤ b → StepsAlike B a b x x'
      → ((n : ℕ) (s : S) (s' : S') → b ≤ n → StoresAlike B n s s' → StepsAlike B n n (next s n) (next' s' n)) → StepsAlike B a a (and_then x next) (and_then x' next')
  unfolding and_then go_on
  steps_then next next' f (went l w) k = steps_low (omega arith) (omega arith) (k _ _ _ l w)
  steps_then next next' f (halted l w t) k = halted l w t
  steps_then next next' f (out o) k = out o

  steps-ended : {a b : ℕ} {x : Step S} {x' : Step S'} (code : ℕ) → a ≤ b → StepsAlike B a b x x' → MeetingsAlike B a (ended x code) (ended x' code)
  unfolding ended met_by
  steps-ended code f (went {n} l w) = met {n = n} code (omega arith) w
  steps-ended code f (halted l w t) = broken l w t
  steps-ended code f (out o) = off o

  pick : {n a a' b b' : ℕ} (t : Bool) → NumbersAlike B n a a' → NumbersAlike B n b b' → NumbersAlike B n (cond t a b) (cond t a' b')
  pick true h k = h
  pick false h k = k

  pub numbers-later : {m n r r' : ℕ} → m ≤ n → NumbersAlike B m r r' → NumbersAlike B n r r'
  numbers-later l h = record { alike = B.later _ _ _ _ l h.alike }

-- ---- the walk

module _ {P S P' S' : Type 0} {B : Likeness P S P' S'} {C : Coordinates P} {K : Store P S} {crossing : Crossing P} {C' : Coordinates P'} {K' : Store P' S'} {crossing' : Crossing P'}
    (M : MeetingLaws B C K crossing C' K' crossing') where
  alike-cut : {n : ℕ} {s : S} {s' : S'} {i i' : ℕ} {p : P} {p' : P'} → StoresAlike B n s s' → NumbersAlike B n i i' → PointsAlike B p p' → StepsAlike B n n (cut C K s n i p) (cut C' K' s' n i' p')
  alike-cut w h q = steps_low (omega arith) (omega arith) (M.cuts w h q)

  alike-unless : {n : ℕ} {s : S} {s' : S'} {i i' : ℕ} {p : P} {p' : P'} (b b' : Bool) → b' ≡ b → StoresAlike B n s s' → NumbersAlike B n i i' → PointsAlike B p p'
      → StepsAlike B n n (cut_unless C K b s n i p) (cut_unless C' K' b' s' n i' p')
  unfolding cut_unless
  alike-unless b b' e w h q = steps-cond b b' e (went (omega arith) w) (alike-cut w h q)

  module _ {n : ℕ} {s : S} {s' : S'} (w : StoresAlike B n s s') where
    -- ---- a point
    alike-crossed : {a b a' b' : ℕ} {p : P} {p' : P'} → NumbersAlike B n a a' → NumbersAlike B n b b' → PointsAlike B p p' → StepsAlike B n n (crossed C K s n a b p) (crossed C' K' s' n a' b' p')
    unfolding crossed
    alike-crossed h k q =
        steps_then _ _ (omega arith) (alike-unless _ _ (M.at-end w h q) w h q) (λ m t t' l v. alike-unless _ _ (M.at-end w k q) v (numbers-later l k) q)

    -- ---- an overlap of two layers
    alike-laid : {i j h k i' j' h' k' : ℕ} (oneRight : Bool) → NumbersAlike B n i i' → NumbersAlike B n j j' → NumbersAlike B n h h' → NumbersAlike B n k k'
        → StepsAlike B n n (laid C K s n oneRight i j h k) (laid C' K' s' n oneRight i' j' h' k')
    unfolding laid twice
    alike-laid {i} {j} {h} {k} oneRight at_i at_j at-h at-k =
        rw (M.one_number w at_i at-k)
        (steps-cond oneRight oneRight refl (alike-cut w at_i (M.points w at_j))
        (steps_then _ _ (omega arith) (M.cuts w at_i (M.points w at_j))
        (λ m t t' l v. alike-cut v (pick (eqb i k) (M.fresh w l) (numbers-later (omega arith) at_j)) (M.rights w at-h))))

    module _ {a b a' b' : ℕ} (at_a : NumbersAlike B n a a') (at_b : NumbersAlike B n b b') where
      alike-overlapped : (oneLeft oneRight : Bool) → MeetingsAlike B n (overlapped C K s n a b oneLeft oneRight) (overlapped C' K' s' n a' b' oneLeft oneRight)
      unfolding overlapped left_shared
      alike-overlapped oneLeft oneRight =
          let first = begins_first C K s n a b in
          let last = ends_first C K s n a b in
          rw (M.begins w at_a at_b, M.ends w at_a at_b)
          (meetings-cond oneLeft oneLeft refl
          (steps-ended 2 (omega arith) (alike-unless oneRight oneRight refl (M.coincides w at_a at_b) (pick last at_b at_a) (M.rights w (pick last at_a at_b))))
          (steps-ended 3 (omega arith) (alike-laid oneRight (pick first at_a at_b) (pick first at_b at_a) (pick last at_a at_b) (pick last at_b at_a))))

      nothing : MeetingsAlike B n (ended (step s n (Ok tt)) 0) (ended (step s' n (Ok tt)) 0)
      nothing = steps-ended {a = n} {b = n} 0 (omega arith) (went (omega arith) w)

      alike-by : {x : Cross P} {x' : Cross P'} (oneLeft oneRight : Bool) → CrossesAlike B a a' x x'
          → MeetingsAlike B n (meet_by C K x s n a b oneLeft oneRight) (meet_by C' K' x' s' n a' b' oneLeft oneRight)
      unfolding meet_by
      alike-by oneLeft oneRight apart = nothing
      alike-by oneLeft oneRight (astray t) = steps-ended {a = n} {b = n} 0 (omega arith) (halted (omega arith) w t)
      alike-by oneLeft oneRight (across q) = meetings-cond (oneLeft || oneRight) _ refl nothing (steps-ended 1 (omega arith) (alike-crossed at_a at_b q))
      alike-by oneLeft oneRight along = meetings-cond _ _ (M.one-layer w at_a at_b) nothing (alike-overlapped oneLeft oneRight)

      pub alike-meet : MeetingsAlike B n (meet C K crossing s n a b) (meet C' K' crossing' s' n a' b')
      unfolding meet
      alike-meet = rw (M.one_left w at_a at_b, M.one_right w at_a at_b) (alike-by _ _ (M.crosses w at_a at_b))
