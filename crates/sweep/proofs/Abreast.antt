-- Two states of the sweep side by side: their lists of numbers, their stops, and whether both are still on their way.
use mathlib.Core.Path.{◌≡◌, refl, ap}
use mathlib.Core.Bool.{Bool, true, false, cond}
use mathlib.Core.List.{List, [], ◌∷◌, ◌++◌, map}
use Prim.Native.Nat.{ℕ, zero, suc, ◌≤◌}
use lib.ListN.{length, take, drop}
use Rattle.refusals.specs.declared.Refusal.{Refusal}
use Rattle.lists.specs.Lists.{slot, insert_at, remove_at}
use Rattle.neighbours.specs.Neighbours.{Meeting}
use Rattle.neighbours.proofs.Likeness.{Likeness, StoresAlike, NumbersAlike, MeetingsAlike, met, broken, off}
use Rattle.neighbours.proofs.Walk.{numbers-later}
use Rattle.status.specs.Status.{member, below}
use Rattle.sweep_events.proofs.Walk.{LinksAlike, nowhere, leads}
use Rattle.sweep.specs.declared.turn.Stop.{Stop}
use Rattle.sweep.specs.declared.turn.Stop.TheVariants.{Going, Ended, Refused}
use Rattle.sweep.specs.State.{State, ranked, go_on, and_then, stop_by, meets}

-- ---- lists of numbers at hand

pub data ListsAlike {P S P' S' : Type 0} (B : Likeness P S P' S') (n : ℕ) : List ℕ → List ℕ → Type 0 where
  empty : ListsAlike B n [] []
  joined : {x x' : ℕ} {l l' : List ℕ} → NumbersAlike B n x x' → ListsAlike B n l l' → ListsAlike B n (x ∷ l) (x' ∷ l')

module _ {P S P' S' : Type 0} {B : Likeness P S P' S'} where
  pub lists-later : {m n : ℕ} {l l' : List ℕ} → m ≤ n → ListsAlike B m l l' → ListsAlike B n l l'
  lists-later h empty = empty
  lists-later h (joined x l) = joined (numbers-later h x) (lists-later h l)

  module _ {n : ℕ} where
    pub lists-long : {l l' : List ℕ} → ListsAlike B n l l' → length l' ≡ length l
    lists-long empty = refl
    lists-long (joined x l) = ap suc (lists-long l)

    pub lists-member : {l l' : List ℕ} (k : ℕ) → ListsAlike B n l l' → LinksAlike B n (member l k) (member l' k)
    unfolding member
    lists-member k empty = nowhere
    lists-member zero (joined x l) = leads x
    lists-member (suc k) (joined x l) = lists-member k l

    pub lists-below : {l l' : List ℕ} (k : ℕ) → ListsAlike B n l l' → LinksAlike B n (below l k) (below l' k)
    unfolding below
    lists-below zero h = nowhere
    lists-below (suc k) h = lists-member k h

    lists-take : {l l' : List ℕ} (k : ℕ) → ListsAlike B n l l' → ListsAlike B n (take k l) (take k l')
    lists-take zero h = empty
    lists-take (suc k) empty = empty
    lists-take (suc k) (joined x l) = joined x (lists-take k l)

    lists-drop : {l l' : List ℕ} (k : ℕ) → ListsAlike B n l l' → ListsAlike B n (drop k l) (drop k l')
    lists-drop zero h = h
    lists-drop (suc k) empty = empty
    lists-drop (suc k) (joined x l) = lists-drop k l

    pub lists-append : {l l' m m' : List ℕ} → ListsAlike B n l l' → ListsAlike B n m m' → ListsAlike B n (l ++ m) (l' ++ m')
    lists-append empty h = h
    lists-append (joined x l) h = joined x (lists-append l h)

    pub lists-insert : {l l' : List ℕ} {e e' : ℕ} (k : ℕ) → ListsAlike B n l l' → NumbersAlike B n e e' → ListsAlike B n (insert_at l k e) (insert_at l' k e')
    unfolding insert_at
    lists-insert k h x = lists-append (lists-take k h) (joined x (lists-drop k h))

    pub lists-remove : {l l' : List ℕ} (k : ℕ) → ListsAlike B n l l' → ListsAlike B n (remove_at l k) (remove_at l' k)
    unfolding remove_at
    lists-remove k h = lists-append (lists-take k h) (lists-drop (suc k) h)

    pub lists-slot : {l l' : List ℕ} (test test' : ℕ → Bool) → ((x x' : ℕ) → NumbersAlike B n x x' → test' x' ≡ test x) → ListsAlike B n l l' → slot test' l' ≡ slot test l
    unfolding slot
    lists-slot test test' t empty = refl
    lists-slot test test' t (joined x l) = rw (t _ _ x, lists-slot test test' t l)

-- ---- states

pub data StopsAlike {P S P' S' : Type 0} (B : Likeness P S P' S') : Stop → Stop → Type 0 where
  going : StopsAlike B Going Going
  ended : StopsAlike B Ended Ended
  refused : {r r' : Refusal} → B.Refusals r r' → StopsAlike B (Refused r) (Refused r')

-- numbers and refusals that are the same in both, or renamed
module _ {P S P' S' : Type 0} {B : Likeness P S P' S'} where
  pub lists-equal : {n : ℕ} {l l' : List ℕ} → ((r r' : ℕ) → NumbersAlike B n r r' → r' ≡ r) → ListsAlike B n l l' → l' ≡ l
  lists-equal e empty = refl
  lists-equal e (joined x l) = λ i. e _ _ x i ∷ lists-equal e l i

  pub lists-map : {n : ℕ} {l l' : List ℕ} (f : ℕ → ℕ) → ((r r' : ℕ) → NumbersAlike B n r r' → r' ≡ f r) → ListsAlike B n l l' → l' ≡ map f l
  lists-map f e empty = refl
  lists-map f e (joined x l) = λ i. e _ _ x i ∷ lists-map f e l i

  pub stops-equal : {x x' : Stop} → ((r r' : Refusal) → B.Refusals r r' → r' ≡ r) → StopsAlike B x x' → x' ≡ x
  stops-equal e going = refl
  stops-equal e ended = refl
  stops-equal e (refused t) = λ i. Refused (e _ _ t i)

abbrev pub state : {S : Type 0} → S → ℕ → List Bool → List ℕ → List ℕ → Bool → Stop → State S
state s n w l t b x = record { store = s; used = n; waits = w; status = l; taken = t; tied = b; stop = x }

-- Both on their way; F: which flags are alike.
pub data Abreast {P S P' S' : Type 0} (B : Likeness P S P' S') (F : List Bool → List Bool → Type 0) : State S → State S' → Type 0 where
  on : {n : ℕ} {s : S} {s' : S'} {w w' : List Bool} {l l' t t' : List ℕ} (b : Bool) {x x' : Stop}
      → StoresAlike B n s s' → F w w' → ListsAlike B n l l' → ListsAlike B n t t' → StopsAlike B x x' → Abreast B F (state s n w l t b x) (state s' n w' l' t' b x')

-- .. or the second has gone its own
pub data StatesAlike {P S P' S' : Type 0} (B : Likeness P S P' S') (F : List Bool → List Bool → Type 0) : State S → State S' → Type 0 where
  together : {z : State S} {z' : State S'} → Abreast B F z z' → StatesAlike B F z z'
  gone : {z : State S} {n' : ℕ} {s' : S'} {w' : List Bool} {l' t' : List ℕ} {b' : Bool} {r' : Refusal} → B.Departs r' → StatesAlike B F z (state s' n' w' l' t' b' (Refused r'))

-- ---- ways of going on

module _ {P S P' S' : Type 0} {B : Likeness P S P' S'} {F : List Bool → List Bool → Type 0} where
  pub states-cond : (b b' : Bool) {x y : State S} {x' y' : State S'} → b' ≡ b → StatesAlike B F x x' → StatesAlike B F y y' → StatesAlike B F (cond b x y) (cond b' x' y')
  states-cond true b' e h k = rw e h
  states-cond false b' e h k = rw e k

  -- another status
  pub abreast-ranked : {z : State S} {z' : State S'} {q q' : List ℕ} → Abreast B F z z' → ListsAlike B z.used q q' → Abreast B F (ranked z q) (ranked z' q')
  unfolding ranked
  abreast-ranked (on b v f h g y) i = on b v f i g y

  -- after a meeting
  pub states-meet : {z : State S} {z' : State S'} {m : Meeting S} {m' : Meeting S'} → Abreast B F z z' → MeetingsAlike B z.used m m' → StatesAlike B F (meets z m) (meets z' m')
  unfolding meets stop_by
  states-meet (on b v f h g y) (met c l w) = together (on b w f (lists-later l h) (lists-later l g) going)
  states-meet (on b v f h g y) (broken l w t) = together (on b w f (lists-later l h) (lists-later l g) (refused t))
  states-meet (on b v f h g y) (off o) = gone o

  -- .. and another status then
  pub states-ranked : {z : State S} {z' : State S'} {q q' : List ℕ} {m : Meeting S} {m' : Meeting S'} → Abreast B F z z' → ListsAlike B z.used q q' → MeetingsAlike B z.used m m'
      → StatesAlike B F (and_then (meets z m) (λ t. ranked t q)) (and_then (meets z' m') (λ t. ranked t q'))
  unfolding and_then go_on ranked meets stop_by
  states-ranked (on b v f h g y) i (met c l w) = together (on b w f (lists-later l i) (lists-later l g) going)
  states-ranked (on b v f h g y) i (broken l w t) = together (on b w f (lists-later l h) (lists-later l g) (refused t))
  states-ranked (on b v f h g y) i (off o) = gone o
