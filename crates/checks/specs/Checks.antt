-- Refusals 1, 2 and 4 for event records (01, 'Numbers given back'), over any kind of coordinate: `row` tells the record with a number, and a pool of n
-- places holds the records below n. A test of a record is true where it strikes. Nothing here says which records an entry looks at, but for `named`.
use Rattle.std.specs.Prelude.{Bool, false, not, cond, ◌&&◌, ◌||◌, List, [], ◌∷◌, map, ℕ, suc, eqb, ltb, length, get_or, Err, None, Ok, Option, Some}
use Rattle.refusals.specs.declared.Reason.{Reason}
use Rattle.refusals.specs.Refusals.{Verdict}
use Rattle.std.specs.Bool.{beq}
use Rattle.refusals.specs.declared.Refusal.{Refusal}
use Rattle.events.specs.Coordinates.{Coordinates, ahead}
use Rattle.events.specs.Event.{Event}

-- ---- refusal 1: the sizes of the two arrays

-- the most records that a pool holds
abbrev pub max_events : ℕ
max_events = 4096

-- those of a small pool
abbrev pub few_events : ℕ
few_events = 256

-- the arrays unequal, or above the limit
unfoldable pub missized : ℕ → ℕ → Bool
missized points marks = not (eqb points marks) || ltb max_events points

-- ---- refusal 4: the five mistakes of a record, in 01's order

-- a number outside the pool
unfoldable pub outside : ℕ → ℕ → Bool
outside n r = not (ltb r n)

-- partner not mutual
unfoldable pub unpaired : {P : Type 0} → (ℕ → Event P) → ℕ → ℕ → Bool
unpaired row n r = outside n (row r).partner || not (eqb (row (row r).partner).partner r)

-- both flags alike
unfoldable pub alike : {P : Type 0} → (ℕ → Event P) → ℕ → Bool
alike row r = beq (row r).left (row (row r).partner).left

-- of the two points, the left end's is the earlier by x, then y
unfoldable pub in_order : {P : Type 0} → Coordinates P → (ℕ → Event P) → ℕ → Bool
in_order C row r =
    let own = (row r).point in
    let other = (row (row r).partner).point in
    cond (row r).left (ahead C own other) (ahead C other own)

-- left end not before its partner
unfoldable pub misordered : {P : Type 0} → Coordinates P → (ℕ → Event P) → ℕ → Bool
misordered C row r = not (in_order C row r)

unfoldable pub not_to_left : {P : Type 0} → (ℕ → Event P) → ℕ → Option ℕ → Bool
not_to_left row n None = false
not_to_left row n (Some b) = outside n b || not (row b).left

-- below link not to a left record
unfoldable pub misled : {P : Type 0} → (ℕ → Event P) → ℕ → ℕ → Bool
misled row n r = not_to_left row n (row r).below

abbrev pub mistakes : {P : Type 0} → Coordinates P → (ℕ → Event P) → ℕ → List (ℕ → Bool)
mistakes C row n = outside n ∷ unpaired row n ∷ alike row ∷ misordered C row ∷ misled row n ∷ []

-- one of the tests strikes the record
abbrev pub any : List (ℕ → Bool) → ℕ → Bool
any [] r = false
any (test ∷ tests) r = test r || any tests r

unfoldable pub mistaken : {P : Type 0} → Coordinates P → (ℕ → Event P) → ℕ → ℕ → Bool
mistaken C row n r = any (mistakes C row n) r

-- ---- refusal 4 for an entry that wants left records

-- one of these records, and a right one
unfoldable pub right_among : {P : Type 0} → (ℕ → Event P) → List ℕ → ℕ → Bool
right_among row wanted r = any (map eqb wanted) r && not (row r).left

unfoldable pub mistaken_or_right : {P : Type 0} → Coordinates P → (ℕ → Event P) → ℕ → List ℕ → ℕ → Bool
mistaken_or_right C row n wanted r = mistaken C row n r || right_among row wanted r

-- ---- refusal 2: the point of a record of the pool

unfoldable pub unfit_at : {P : Type 0} → Coordinates P → (ℕ → Event P) → ℕ → ℕ → Bool
unfit_at C row n r = not (outside n r) && not (C.fit (row r).point)

-- ---- a test over a list of records

-- the place in the list of the first record that the test strikes, counted from 0; the length where it strikes none
unfoldable pub first : (ℕ → Bool) → List ℕ → ℕ
first test [] = 0
first test (r ∷ rs) = cond (test r) 0 (suc (first test rs))

-- refused for this reason at the first record that the test strikes
unfoldable pub told : Reason → (ℕ → Bool) → List ℕ → Verdict
told reason test rs = cond (ltb (first test rs) (length rs)) (Err (record { reason = reason; place = get_or rs (first test rs) 0 })) (Ok tt)

-- the next check, if this one passed
unfoldable pub and_then : Verdict → Verdict → Verdict
and_then (Ok _) next = next
and_then (Err r) next = Err r

-- ---- the checks in their order

-- 1, told at place 1: the pool
abbrev pub size_refusal : Refusal
size_refusal = record { reason = Reason.Size; place = 1 }

unfoldable pub sized : ℕ → ℕ → Verdict
sized points marks = cond (missized points marks) (Err size_refusal) (Ok tt)

-- 2, then 4, each over all records before the next
unfoldable pub checked : {P : Type 0} → Coordinates P → (ℕ → Event P) → ℕ → List ℕ → Verdict
checked C row n rs = and_then (told Reason.Coordinate (unfit_at C row n) rs) (told Reason.Link (mistaken C row n) rs)

-- ---- the records that an entry on single records looks at, and connection by 2

-- A record's partner. A number outside the pool has none: it stands for itself, so that it is looked at twice and nothing else is.
unfoldable pub mate : {P : Type 0} → (ℕ → Event P) → ℕ → ℕ → ℕ
mate row n r = cond (outside n r) r (row r).partner

-- the records named, in that order, each followed by its partner
unfoldable pub named : {P : Type 0} → (ℕ → Event P) → ℕ → List ℕ → List ℕ
named row n [] = []
named row n (r ∷ rs) = r ∷ mate row n r ∷ named row n rs

-- the checks of an entry that wants the records named left: a right `a` is told before a mistaken `b`
unfoldable pub checked_left : {P : Type 0} → Coordinates P → (ℕ → Event P) → ℕ → List ℕ → Verdict
checked_left C row n rs = and_then (told Reason.Coordinate (unfit_at C row n) (named row n rs)) (told Reason.Link (mistaken_or_right C row n rs) (named row n rs))
