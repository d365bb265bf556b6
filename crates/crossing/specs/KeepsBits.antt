-- The promise of the ordered mode (02, #102): the answer, Lost among them, is the same to the last bit under all eight namings of two segments and with
-- either sign of each zero. Answers are equal as data: a corner's numbers have one bit pattern. The laws are `proofs/KeepsBits` and `proofs/KeepsAnswers`.
use Rattle.std.specs.Prelude.{◌≡◌, ◌≢◌, Bool, cond, ℕ, Float, Err, Ok, Result}
use Rattle.refusals.specs.declared.Refusal.{Refusal}
use Rattle.numbers.specs.Binary64.{Held, Finite}
use Rattle.numbers.specs.declared.Coordinate.{Coordinate}
use Rattle.crossing.specs.declared.LineIntersection.{LineIntersection}
use Rattle.crossing.specs.declared.modes.Segment.{Segment}
use Rattle.crossing.specs.declared.modes.Pair.{Pair}
use Rattle.crossing.specs.Modes.{plain, segment, pair, unsigned_segment}
use Rattle.crossing.specs.Crossing.{intersection_in, crossing_in}

-- ---- two segments under another naming

-- one of eight: which segment is named first, and which way each runs
pub record Naming : Type 0 where
  pub swapped : Bool
  pub a_turned : Bool
  pub b_turned : Bool

abbrev pub turned : Bool → Segment → Segment
turned t s = cond t (segment s.to s.from) s

abbrev pub swapped : Bool → Pair → Pair
swapped t p = cond t (pair p.b p.a) p

unfoldable pub renamed : Naming → Pair → Pair
renamed n p = swapped n.swapped (pair (turned n.a_turned p.a) (turned n.b_turned p.b))

-- minus zeros turned into zeros
unfoldable pub unsigned_pair : Pair → Pair
unsigned_pair p = pair (unsigned_segment p.a) (unsigned_segment p.b)

-- q is p under some naming, but for the signs of zeros
pub record Alike (p q : Pair) : Type 0 where
  pub naming : Naming
  pub numbers : unsigned_pair q ≡ unsigned_pair (renamed naming p)

-- ---- each number of a point, of a segment, of two segments

abbrev pub EachOfPoint : (Float → Type 0) → Coordinate → Type 0
EachOfPoint P p = P p.x × P p.y

abbrev pub EachOfSegment : (Float → Type 0) → Segment → Type 0
EachOfSegment P s = EachOfPoint P s.from × EachOfPoint P s.to

abbrev pub Each : (Float → Type 0) → Pair → Type 0
Each P p = EachOfSegment P p.a × EachOfSegment P p.b

-- ---- the promise, in every mode but plain

abbrev pub answer_in : ℕ → Pair → LineIntersection
answer_in mode p = intersection_in mode p.a.from p.a.to p.b.from p.b.to

-- of finite numbers
abbrev pub KeepsBits : Type 0
KeepsBits = (mode : ℕ) → mode ≢ plain → (p q : Pair) → Each Finite p → Alike p q → answer_in mode p ≡ answer_in mode q

-- the public call
abbrev pub call_in : ℕ → Pair → Result LineIntersection Refusal
call_in mode p =
    crossing_in mode p.a.from.x p.a.from.y p.a.to.x p.a.to.y p.b.from.x p.b.from.y p.b.to.x p.b.to.y

-- a refusal's place is as the caller named the numbers, and no part of the promise
unfoldable pub without_place : Result LineIntersection Refusal → Result LineIntersection Refusal
without_place (Err r) = Err (record { reason = r.reason; place = 0 })
without_place (Ok l) = Ok l

-- of any numbers: where one is not finite both are refused
abbrev pub KeepsAnswers : Type 0
KeepsAnswers = (mode : ℕ) → mode ≢ plain → (p q : Pair) → Each Held p → Alike p q → without_place (call_in mode p) ≡ without_place (call_in mode q)
