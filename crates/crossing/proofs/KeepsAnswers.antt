-- Whether one of eight numbers is not finite asks neither for their naming nor for a zero's sign; where none is, the answer keeps its bits.
use Rattle.std.proofs.Common.{Err, Ok, Result}
use Rattle.refusals.specs.declared.Reason.TheVariants as Reason
use Rattle.refusals.specs.declared.Refusal.{Refusal}
use mathlib.Core.Path.{◌≡◌, refl, sym, ap, ap₂, ◌∙◌}
use mathlib.Core.Bool.{Bool, true, false, ◌||◌, cond, true≢false, or_assoc, or_comm, or-false}
use mathlib.Core.List.{List, [], ◌∷◌}
use Prim.Native.Nat.compare
use Prim.Native.Nat.{ℕ, suc}
use native.Mathlib.Omega.{arith}
use borrow.Author.Tests.{lt-ltb}
use lib.Dec.{ltb}
use lib.ListN.{length}
use lib.Ieee.{Float}
use Rattle.numbers.specs.Binary64.{Held, Finite, not_finite, first_not_finite}
use Rattle.numbers.specs.Points.{unsigned_point}
use Rattle.numbers.specs.declared.Coordinate.{Coordinate}
use Rattle.numbers.proofs.SignOfZero.{not_finite-unsigned}
use Rattle.crossing.specs.declared.LineIntersection.{LineIntersection}
use Rattle.crossing.specs.declared.modes.Segment.{Segment}
use Rattle.crossing.specs.declared.modes.Pair.{Pair}
use Rattle.crossing.specs.Modes.{unsigned_segment}
use Rattle.crossing.specs.Crossing.{crossing_in}
use Rattle.crossing.specs.KeepsBits.{turned, swapped, renamed, unsigned_pair, Alike, EachOfPoint, EachOfSegment, Each}
use Rattle.crossing.specs.KeepsBits.{answer_in, call_in, without_place, KeepsAnswers}
use Rattle.crossing.proofs.KeepsBits.{keeps-bits}

-- ---- whether a number is not finite: of a point, of a segment, of two segments
abbrev stray_point : Coordinate → Bool
stray_point p = not_finite p.x || not_finite p.y

abbrev stray_segment : Segment → Bool
stray_segment s = stray_point s.from || stray_point s.to

abbrev stray : Pair → Bool
stray p = stray_segment p.a || stray_segment p.b

stray-unsigned : (p : Pair) → stray (unsigned_pair p) ≡ stray p
unfolding unsigned_pair unsigned_segment unsigned_point
stray-unsigned p = simp not_finite-unsigned

stray-turned : (t : Bool) (s : Segment) → stray_segment (turned t s) ≡ stray_segment s
stray-turned true s = or_comm (stray_point s.to) (stray_point s.from)
stray-turned false s = refl

stray-swapped : (t : Bool) (p : Pair) → stray (swapped t p) ≡ stray p
stray-swapped true p = or_comm (stray_segment p.b) (stray_segment p.a)
stray-swapped false p = refl

stray-alike : (p q : Pair) → Alike p q → stray q ≡ stray p
unfolding renamed
stray-alike p q k =
    let n = k.naming in
    sym (stray-unsigned q) ∙ ap stray k.numbers ∙ stray-unsigned (renamed n p) ∙ stray-swapped n.swapped _
    ∙ ap₂ ◌||◌ (stray-turned n.a_turned p.a) (stray-turned n.b_turned p.b)

-- where none is, all are finite
both : (a b : Bool) {P Q R S : Type 0} → (a ≡ false → P → R) → (b ≡ false → Q → S) → (a || b) ≡ false → P × Q → R × S
both true b f g e h = absurd (true≢false e)
both false b f g e h = (f refl h.0, g e h.1)

finite : (x : Float) → not_finite x ≡ false → Held x → Finite x
finite x e h = record { held = h; finite = e }

finite-point : (p : Coordinate) → stray_point p ≡ false → EachOfPoint Held p → EachOfPoint Finite p
finite-point p = both (not_finite p.x) (not_finite p.y) (finite p.x) (finite p.y)

finite-segment : (s : Segment) → stray_segment s ≡ false → EachOfSegment Held s → EachOfSegment Finite s
finite-segment s = both (stray_point s.from) (stray_point s.to) (finite-point s.from) (finite-point s.to)

finite-pair : (p : Pair) → stray p ≡ false → Each Held p → Each Finite p
finite-pair p = both (stray_segment p.a) (stray_segment p.b) (finite-segment p.a) (finite-segment p.b)

-- ---- the refusal, of a list and then of the call
unfoldable any_stray : List Float → Bool
any_stray [] = false
any_stray (x ∷ xs) = not_finite x || any_stray xs

-- the first that is not finite stands in the list where there is one
found : (xs : List Float) → ltb (first_not_finite xs) (length xs) ≡ any_stray xs
unfolding first_not_finite any_stray
found [] = refl
found (x ∷ xs) = go (not_finite x) (found xs)
  where
    go : (b : Bool) → ltb (first_not_finite xs) (length xs) ≡ any_stray xs
        → ltb (cond b 0 (suc (first_not_finite xs))) (suc (length xs)) ≡ (b || any_stray xs)
    go true e = lt-ltb 0 (suc (length xs)) (omega arith)
    go false e = rw compare.suc-suc e

-- in the call's order
abbrev numbers_of : Pair → List Float
numbers_of p = p.a.from.x ∷ p.a.from.y ∷ p.a.to.x ∷ p.a.to.y ∷ p.b.from.x ∷ p.b.from.y ∷ p.b.to.x ∷ p.b.to.y ∷ []

refused : (p : Pair) → ltb (first_not_finite (numbers_of p)) 8 ≡ stray p
unfolding any_stray
refused p = found (numbers_of p) ∙ simp (or_assoc, or-false)

-- the call's answer but for the place
abbrev outcome : LineIntersection → Bool → Result LineIntersection Refusal
outcome l b = cond b (Err (record { reason = Reason.Coordinate; place = 0 })) (Ok l)

call-is : (mode : ℕ) (p : Pair) → without_place (call_in mode p) ≡ outcome (answer_in mode p) (stray p)
unfolding crossing_in without_place
call-is mode p =
    let first = first_not_finite (numbers_of p) in
    go (ltb first 8) first (answer_in mode p) ∙ ap (outcome (answer_in mode p)) (refused p)
  where
    go : (b : Bool) (n : ℕ) (l : LineIntersection) → without_place (cond b (Err (record { reason = Reason.Coordinate; place = n })) (Ok l)) ≡ outcome l b
    go true n l = refl
    go false n l = refl

pub keeps-answers : KeepsAnswers
keeps-answers mode m p q h k = call-is mode p ∙ rw (stray-alike p q k) (go (stray p) refl) ∙ sym (call-is mode q)
  where
    go : (b : Bool) → stray p ≡ b → outcome (answer_in mode p) b ≡ outcome (answer_in mode q) b
    go true e = refl
    go false e = ap Ok (keeps-bits mode m p q (finite-pair p e h) k)
