-- Crossing of two segments, a1-a2 and b1-b2 (01, 'Crossing'): named as the mode has them, nothing where their boxes lie apart, else what the lines
-- have in common, clamped to the shared box, or Lost. It is a computation on binary64, not the exact crossing.
use Rattle.std.specs.Prelude.{cond, [], ◌∷◌, ℕ, ltb, Float, Err, Ok, Option, None, Result, Some}
use Rattle.refusals.specs.declared.Reason.TheVariants as Reason
use Rattle.refusals.specs.declared.Refusal.{Refusal}
use Rattle.numbers.specs.Binary64.{first_not_finite}
use Rattle.numbers.specs.declared.Coordinate.{Coordinate}
use Rattle.numbers.specs.declared.BoundingBox.{BoundingBox}
use Rattle.crossing.specs.declared.LineIntersection.{LineIntersection}
use Rattle.crossing.specs.declared.LineIntersection.TheVariants.{None as Nothing}
use Rattle.crossing.specs.declared.modes.Pair.{Pair}
use Rattle.crossing.specs.Boxes.{shared_box, constrained_to, or_lost}
use Rattle.crossing.specs.Lines.{intersection_impl}
use Rattle.crossing.specs.Modes.{segment, pair, named_in}

unfoldable pub in_box : Option BoundingBox → LineIntersection → LineIntersection
in_box None found = Nothing
in_box (Some bb) found = or_lost (constrained_to found bb)

-- of two segments as they are named
unfoldable pub intersection_of : Coordinate → Coordinate → Coordinate → Coordinate → LineIntersection
intersection_of a1 a2 b1 b2 = in_box (shared_box a1 a2 b1 b2) (intersection_impl a1 a2 b1 b2)

unfoldable pub intersection_of_pair : Pair → LineIntersection
intersection_of_pair p = intersection_of p.a.from p.a.to p.b.from p.b.to

-- in a mode
unfoldable pub intersection_in : ℕ → Coordinate → Coordinate → Coordinate → Coordinate → LineIntersection
intersection_in mode a1 a2 b1 b2 = intersection_of_pair (named_in mode (pair (segment a1 a2) (segment b1 b2)))

-- the public call on eight numbers: refusal 2 with the place of the first that is not finite, as the caller named them
unfoldable pub crossing_in : ℕ → Float → Float → Float → Float → Float → Float → Float → Float → Result LineIntersection Refusal
crossing_in mode ax ay bx by cx cy dx dy =
    let first = first_not_finite (ax ∷ ay ∷ bx ∷ by ∷ cx ∷ cy ∷ dx ∷ dy ∷ []) in
    cond (ltb first 8) (Err (record { reason = Reason.Coordinate; place = first }))
    (Ok (intersection_in mode (record { x = ax; y = ay }) (record { x = bx; y = by }) (record { x = cx; y = cy }) (record { x = dx; y = dy })))
