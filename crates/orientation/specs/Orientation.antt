-- Orientation: the sign of the exact (ax-cx)(by-cy)-(ay-cy)(bx-cx); positive is a left turn from a by b to c.
-- Each finite number is a whole multiple of 2^-1074, so the sign is that of a whole number: nothing is rounded, and nothing overflows or underflows.
-- It is not the area: only the sign is told. `signed_area` counts a number that is not finite as 0; `orientation_of`, for numbers from outside, refuses it.
use Rattle.std.specs.Prelude.{cond, [], ◌∷◌, zero, suc, ltb, ℤ, pos, negsuc, ◌-ℤ◌, ◌*ℤ◌, Float, Err, Ok, Result}
use Rattle.refusals.specs.declared.Reason.TheVariants as Reason
use Rattle.refusals.specs.declared.Refusal.{Refusal}
use Rattle.numbers.specs.Binary64.{first_not_finite}
use Rattle.numbers.specs.Exact.{whole}
use Rattle.numbers.specs.declared.Coordinate.{Coordinate}
use Rattle.orientation.specs.declared.Sign.{Sign}
use Rattle.orientation.specs.declared.Sign.TheVariants.{Negative, Zero, Positive}

unfoldable pub sign_of : ℤ → Sign
sign_of (pos zero) = Zero
sign_of (pos (suc n)) = Positive
sign_of (negsuc n) = Negative

-- the number for each answer
unfoldable pub number_of : Sign → ℤ
number_of Negative = negsuc 0
number_of Zero = pos 0
number_of Positive = pos 1

-- the sign for three points of any numbers
unfoldable pub signed_area : Coordinate → Coordinate → Coordinate → Sign
signed_area a b c =
    sign_of ((whole a.x -ℤ whole c.x) *ℤ (whole b.y -ℤ whole c.y) -ℤ (whole a.y -ℤ whole c.y) *ℤ (whole b.x -ℤ whole c.x))

-- refusal 2 with which of the six is the first that is not finite, from 0; else the turn
unfoldable pub orientation_of : Float → Float → Float → Float → Float → Float → Result Sign Refusal
orientation_of ax ay bx by cx cy =
    let place = first_not_finite (ax ∷ ay ∷ bx ∷ by ∷ cx ∷ cy ∷ []) in
    cond (ltb place 6)
    (Err (record { reason = Reason.Coordinate; place = place }))
    (Ok (signed_area (record { x = ax; y = ay }) (record { x = bx; y = by }) (record { x = cx; y = cy })))
