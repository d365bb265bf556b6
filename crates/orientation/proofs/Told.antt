-- What each test in plain floats tells of three points whose numbers are binary64's, whatever else they are.
use mathlib.Core.Path.{◌≡◌, sym, subst}
use mathlib.Core.Bool.{true}
use lib.Dec.{T}
use lib.Ieee.{Float, binary64, fits, sub}
use Rattle.numbers.specs.declared.Coordinate.{Coordinate}
use Rattle.orientation.specs.declared.Sign.TheVariants.{Negative, Zero, Positive}
use Rattle.orientation.specs.Orientation.{signed_area}
use Rattle.orientation.specs.Quick.{certainly_above, exactly_zero, same_point}
use Rattle.orientation.proofs.Factors.{Held, product}
use Rattle.orientation.proofs.Certain.{certain, straight, one-point}

held : (x : Float) → fits binary64 x ≡ true → T (fits binary64 x)
held x e = subst T (sym e) tt

module _ (p0 p1 p2 : Coordinate) (ax : fits binary64 p0.x ≡ true) (ay : fits binary64 p0.y ≡ true) (bx : fits binary64 p1.x ≡ true) (by : fits binary64 p1.y ≡ true) (cx : fits binary64 p2.x ≡ true) (cy : fits binary64 p2.y ≡ true) where
  left : Held p0.x p2.x p1.y p2.y
  left = record { first = held p0.x ax; second = held p2.x cx; third = held p1.y by; fourth = held p2.y cy }

  right : Held p0.y p2.y p1.x p2.x
  right = record { first = held p0.y ay; second = held p2.y cy; third = held p1.x bx; fourth = held p2.x cx }

  ends : Held p0.x p1.x p0.y p1.y
  ends = record { first = held p0.x ax; second = held p1.x bx; third = held p0.y ay; fourth = held p1.y by }

  pub a_left_turn : certainly_above (product p0.x p2.x p1.y p2.y) (product p0.y p2.y p1.x p2.x) ≡ true → signed_area p0 p1 p2 ≡ Positive
  unfolding signed_area
  a_left_turn t = (certain _ _ _ _ _ _ _ _ left right t).0

  pub a_right_turn : certainly_above (product p0.y p2.y p1.x p2.x) (product p0.x p2.x p1.y p2.y) ≡ true → signed_area p0 p1 p2 ≡ Negative
  unfolding signed_area
  a_right_turn t = (certain _ _ _ _ _ _ _ _ right left t).1

  pub no_turn : exactly_zero (sub binary64 p0.x p2.x) (sub binary64 p1.y p2.y) ≡ true → exactly_zero (sub binary64 p0.y p2.y) (sub binary64 p1.x p2.x) ≡ true → signed_area p0 p1 p2 ≡ Zero
  unfolding signed_area
  no_turn s t = straight _ _ _ _ _ _ _ _ left right s t

  pub one_point : same_point p0 p1 ≡ true → signed_area p0 p1 p2 ≡ Zero
  unfolding signed_area same_point
  one_point t = one-point _ _ _ _ _ _ ends t

pub ruleset told = (a_left_turn, a_right_turn, no_turn, one_point)
