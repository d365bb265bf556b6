-- 01, 'Checked by hand (P: to be proved)': P1 to P11, in a mode of crossing (02, #102). Each row is about the definition that the public call is proved
-- equal to.
use Rattle.std.specs.Prelude.{◌≡◌, true, false, cond, List, [], ◌∷◌, ℕ, zero as nought, suc, eqb, pos, negsuc, Float}
use Rattle.std.specs.Float.{fin}
use Rattle.numbers.specs.declared.Coordinate.{Coordinate}
use Rattle.orientation.specs.Orientation as Orientation
use Rattle.orientation.specs.Orientation.{signed_area}
use Rattle.crossing.specs.declared.LineIntersection.{LineIntersection}
use Rattle.crossing.specs.Crossing.{intersection_in}
use Rattle.crossing.specs.Modes.{plain, ordered}
use Rattle.crossing.specs.Answer.{number_of, values_of}
use Rattle.division.specs.Worked as Division

-- ---- the numbers of the table: `fin s m e` is m * 2^e, negative where s is true

abbrev pub zero : Float
zero = fin false 0 (pos 0)

abbrev pub one : Float
one = fin false 1 (pos 0)

abbrev pub two : Float
two = fin false 1 (pos 1)

abbrev pub three : Float
three = fin false 3 (pos 0)

-- 2^-n, for n above 0
abbrev pub small : ℕ → Float
small (suc n) = fin false 1 (negsuc n)
small nought = one

abbrev pub at : Float → Float → Coordinate
at a b = record { x = a; y = b }

-- ---- the answers, by their numbers: of a crossing 0 None, 1 Point, 2 Overlap, 3 Lost; of an orientation -1 negative

pub record Is (found : LineIntersection) (number : ℕ) (values : List Float) : Type 0 where
  pub number_is : number_of found ≡ number
  pub values_are : values_of found ≡ values

-- P4 alone depends on the mode: where the segments change places, it is P5
abbrev pub P4_number : ℕ → ℕ
P4_number mode = cond (eqb mode plain) 0 2

abbrev pub P4_values : ℕ → List Float
P4_values mode = cond (eqb mode plain) [] (one ∷ one ∷ one ∷ one ∷ [])

pub record Crossings (mode : ℕ) : Type 0 where
  -- (0,0)-(2,2) with (0,2)-(2,0): Point (1,1)
  pub P1 : Is (intersection_in mode (at zero zero) (at two two) (at zero two) (at two zero)) 1 (one ∷ one ∷ [])
  -- (0,0)-(1,0) with (1,0)-(2,0): Point (1,0)
  pub P2 : Is (intersection_in mode (at zero zero) (at one zero) (at one zero) (at two zero)) 1 (one ∷ zero ∷ [])
  -- (0,0)-(2,0) with (1,0)-(3,0): Overlap (1,0), (2,0)
  pub P3 : Is (intersection_in mode (at zero zero) (at two zero) (at one zero) (at three zero)) 2 (one ∷ zero ∷ two ∷ zero ∷ [])
  -- (1,1)-(1,1) with (0,0)-(2,2): plain 0/0, None; ordered as P5
  pub P4 : Is (intersection_in mode (at one one) (at one one) (at zero zero) (at two two)) (P4_number mode) (P4_values mode)
  -- the other way round: Overlap (1,1), (1,1)
  pub P5 : Is (intersection_in mode (at zero zero) (at two two) (at one one) (at one one)) 2 (one ∷ one ∷ one ∷ one ∷ [])
  -- (0,0)-(2,2) with (0,1)-(2,3): None
  pub P6 : Is (intersection_in mode (at zero zero) (at two two) (at zero one) (at two three)) 0 []
  -- d = 2^-300, (0,0)-(d,d) with (0,d)-(d,0): the squares vanish, Overlap of (d/2,d/2) twice
  pub P7 : Is (intersection_in mode (at zero zero) (at (small 300) (small 300)) (at zero (small 300)) (at (small 300) zero)) 2 (small 301 ∷ small 301 ∷ small 301 ∷ small 301 ∷ [])
  -- (-2^1023,0)-(2^1023,0) with (0,-1)-(0,1): Lost
  pub P8 : Is (intersection_in mode (at (fin true 1 (pos 1023)) zero) (at (fin false 1 (pos 1023)) zero) (at zero (fin true 1 (pos 0))) (at zero one)) 3 []

pub record Table : Type 0 where
  pub plainly : Crossings plain
  pub in_order : Crossings ordered
  -- orientation of (1,1), (2,2), (2^-60,0): negative
  pub P9 : Orientation.number_of (signed_area (at one one) (at two two) (at (small 60) zero)) ≡ negsuc 0
  -- (0,1)-(4,0) cut at (0,0.5): the cut becomes (2^-1074,0.5)
  pub P10 : Division.P10
  -- (0,0)-(2,1) cut at (2,1.5): flags change places
  pub P11 : Division.P11
