-- 01, 'Checked by hand (P: to be proved)': P10 and P11, on a pool of four places of which the segment holds two.
use Rattle.std.specs.Prelude.{◌≡◌, Bool, true, false, List, [], ◌∷◌, ℕ, Ok}
use Rattle.numbers.specs.declared.Point.{Point}
use Rattle.events.specs.Binary64.{at_binary64}
use Rattle.events.specs.Store.{look}
use Rattle.events.specs.Pool.{Pool, pool, stored}
use Rattle.division.specs.Division.{After, divide}

-- ---- the patterns of the numbers

abbrev pub zero : ℕ
zero = 0

abbrev pub half : ℕ
half = 0x3fe0_0000_0000_0000

abbrev pub one : ℕ
one = 0x3ff0_0000_0000_0000

abbrev pub one_and_half : ℕ
one_and_half = 0x3ff8_0000_0000_0000

abbrev pub two : ℕ
two = 0x4000_0000_0000_0000

abbrev pub four : ℕ
four = 0x4010_0000_0000_0000

-- 2^-1074
abbrev pub least : ℕ
least = 1

abbrev pub at : ℕ → ℕ → Point
at a b = record { x = a; y = b }

-- ---- the segment's two records, and two free places

abbrev pub marks : ℕ → ℕ → List ℕ
marks left partner = left ∷ 1 ∷ 0 ∷ partner ∷ 0 ∷ 0 ∷ 0 ∷ 0 ∷ 0 ∷ 0 ∷ 0 ∷ 0 ∷ []

abbrev pub segment : Point → Point → Pool
segment l r =
    pool ((l.x ∷ l.y ∷ []) ∷ (r.x ∷ r.y ∷ []) ∷ (zero ∷ zero ∷ []) ∷ (zero ∷ zero ∷ []) ∷ [])
    (marks 1 1 ∷ marks 0 0 ∷ marks 0 0 ∷ marks 0 0 ∷ [])

-- the flags of the four records
abbrev pub flags_of : After Pool → List Bool
flags_of after = flag 0 ∷ flag 1 ∷ flag 2 ∷ flag 3 ∷ []
  where
    flag : ℕ → Bool
    flag r = (look stored after.store after.used r).left

-- a division done with both new ends at a point, and the flags of the four records after it
pub record Cut (after : After Pool) (moved swapped : Bool) (p : Point) (flags : List Bool) : Type 0 where
  pub answer_is : after.answer ≡ Ok (record { right = 2; left = 3; moved = moved; swapped = swapped })
  pub right_at : (look stored after.store after.used 2).point ≡ p
  pub left_at : (look stored after.store after.used 3).point ≡ p
  pub flags_are : flags_of after ≡ flags

-- (0,1)-(4,0) cut at (0,0.5): the cut becomes (2^-1074,0.5)
abbrev pub P10 : Type 0
P10 = Cut (divide at_binary64 stored (segment (at zero one) (at four zero)) 2 0 (at zero half)) true false (at least half) (true ∷ false ∷ false ∷ true ∷ [])

-- (0,0)-(2,1) cut at (2,1.5): flags change places
abbrev pub P11 : Type 0
P11 = Cut (divide at_binary64 stored (segment (at zero zero) (at two one)) 2 0 (at two one_and_half)) false true (at two one_and_half) (true ∷ true ∷ false ∷ false ∷ [])
