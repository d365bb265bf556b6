-- A word holds a number by its bit pattern. A word that is not finite counts as 0, as in `Exact`, so that every word has a value and every order of words
-- is one; refusal 2 looks at the word itself.
use Rattle.std.specs.Prelude.{Bool, cond, ℕ, ◌%◌, eqb, Float}
use Rattle.std.specs.Float.{binary64}
use Rattle.std.specs.Float.Ieee.{of_bits, to_bits}
use Rattle.numbers.specs.declared.Coordinate.{Coordinate}
use Rattle.numbers.specs.declared.Point.{Point}
use Rattle.numbers.specs.Binary64.{zero, not_finite, unfit}
use Rattle.numbers.specs.Next.{minus_zero}

unfoldable pub value : ℕ → Float
value w = cond (not_finite (of_bits binary64 w)) zero (of_bits binary64 w)

unfoldable pub unfit_word : ℕ → Bool
unfit_word w = unfit (of_bits binary64 w)

-- minus zero, a sign with no size, becomes zero; every other word stays
unfoldable pub unsigned_word : ℕ → ℕ
unsigned_word w = cond (eqb (w % minus_zero) 0) 0 w

-- ---- points

unfoldable pub value_of : Point → Coordinate
value_of p = record { x = value p.x; y = value p.y }

unfoldable pub words_of : Coordinate → Point
words_of p = record { x = to_bits binary64 p.x; y = to_bits binary64 p.y }
