-- Runs of words, so that many points are tested against one by a difference each: a word in the run is of a number lower than another word's, not higher, or
-- higher. A reader of the promises need not read this: what a word in a run tells is said in `proofs/Runs.antt`, and a word outside tells nothing.
use Rattle.std.specs.Prelude.{ℕ, ◌+◌, ◌-◌, ◌%◌, ◌^◌, Bool, cond, ◌&&◌, nat_lt}
use Rattle.numbers.specs.Next.{minus_zero}
use Rattle.events.specs.declared.points.Run.{Run}

-- the pattern of infinity
abbrev pub infinity : ℕ
infinity = 0x7ff0_0000_0000_0000

-- from the first word on, so many; behind the greatest comes 0
unfoldable pub in_run : Run → ℕ → Bool
in_run r w = nat_lt ((w + (2 ^ 64 - r.first)) % 2 ^ 64) r.many

-- the word of a finite number above zero; of one below
unfoldable pub above_zero : ℕ → Bool
above_zero w = nat_lt 0 w && nat_lt w infinity

unfoldable pub below_zero : ℕ → Bool
below_zero w = nat_lt minus_zero w && nat_lt w (minus_zero + infinity)

abbrev run : ℕ → ℕ → Run
run first many = record { first = first; many = many }

-- lower than w; not higher; higher. A zero's word and one that is not finite counts as 0
unfoldable pub lower_words : ℕ → Run
lower_words w =
    cond (above_zero w) (run minus_zero (minus_zero + w)) (cond (below_zero w) (run (w + 1) (minus_zero + infinity - w - 1)) (run (minus_zero + 1) (infinity - 1)))

unfoldable pub at_most_words : ℕ → Run
at_most_words w =
    cond (above_zero w) (run minus_zero (minus_zero + w + 1)) (cond (below_zero w) (run w (minus_zero + infinity - w)) (run minus_zero (minus_zero + 1)))

unfoldable pub higher_words : ℕ → Run
higher_words w = cond (above_zero w) (run (w + 1) (infinity - w - 1)) (cond (below_zero w) (run 0 w) (run 1 (infinity - 1)))
