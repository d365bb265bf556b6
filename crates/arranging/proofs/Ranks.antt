-- A word's place in totalOrder tells the word, and minus zero is turned once.
use mathlib.Core.Path.{◌≡◌, refl, sym, ap, ◌∙◌}
use mathlib.Core.Bool.{Bool, true, false, cond}
use Prim.Native.Nat.{ℕ, ◌+◌, ◌-◌, ◌%◌, ◌≤◌, ◌<◌}
use native.Mathlib.Decide.{dec_lt}
use native.Mathlib.Omega.{arith}
use borrow.Author.Tests.{lt-ltb, le-ltb}
use lib.Dec.{eqb}
use Rattle.numbers.specs.Next.{minus_zero}
use Rattle.numbers.specs.Words.{unsigned_word}
use Rattle.arranging.specs.Order.{sign_bit, rank}
use Rattle.arranging.specs.Steps.{word_of}

abbrev pub Word : ℕ → Type 0
Word w = w < 18446744073709551616

-- ---- places

pub rank-plus : (w : ℕ) → w < sign_bit → rank w ≡ sign_bit + w
unfolding rank
rank-plus w h = rw (lt-ltb w sign_bit h)

pub rank-minus : (w : ℕ) → sign_bit ≤ w → rank w ≡ 18446744073709551615 - w
unfolding rank
rank-minus w h = rw (le-ltb w sign_bit h)

pub rank-small : (w : ℕ) → Word w → Word (rank w)
rank-small w h = go (dec_lt w sign_bit)
  where
    go : Dec (w < sign_bit) → Word (rank w)
    go (yes k) = omega (arith, rank-plus w k)
    go (no k) = omega (arith, rank-minus w (omega arith))

pub word_back : (w : ℕ) → Word w → word_of (rank w) ≡ w
unfolding word_of
word_back w h = go (dec_lt w sign_bit)
  where
    go : Dec (w < sign_bit) → word_of (rank w) ≡ w
    go (yes k) = let e = rank-plus w k in rw (le-ltb (rank w) sign_bit (omega arith)) (omega arith)
    go (no k) = let e = rank-minus w (omega arith) in rw (lt-ltb (rank w) sign_bit (omega arith)) (omega arith)

pub rank-injective : (v w : ℕ) → Word v → Word w → rank v ≡ rank w → v ≡ w
rank-injective v w h k e = sym (word_back v h) ∙ ap word_of e ∙ word_back w k

-- ---- minus zero

pub unsigned_small : (w : ℕ) → Word w → Word (unsigned_word w)
unfolding unsigned_word
unsigned_small w h = go (eqb (w % minus_zero) 0)
  where
    go : (b : Bool) → Word (cond b 0 w)
    go true = omega arith
    go false = h

pub unsigned-twice : (w : ℕ) → unsigned_word (unsigned_word w) ≡ unsigned_word w
unfolding unsigned_word
unsigned-twice w = go (eqb (w % minus_zero) 0) refl
  where
    go : (b : Bool) → eqb (w % minus_zero) 0 ≡ b → unsigned_word (cond b 0 w) ≡ cond b 0 w
    go true e = refl
    go false e = rw e
