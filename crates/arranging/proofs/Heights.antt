-- The height of a word: its number's place among the whole numbers, infinities at both ends. Heights are in the order of places in totalOrder, minus zero turned.
use mathlib.Core.Path.{◌≡◌, refl, sym, ap, ◌∙◌}
use mathlib.Core.Bool.{Bool, true, false, cond}
use Prim.Native.Nat.{ℕ, ◌+◌, ◌-◌, ◌%◌, ◌^◌, ◌≤◌, ◌<◌}
use native.Mathlib.Decide.{dec_lt}
use native.Mathlib.Omega.{arith}
use borrow.Author.Tests.{eqb-true, eqb-false, lt-ltb, le-ltb, eq-eqb, ne_eqb, le-leb, lt-leb}
use lib.Dec.{leb, ltb, eqb}
use Rattle.numbers.specs.Next.{minus_zero}
use Rattle.numbers.specs.Words.{unsigned_word}
use Rattle.numbers.proofs.Place.{shift}
use Rattle.numbers.proofs.Patterns.{size_at, size_of, infinite, size-grows, size-keeps, size_none}
use Rattle.arranging.specs.Order.{sign_bit, rank}
use Rattle.arranging.proofs.Ranks.{Word, rank-plus, rank-minus, rank-injective}

unfoldable pub height : ℕ → ℕ
height w = cond (leb (2 ^ 63) w) (shift - size_of (w % 2 ^ 63)) (shift + size_of (w % 2 ^ 63))

height-plus : (w : ℕ) → w < sign_bit → height w ≡ shift + size_of w
unfolding height
height-plus w h = let own : w % 2 ^ 63 ≡ w = omega arith in rw (lt-leb (2 ^ 63) w h, own)

height-minus : (w : ℕ) → Word w → sign_bit ≤ w → height w ≡ shift - size_of (w - sign_bit)
unfolding height
height-minus w k h = let own : w % 2 ^ 63 ≡ w - sign_bit = omega arith in rw (le-leb (2 ^ 63) w h, own)

pub size-infinite : size_of infinite ≡ shift
unfolding size_of size_at shift
size-infinite = refl

-- a word that is no not-a-number's
pub record Number (w : ℕ) : Type 0 where
  pub word : Word w
  pub number : w % 2 ^ 63 ≤ infinite

-- ---- heights are in the order of places, but for minus zero

higher : (v w : ℕ) → Number v → Number w → (v ≡ sign_bit → ⊥) → rank v < rank w → height v < height w
higher v w h k n l = go (dec_lt v sign_bit) (dec_lt w sign_bit)
  where
    go : Dec (v < sign_bit) → Dec (w < sign_bit) → height v < height w
    go (yes p) (yes q) =
        let up = size-grows v w (omega (arith, rank-plus v p, rank-plus w q)) in omega (arith, height-plus v p, height-plus w q)
    go (yes p) (no q) = absurd (omega (arith, rank-plus v p, rank-minus w (omega arith)))
    go (no p) (yes q) =
        let some = size-grows 0 (v - sign_bit) (omega arith) in
        let most = size-keeps (v - sign_bit) infinite (omega (arith, h.word, h.number)) in
        omega (arith, height-minus v h.word (omega arith), height-plus w q, size_none, size-infinite)
    go (no p) (no q) =
        let down = size-grows (w - sign_bit) (v - sign_bit) (omega (arith, rank-minus v (omega arith), rank-minus w (omega arith), h.word)) in
        let most = size-keeps (v - sign_bit) infinite (omega (arith, h.word, h.number)) in
        omega (arith, height-minus v h.word (omega arith), height-minus w k.word (omega arith), size-infinite)

not-minus-zero : (w : ℕ) → unsigned_word w ≡ sign_bit → ⊥
unfolding unsigned_word
not-minus-zero w e = go (eqb (w % minus_zero) 0) refl e
  where
    go : (b : Bool) → eqb (w % minus_zero) 0 ≡ b → cond b 0 w ≡ sign_bit → ⊥
    go true p q = omega arith
    go false p q = eqb-false (w % minus_zero) 0 p (omega arith)

unsigned-number : (w : ℕ) → Number w → Number (unsigned_word w)
unfolding unsigned_word
unsigned-number w h = go (eqb (w % minus_zero) 0)
  where
    go : (b : Bool) → Number (cond b 0 w)
    go true = record { word = omega arith; number = omega arith }
    go false = h

-- either zero is in the middle
unsigned-height : (w : ℕ) → height (unsigned_word w) ≡ height w
unfolding unsigned_word height
unsigned-height w = go (eqb (w % minus_zero) 0) refl
  where
    middle : (b : Bool) → shift + 0 ≡ cond b (shift - 0) (shift + 0)
    middle true = omega arith
    middle false = refl

    go : (b : Bool) → eqb (w % minus_zero) 0 ≡ b → height (cond b 0 w) ≡ height w
    go true p = let none : w % 2 ^ 63 ≡ 0 = eqb-true (w % minus_zero) 0 p in rw (none, size_none) (middle (leb (2 ^ 63) w))
    go false p = refl

-- two tests that agree with two others, where one order is the other
tests : (a b c d : ℕ) → (a < b → c < d) → (a ≡ b → c ≡ d) → (b < a → d < c) → (ltb c d ≡ ltb a b) × (eqb c d ≡ eqb a b)
tests a b c d less same more = go (dec_lt a b) (dec_lt b a)
  where
    go : Dec (a < b) → Dec (b < a) → (ltb c d ≡ ltb a b) × (eqb c d ≡ eqb a b)
    go (yes p) q =
        let l = less p in
        (lt-ltb c d l ∙ sym (lt-ltb a b p), ne_eqb c d (λ (e : c ≡ d). omega arith) ∙ sym (ne_eqb a b (λ (e : a ≡ b). omega arith)))
    go (no p) (yes q) =
        let l = more q in
        (le-ltb c d (omega arith) ∙ sym (le-ltb a b (omega arith)), ne_eqb c d (λ (e : c ≡ d). omega arith) ∙ sym (ne_eqb a b (λ (e : a ≡ b). omega arith)))
    go (no p) (no q) =
        let l = same (omega arith) in
        (le-ltb c d (omega arith) ∙ sym (le-ltb a b (omega arith)), eq-eqb c d l ∙ sym (eq-eqb a b (omega arith)))

pub heights : (v w : ℕ) → Number v → Number w → (ltb (height v) (height w) ≡ ltb (rank (unsigned_word v)) (rank (unsigned_word w))) × (eqb (height v) (height w) ≡ eqb (rank (unsigned_word v)) (rank (unsigned_word w)))
heights v w h k =
    let p = unsigned-number v h in
    let q = unsigned-number w k in
    let i = unsigned-height v in
    let j = unsigned-height w in
    tests (rank (unsigned_word v)) (rank (unsigned_word w)) (height v) (height w)
    (λ l. rw (i, j) at (higher (unsigned_word v) (unsigned_word w) p q (not-minus-zero v) l))
    (λ e. rw (i, j) at (ap height (rank-injective (unsigned_word v) (unsigned_word w) p.word q.word e)))
    (λ l. rw (i, j) at (higher (unsigned_word w) (unsigned_word v) q p (not-minus-zero w) l))
