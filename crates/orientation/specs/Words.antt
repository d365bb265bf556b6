-- The long sum as a list of words below 2 ^ 32, the lowest first. Cited by private functions alone: a reader of the promise need not read it.
use Rattle.std.specs.Prelude.{◌≡◌, List, [], ◌∷◌, ℕ, ◌+◌, ◌*◌, ◌^◌, ◌<◌, ◌≤◌, ℤ, pos, ◌+ℤ◌, ◌-ℤ◌, ◌*ℤ◌, get_or, length}
use Rattle.numbers.specs.Exact.{whole}
use Rattle.numbers.specs.declared.Coordinate.{Coordinate}

-- how many words a sum has
abbrev pub words : ℕ
words = 132

-- the number that the words stand for
unfoldable pub value : List ℕ → ℕ
value [] = 0
value (x ∷ xs) = x + 2 ^ 32 * value xs

-- what a word at i counts
unfoldable pub weight : ℕ → ℕ
weight i = 2 ^ (32 * i)

-- no word is too large
abbrev pub Small : List ℕ → Type 0
Small l = (k : ℕ) → get_or l k 0 < 2 ^ 32

-- the words of a sum, all of them
pub record Long (l : List ℕ) : Type 0 where
  pub all : length l ≡ words
  pub small : Small l

-- no product of two finite numbers is above this
unfoldable pub cap : ℕ
cap = 2 ^ 4196

-- a sum of at most k products
pub record Within (k : ℕ) (l : List ℕ) : Type 0 where
  pub long : Long l
  pub room : value l ≤ k * cap

-- a number of three words
abbrev pub three : ℕ → ℕ → ℕ → ℕ
three a b c = a + 2 ^ 32 * b + 2 ^ 64 * c

pub record SmallThree (a b c : ℕ) : Type 0 where
  pub low : a < 2 ^ 32
  pub mid : b < 2 ^ 32
  pub high : c < 2 ^ 32

-- what two sums stand for: one for what is added, one for what is taken away
unfoldable pub total : List ℕ → List ℕ → ℤ
total p n = pos (value p) -ℤ pos (value n)

-- z is added to p - n, by k products
pub record Added (k : ℕ) (z : ℤ) (p n p' n' : List ℕ) : Type 0 where
  pub long : Long p'
  pub long' : Long n'
  pub is : total p' n' ≡ total p n +ℤ z
  pub least : value p' ≤ value p + k * cap
  pub least' : value n' ≤ value n + k * cap

-- twice the area of the triangle of 0, a and b
abbrev pub cross : Coordinate → Coordinate → ℤ
cross a b = whole a.x *ℤ whole b.y -ℤ whole a.y *ℤ whole b.x
