-- A number by its sign, digits and shift. Cited by private functions alone: a reader of the promise need not read it.
use Rattle.std.specs.Prelude.{◌≡◌, Bool, ℕ, ◌*◌, ◌^◌, ◌<◌, ◌≤◌, Float}
use Rattle.numbers.specs.Exact.{size, negative}

-- x is digits * 2^shift in units of 2^-1074, below zero where minus
pub record PartOf (x : Float) (minus : Bool) (digits shift : ℕ) : Type 0 where
  pub sign : minus ≡ negative x
  pub small : digits < 2 ^ 53
  pub near : shift ≤ 2045
  pub is : digits * 2 ^ shift ≡ size x
