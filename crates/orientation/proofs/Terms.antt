-- A term is added by adding the product of the sizes to one of the two sums, by the signs of its factors.
use mathlib.Core.Path.{◌≡◌}
use mathlib.Core.Bool.{Bool, true, false, cond}
use mathlib.Core.List.{List}
use Prim.Native.Nat.{ℕ, ◌+◌, ◌*◌, ◌^◌, ◌≤◌}
use native.Mathlib.Nat.{mul_assoc, mul_left_comm}
use native.Mathlib.Omega.{arith}
use lib.IntN.{◌*ℤ◌}
use lib.Pow.{pow-add}
use lib.Ieee.{Float, unlike}
use Rattle.numbers.specs.Exact.{size, negative, whole}
use Rattle.orientation.specs.Parts.{PartOf}
use Rattle.orientation.specs.Words.{value, Long, Added, cap, total}
use Rattle.orientation.proofs.Differences.{Diff, moved, same, plus, minus, natural, signed-times, whole_is}
use Rattle.orientation.proofs.Products.{product-cap}

-- the number that two sums stand for is their difference
pub total-is : (p n : List ℕ) → Diff (total p n) (value p) (value n)
unfolding total
total-is p n = moved (value p) (value n) (omega arith) (minus (natural (value p)) (natural (value n)))

four : (a b c d : ℕ) → a * b * (c * d) ≡ a * c * (b * d)
four a b c d = rw (mul_assoc a b, mul_left_comm b c d, ← mul_assoc a c)

at_most : (b : Bool) (m c : ℕ) → m ≤ c → (cond b 0 m ≤ c) × (cond b m 0 ≤ c)
at_most true m c h = (omega arith, h)
at_most false m c h = (h, omega arith)

-- the product goes to neg where the signs differ, else to pos
module _ {x y : Float} {s t : Bool} {dx kx dy ky : ℕ} (px : PartOf x s dx kx) (py : PartOf y t dy ky) where
  product-of : dx * dy * 2 ^ (kx + ky) ≡ size x * size y
  product-of = rw (pow-add, four dx dy, px.is, py.is)

  product_is : {apart : Bool} → unlike s t ≡ apart → Diff (whole x *ℤ whole y) (cond apart 0 (dx * dy * 2 ^ (kx + ky))) (cond apart (dx * dy * 2 ^ (kx + ky)) 0)
  product_is e = rw (← e, px.sign, py.sign, product-of) (signed-times (negative x) (negative y) (size x) (size y) (whole_is x) (whole_is y))

  pub added : {apart : Bool} {p n p' n' : List ℕ} → unlike s t ≡ apart → Long p' → Long n' → value p' ≡ value p + cond apart 0 (dx * dy * 2 ^ (kx + ky))
      → value n' ≡ value n + cond apart (dx * dy * 2 ^ (kx + ky)) 0 → Added 1 (whole x *ℤ whole y) p n p' n'
  added {apart} {p} {n} {p'} {n'} e lp ln ep en =
      let near : kx + ky ≤ 4090 = omega arith in
      let small = at_most apart (dx * dy * 2 ^ (kx + ky)) cap (product-cap px.small py.small near) in
      record {
        long = lp;
        long' = ln;
        is = same (total-is p' n') (plus (total-is p n) (product_is e)) (omega arith);
        least = omega arith;
        least' = omega arith;
      }
