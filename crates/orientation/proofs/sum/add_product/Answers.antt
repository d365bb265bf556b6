-- The two rows are one product, and it fits beside the five that may be there.
use Prim.Native.Nat.{ℕ, ◌≤◌, ◌+◌, ◌*◌, ◌^◌, ◌/◌, ◌%◌, ◌<◌}
use native.Mathlib.Omega.{arith}
use mathlib.Core.List.{List}
use Rattle.orientation.specs.Words.{Within, value, weight, words, cap}
use Rattle.orientation.proofs.Products.{product-sum, product-cap, six-caps, room}
use Rattle.orientation.proofs.sum.add_product.Goals as goal

-- the two rows have room
fits : (acc : List ℕ) (x y shift : ℕ) → Within 5 acc → (x < 2 ^ 53) × (y < 2 ^ 53) × (shift ≤ 4090)
    → value acc + x % 2 ^ 32 * (y * 2 ^ (shift % 32)) * weight (shift / 32) + x / 2 ^ 32 * (y * 2 ^ (shift % 32)) * weight (shift / 32 + 1) < weight words
fits acc x y shift w b = room _ _ _ _ cap _ w.room (product-sum x y shift) (product-cap b.0 b.1 b.2) six-caps

pub add_row-requires-clause-q_bound_2 : goal.add_row-requires-clause-q_bound_2
add_row-requires-clause-q_bound_2 c =
    let y = c.spread-t.ensures in
    rw y.c_value (omega (arith, fits c.args.acc c.args.x c.args.y c.args.shift c.requires.within c.requires.x_bound))

pub add_row-requires-2-clause-q_bound_2 : goal.add_row-requires-2-clause-q_bound_2
add_row-requires-2-clause-q_bound_2 c =
    let y = c.spread-t.ensures in
    rw y.c_value (omega (arith, rw y.c_value at c.add_row.ensures.acc_after, fits c.args.acc c.args.x c.args.y c.args.shift c.requires.within c.requires.x_bound))

pub returns-clause-result_value : goal.returns-clause-result_value
returns-clause-result_value c =
    let y = c.spread-t.ensures in
    omega (arith, rw y.c_value at c.add_row-2.ensures.acc_after, rw y.c_value at c.add_row.ensures.acc_after, product-sum c.args.x c.args.y c.args.shift)
