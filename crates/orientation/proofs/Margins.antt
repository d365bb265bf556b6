-- How far roundings carry, over any numbers: a factor l / m below and u / m above for each, multiplied up along a product of two differences. At the end
-- three of them on each side and one for the margin stand against the margin h' / h.
use mathlib.Core.Path.{◌≡◌, sym}
use Prim.Native.Nat.{ℕ, ◌+◌, ◌*◌, ◌≤◌, ◌<◌}
use native.Mathlib.Nat.{le_trans, le_of_eq, mul_comm, mul_assoc, mul_left_comm, add-mul, one-mul, mul-le-mul, mul-le-mul_left, mul-lt-mul_of_pos_right, lt_of_mul-lt-mul_left}
use native.Mathlib.Omega.{arith}

-- a and b are d and e to within one rounding, and f is a * b to within one: f is d * e to within three
pub over-three : (m u a b d e f : ℕ) → m * a ≤ u * d → m * b ≤ u * e → m * f ≤ u * (a * b) → m * m * m * f ≤ u * u * u * (d * e)
over-three m u a b d e f A B F =
    let both : m * a * (m * b) ≤ u * d * (u * e) = mul-le-mul A B in
    le_trans (le_of_eq (mul_assoc (m * m) m f))
    (le_trans (mul-le-mul_left (m * m) F)
    (le_trans (le_of_eq (simp (mul_assoc, mul_left_comm)))
    (le_trans (mul-le-mul_left u both) (le_of_eq (simp (mul_assoc, mul_left_comm))))))

pub under-three : (l m a b d e f : ℕ) → l * d ≤ m * a → l * e ≤ m * b → l * (a * b) ≤ m * f → l * l * l * (d * e) ≤ m * m * m * f
under-three l m a b d e f A B F =
    let both : l * d * (l * e) ≤ m * a * (m * b) = mul-le-mul A B in
    le_trans (le_of_eq (simp (mul_assoc, mul_left_comm)))
    (le_trans (mul-le-mul_left l both)
    (le_trans (le_of_eq (simp (mul_assoc, mul_left_comm)))
    (le_trans (mul-le-mul_left (m * m) F) (le_of_eq (sym (mul_assoc (m * m) m f))))))

-- q and p are the rounded products for the exact r and x, in w parts; q by the margin is not above p, and one unit is small beside p
pub margin-holds : (l m u h h' c w q p x r : ℕ) → 0 < x
    → l * l * l * r ≤ m * m * m * ((q + 1) * w) → l * (q * h') ≤ m * (p * h) → l * h' ≤ c * p → m * m * m * (p * w) ≤ u * u * u * x
    → u * u * u * (m * h + c) < l * l * l * (l * h') → r < x
margin-holds l m u h h' c w q p x r some Q M C P narrow =
    let k = l * l * l * (l * h') in
    let j = m * h + c in
    let one : k * r ≤ l * h' * (m * m * m * ((q + 1) * w)) = le_trans (le_of_eq (simp (mul_assoc, mul_left_comm))) (mul-le-mul_left (l * h') Q) in
    let scaled : q * (l * h') ≤ m * h * p = le_trans (le_of_eq (simp (mul_comm, mul_left_comm))) (le_trans M (le_of_eq (simp (mul_assoc, mul_comm)))) in
    let two : (q + 1) * (l * h') ≤ j * p = rw (add-mul q 1 (l * h'), one-mul (l * h'), add-mul (m * h) c p) (both (q * (l * h')) (l * h') (m * h * p) (c * p) scaled C) in
    let three : l * h' * (m * m * m * ((q + 1) * w)) ≤ m * m * m * w * (j * p) = le_trans (le_of_eq (to_front (l * h') (m * m * m) (q + 1) w)) (mul-le-mul_left (m * m * m * w) two) in
    let four : m * m * m * w * (j * p) ≤ j * (u * u * u * x) = le_trans (le_of_eq (to_back (m * m * m) w j p)) (mul-le-mul_left j P) in
    let five : u * u * u * j * x < k * x = mul-lt-mul_of_pos_right narrow some in
    lt_of_mul-lt-mul_left k (le-lt (le_trans one (le_trans three (le_trans four (le_of_eq (simp (mul_assoc, mul_comm, mul_left_comm)))))) five)
  where
    le-lt : {a b d : ℕ} → a ≤ b → b < d → a < d
    le-lt e f = omega arith

    both : (a b d e : ℕ) → a ≤ d → b ≤ e → a + b ≤ d + e
    both a b d e f g = omega arith

    to_front : (a b d e : ℕ) → a * (b * (d * e)) ≡ b * e * (d * a)
    to_front a b d e = simp (mul_assoc, mul_comm, mul_left_comm)

    to_back : (a b d e : ℕ) → a * b * (d * e) ≡ d * (a * (e * b))
    to_back a b d e = simp (mul_assoc, mul_comm, mul_left_comm)
