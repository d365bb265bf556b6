-- Of two long numbers the larger has the larger word at the highest place where they differ.
use mathlib.Core.Path.{◌≡◌, ◌∙◌}
use mathlib.Core.List.{List, [], ◌∷◌}
use Prim.Native.Nat.{ℕ, zero, suc, ◌+◌, ◌*◌, ◌^◌, ◌-◌, ◌<◌, ◌≤◌}
use native.Mathlib.Nat.{mul_assoc, mul-add, mul-suc, mul-le-mul_left, mul-zero}
use native.Mathlib.Omega.{arith}
use lib.ListN.{get_or, take, drop}
use lib.Seq.{drop-cons}
use Rattle.orientation.specs.Words.{value, Small, Long, weight, words}
use Rattle.orientation.proofs.Carries.{weight-zero, weight-suc}

-- the words below i and those from i on
value-split : (l : List ℕ) (i : ℕ) → value l ≡ value (take i l) + weight i * value (drop i l)
unfolding value
value-split l zero = rw weight-zero (omega arith)
value-split [] (suc i) = rw mul-zero
value-split (x ∷ xs) (suc i) = rw (weight-suc, mul_assoc) (omega (arith, value-split xs i))

value-below : (l : List ℕ) (i : ℕ) → Small l → value (take i l) < weight i
unfolding value
value-below l zero s = rw weight-zero (omega arith)
value-below [] (suc i) s = rw weight-suc (omega (arith, value-below [] i s))
value-below (x ∷ xs) (suc i) s = rw weight-suc (omega (arith, value-below xs i (λ k. s (suc k)), s zero))

by_word : (a b x y d W : ℕ) → b < W → y < x → b + W * (y + 2 ^ 32 * d) < a + W * (x + 2 ^ 32 * d)
by_word a b x y d W h k = rw (mul-add W y, mul-add W x) (omega (arith, rw mul-suc at (mul-le-mul_left W k)))

-- two numbers that are the same from the word i on, compared by the word before it
module _ (p n : List ℕ) (hp : Long p) (hn : Long n) (i : ℕ) (some : 0 < i) (most : i ≤ words) (e : value (drop i p) ≡ value (drop i n)) where
  from_last : (l : List ℕ) → Long l → drop (i - 1) l ≡ get_or l (i - 1) 0 ∷ drop i l
  from_last l h =
      let back : suc (i - 1) ≡ i = omega arith in
      drop-cons l (i - 1) 0 (omega (arith, h.all)) ∙ rw back

  pub larger : get_or n (i - 1) 0 < get_or p (i - 1) 0 → value n < value p
  unfolding value
  larger k =
      let rest = value-below n (i - 1) hn.small in
      rw (value-split p (i - 1), value-split n (i - 1), from_last p hp, from_last n hn, e) (by_word (value (take (i - 1) p)) _ _ _ (value (drop i n)) _ rest k)

  pub same_from : get_or p (i - 1) 0 ≡ get_or n (i - 1) 0 → value (drop (i - 1) p) ≡ value (drop (i - 1) n)
  unfolding value
  same_from k = rw (from_last p hp, from_last n hn, e, k)
