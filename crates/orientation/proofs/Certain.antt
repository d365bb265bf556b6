-- Where the tests in plain floats pass, they tell the exact sign. A number that is not finite passes none of them wrongly: it goes into no finite product,
-- and into no difference that is zero; and equal numbers count as equal, infinities as well.
use mathlib.Core.Path.{◌≡◌, refl, sym, ◌∙◌}
use mathlib.Core.Bool.{Bool, true, false, cond, true≢false, false≢true}
use mathlib.Core.Logic.{◌⊎◌, inl, inr, ⊎_elim}
use Prim.Native.Nat.{ℕ, ◌+◌, ◌*◌, ◌^◌, ◌<◌}
use native.Mathlib.Nat.{zero-mul, mul-zero, zero-add, add-zero, mul_comm}
use native.Mathlib.Omega.{arith}
use borrow.Author.Tests.{ltb-true, eqb-true}
use lib.Dec.{T}
use lib.IntN.{ℤ, ◌-ℤ◌, ◌*ℤ◌}
use lib.Ieee.{Float, nan, inf, fin, binary64, odd, sub, mul, neg, lt, eq, fits, of_bits, of_fields}
use lib.Ieee.Fits.{sub-fits}
use Rattle.numbers.specs.Binary64 as Binary64
use Rattle.numbers.specs.Binary64.{Finite, not_finite, huge}
use Rattle.numbers.specs.Exact.{size, negative, whole}
use Rattle.numbers.proofs.Place.{place, shift, place_is, lt-place, eq-place}
use Rattle.numbers.proofs.Between.{strictly-between, sub-finite}
use Rattle.numbers.proofs.Rounding.{near_none}
use Rattle.numbers.proofs.Subtraction.{sub-near}
use Rattle.orientation.specs.declared.Sign.TheVariants.{Negative, Zero, Positive}
use Rattle.orientation.specs.Orientation.{sign_of}
use Rattle.orientation.specs.Quick.{margin, tiny, certainly_above, exactly_zero}
use Rattle.orientation.proofs.Differences as Differences
use Rattle.orientation.proofs.Differences.{Diff, moved, same, minus, times, parts, whole_is}
use Rattle.orientation.proofs.Signs as Signs
use Rattle.orientation.proofs.Factors.{product, exact, Held, Factors, factors, some, apart-is, margin-sign, margin-below, margin-above, larger}

-- ---- the constants
finite-tiny : Finite tiny
unfolding not_finite fits of_bits of_fields odd
finite-tiny = record { held = tt; finite = refl }

finite-minus-tiny : Finite (neg tiny)
unfolding not_finite fits of_bits of_fields odd neg
finite-minus-tiny = record { held = tt; finite = refl }

finite-zero : Finite Binary64.zero
unfolding not_finite fits of_bits of_fields odd
finite-zero = record { held = tt; finite = refl }

tiny-place : 2 ^ 53 + shift ≡ place tiny
unfolding size negative of_bits of_fields odd
tiny-place = place_is tiny finite-tiny ∙ add-zero (place tiny)

minus-tiny-place : shift ≡ place (neg tiny) + 2 ^ 53
unfolding size negative of_bits of_fields odd neg
minus-tiny-place = sym (zero-add shift) ∙ place_is (neg tiny) finite-minus-tiny

zero-place : shift ≡ place Binary64.zero
unfolding size negative of_bits of_fields odd
zero-place = sym (zero-add shift) ∙ place_is Binary64.zero finite-zero ∙ add-zero (place Binary64.zero)

-- ---- finite numbers by their places
before : {x y : Float} → Finite x → Finite y → lt x y ≡ true → place x < place y
before {x} {y} X Y t = ltb-true (place x) (place y) (sym (lt-place x y X Y) ∙ t)

up-place : {x : Float} → Finite x → negative x ≡ false → size x + shift ≡ place x
up-place {x} X e = (rw e at (place_is x X)) ∙ add-zero (place x)

down-place : {x : Float} → Finite x → negative x ≡ true → shift ≡ place x + size x
down-place {x} X e = sym (zero-add shift) ∙ (rw e at (place_is x X))

above-tiny : (x : Float) → Finite x → lt tiny x ≡ true → (negative x ≡ false) × (2 ^ 53 < size x)
above-tiny x X t = go (negative x) refl
  where
    l : place tiny < place x
    l = before finite-tiny X t

    go : (s : Bool) → negative x ≡ s → (s ≡ false) × (2 ^ 53 < size x)
    go false e = (refl, omega (arith, l, up-place X e, tiny-place))
    go true e = absurd (omega (arith, l, down-place X e, tiny-place))

below-tiny : (y : Float) → Finite y → lt y (neg tiny) ≡ true → (negative y ≡ true) × (2 ^ 53 < size y)
below-tiny y Y t = go (negative y) refl
  where
    l : place y < place (neg tiny)
    l = before Y finite-minus-tiny t

    go : (s : Bool) → negative y ≡ s → (s ≡ true) × (2 ^ 53 < size y)
    go true e = (refl, omega (arith, l, down-place Y e, minus-tiny-place))
    go false e = absurd (omega (arith, l, up-place Y e, minus-tiny-place))

-- ---- ±n is above ±k
abbrev Above : Bool → ℕ → Bool → ℕ → Type 0
Above s n t k = cond s n 0 + cond t 0 k < cond s 0 n + cond t k 0

-- x is above zero and not tiny, or y is below it and not tiny
abbrev Clear : Float → Float → Type 0
Clear x y = ((negative x ≡ false) × (2 ^ 53 < size x)) ⊎ ((negative y ≡ true) × (2 ^ 53 < size y))

module _ {a b c d e f g h : Float} (P : Factors a b c d) (R : Factors e f g h) where
  abbrev x : Float
  x = product a b c d

  abbrev y : Float
  y = product e f g h

  abbrev n : ℕ
  n = P.left * P.right

  abbrev k : ℕ
  k = R.left * R.right

  above : lt (mul binary64 y margin) x ≡ true → lt y (mul binary64 x margin) ≡ true → Clear x y → Above P.sign n R.sign k
  above i j clear = go P.sign R.sign P.rounded.sign R.rounded.sign clear
    where
      any : {m : ℕ} → 2 ^ 53 < m → 0 < m
      any l = omega arith

      over-positive : negative y ≡ false → Finite (mul binary64 y margin)
      over-positive t = margin-below y R.finite x t i

      go : (s t : Bool) → negative x ≡ s → negative y ≡ t → Clear x y → Above s n t k
      go false true p q (inl w) = let l = some P (any w.1) in omega arith
      go false true p q (inr w) = let l = some R (any w.1) in omega arith
      go false false p q (inr w) = absurd (false≢true (sym q ∙ w.0))
      go false false p q (inl w) =
          let m = over-positive q in
          let l : size (mul binary64 y margin) < size x =
          omega (arith, before m P.finite i, up-place m (margin-sign y R.finite m ∙ q), up-place P.finite p) in
          let r = larger P R m w.1 l in
          omega arith
      go true true p q (inl w) = absurd (true≢false (sym p ∙ w.0))
      go true true p q (inr w) =
          let m = margin-above x P.finite y p j in
          let l : size (mul binary64 x margin) < size y =
          omega (arith, before R.finite m j, down-place m (margin-sign x P.finite m ∙ p), down-place R.finite q) in
          let r = larger R P m w.1 l in
          omega arith
      go true false p q w =
          let m = over-positive q in
          absurd (omega (arith, before m P.finite i, up-place m (margin-sign y R.finite m ∙ q), down-place P.finite p))

-- ---- the tests
both : (p q : Bool) → cond p q false ≡ true → (p ≡ true) × (q ≡ true)
both true q h = (refl, h)
both false q h = absurd (false≢true h)

either : (p q : Bool) → cond p true q ≡ true → (p ≡ true) ⊎ (q ≡ true)
either true q h = inl refl
either false q h = inr h

module _ (a b c d e f g h : Float) (P : Held a b c d) (R : Held e f g h) where
  pub certain : certainly_above (product a b c d) (product e f g h) ≡ true
      → (sign_of (exact a b c d -ℤ exact e f g h) ≡ Positive) × (sign_of (exact e f g h -ℤ exact a b c d) ≡ Negative)
  unfolding certainly_above
  certain t =
      let x = product a b c d in
      let y = product e f g h in
      let one = both _ _ t in
      let two = both _ _ one.1 in
      let three = both _ _ two.1 in
      let four = both _ _ three.1 in
      let l = factors a b c d P (strictly-between _ x huge one.0 three.0) in
      let r = factors e f g h R (strictly-between (neg huge) y _ four.0 two.0) in
      let clear : Clear x y = ⊎_elim (λ w. inl (above-tiny x l.finite w)) (λ w. inr (below-tiny y r.finite w)) (either _ _ four.1) in
      let order = above l r one.0 two.0 clear in
      (Signs.positive (minus l.is r.is) order, Signs.negative (minus r.is l.is) (omega (arith, order)))

-- ---- a rounded difference that is zero
zero-finite : (u : Float) → eq u Binary64.zero ≡ true → not_finite u ≡ false
unfolding eq not_finite of_bits of_fields odd
zero-finite nan t = absurd (false≢true t)
zero-finite (inf s) t = absurd (false≢true t)
zero-finite (fin s m e) t = refl

zero-size : {u : Float} → Finite u → eq u Binary64.zero ≡ true → size u ≡ 0
zero-size {u} U t = go (negative u) refl
  where
    level : place u ≡ place Binary64.zero
    level = eqb-true (place u) (place Binary64.zero) (sym (eq-place u Binary64.zero U finite-zero) ∙ t)

    go : (s : Bool) → negative u ≡ s → size u ≡ 0
    go true e = omega (arith, level, down-place U e, zero-place)
    go false e = omega (arith, level, up-place U e, zero-place)

nothing : (s : Bool) (n : ℕ) {z : ℤ} → n ≡ 0 → Diff z (cond s 0 n) (cond s n 0) → Diff z 0 0
nothing true n e h = moved 0 0 (omega arith) h
nothing false n e h = moved 0 0 (omega arith) h

equal : (x y : Float) → T (fits binary64 x) → T (fits binary64 y) → eq (sub binary64 x y) Binary64.zero ≡ true → Diff (whole x -ℤ whole y) 0 0
equal x y hx hy t =
    let f = zero-finite (sub binary64 x y) t in
    let xy = sub-finite x y f in
    let X : Finite x = record { held = hx; finite = xy.0 } in
    let Y : Finite y = record { held = hy; finite = xy.1 } in
    let d = sub-near x y X Y f in
    let none = zero-size (record { held = sub-fits binary64 x y; finite = f }) t in
    nothing d.below d.apart (near_none d.apart (rw none at d.near)) (apart-is X Y d)

no-product : (a b c d : Float) → Held a b c d → exactly_zero (sub binary64 a b) (sub binary64 c d) ≡ true → Diff (exact a b c d) 0 0
unfolding exactly_zero
no-product a b c d h t = go (either _ _ t)
  where
    go : (eq (sub binary64 a b) Binary64.zero ≡ true) ⊎ (eq (sub binary64 c d) Binary64.zero ≡ true) → Diff (exact a b c d) 0 0
    go (inl e) = moved 0 0 (simp (zero-mul)) (times (equal a b h.first h.second e) (parts (whole c -ℤ whole d)))
    go (inr e) = moved 0 0 (simp (mul-zero)) (times (parts (whole a -ℤ whole b)) (equal c d h.third h.fourth e))

pub straight : (a b c d e f g h : Float) → Held a b c d → Held e f g h → exactly_zero (sub binary64 a b) (sub binary64 c d) ≡ true → exactly_zero (sub binary64 e f) (sub binary64 g h) ≡ true
    → sign_of (exact a b c d -ℤ exact e f g h) ≡ Zero
straight a b c d e f g h P R s t = Signs.none (minus (no-product a b c d P s) (no-product e f g h R t)) refl

-- ---- two points that are one
level : (x y : Float) → Finite x → Finite y → eq x y ≡ true → whole x ≡ whole y
level x y X Y t =
    let e : place x ≡ place y = eqb-true (place x) (place y) (sym (eq-place x y X Y) ∙ t) in
    same (whole_is x) (whole_is y) (omega (arith, place_is x X, place_is y Y))

whole-eq : (x y : Float) → T (fits binary64 x) → T (fits binary64 y) → eq x y ≡ true → whole x ≡ whole y
unfolding eq not_finite size negative
whole-eq nan y hx hy t = absurd (false≢true t)
whole-eq (inf s) nan hx hy t = absurd (false≢true t)
whole-eq (inf s) (inf r) hx hy t = refl
whole-eq (inf s) (fin r n d) hx hy t = absurd (false≢true t)
whole-eq (fin s m e) nan hx hy t = absurd (false≢true t)
whole-eq (fin s m e) (inf r) hx hy t = absurd (false≢true t)
whole-eq (fin s m e) (fin r n d) hx hy t = level (fin s m e) (fin r n d) (record { held = hx; finite = refl }) (record { held = hy; finite = refl }) t

crossed : (z w : ℤ) → sign_of (z *ℤ w -ℤ w *ℤ z) ≡ Zero
crossed z w =
    let p = Differences.above z in
    let n = Differences.below z in
    let q = Differences.above w in
    let m = Differences.below w in
    Signs.none (minus (times (parts z) (parts w)) (times (parts w) (parts z))) (omega (arith, mul_comm p q, mul_comm n m, mul_comm p m, mul_comm n q))

pub one-point : (ax bx ay by cx cy : Float) → Held ax bx ay by → cond (eq ax bx) (eq ay by) false ≡ true → sign_of (exact ax cx by cy -ℤ exact ay cy bx cx) ≡ Zero
one-point ax bx ay by cx cy h t =
    let e = both _ _ t in
    let x = whole-eq ax bx h.first h.second e.0 in
    let y = whole-eq ay by h.third h.fourth e.1 in
    rw (x, y) (crossed (whole bx -ℤ whole cx) (whole by -ℤ whole cy))
