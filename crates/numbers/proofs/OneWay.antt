-- Of two numbers only one is less than the other, infinities among them; then they are not equal, and neither is a not-a-number.
use mathlib.Core.Path.{◌≡◌, refl}
use mathlib.Core.Bool.{Bool, true, false, ◌&&◌, ◌||◌, false≢true}
use Prim.Native.Nat.{ℕ, ◌+◌}
use native.Mathlib.Omega.{arith}
use borrow.Author.Tests.{ltb-true, le-ltb, eqb-true, eq-eqb, ne_eqb}
use lib.Dec.{eqb, ltb}
use lib.Ieee.{Float, nan, inf, fin, below, level, lt, le, eq, ne}

less_one_way : (a b : ℕ) → ltb a b ≡ true → ltb b a ≡ false
less_one_way a b h = le-ltb b a (omega (arith, ltb-true a b h))

below_one_way : (s : Bool) (a : ℕ) (t : Bool) (b : ℕ) → below s a t b ≡ true → below t b s a ≡ false
below_one_way false a false b h = less_one_way a b h
below_one_way false a true b h = absurd (false≢true h)
below_one_way true a false b h = refl
below_one_way true a true b h = less_one_way b a h

pub one_way : (x y : Float) → lt x y ≡ true → lt y x ≡ false
unfolding lt
one_way nan y h = absurd (false≢true h)
one_way (inf s) nan h = absurd (false≢true h)
one_way (inf true) (inf true) h = absurd (false≢true h)
one_way (inf true) (inf false) h = refl
one_way (inf false) (inf t) h = absurd (false≢true h)
one_way (inf true) (fin t n d) h = refl
one_way (inf false) (fin t n d) h = absurd (false≢true h)
one_way (fin s m e) nan h = absurd (false≢true h)
one_way (fin s m e) (inf true) h = absurd (false≢true h)
one_way (fin s m e) (inf false) h = refl
one_way (fin s m e) (fin t n d) h = below_one_way s _ t _ h

-- ---- not equal

below_apart : (s : Bool) (a : ℕ) (t : Bool) (b : ℕ) → below s a t b ≡ true → level t b s a ≡ false
below_apart false a false b h = rw (ne_eqb b a (λ (e : b ≡ a). omega (arith, ltb-true a b h)))
below_apart false a true b h = absurd (false≢true h)
below_apart true a false b h = go (eqb b a) refl (eqb b 0) refl
  where
    go : (p : Bool) → eqb b a ≡ p → (q : Bool) → eqb b 0 ≡ q → (p && (false || q)) ≡ false
    go false e q f = refl
    go true e false f = refl
    go true e true f = absurd (omega (arith, eqb-true b a e, eqb-true b 0 f, ltb-true 0 (a + b) h))
below_apart true a true b h = rw (ne_eqb b a (λ (e : b ≡ a). omega (arith, ltb-true b a h)))

not_equal : (x y : Float) → lt x y ≡ true → eq y x ≡ false
unfolding lt eq
not_equal nan y h = absurd (false≢true h)
not_equal (inf s) nan h = absurd (false≢true h)
not_equal (inf true) (inf true) h = absurd (false≢true h)
not_equal (inf true) (inf false) h = refl
not_equal (inf false) (inf t) h = absurd (false≢true h)
not_equal (inf s) (fin t n d) h = refl
not_equal (fin s m e) nan h = absurd (false≢true h)
not_equal (fin s m e) (inf t) h = refl
not_equal (fin s m e) (fin t n d) h = below_apart s _ t _ h

pub not-most : (x y : Float) → lt x y ≡ true → le y x ≡ false
unfolding le
not-most x y h = rw (one_way x y h, not_equal x y h)

-- ---- no not-a-number

itself : (s : Bool) (a : ℕ) → level s a s a ≡ true
itself true a = rw (eq-eqb a a refl)
itself false a = rw (eq-eqb a a refl)

pub lesser-number : (x y : Float) → lt x y ≡ true → ne x x ≡ false
unfolding lt eq ne
lesser-number nan y h = absurd (false≢true h)
lesser-number (inf true) y h = refl
lesser-number (inf false) y h = refl
lesser-number (fin s m e) y h = rw (itself s _)

pub greater-number : (x y : Float) → lt x y ≡ true → ne y y ≡ false
unfolding lt eq ne
greater-number nan y h = absurd (false≢true h)
greater-number (inf s) nan h = absurd (false≢true h)
greater-number (inf s) (inf true) h = refl
greater-number (inf s) (inf false) h = refl
greater-number (inf s) (fin t n d) h = rw (itself t _)
greater-number (fin s m e) nan h = absurd (false≢true h)
greater-number (fin s m e) (inf true) h = refl
greater-number (fin s m e) (inf false) h = refl
greater-number (fin s m e) (fin t n d) h = rw (itself t _)
