-- Without the sign of its zeros a number compares as before, not-a-numbers and infinities among them: a zero of either sign is none of any unit.
use mathlib.Core.Path.{◌≡◌, refl, sym, ◌∙◌}
use mathlib.Core.Bool.{Bool, true, false, cond, false≢true}
use Prim.Native.Nat.{ℕ, ◌*◌}
use native.Mathlib.Nat.{zero-add, add-zero, mul-one, zero-mul}
use native.Mathlib.Omega.{arith}
use borrow.Author.Tests.{le-ltb}
use lib.Ieee as I
use lib.Ieee.{Float, nan, inf, fin, up, down, lt, eq, of_bits}
use lib.Ieee.Exact.{HasValue}
use lib.Ieee.Fits.{down_pos}
use Rattle.numbers.specs.Binary64.{zero, unsigned}
use Rattle.numbers.specs.Exact.{negative}
use Rattle.numbers.proofs.Place.{lt-units}
use Rattle.numbers.proofs.Equal.{level-true}

-- a zero is 0 / w, whatever w
zero-valued : (x : Float) → eq x zero ≡ true → (w : ℕ) → HasValue x (negative x) 0 w
unfolding eq of_bits negative
zero-valued nan h w = absurd (false≢true h)
zero-valued (inf s) h w = absurd (false≢true h)
zero-valued (fin s m e) h w =
    let none : m * up e ≡ 0 = sym (mul-one (m * up e)) ∙ (level-true s false (m * up e * 1) (0 * down e) h).0 ∙ zero-mul (down e) in
    (refl, rw (none, zero-mul w, zero-mul (down e)))

-- its sign counts neither as the first of a comparison nor as the second
zero-first : (s t : Bool) (n : ℕ) → I.below false 0 t n ≡ I.below s 0 t n
zero-first false t n = refl
zero-first true false n = rw zero-add
zero-first true true n = sym (le-ltb n 0 (omega arith))

zero-second : (s t : Bool) (n : ℕ) → I.below t n false 0 ≡ I.below t n s 0
zero-second false t n = refl
zero-second true false n = le-ltb n 0 (omega arith)
zero-second true true n = rw add-zero

as-zero : (x y : Float) → eq x zero ≡ true → (lt zero y ≡ lt x y) × (lt y zero ≡ lt y x)
unfolding lt eq of_bits negative
as-zero nan y h = absurd (false≢true h)
as-zero (inf s) y h = absurd (false≢true h)
as-zero (fin s m e) nan h = (refl, refl)
as-zero (fin s m e) (inf t) h = (refl, refl)
as-zero (fin s m e) (fin t n d) h =
    let none = zero-valued zero refl (down d) in
    let own = zero-valued (fin s m e) h (down d) in (
      first zero false none ∙ zero-first s t (n * up d) ∙ sym (first (fin s m e) s own),
      second zero false none ∙ zero-second s t (n * up d) ∙ sym (second (fin s m e) s own),
    )
  where
    first : (z : Float) (r : Bool) → HasValue z r 0 (down d) → lt z (fin t n d) ≡ I.below r 0 t (n * up d)
    first z r v = lt-units 0 (n * up d) (down d) (down_pos d) z (fin t n d) r t v (refl, refl)

    second : (z : Float) (r : Bool) → HasValue z r 0 (down d) → lt (fin t n d) z ≡ I.below t (n * up d) r 0
    second z r v = lt-units (n * up d) 0 (down d) (down_pos d) (fin t n d) z t r (refl, refl) v

pub lt-unsigned : (x y : Float) → lt (unsigned x) (unsigned y) ≡ lt x y
unfolding unsigned
lt-unsigned x y = go (eq x zero) refl (eq y zero) refl
  where
    go : (u : Bool) → eq x zero ≡ u → (v : Bool) → eq y zero ≡ v → lt (cond u zero x) (cond v zero y) ≡ lt x y
    go true p true q = (as-zero x zero p).0 ∙ (as-zero y x q).1
    go true p false q = (as-zero x y p).0
    go false p true q = (as-zero y x q).1
    go false p false q = refl
