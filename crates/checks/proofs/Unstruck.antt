-- A record is sound exactly if neither 2 nor 4 strikes it: test by test.
use Rattle.std.proofs.Common.{None, Option, Some}
use mathlib.Core.Path.{◌≡◌, refl}
use mathlib.Core.Bool.{Bool, true, false, not, ◌||◌, beq, and-false, true≢false}
use Prim.Native.Nat.{ℕ, ◌<◌}
use borrow.Author.Tests.{ltb-true, eqb-true, not-false, lt-ltb, eq-eqb}
use lib.Dec.{eqb}
use Rattle.events.specs.Coordinates.{Coordinates, ahead}
use Rattle.events.specs.Event.{Event}
use Rattle.checks.specs.Checks.{outside, unpaired, alike, in_order, misordered, not_to_left, misled, mistaken, unfit_at}
use Rattle.checks.specs.Sound.{LeftIn, Sound}

pub neither : (a b : Bool) → (a || b) ≡ false → (a ≡ false) × (b ≡ false)
neither true b e = absurd (true≢false e)
neither false b e = (refl, e)

unlike-flags : (a b : Bool) → beq a b ≡ false → b ≡ not a
unlike-flags true true e = absurd (true≢false e)
unlike-flags true false e = refl
unlike-flags false true e = refl
unlike-flags false false e = absurd (true≢false e)

beq-not : (a : Bool) → beq a (not a) ≡ false
beq-not true = refl
beq-not false = refl

pub inside : (n r : ℕ) → outside n r ≡ false → r < n
unfolding outside
inside n r e = ltb-true r n (not-false _ e)

pub not-outside : (n r : ℕ) → r < n → outside n r ≡ false
unfolding outside
not-outside n r h = rw (lt-ltb r n h)

module _ {P : Type 0} (row : ℕ → Event P) (n : ℕ) where
  to_left : (l : Option ℕ) → not_to_left row n l ≡ false → (b : ℕ) → l ≡ Some b → LeftIn row n b
  unfolding not_to_left
  to_left l e b q =
      let h = neither _ _ (rw q at e) in
      record { inside = inside n b h.0; left = not-false _ h.1 }

  not-to-left : (l : Option ℕ) → ((b : ℕ) → l ≡ Some b → LeftIn row n b) → not_to_left row n l ≡ false
  unfolding not_to_left
  not-to-left None h = refl
  not-to-left (Some b) h = rw (not-outside n b (h b refl).inside, (h b refl).left)

module _ {P : Type 0} (C : Coordinates P) (row : ℕ → Event P) (n r : ℕ) where
  pub sound : unfit_at C row n r ≡ false → mistaken C row n r ≡ false → Sound C row n r
  unfolding unfit_at mistaken unpaired alike misordered misled
  sound u m =
      let other = row (row r).partner in
      let t1 = neither _ _ m in
      let t2 = neither _ _ t1.1 in
      let t3 = neither _ _ t2.1 in
      let t4 = neither _ _ t3.1 in
      let t5 = neither _ _ t4.1 in
      let pair = neither (outside n (row r).partner) (not (eqb other.partner r)) t2.0 in
      record {
        inside = inside n r t1.0;
        fit = not-false _ (rw t1.0 at u);
        partner = inside n (row r).partner pair.0;
        paired = eqb-true _ _ (not-false _ pair.1);
        unlike = unlike-flags (row r).left other.left t3.0;
        ordered = not-false _ t4.0;
        below = to_left row n (row r).below t5.0;
      }

  pub sound-fit : Sound C row n r → unfit_at C row n r ≡ false
  unfolding unfit_at
  sound-fit s = rw s.fit (and-false (not (outside n r)))

  pub sound-not-mistaken : Sound C row n r → mistaken C row n r ≡ false
  unfolding mistaken unpaired alike misordered misled
  sound-not-mistaken s =
      rw
      (not-outside n r s.inside, not-outside n (row r).partner s.partner, eq-eqb _ r s.paired, s.unlike, beq-not (row r).left, s.ordered, not-to-left row n (row r).below s.below)

  -- a sound left record's point comes before its partner's, a right one's after
  pub left-first : Sound C row n r → (row r).left ≡ true → ahead C (row r).point (row (row r).partner).point ≡ true
  unfolding in_order
  left-first s e = rw e at s.ordered

  pub right-last : Sound C row n r → (row r).left ≡ false → ahead C (row (row r).partner).point (row r).point ≡ true
  unfolding in_order
  right-last s e = rw e at s.ordered
