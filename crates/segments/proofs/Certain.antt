-- Where the tests in plain comparisons pass, they tell which segment is below: the newer one's left end lies exactly on the side that they say,
-- and no crossing says otherwise.
use mathlib.Core.Path.{◌≡◌, refl, ◌∙◌}
use Rattle.std.specs.declared.cmp.Ordering.TheVariants.{Greater, Less}
use mathlib.Core.Bool.{Bool, true, false, not, cond, ◌&&◌, beq, false≢true}
use Prim.Native.Nat.{◌<◌, ◌≤◌}
use borrow.Author.Tests.{le-ltb}
use Rattle.orientation.specs.declared.Sign.{Sign}
use Rattle.orientation.specs.declared.Sign.TheVariants.{Negative, Positive}
use Rattle.events.specs.Coordinates.{Coordinates, same, Crossing, none}
use Rattle.events.specs.Event.{Key}
use Rattle.events.proofs.Parted.{Below, Parts, both, is-under}
use Rattle.order.specs.Order.{by_number, before, is_zero}
use Rattle.order.proofs.Steps.{sign-positive, sign-negative}
use Rattle.order.proofs.Grid.{Spot, grid, plus, minus}
use Rattle.order.proofs.Laws.{OrderLaws}
use Rattle.segments.specs.Segments.{is_positive, less_if_inversed, by_crossing, apart, old_below, compare_segments}
use Rattle.segments.specs.Quick.{beside, lies_under}
use Rattle.segments.proofs.Heights as Heights
use Rattle.segments.proofs.Places.{less-x, not-less-x, less-y, not-higher, not-level, not-level-turned}

-- ---- what the tests tell
pub not_so : (t : Bool) → not t ≡ true → t ≡ false
not_so true h = absurd (false≢true h)
not_so false h = refl

-- in x: the older one's left end, the newer one's, the older one's right end
pub record Beside (a c b : Spot) : Type 0 where
  pub wide : a.x < b.x
  pub from : a.x ≤ c.x
  pub within : c.x ≤ b.x

-- a test that makes no difference
alike : (t u : Bool) → cond t u u ≡ u
alike true u = refl
alike false u = refl

-- at one x the heights of the left ends say what the sign says
one-x : (t u v : Bool) → cond (t && false) v (cond t u u) ≡ u
one-x true u v = refl
one-x false u v = refl

-- ---- where there is no crossing, the sign of the newer one's left end decides
module _ {P : Type 0} (C : Coordinates P) (crossing : Crossing P) (old new : Key P) where
  decided : (s : Sign) → is_zero s ≡ false → C.turn old.point old.mate new.point ≡ s → crossing old.point old.mate new.point new.mate ≡ none
      → C.same_y old.point new.point ≡ false → C.less_y old.point new.point ≡ is_positive s → old_below C crossing old new ≡ is_positive s
  unfolding old_below apart same by_crossing
  decided s z turn cross level rise =
      let right = is_positive (C.turn old.point old.mate new.mate) in
      rw (turn, z, level, rise, cross, alike (beq (is_positive s) right) (is_positive s)) (one-x (C.same_x old.point new.point) (is_positive s) right)

module _ {P : Type 0} {C : Coordinates P} (L : OrderLaws C) (old new : Key P) where
  is-beside : beside C old new ≡ true → Beside (L.place old.point) (L.place new.point) (L.place old.mate)
  unfolding beside
  is-beside t =
      let one = both _ _ t in
      let two = both _ _ one.1 in
      record { wide = less-x L _ _ two.1; from = not-less-x L _ _ (not_so _ one.0); within = not-less-x L _ _ (not_so _ two.0) }

  -- ---- where the newer one's left end lies, and that it is the newer one
  module _ (b : Beside (L.place old.point) (L.place new.point) (L.place old.mate)) where
    left-turn : Below C old.point old.mate new.point new.mate → C.turn old.point old.mate new.point ≡ Positive
    unfolding grid plus minus
    left-turn r =
        L.turns old.point old.mate new.point
        ∙ sign-positive _ _ (Heights.left _ _ _ _ _ _ b.wide b.from b.within (less-y L _ _ r.a_c) (less-y L _ _ r.b-c))

    right-turn : Below C new.point new.mate old.point old.mate → C.turn old.point old.mate new.point ≡ Negative
    unfolding grid plus minus
    right-turn r =
        L.turns old.point old.mate new.point
        ∙ sign-negative _ _ (Heights.right _ _ _ _ _ _ b.wide b.from b.within (less-y L _ _ r.a_c) (less-y L _ _ r.a-d))

    not_earlier : C.less_x new.point old.point ≡ false
    unfolding grid
    not_earlier = L.less-x new.point old.point ∙ le-ltb _ _ b.from

    -- at one x the higher one is the newer
    newer-above : C.less_y old.point new.point ≡ true → before C new old ≡ false
    unfolding before by_number
    newer-above t = rw (not_earlier, not-higher L _ _ t, t) (alike (C.less_x old.point new.point) false)

    newer : C.less_x old.point new.point ≡ true → before C new old ≡ false
    unfolding before by_number
    newer t = rw (not_earlier, t)

  -- ---- the answers, however it is known where the points stand
  module _ {crossing : Crossing P} (K : Parts C crossing) (b : Beside (L.place old.point) (L.place new.point) (L.place old.mate)) where
    pub lies-above : Below C old.point old.mate new.point new.mate → compare_segments C crossing new old ≡ Greater
    unfolding compare_segments less_if_inversed is_positive is_zero
    lies-above r =
        let cross = K.above old.point old.mate new.point new.mate r in
        rw (newer-above b r.a_c, decided C crossing old new Positive refl (left-turn b r) cross (not-level L _ _ r.a_c) r.a_c)

    lies-below : C.less_x old.point new.point ≡ true → Below C new.point new.mate old.point old.mate → compare_segments C crossing new old ≡ Less
    unfolding compare_segments less_if_inversed is_positive is_zero
    lies-below t r =
        let cross = K.below new.point new.mate old.point old.mate r in
        rw (newer b t, decided C crossing old new Negative refl (right-turn b r) cross (not-level-turned L _ _ r.a_c) (not-higher L _ _ r.a_c))

module _ {P : Type 0} {C : Coordinates P} (L : OrderLaws C) {crossing : Crossing P} (K : Parts C crossing) (old new : Key P) (t : beside C old new ≡ true) where
  pub above : lies_under C old new ≡ true → compare_segments C crossing new old ≡ Greater
  above u = lies-above L old new K (is-beside L old new t) (is-under _ _ _ _ u)

  pub below : C.less_x old.point new.point ≡ true → lies_under C new old ≡ true → compare_segments C crossing new old ≡ Less
  below v u = lies-below L old new K (is-beside L old new t) v (is-under _ _ _ _ u)
