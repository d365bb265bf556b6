-- Segment order (01, 'Segment order': as the source). Of two left records the one that comes first in event order is the older; where the newer one's
-- ends lie, seen along the older one, tells which is below. It is no order in the strict sense: it need not be transitive.
use Rattle.std.specs.Prelude.{Bool, true, false, cond, ◌&&◌, ltb}
use Rattle.std.specs.declared.cmp.Ordering.{Ordering}
use Rattle.std.specs.declared.cmp.Ordering.TheVariants.{Greater, Less}
use Rattle.std.specs.Bool.{beq}
use Rattle.orientation.specs.declared.Sign.{Sign}
use Rattle.orientation.specs.declared.Sign.TheVariants.{Negative, Zero, Positive}
use Rattle.events.specs.Coordinates.{Coordinates, same, Cross, none, lost, point, overlap, Crossing}
use Rattle.events.specs.Event.{Key}
use Rattle.order.specs.Order.{before, is_zero}

-- `less_if` of true is "less", `less_if_inversed` the reverse
unfoldable pub less_if : Bool → Ordering
less_if b = cond b Less Greater

unfoldable pub less_if_inversed : Bool → Ordering
less_if_inversed b = cond b Greater Less

unfoldable pub is_positive : Sign → Bool
is_positive Positive = true
is_positive Zero = false
is_positive Negative = false

module _ {P : Type 0} (C : Coordinates P) where
  -- on one line: of two layers the subject below; of one layer, from a shared end by ring number, else the older below
  unfoldable pub alongside : Key P → Key P → Bool
  alongside old new =
      cond (beq old.subject new.subject)
      (cond (same C old.point new.point) (ltb old.ring new.ring) true)
      old.subject

  -- By the signs the segments cross; left and right: whether that end of the newer one lies above the older. A crossing at the newer one's
  -- left end leaves it to its right end. Lost is taken as a point elsewhere.
  unfoldable pub by_crossing : Cross P → Key P → Key P → Bool → Bool → Bool
  by_crossing none old new left right = left
  by_crossing lost old new left right = left
  by_crossing (point p) old new left right = cond (same C p new.point) right left
  by_crossing (overlap p q) old new left right = alongside old new

  module _ (crossing : Crossing P) where
    -- not on one line: saL and saR are the signs of the newer one's left and right end
    unfoldable pub apart : Key P → Key P → Sign → Sign → Bool
    apart old new saL saR =
        cond (same C old.point new.point) (is_positive saR)
        (cond (C.same_x old.point new.point) (C.less_y old.point new.point)
        (cond (beq (is_positive saL) (is_positive saR)) (is_positive saL)
        (cond (is_zero saL) (is_positive saR)
        (by_crossing (crossing old.point old.mate new.point new.mate) old new (is_positive saL) (is_positive saR)))))

    -- the older one lies below
    unfoldable pub old_below : Key P → Key P → Bool
    old_below old new =
        let saL = C.turn old.point old.mate new.point in
        let saR = C.turn old.point old.mate new.mate in
        cond (is_zero saL && is_zero saR) (alongside old new) (apart old new saL saR)

    -- of two records that are not one
    unfoldable pub compare_segments : Key P → Key P → Ordering
    compare_segments a b = cond (before C a b) (less_if (old_below a b)) (less_if_inversed (old_below b a))
