-- The tests in plain comparisons. A reader of segment order's promise need not read them: what the boxes tell agrees with it, in every mode (a law:
-- `proofs/Agreement`).
use Rattle.std.specs.Prelude.{Bool, not, ◌&&◌, cond, None, Option, Some}
use Rattle.std.specs.declared.cmp.Ordering.{Ordering}
use Rattle.std.specs.declared.cmp.Ordering.TheVariants.{Greater, Less}
use Rattle.events.specs.Coordinates.{Coordinates}
use Rattle.events.specs.Event.{Key}
use Rattle.events.specs.Under.{under}

module _ {P : Type 0} (C : Coordinates P) where
  -- in x the newer one starts between the older one's ends or at one of them, and the older one is not vertical
  unfoldable pub beside : Key P → Key P → Bool
  beside old new =
      not (C.less_x new.point old.point) && (not (C.less_x old.mate new.point) && C.less_x old.point old.mate)

  -- in y all of the one lies below all of the other
  abbrev pub lies_under : Key P → Key P → Bool
  lies_under low high = under C low.point low.mate high.point high.mate

  -- what the boxes tell, where the second segment is the older one: at one x the lower one is
  unfoldable pub by_boxes : Key P → Key P → Option Ordering
  by_boxes new old =
      cond (beside old new)
      (cond (lies_under old new) (Some Greater) (cond (C.less_x old.point new.point) (cond (lies_under new old) (Some Less) None) None))
      None
