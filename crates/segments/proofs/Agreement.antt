-- What the boxes tell agrees with segment order, whatever crossing finds nothing between boxes that lie apart.
use Rattle.std.proofs.Common.{None, Option, Some}
use Rattle.std.specs.declared.cmp.Ordering.{Ordering}
use Rattle.std.specs.declared.cmp.Ordering.TheVariants.{Greater, Less}
use mathlib.Core.Path.{◌≡◌, refl}
use mathlib.Core.Bool.{Bool, true, false, cond}
use Rattle.events.specs.Coordinates.{Coordinates, Crossing}
use Rattle.events.specs.Event.{Key}
use Rattle.events.proofs.Parted.{Parts}
use Rattle.order.proofs.Laws.{OrderLaws}
use Rattle.segments.specs.Segments.{compare_segments}
use Rattle.segments.specs.Quick.{beside, lies_under, by_boxes}
use Rattle.segments.proofs.Certain.{above, below}

-- an order is what was told; where nothing was, it is any
abbrev pub Agrees : Option Ordering → Ordering → Type 0
Agrees (Some ordering) o = o ≡ ordering
Agrees None o = Unit {0}

module _ {P : Type 0} {C : Coordinates P} (L : OrderLaws C) {crossing : Crossing P} (K : Parts C crossing) (old new : Key P) where
  pub agrees : Agrees (by_boxes C new old) (compare_segments C crossing new old)
  unfolding by_boxes
  agrees = go (beside C old new) refl (lies_under C old new) refl (C.less_x old.point new.point) refl (lies_under C new old) refl
    where
      go : (p : Bool) → beside C old new ≡ p → (q : Bool) → lies_under C old new ≡ q → (r : Bool) → C.less_x old.point new.point ≡ r
          → (s : Bool) → lies_under C new old ≡ s → Agrees (cond p (cond q (Some Greater) (cond r (cond s (Some Less) None) None)) None) (compare_segments C crossing new old)
      go true side true low r hr s hs = above L K old new side low
      go true side false hq true later true high = below L K old new side later high
      go true side false hq true later false hs = tt
      go true side false hq false hr s hs = tt
      go false hp q hq r hr s hs = tt
