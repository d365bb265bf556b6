-- Segment order asks how the two segments cross, and no other crossing.
use mathlib.Core.Path.{◌≡◌}
use Rattle.events.specs.Coordinates.{Coordinates, Crossing}
use Rattle.events.specs.Event.{Key}
use Rattle.segments.specs.Segments.{apart, old_below, compare_segments}

pub by-one-crossing : {P : Type 0} (C : Coordinates P) (crossing crossing' : Crossing P) (a b : Key P) → crossing' a.point a.mate b.point b.mate ≡ crossing a.point a.mate b.point b.mate
    → crossing' b.point b.mate a.point a.mate ≡ crossing b.point b.mate a.point a.mate → compare_segments C crossing' a b ≡ compare_segments C crossing a b
unfolding compare_segments old_below apart
by-one-crossing C crossing crossing' a b p q = rw (p, q)
