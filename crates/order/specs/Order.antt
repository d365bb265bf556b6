-- Event order: by x, then y, then right ends before left ends, then the lower direction by exact orientation, then subject before clip.
-- Two events may each be before the other; that is a tie. Each step hands on what the steps after it say, for where it does not decide.
use Rattle.std.specs.Prelude.{Bool, true, false, not, ◌&&◌, ◌||◌, cond}
use Rattle.std.specs.Bool.{beq}
use Rattle.orientation.specs.declared.Sign.{Sign}
use Rattle.orientation.specs.declared.Sign.TheVariants.{Negative, Zero, Positive}
use Rattle.events.specs.Coordinates.{Coordinates, same, ahead}
use Rattle.events.specs.Event.{Key}

-- the lesser coordinate first: whether the first is less, whether it is greater
unfoldable pub by_number : Bool → Bool → Bool → Bool
by_number less greater rest = cond less true (cond greater false rest)

-- right ends before left ends: whether each is a left end
unfoldable pub by_end : Bool → Bool → Bool → Bool
by_end true true rest = rest
by_end true false rest = false
by_end false true rest = true
by_end false false rest = rest

-- The lower direction first. The sign tells on which side of the first edge, seen from the shared end, the second runs:
-- on the left of a left end's edge it runs above, on the left of a right end's below.
unfoldable pub by_turn : Bool → Sign → Bool → Bool
by_turn left Positive rest = left
by_turn left Negative rest = not left
by_turn left Zero rest = rest

-- subject before clip: whether each is of the subject
unfoldable pub by_layer : Bool → Bool → Bool
by_layer subject subject' = subject || not subject'

-- of two at one point
abbrev pub before_there : {P : Type 0} → Coordinates P → Key P → Key P → Bool
before_there C a b =
    by_end a.left b.left
    (by_turn a.left (C.turn a.point a.mate b.mate)
    (by_layer a.subject b.subject))

unfoldable pub before : {P : Type 0} → Coordinates P → Key P → Key P → Bool
before C a b =
    by_number (C.less_x a.point b.point) (C.less_x b.point a.point)
    (by_number (C.less_y a.point b.point) (C.less_y b.point a.point)
    (before_there C a b))

-- ---- what the laws speak of

-- the partner lies on its proper side: after a left end, before a right end
unfoldable pub on_side : {P : Type 0} → Coordinates P → Key P → Bool
on_side C k = cond k.left (ahead C k.point k.mate) (ahead C k.mate k.point)

unfoldable pub is_zero : Sign → Bool
is_zero Negative = false
is_zero Zero = true
is_zero Positive = false

-- Two left ends or two right ends at one point by value, that run in one direction: both partners lie on one side, so that a line is a direction.
unfoldable pub is_one_way : {P : Type 0} → Coordinates P → Key P → Key P → Bool
is_one_way C a b =
    same C a.point b.point && (beq a.left b.left && is_zero (C.turn a.point a.mate b.mate))

-- and belong to one layer
unfoldable pub tied : {P : Type 0} → Coordinates P → Key P → Key P → Bool
tied C a b = is_one_way C a b && beq a.subject b.subject
