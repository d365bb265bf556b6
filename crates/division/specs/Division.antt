-- Division (`divide_segment.rs`) over any kind of coordinate and any store: the segment from record i to its partner o is cut in two.
--
--     (i)--------(used)(used + 1)--------(o)
--
-- The new right end takes the next free number, the new left end the one after. Two corners: a cut straight below the left end is moved one step in x,
-- so that the first half does not run downwards; and where the cut comes after the old right end, the second half runs from that end to the cut.
use Rattle.division.specs.declared.Divided.{Divided}
use Rattle.refusals.specs.declared.Reason.{Reason}
use Rattle.refusals.specs.declared.Reason.TheVariants as Reason
use Rattle.std.specs.Prelude.{Bool, true, false, not, ◌&&◌, ◌||◌, cond, ℕ, ◌+◌, min, leb, Err, Ok, Result}
use Rattle.refusals.specs.declared.Refusal.{Refusal}
use Rattle.events.specs.Coordinates.{Coordinates, same}
use Rattle.events.specs.Event.{Event, fresh, key}
use Rattle.events.specs.Store.{Store, look}
use Rattle.order.specs.Order.{before}

-- ---- the cut

module _ {P : Type 0} (C : Coordinates P) where
  -- the cut has the left end's x and a smaller y
  unfoldable pub moves : P → P → Bool
  moves l p = C.same_x p l && C.less_y p l

  -- the cut of the segment whose left end is l, for that segment alone
  unfoldable pub moved : P → P → P
  moved l p = cond (moves l p) (C.next_x p) p

  -- the cut, after the move, is an end by value, has x below the left end's or above the right end's, or is not fit
  unfoldable pub misses : P → P → P → Bool
  misses l r c = same C c l || (same C c r || (C.less_x c l || (C.less_x r c || not (C.fit c))))

-- ---- the records of a divided segment

module _ {P : Type 0} where
  -- a new end of the edge of e
  unfoldable pub new_end : Event P → P → Bool → ℕ → Event P
  new_end e p left partner = fresh p left e.subject e.ring partner

  -- e with another partner and another flag
  unfoldable pub linked : Event P → ℕ → Bool → Event P
  linked e partner left =
      record {
        point = e.point;
        left = left;
        subject = e.subject;
        ring = e.ring;
        partner = partner;
        below = e.below;
        edge_type = e.edge_type;
        transition = e.transition;
        in_out = e.in_out;
        other_in_out = e.other_in_out;
        contour = e.contour;
      }

-- The new left end, as a left end, is before the old right end f: the flags stay as they are.
unfoldable pub keeps : {P : Type 0} → Coordinates P → Event P → Event P → P → Bool
keeps C e f c = before C (key (new_end e c true e.partner) f.point) (key f e.point)

-- ---- the division

-- as many records as 32 bits can number and count
abbrev pub numbers : ℕ
numbers = 0xffff_ffff

pub record After (S : Type 0) : Type 0 where
  pub store : S
  pub used : ℕ
  pub answer : Result Divided Refusal

module _ {P S : Type 0} (K : Store P S) where
  -- fewer than two places are free, or fewer than two numbers
  unfoldable pub full : S → ℕ → Bool
  full s used = leb (min (K.size s) numbers) (used + 1)

  -- the four records of the segment whose ends are e, at i, and f: two new ones, and the ends, each over its own
  unfoldable pub parted : S → ℕ → ℕ → Event P → Event P → P → Bool → S
  parted s used i e f c keep =
      let right = K.enter s used (new_end e c false i) in
      let left = K.enter right (used + 1) (new_end e c keep e.partner) in
      let own = K.store left i (linked e used e.left) in
      K.store own e.partner (linked f (used + 1) (cond keep f.left true))

-- told of the record to be divided
abbrev pub refusal : Reason → ℕ → Result Divided Refusal
refusal reason i = Err (record { reason = reason; place = i })

-- everything as it was
unfoldable pub refused : {S : Type 0} → S → ℕ → Reason → ℕ → After S
refused s used reason i = record { store = s; used = used; answer = refusal reason i }

module _ {P S : Type 0} (C : Coordinates P) (K : Store P S) where
  unfoldable pub done : S → ℕ → ℕ → Event P → Event P → P → Bool → After S
  done s used i e f c move =
      let keep = keeps C e f c in
      record {
        store = parted K s used i e f c keep;
        used = used + 2;
        answer = Ok (record { right = used; left = used + 1; moved = move; swapped = not keep });
      }

  -- 7, then 6, then the division
  unfoldable pub divide_at : S → ℕ → ℕ → Event P → Event P → P → Bool → After S
  divide_at s used i e f c move =
      cond (not e.left || misses C e.point f.point c) (refused s used Reason.Cut i)
      (cond (full K s used) (refused s used Reason.Full i) (done s used i e f c move))

  -- the segment of record i, where the first `used` places are in use, at the cut p
  unfoldable pub divide : S → ℕ → ℕ → P → After S
  divide s used i p =
      let e = look K s used i in
      let f = look K s used e.partner in
      divide_at s used i e f (moved C e.point p) (moves C e.point p)
