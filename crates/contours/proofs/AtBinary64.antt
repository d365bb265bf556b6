-- Demand 3 for a lent pool, at binary64: nothing is assumed but 01's words. Directions are told by the exact orientation, points are one by value.
use Rattle.std.proofs.Common.{Some}
use mathlib.Core.Path.{◌≡◌, ap, ap₂}
use Rattle.refusals.specs.declared.Reason.TheVariants as Reason
use mathlib.Core.Logic.{◌≢◌}
use mathlib.Core.Bool.{true}
use mathlib.Core.List.{List, Memᴰ}
use Prim.Native.Nat.{ℕ, suc, min, ◌<◌, ◌≤◌}
use lib.ListN.{length, get_or}
use Rattle.refusals.specs.declared.Refusal.{Refusal}
use Rattle.numbers.specs.declared.Point.{Point}
use Rattle.events.specs.Coordinates.{same}
use Rattle.events.specs.Binary64.{at_binary64}
use Rattle.events.specs.Pool.{Pool, size, row_at, stored}
use Rattle.events.proofs.Stored.{pool-stored}
use Rattle.order.proofs.AtBinary64.{laws}
use Rattle.contours.specs.Result.{results, ordered}
use Rattle.contours.specs.Outline.{Outline, closes, open_count, corner_count, hole_count}
use Rattle.contours.specs.Accept.{Room}
use Rattle.contours.specs.Connect.{Finished, refused, stopped, connected, given}
use Rattle.contours.specs.OnPool.{connect_pool}
use Rattle.contours.specs.Renaming.{RenumberedPool, Relisted, NoneOneWay, EvenEnds, times_walked, SameFinished, Alike}
use Rattle.contours.specs.Walls.{told_of, unclosed_among, OneToOne}
use Rattle.contours.proofs.Lists.{All}
use Rattle.contours.proofs.Nesting.{Numbers}
use Rattle.contours.proofs.Cause.{Cause}
use Rattle.contours.proofs.Given.{ResultEdgeAt}
use Rattle.contours.proofs.Given as G
use Rattle.contours.proofs.Room.{Roomy}
use Rattle.contours.proofs.Room as R
use Rattle.contours.proofs.Demand as D
use Rattle.contours.proofs.Walls as W
use Rattle.contours.proofs.Told as T

-- ---- order

module _ (ρ : ℕ → ℕ) (p p' : Pool) (rn : RenumberedPool ρ p p') (list list' : List ℕ) (again : Relisted ρ list list') (room : Room) where
  one_size : size p' ≡ size p
  unfolding size
  one_size = ap₂ min rn.points rn.marks

  alike : NoneOneWay at_binary64 (row_at p) list → Alike stored ρ (size p) (connect_pool p list room) (connect_pool p' list' room)
  unfolding connect_pool stored laws
  alike free =
      rw (rn.points, rn.marks)
      (D.order at_binary64 stored pool-stored laws ρ p p' rn.records one_size list list' again (length p.points) (length p.marks) room free)

  -- Order: numbered and listed in any other way, the records give the same contours, corners, parents, depths and holes, bit for bit.
  pub order : NoneOneWay at_binary64 (row_at p) list → (f : Finished Point Pool) → connect_pool p list room ≡ connected f
      → (g : Finished Point Pool) × (connect_pool p' list' room ≡ connected g) × SameFinished stored ρ (size p) f g
  order free f e = D.alike-connected stored ρ (size p) (alike free) f e

  -- the same, of what is told: corners, parents, depths, holes and the count of open contours are the same lists of bits
  pub corners-order : NoneOneWay at_binary64 (row_at p) list → (f : Finished Point Pool) → connect_pool p list room ≡ connected f
      → (g : Finished Point Pool) × (connect_pool p' list' room ≡ connected g) × (told_of g.outlines ≡ told_of f.outlines)
  corners-order free f e = let h = order free f e in (h.0, h.1, ap told_of h.2.outlines)

  -- stopped by 9, it is stopped by 9 at the renamed record, with the same contours before it
  pub order-stopped : NoneOneWay at_binary64 (row_at p) list → (x : Refusal) (f : Finished Point Pool) → connect_pool p list room ≡ stopped x f
      → (g : Finished Point Pool) × (connect_pool p' list' room ≡ stopped (record { reason = x.reason; place = ρ x.place }) g) × SameFinished stored ρ (size p) f g
  order-stopped free x f e = D.alike-stopped stored ρ (size p) (alike free) x f e

  -- refused by 1, 2, 4, 8 or 5, it is refused by the same number, whatever the directions
  pub refusals : (x : Refusal) → connect_pool p list room ≡ refused x → (y : Refusal) × (connect_pool p' list' room ≡ refused y) × (y.reason ≡ x.reason)
  unfolding connect_pool stored laws
  refusals x e =
      rw (rn.points, rn.marks)
      (D.refusals at_binary64 stored pool-stored laws ρ p p' rn.records one_size list list' again (length p.points) (length p.marks) room x e)

-- ---- closing and once

module _ (p : Pool) (list : List ℕ) (room : Room) (f : Finished Point Pool) (e : connect_pool p list room ≡ connected f) where
  -- Closing: if every point ends an even number of result edges, every contour closes, and none is counted open.
  pub closing : EvenEnds at_binary64 (row_at p) list → ((o : Outline Point) → Memᴰ o f.outlines → closes (same at_binary64) o.corners ≡ true) × (open_count f.outlines ≡ 0)
  unfolding connect_pool stored laws
  closing even = D.closing at_binary64 stored laws p (length p.points) (length p.marks) list room f e even

  -- Once: each result edge is walked in exactly one contour, once.
  pub once : (r : ℕ) → Memᴰ r (results (row_at p) list) → times_walked (row_at p) (ordered (row_at p) at_binary64 list) r f.outlines ≡ 1
  unfolding connect_pool stored laws
  once r m = D.once at_binary64 stored laws p (length p.points) (length p.marks) list room f e r m

  -- ---- the same, of what is told: corners, and result edges by their left records

  -- Each two neighbouring corners are the two ends of a result edge, and each result edge is such a pair at exactly one place of exactly one contour.
  pub walls : OneToOne at_binary64 (row_at p) list (told_of f.outlines).corners
  unfolding connect_pool stored laws
  walls = W.one-to-one at_binary64 stored laws p (length p.points) (length p.marks) list room f e

  -- the count of open contours is that of the contours whose first and last corners differ
  pub unclosed-told : (told_of f.outlines).unclosed ≡ unclosed_among (same at_binary64) (told_of f.outlines).corners
  unfolding connect_pool stored
  unclosed-told = T.unclosed-told at_binary64 stored p (length p.points) (length p.marks) list room f e

  -- if every point ends an even number of result edges, it is 0
  pub none-unclosed : EvenEnds at_binary64 (row_at p) list → (told_of f.outlines).unclosed ≡ 0
  unfolding told_of
  none-unclosed even = (closing even).1

-- ---- what is given, also where refusal 9 stopped it

module _ (p : Pool) (list : List ℕ) (room : Room) (f : Finished Point Pool) (e : given (connect_pool p list room) ≡ Some f) where
  -- both ends of a listed record's edge have fit points, so that event order reads no other
  pub fit-ends : (r : ℕ) → Memᴰ r list → (at_binary64.fit (row_at p r).point ≡ true) × (at_binary64.fit (row_at p (row_at p r).partner).point ≡ true)
  unfolding connect_pool stored
  fit-ends = G.fit-ends at_binary64 stored p (length p.points) (length p.marks) list room f e

  -- the room that refusal 5 asks for is enough
  pub enough : (length f.outlines ≤ room.contours) × (corner_count f.outlines ≤ room.points) × (hole_count f.outlines ≤ room.holes)
  unfolding connect_pool stored laws
  enough = G.enough at_binary64 stored laws p (length p.points) (length p.marks) list room f e

  -- every parent and hole is one of the contours, and every depth is below how many they are
  pub numbers : All (Numbers (length f.outlines)) f.outlines
  unfolding connect_pool stored laws
  numbers = G.numbers at_binary64 stored laws p (length p.points) (length p.marks) list room f e

  module _ (o : Outline Point) (m : Memᴰ o f.outlines) where
    pub one_more : length o.corners ≡ suc (length o.trail)
    unfolding connect_pool stored laws
    one_more = G.one_more at_binary64 stored laws p (length p.points) (length p.marks) list room f e o m

    -- each two neighbouring corners are the two ends of a result edge, by value
    pub neighbours : (k : ℕ) → k < length o.trail → (d : Point) → ResultEdgeAt at_binary64 (row_at p) list o k d (get_or (ordered (row_at p) at_binary64 list) (get_or o.trail k 0) 0)
    unfolding connect_pool stored laws
    neighbours k l d = G.neighbours at_binary64 stored laws p (length p.points) (length p.marks) list room f e o m k l d

-- ---- refused exactly as the table says

pub cause : (p : Pool) (list : List ℕ) (room : Room) (x : Refusal) → connect_pool p list room ≡ refused x → Cause at_binary64 (row_at p) (size p) (length p.points) (length p.marks) list room x
unfolding connect_pool stored
cause p list room x e = D.refused-cause at_binary64 stored p (length p.points) (length p.marks) list room x e

-- by 9 as contours are made, and by 9 only then
pub stopped-nine : (p : Pool) (list : List ℕ) (room : Room) (x : Refusal) (f : Finished Point Pool) → connect_pool p list room ≡ stopped x f → x.reason ≡ Reason.Loose
unfolding connect_pool stored
stopped-nine p list room x f e = D.stopped-nine at_binary64 stored p (length p.points) (length p.marks) list room x f e

pub refused-not-nine : (p : Pool) (list : List ℕ) (room : Room) (x : Refusal) → connect_pool p list room ≡ refused x → x.reason ≢ Reason.Loose
refused-not-nine p list room x e = D.cause-not-9 at_binary64 (row_at p) (size p) (length p.points) (length p.marks) list room x (cause p list room x e)

-- A place for each listed event, and half as many for contours and for holes, are never too few.
pub always-room : (p : Pool) (list : List ℕ) (room : Room) → Roomy list room → (x : Refusal) → connect_pool p list room ≡ refused x → x.reason ≢ Reason.Room
unfolding stored laws
always-room p list room h x e = R.cause-not-5 at_binary64 (row_at p) laws (size p) list (length p.points) (length p.marks) room h x (cause p list room x e)
