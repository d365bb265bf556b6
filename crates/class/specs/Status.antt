-- Edges one above the other, as in a status, over any kind of point: what flags and below link tell of the edges below, where each edge was computed from
-- the one next below it. A list has its uppermost edge first.
use Rattle.std.specs.Prelude.{◌≡◌, Bool, true, false, cond, not, ◌&&◌, ◌||◌, List, [], ◌∷◌, ℕ, zero, suc, Option, Some, None}
use Rattle.std.specs.Bool.{beq}
use Rattle.events.specs.Event.{Event}
use Rattle.class.specs.declared.Operation.{Operation}
use Rattle.class.specs.Class.{Neighbour, is_in_result, fields}
use Rattle.class.specs.Truth.{Place, place, Sides}

unfoldable pub next_below : {P : Type 0} → List (Neighbour P) → Option (Neighbour P)
next_below [] = None
next_below (n ∷ rest) = Some n

-- each edge is what is computed for it from the one next below, the lowest from none
unfoldable pub Computed : {P : Type 0} → Operation → List (Neighbour P) → Type 0
Computed op [] = Unit {0}
Computed op (n ∷ rest) = (n.event ≡ fields op n.event (next_below rest)) × Computed op rest

-- ---- what lies below an edge

-- The layer of n is crossed on the way up past n to an edge of layer `next`; a vertical edge is passed over by one of the other layer, as if it were not there.
unfoldable pub is_crossed : {P : Type 0} → Bool → Neighbour P → Bool
is_crossed next n = not n.vertical || beq next n.event.subject

-- how often a layer is crossed on the way up to an edge of layer `next`
unfoldable pub crossings : {P : Type 0} → (layer next : Bool) → List (Neighbour P) → ℕ
crossings layer next [] = 0
crossings layer next (n ∷ rest) =
    let lower = crossings layer n.event.subject rest in
    cond (is_crossed next n && beq layer n.event.subject) (suc lower) lower

-- where no edge is vertical, that is how many edges of the layer there are
unfoldable pub NoneVertical : {P : Type 0} → List (Neighbour P) → Type 0
NoneVertical [] = Unit {0}
NoneVertical (n ∷ rest) = (n.vertical ≡ false) × NoneVertical rest

unfoldable pub edges_of : {P : Type 0} → (layer : Bool) → List (Neighbour P) → ℕ
edges_of layer [] = 0
edges_of layer (n ∷ rest) = let lower = edges_of layer rest in cond (beq layer n.event.subject) (suc lower) lower

unfoldable pub is_odd : ℕ → Bool
is_odd zero = false
is_odd (suc n) = not (is_odd n)

-- the nearest edge below that is in the result and not vertical
unfoldable pub nearest : {P : Type 0} → List (Neighbour P) → Option ℕ
nearest [] = None
nearest (n ∷ rest) = cond (is_in_result n.event && not n.vertical) (Some n.number) (nearest rest)

-- ---- what a record tells of it

-- In-out exactly if its own layer is crossed an odd number of times, other-in-out exactly if the other is crossed an even number of times.
pub record Tells {P : Type 0} (e : Event P) (below : List (Neighbour P)) : Type 0 where
  pub in_out : e.in_out ≡ is_odd (crossings e.subject e.subject below)
  pub other_in_out : e.other_in_out ≡ not (is_odd (crossings (not e.subject) e.subject below))
  pub below_link : e.below ≡ nearest below

-- ---- the same as places

-- a layer that is crossed an odd number of times lies there
abbrev pub place_below : {P : Type 0} → Bool → List (Neighbour P) → Place
place_below next below = place (is_odd (crossings true next below)) (is_odd (crossings false next below))

-- across an edge of the subject (true) or of the clip (false)
unfoldable pub beyond : Bool → Place → Place
beyond true p = place (not p.subject) p.clip
beyond false p = place p.subject (not p.clip)

-- the two sides of an edge of layer `next` above these
abbrev pub sides_above : {P : Type 0} → Bool → List (Neighbour P) → Sides
sides_above next below = record { below = place_below next below; above = beyond next (place_below next below) }
