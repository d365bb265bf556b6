-- The three steps one after the other, where there is room: each hands the next what it asks for, and together they lay the definition's table.
use mathlib.Core.Path.{◌≡◌, refl, sym, ap, ◌∙◌}
use mathlib.Core.Bool.{Bool, true, false, cond, true≢false}
use mathlib.Core.List.{List, map}
use Prim.Native.Nat.{ℕ, ◌≤◌}
use native.Mathlib.Omega.{arith}
use borrow.Author.Tests.{ltb-false, leb-true, le-ltb}
use lib.Dec.{ltb}
use lib.ListN.{length, take, drop, length-append, length-map}
use lib.Seq.{take_at}
use Rattle.lists.proofs.Fronts.{sets-front}
use Rattle.numbers.specs.declared.Point.{Point}
use Rattle.events.specs.Binary64.{at_binary64}
use Rattle.events.specs.Pool.{Pool, row_at}
use Rattle.checks.specs.Checks.{max_events}
use Rattle.contours.specs.Result.{ordered}
use Rattle.contours.specs.Table.{Row, table, row_of}
use Rattle.positions.specs.Positions.{Ordering, in_front, ordered_in, ordering, order_events, places_in, place_all}
use Rattle.positions.proofs.Told.{count_most, each-place}
use Rattle.rows.specs.Rows.{Rows}
use Rattle.tabulation.specs.Tabulation.{tabulated, table_in, row_code, at_code, laid, has_room, roomy, tabulate}
use Rattle.tabulation.specs.Steps.{Placing, rows_of, puts, filled}

-- ---- room

pub record Roomy (a b c d e f : ℕ) : Type 0 where
  pub few : a ≤ max_events
  pub order : a ≤ b
  pub places : c ≤ d
  pub rows : a ≤ e
  pub at : a ≤ f

-- a test that passes was not true at any step
passed : (x y : Bool) → cond x false y ≡ true → (x ≡ false) × (y ≡ true)
passed true y e = absurd (true≢false (sym e))
passed false y e = (refl, e)

pub room : (a b c d e f : ℕ) → has_room a b c d e f ≡ true → Roomy a b c d e f
unfolding has_room
room a b c d e f h =
    let limit = passed (ltb max_events a) _ h in
    let order = passed (ltb b a) _ limit.1 in
    let places = passed (ltb d c) _ order.1 in
    let rows = passed (ltb e a) _ places.1 in
    record {
      few = ltb-false max_events a limit.0;
      order = ltb-false b a order.0;
      places = ltb-false d c places.0;
      rows = ltb-false e a rows.0;
      at = leb-true a f rows.1;
    }

-- ---- a table in front

puts-laid : (rs : List (Row Point)) (t : Rows) → length rs ≤ length t.rows → length rs ≤ length t.at → puts t 0 rs ≡ laid rs t
unfolding puts laid in_front
puts-laid rs t h k =
    rw (sets-front t.rows (map row_code rs) (rw (length-map rs row_code) h), sets-front t.at (map at_code rs) (rw (length-map rs at_code) k))

pub size-table : (p : Pool) (l : List ℕ) → length (table_in p l) ≡ length (ordered_in p l)
unfolding table_in table ordered_in
size-table p l = length-map (ordered (row_at p) at_binary64 l) (row_of (row_at p) (ordered (row_at p) at_binary64 l))

rows-table : (p : Pool) (l : List ℕ) → rows_of p (ordered_in p l) ≡ table_in p l
unfolding rows_of table_in table ordered_in
rows-table p l = refl

-- ---- the steps

-- what the code was told of the room, and that it was true
module _ (p : Pool) (l o q : List ℕ) (t : Rows) (x : Bool) (said : x ≡ roomy p l o q t) (yes : x ≡ true) where
  h : Roomy (length l) (length o) (length p.points) (length q) (length t.rows) (length t.at)
  h = room (length l) (length o) (length p.points) (length q) (length t.rows) (length t.at) (sym said ∙ yes)

  fits : order_events p l o ≡ ordering (in_front (ordered_in p l) o) (length (ordered_in p l))
  unfolding order_events
  fits = rw (le-ltb max_events (length l) h.few, le-ltb (length o) (length l) h.order)

  module _ (o' : List ℕ) (n : ℕ) (e : ordering o' n ≡ order_events p l o) where
    in-front : o' ≡ in_front (ordered_in p l) o
    in-front = ap (λ (x : Ordering). x.order) (e ∙ fits)

    counted : n ≡ length (ordered_in p l)
    counted = ap (λ (x : Ordering). x.count) (e ∙ fits)

    pub most : n ≤ max_events
    most = omega (arith, counted, count_most p l, h.few)

    inside : n ≤ length o'
    unfolding in_front
    inside = rw (in-front, length-append) (omega (arith, counted))

    taken : take n o' ≡ ordered_in p l
    unfolding in_front
    taken = rw in-front (take_at (ordered_in p l) (drop (length (ordered_in p l)) o) n (sym counted))

    module _ (q' : List ℕ) (f : q' ≡ place_all o' n q) where
      placed : q' ≡ places_in (ordered_in p l) (length q)
      unfolding place_all
      placed = f ∙ rw (le-ltb max_events n most, le-ltb (length o') n inside, taken)

      pub ready : (n ≤ length o') × Placing (take n o') q' n
      ready = (
        inside,
        rw taken (record { few = most; count = counted; each = λ r. rw (placed, counted) (each-place p l (length q) r h.places) }),
      )

      laid_out : filled p (take n o') t ≡ laid (table_in p l) t
      unfolding filled
      laid_out =
          rw (taken, rows-table p l)
          (puts-laid (table_in p l) t (omega (arith, size-table p l, count_most p l, h.rows)) (omega (arith, size-table p l, count_most p l, h.at)))

      pub all_laid : (t' : Rows) → t' ≡ filled p (take n o') t → tabulated o' q' t' n ≡ tabulate p l o q t
      unfolding tabulate
      all_laid t' g = rw (g, laid_out, in-front, placed, counted, ← said, yes)
