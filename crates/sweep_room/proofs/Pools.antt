-- The first places of a pool are a front of it.
use mathlib.Core.Path.{◌≡◌, ap₂}
use mathlib.Core.List.{[]}
use Prim.Native.Nat.{ℕ, ◌<◌, ◌≤◌}
use native.Mathlib.Omega.{arith}
use lib.ListN.{length, take}
use lib.Seq.{length-take-le, get_or-take}
use borrow.Author.Tests.{lt-ltb}
use Rattle.numbers.specs.declared.Point.{Point}
use Rattle.events.specs.Event.{Event}
use Rattle.events.specs.Pool.{Pool, pool, size, point_of, marks_of, marks_over, row_at, enter, store, stored}
use Rattle.sweep_room.specs.Room.{first_places}
use Rattle.sweep_room.proofs.Places.{take-set, take-over}
use Rattle.sweep_room.proofs.Fronts.{Front}

pub wide-pool : (n : ℕ) (p : Pool) → n ≤ length p.points → length p.marks ≡ length p.points → n ≤ size p
unfolding size
wide-pool n p within marks = omega arith

module _ (n : ℕ) where
  pub enter-first : (p : Pool) (i : ℕ) (e : Event Point) → first_places n (enter p i e) ≡ enter (first_places n p) i e
  unfolding enter
  enter-first p i e = ap₂ pool (take-set n p.points i (point_of e)) (take-set n p.marks i (marks_of e))

  pub store-first : (p : Pool) (i : ℕ) (e : Event Point) → first_places n (store p i e) ≡ store (first_places n p) i e
  unfolding store
  store-first p i e = ap₂ pool (take-set n p.points i (point_of e)) (take-over n p.marks i [] (λ m. marks_over m e))

  module _ (p : Pool) (wide : n ≤ size p) where
    pub points-first : length (take n p.points) ≡ n
    unfolding size
    points-first = length-take-le n p.points (omega arith)

    pub marks-first : length (take n p.marks) ≡ n
    unfolding size
    marks-first = length-take-le n p.marks (omega arith)

    pub size-first : size (first_places n p) ≡ n
    unfolding size
    size-first = rw (points-first, marks-first) (omega arith)

    pub row_first : (i : ℕ) → i < n → row_at (first_places n p) i ≡ row_at p i
    unfolding row_at size
    row_first i l =
        rw
        (points-first, marks-first, lt-ltb i n l, lt-ltb i (length p.points) (omega arith), lt-ltb i (length p.marks) (omega arith), get_or-take n p.points i [] l, get_or-take n p.marks i [] l)

  unfoldable pub pool-front : Front stored n
  unfolding stored
  pool-front = record { front = first_places n; enter-front = enter-first; store-front = store-first; size-front = size-first; row-front = λ p i w l. row_first p w i l }
