-- Records that are the same but for their numbers, in the places in use, are what connection takes for another numbering.
use mathlib.Core.Path.{◌≡◌, sym, ap, ◌∙◌}
use mathlib.Core.List.{[]}
use Prim.Native.Nat.{ℕ, ◌≤◌, ◌<◌}
use native.Mathlib.Decide.{dec_lt}
use native.Mathlib.Omega.{arith}
use borrow.Author.Tests.{lt-ltb}
use lib.Dec.{ltb}
use lib.ListN.{length}
use lib.Seq.{length-take-le, get_or-take}
use Rattle.numbers.specs.declared.Point.{Point}
use Rattle.events.specs.Event.{Event}
use Rattle.events.specs.Renaming.{rename}
use Rattle.events.specs.Pool.{Pool, size, row_at}
use Rattle.contours.specs.Connect.{with_contour}
use Rattle.contours.specs.Renaming.{RenumberedPool}
use Rattle.sweep_order.specs.SameBut.{Renaming}
use Rattle.sweep_room.specs.Room.{first_places}

-- u places of a pool that has as many
record Holds (u : ℕ) (q : Pool) : Type 0 where
  points : u ≤ length q.points
  marks : u ≤ length q.marks

module _ (u : ℕ) (q : Pool) (h : Holds u q) where
  first-size : size (first_places u q) ≡ u
  unfolding size
  first-size = omega (arith, length-take-le u q.points h.points, length-take-le u q.marks h.marks)

  first-row : (r : ℕ) → r < u → row_at (first_places u q) r ≡ row_at q r
  unfolding row_at
  first-row r l =
      let a : r < length q.points = omega (arith, h.points, l) in
      let b : r < length q.marks = omega (arith, h.marks, l) in
      rw
      (length-take-le u q.points h.points, length-take-le u q.marks h.marks, lt-ltb r u l, lt-ltb r (length q.points) a, lt-ltb r (length q.marks) b, get_or-take u q.points r [] l, get_or-take u q.marks r [] l)

-- ---- names

module _ (n : ℕ) (ρ : Renaming n) where
  one_name : (a b : ℕ) → ρ.to a ≡ ρ.to b → a ≡ b
  one_name a b e = sym (ρ.from_to a) ∙ ap ρ.from e ∙ ρ.from_to b

  module _ (u : ℕ) (h : n ≤ u) where
    stays : (r : ℕ) → u ≤ r → ρ.to r ≡ r
    stays r l = ρ.beyond r (omega (arith, h, l))

    inside : (r : ℕ) → r < u → ρ.to r < u
    inside r l = go (dec_lt (ρ.to r) u)
      where
        go : Dec (ρ.to r < u) → ρ.to r < u
        go (yes d) = d
        go (no d) =
            let far : u ≤ ρ.to r = omega (arith, d) in
            let same : ρ.to r ≡ r = one_name (ρ.to r) r (stays (ρ.to r) far) in
            omega (arith, same, far, l)

    as-inside : (r : ℕ) → ltb (ρ.to r) u ≡ ltb r u
    as-inside r = go (dec_lt r u)
      where
        go : Dec (r < u) → ltb (ρ.to r) u ≡ ltb r u
        go (yes d) = lt-ltb (ρ.to r) u (inside r d) ∙ sym (lt-ltb r u d)
        go (no d) = let far : u ≤ r = omega (arith, d) in ap (λ (x : ℕ). ltb x u) (stays r far)

    -- ---- the two pools

    own-contour : (x y : Event Point) → x ≡ y → x ≡ with_contour x.contour y
    unfolding with_contour
    own-contour x y e = ap (λ (z : Event Point). with_contour x.contour z) e

    pub renumbered : (q q' : Pool) → u ≤ length q.points → u ≤ length q.marks → u ≤ length q'.points → u ≤ length q'.marks
        → ((r : ℕ) → r < u → row_at q' (ρ.to r) ≡ rename ρ.to (row_at q r)) → RenumberedPool ρ.to (first_places u q) (first_places u q')
    renumbered q q' a b a' b' same =
        record {
          points = length-take-le u q'.points a' ∙ sym (length-take-le u q.points a);
          marks = length-take-le u q'.marks b' ∙ sym (length-take-le u q.marks b);
          records =
              rw (first-size u q (record { points = a; marks = b }))
              (record {
                injective = one_name;
                within = as-inside;
                kept = λ r l. own-contour _ _
                    (first-row u q' (record { points = a'; marks = b' }) (ρ.to r) (inside r l)
                    ∙ same r l
                    ∙ ap (rename ρ.to) (sym (first-row u q (record { points = a; marks = b }) r l)));
              });
        }
