-- What the comparisons of two points tell of their places on the grid, and of each other.
use mathlib.Core.Path.{◌≡◌, sym, ◌∙◌}
use mathlib.Core.Bool.{true, false}
use Prim.Native.Nat.{◌<◌, ◌≤◌}
use native.Mathlib.Omega.{arith}
use borrow.Author.Tests.{ltb-true, ltb-false, lt-ltb, le-ltb, ne_eqb}
use Rattle.events.specs.Coordinates.{Coordinates}
use Rattle.order.proofs.Grid.{grid}
use Rattle.order.proofs.Laws.{OrderLaws}

module _ {P : Type 0} {C : Coordinates P} (L : OrderLaws C) (p q : P) where
  pub less-x : C.less_x p q ≡ true → (L.place p).x < (L.place q).x
  unfolding grid
  less-x t = ltb-true (L.place p).x (L.place q).x (sym (L.less-x p q) ∙ t)

  pub not-less-x : C.less_x p q ≡ false → (L.place q).x ≤ (L.place p).x
  unfolding grid
  not-less-x t = ltb-false (L.place p).x (L.place q).x (sym (L.less-x p q) ∙ t)

  pub less-y : C.less_y p q ≡ true → (L.place p).y < (L.place q).y
  unfolding grid
  less-y t = ltb-true (L.place p).y (L.place q).y (sym (L.less-y p q) ∙ t)

  pub not-less-y : C.less_y p q ≡ false → (L.place q).y ≤ (L.place p).y
  unfolding grid
  not-less-y t = ltb-false (L.place p).y (L.place q).y (sym (L.less-y p q) ∙ t)

  pub is-less-y : (L.place p).y < (L.place q).y → C.less_y p q ≡ true
  unfolding grid
  is-less-y h = L.less-y p q ∙ lt-ltb (L.place p).y (L.place q).y h

  -- ---- of two points of which the first is the lower
  module _ (t : C.less_y p q ≡ true) where
    pub not-higher : C.less_y q p ≡ false
    unfolding grid
    not-higher = L.less-y q p ∙ le-ltb (L.place q).y (L.place p).y (omega (arith, less-y t))

    pub not-level : C.same_y p q ≡ false
    unfolding grid
    not-level = L.same-y p q ∙ ne_eqb (L.place p).y (L.place q).y (λ (e : (L.place p).y ≡ (L.place q).y). omega (arith, less-y t))

    pub not-level-turned : C.same_y q p ≡ false
    unfolding grid
    not-level-turned = L.same-y q p ∙ ne_eqb (L.place q).y (L.place p).y (λ (e : (L.place q).y ≡ (L.place p).y). omega (arith, less-y t))
