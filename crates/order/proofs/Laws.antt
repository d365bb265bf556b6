-- The laws of event order over any kind of coordinate whose points have places on the grid: what holds of the places holds of the points.
use mathlib.Core.Path.{◌≡◌, refl, sym, ap, ◌∙◌}
use mathlib.Core.Bool.{Bool, true, false, not, ◌&&◌, ◌||◌, beq, cond, true≢false, false≢true}
use Rattle.events.specs.Coordinates.{Coordinates, same, ahead}
use Rattle.events.specs.Event.{Key}
use Rattle.order.specs.Order.{by_number, by_end, before_there, before, on_side, is_one_way, tied}
use Rattle.order.proofs.Steps.{Both}
use Rattle.order.proofs.Grid as G
use Rattle.order.proofs.Grid.{Spot, grid, same_spot, same_self}
use Rattle.order.proofs.Ties as T
use Rattle.order.proofs.Transitive.{before-trans}

-- What a kind of coordinate must supply: its comparisons and its turn are those of places on the grid. Every point has a place: of binary64 a word that is
-- not finite has that of 0.
pub record OrderLaws {P : Type 0} (C : Coordinates P) : Type 0 where
  pub place : P → Spot
  pub less-x : (p q : P) → C.less_x p q ≡ grid.less_x (place p) (place q)
  pub less-y : (p q : P) → C.less_y p q ≡ grid.less_y (place p) (place q)
  pub same-x : (p q : P) → C.same_x p q ≡ grid.same_x (place p) (place q)
  pub same-y : (p q : P) → C.same_y p q ≡ grid.same_y (place p) (place q)
  pub turns : (p q r : P) → C.turn p q r ≡ grid.turn (place p) (place q) (place r)

-- one key by value, whatever its ring
pub record SameKey {P : Type 0} (C : Coordinates P) (a b : Key P) : Type 0 where
  pub point : same C a.point b.point ≡ true
  pub mate : same C a.mate b.mate ≡ true
  pub left : a.left ≡ b.left
  pub subject : a.subject ≡ b.subject

-- Check 4, 'left end not before its partner', may look at the points alone: a left end is before a right end exactly if it is ahead.
pub left-before-right : {P : Type 0} (C : Coordinates P) (a b : Key P) → a.left ≡ true → b.left ≡ false → before C a b ≡ ahead C a.point b.point
unfolding before ahead by_number by_end
left-before-right C a b l r = rw (l, r, last (C.less_y a.point b.point) (C.less_y b.point a.point))
  where
    last : (u v : Bool) → cond u true (cond v false false) ≡ u
    last true v = refl
    last false true = refl
    last false false = refl

-- where neither point is ahead, what is asked at one point decides
pub before-there : {P : Type 0} (C : Coordinates P) (a b : Key P) → ahead C a.point b.point ≡ false → ahead C b.point a.point ≡ false → before C a b ≡ before_there C a b
unfolding before ahead by_number
before-there C a b = go (C.less_x a.point b.point) (C.less_x b.point a.point) (C.less_y a.point b.point) (C.less_y b.point a.point) (before_there C a b)
  where
    go : (x x' y y' rest : Bool) → cond x true (cond x' false y) ≡ false → cond x' true (cond x false y') ≡ false → cond x true (cond x' false (cond y true (cond y' false rest))) ≡ rest
    go true x' y y' rest h k = absurd (true≢false h)
    go false true y y' rest h k = absurd (true≢false k)
    go false false true y' rest h k = absurd (true≢false h)
    go false false false true rest h k = absurd (true≢false k)
    go false false false false rest h k = refl

module _ {P : Type 0} {C : Coordinates P} (L : OrderLaws C) where
  -- ---- everything by the places
  at : Key P → Key Spot
  at k = record { point = L.place k.point; left = k.left; subject = k.subject; ring = 0; mate = L.place k.mate }

  before_at : (a b : Key P) → before C a b ≡ before grid (at a) (at b)
  unfolding before at
  before_at a b =
      let x = L.less-x a.point b.point in
      let x' = L.less-x b.point a.point in
      let y = L.less-y a.point b.point in
      let y' = L.less-y b.point a.point in
      let turn = L.turns a.point a.mate b.mate in
      rw (x, x', y, y', turn)

  same_at : (p q : P) → same C p q ≡ same grid (L.place p) (L.place q)
  unfolding same
  same_at p q = rw (L.same-x p q, L.same-y p q)

  ahead-at : (p q : P) → ahead C p q ≡ ahead grid (L.place p) (L.place q)
  unfolding ahead
  ahead-at p q = rw (L.less-x p q, L.less-x q p, L.less-y p q)

  side-at : (k : Key P) → on_side C k ≡ true → on_side grid (at k) ≡ true
  unfolding on_side at
  side-at k h =
      let after = ahead-at k.point k.mate in
      let earlier = ahead-at k.mate k.point in
      rw (← after, ← earlier) h

  is_one_way-at : (a b : Key P) → is_one_way C a b ≡ is_one_way grid (at a) (at b)
  unfolding is_one_way at
  is_one_way-at a b = rw (same_at a.point b.point, L.turns a.point a.mate b.mate)

  tied_at : (a b : Key P) → tied C a b ≡ tied grid (at a) (at b)
  unfolding tied at
  tied_at a b = ap (λ (t : Bool). t && beq a.subject b.subject) (is_one_way-at a b)

  -- ---- event order
  both : (a b : Key P) → Both (before C a b) (before C b a) (tied C a b)
  both a b = rw (before_at a b, before_at b a, tied_at a b) (T.before-both (at a) (at b))

  -- of two keys one is before the other
  pub total : (a b : Key P) → (before C a b || before C b a) ≡ true
  total a b = (both a b).one

  -- each is before the other exactly if they have one point, one flag, one direction and one layer
  pub ties : (a b : Key P) → (before C a b && before C b a) ≡ tied C a b
  ties a b = (both a b).tie

  -- the first as an implication
  pub otherwise : (a b : Key P) → before C a b ≡ false → before C b a ≡ true
  otherwise a b e = rw e at (total a b)

  -- what does not run one way from a shared end does not tie
  pub apart : (a b : Key P) → is_one_way C a b ≡ false → before C a b ≡ not (before C b a)
  unfolding tied
  apart a b n = go (before C a b) (before C b a) (total a b) (ties a b ∙ rw n)
    where
      go : (u v : Bool) → (u || v) ≡ true → (u && v) ≡ false → u ≡ not v
      go true true p q = absurd (true≢false q)
      go true false p q = refl
      go false true p q = refl
      go false false p q = absurd (false≢true p)

  -- keys whose partners lie on their proper sides alone: the side makes one line one direction
  pub trans : (a b c : Key P) → on_side C a ≡ true → on_side C b ≡ true → on_side C c ≡ true → before C a b ≡ true → before C b c ≡ true → before C a c ≡ true
  trans a b c h j k p q = before_at a c ∙ before-trans (at a) (at b) (at c) (side-at a h) (side-at b j) (side-at c k) (sym (before_at a b) ∙ p) (sym (before_at b c) ∙ q)

  -- where the points differ, they decide
  pub before-ahead : (a b : Key P) → same C a.point b.point ≡ false → before C a b ≡ ahead C a.point b.point
  unfolding at
  before-ahead a b d = before_at a b ∙ T.before-ahead (at a) (at b) (sym (same_at a.point b.point) ∙ d) ∙ sym (ahead-at a.point b.point)

  -- ---- points by value, and which is ahead
  module _ (p q : P) where
    one_place : same C p q ≡ true → L.place p ≡ L.place q
    one_place e = same_spot (L.place p) (L.place q) (sym (same_at p q) ∙ e)

    pub same-sym : same C p q ≡ true → same C q p ≡ true
    same-sym e = same_at q p ∙ rw (one_place e) (same_self (L.place q))

    pub ahead-asym : ahead C p q ≡ true → ahead C q p ≡ false
    ahead-asym e = ahead-at q p ∙ G.ahead-asym (L.place p) (L.place q) (sym (ahead-at p q) ∙ e)

    -- of two points that differ exactly one is ahead
    pub ahead_apart : same C p q ≡ false → ahead C p q ≡ not (ahead C q p)
    ahead_apart d = rw (ahead-at p q, ahead-at q p) (G.ahead_apart (L.place p) (L.place q) (sym (same_at p q) ∙ d))

  pub same_refl : (p : P) → same C p p ≡ true
  same_refl p = same_at p p ∙ same_self (L.place p)

  -- two points that are one by value stand alike to every third
  module _ (p q r : P) where
    pub same-ext : same C p q ≡ true → same C r p ≡ same C r q
    same-ext e = same_at r p ∙ ap (same grid (L.place r)) (one_place p q e) ∙ sym (same_at r q)

    pub ahead-ext : same C p q ≡ true → (ahead C r p ≡ ahead C r q) × (ahead C p r ≡ ahead C q r)
    ahead-ext e =
        let o = one_place p q e in
        (ahead-at r p ∙ ap (ahead grid (L.place r)) o ∙ sym (ahead-at r q), ahead-at p r ∙ ap (λ (s : Spot). ahead grid s (L.place r)) o ∙ sym (ahead-at q r))

    pub ahead-trans : ahead C p q ≡ true → ahead C q r ≡ true → ahead C p r ≡ true
    ahead-trans e f = ahead-at p r ∙ G.ahead-trans (L.place p) (L.place q) (L.place r) (sym (ahead-at p q) ∙ e) (sym (ahead-at q r) ∙ f)

  pub same-trans : (p q r : P) → same C p q ≡ true → same C q r ≡ true → same C p r ≡ true
  same-trans p q r e f = sym (same-ext q r p f) ∙ e

  -- event order does not tell keys apart that are one by value
  same_keys : (a b : Key P) → SameKey C a b → at a ≡ at b
  unfolding at
  same_keys a b s =
      let p = one_place a.point b.point s.point in
      let m = one_place a.mate b.mate s.mate in
      λ i. record { point = p i; left = s.left i; subject = s.subject i; ring = 0; mate = m i }

  pub before-ext : (a b c : Key P) → SameKey C a b → (before C a c ≡ before C b c) × (before C c a ≡ before C c b)
  before-ext a b c s =
      let e = same_keys a b s in
      (before_at a c ∙ ap (λ (z : Key Spot). before grid z (at c)) e ∙ sym (before_at b c), before_at c a ∙ ap (before grid (at c)) e ∙ sym (before_at c b))
