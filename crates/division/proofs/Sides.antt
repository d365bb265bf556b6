-- After a division that is done each of the four ends lies on its proper side of its partner. The cut lies after the left end, because straight below
-- it the cut was moved; and where it does not lie before the right end, the flags of the second half changed places.
use mathlib.Core.Path.{◌≡◌, refl}
use mathlib.Core.Logic.{◌⊎◌, inl, inr}
use mathlib.Core.Bool.{Bool, true, false, ◌&&◌, ◌||◌, cond, true≢false, false≢true}
use Prim.Native.Nat.{ℕ, ◌+◌, ◌<◌}
use native.Mathlib.Omega.{arith}
use borrow.Author.Tests.{lt-ltb, le-ltb, eq-eqb, ne_eqb, not-false}
use lib.Dec.{ltb, eqb}
use Rattle.events.specs.Coordinates.{Coordinates, same, ahead}
use Rattle.events.specs.Event.{Event, key}
use Rattle.order.specs.Order.{by_number, before, on_side}
use Rattle.order.proofs.Steps.{three_ways}
use Rattle.order.proofs.Grid.{grid}
use Rattle.order.proofs.Laws.{OrderLaws}
use Rattle.order.specs.Keys.{key_of}
use Rattle.division.specs.Division.{moves, moved, misses, new_end, linked, keeps}
use Rattle.division.specs.Records.{Parted}

-- what a kind of coordinate must supply: the laws of event order, and a step in x that, where it is fit, goes beyond every point of that x
pub record MoveLaws {P : Type 0} (C : Coordinates P) : Type 0 where
  pub order : OrderLaws C
  pub further : (l p : P) → C.fit (C.next_x p) ≡ true → C.same_x p l ≡ true → C.less_x l (C.next_x p) ≡ true

-- ---- the three tests of two numbers: less, greater, equal
data Way : Bool → Bool → Bool → Type 0 where
  less : Way true false false
  more : Way false true false
  equal : Way false false true

way : (m n : ℕ) → Way (ltb m n) (ltb n m) (eqb m n)
way m n = go (three_ways m n)
  where
    go : (m < n) ⊎ ((m ≡ n) ⊎ (n < m)) → Way (ltb m n) (ltb n m) (eqb m n)
    go (inl h) = rw (lt-ltb m n h, le-ltb n m (omega arith), ne_eqb m n (λ e. omega arith)) less
    go (inr (inl h)) = rw (le-ltb m n (omega arith), le-ltb n m (omega arith), eq-eqb m n h) equal
    go (inr (inr h)) = rw (le-ltb m n (omega arith), lt-ltb n m h, ne_eqb m n (λ e. omega arith)) more

-- ---- a cut and an end, by their tests in x and in y: the cut is less, greater, equal

-- not left of the left end, not that end, and not straight below it: after it
after : {l g e l' g' e' : Bool} → Way l g e → Way l' g' e' → l ≡ false → (e && e') ≡ false → (e && l') ≡ false → cond g true (cond l false g') ≡ true
after less y h s m = absurd (true≢false h)
after more y h s m = refl
after equal less h s m = absurd (true≢false m)
after equal more h s m = refl
after equal equal h s m = absurd (true≢false s)

-- not right of the right end, and not that end: before it where the order says so, and else after it
either_side : {l g e l' g' e' : Bool} (rest : Bool) → Way l g e → Way l' g' e' → g ≡ false → (e && e') ≡ false
    → cond (by_number l g (by_number l' g' rest)) (cond l true (cond g false l')) (cond g true (cond l false g')) ≡ true
unfolding by_number
either_side rest less y h s = refl
either_side rest more y h s = absurd (true≢false h)
either_side rest equal less h s = refl
either_side rest equal more h s = refl
either_side rest equal equal h s = absurd (true≢false s)

pub and_left : (a b : Bool) → (a && b) ≡ true → a ≡ true
and_left true b h = refl
and_left false b h = absurd (false≢true h)

or-false : (a b : Bool) → (a || b) ≡ false → (a ≡ false) × (b ≡ false)
or-false true b h = absurd (true≢false h)
or-false false b h = (refl, h)

module _ {P : Type 0} {C : Coordinates P} (L : MoveLaws C) where
  x-way : (p q : P) → Way (C.less_x p q) (C.less_x q p) (C.same_x p q)
  unfolding grid
  x-way p q =
      let O = L.order in
      rw (O.less-x p q, O.less-x q p, O.same-x p q) (way (O.place p).x (O.place q).x)

  y-way : (p q : P) → Way (C.less_y p q) (C.less_y q p) (C.same_y p q)
  unfolding grid
  y-way p q =
      let O = L.order in
      rw (O.less-y p q, O.less-y q p, O.same-y p q) (way (O.place p).y (O.place q).y)

  -- what refusal 7 leaves of a cut
  record Hits (l r c : P) : Type 0 where
    pub not_left : same C c l ≡ false
    pub not_right : same C c r ≡ false
    pub from-left : C.less_x c l ≡ false
    pub to_right : C.less_x r c ≡ false
    pub fit : C.fit c ≡ true

  hits : (l r c : P) → misses C l r c ≡ false → Hits l r c
  unfolding misses
  hits l r c h =
      let one = or-false (same C c l) _ h in
      let two = or-false (same C c r) _ one.1 in
      let three = or-false (C.less_x c l) _ two.1 in
      let four = or-false (C.less_x r c) _ three.1 in
      record { not_left = one.0; not_right = two.0; from-left = three.0; to_right = four.0; fit = not-false (C.fit c) four.1 }

  pub cut-after : (l r p : P) → misses C l r (moved C l p) ≡ false → ahead C l (moved C l p) ≡ true
  unfolding moved moves same ahead
  cut-after l r p h = go (moves C l p) refl h
    where
      go : (m : Bool) → moves C l p ≡ m → misses C l r (cond m (C.next_x p) p) ≡ false → ahead C l (cond m (C.next_x p) p) ≡ true
      go true m h = rw (L.further l p (hits l r (C.next_x p) h).fit (and_left (C.same_x p l) (C.less_y p l) m))
      go false m h =
          let d = hits l r p h in
          after (x-way p l) (y-way p l) d.from-left d.not_left m

  pub cut-aside : (e f : Event P) (c : P) → misses C e.point f.point c ≡ false
      → cond (keeps C e f c) (ahead C c f.point) (ahead C f.point c) ≡ true
  unfolding keeps before ahead same new_end key
  cut-aside e f c h =
      let d = hits e.point f.point c h in
      either_side _ (x-way c f.point) (y-way c f.point) d.to_right d.not_right

-- ---- the four ends

-- each lies on its proper side of its partner
pub record Sides {P : Type 0} (C : Coordinates P) (row : ℕ → Event P) (i right left o : ℕ) : Type 0 where
  pub own : on_side C (key_of row i) ≡ true
  pub right_end : on_side C (key_of row right) ≡ true
  pub left_end : on_side C (key_of row left) ≡ true
  pub other : on_side C (key_of row o) ≡ true

module _ {P : Type 0} (C : Coordinates P) {row row' : ℕ → Event P} {used i : ℕ} {c : P} {keep : Bool} (h : Parted row row' used i c keep) where
  abbrev o : ℕ
  o = (row i).partner

  -- the old right end's flag after the division tells on which side of it the cut lies
  flagged : (keep right : Bool) (u v : Bool) → right ≡ false → cond keep u v ≡ true → cond (cond keep right true) v u ≡ true
  flagged true right u v r t = rw r t
  flagged false right u v r t = t

  pub sides : (row i).left ≡ true → (row o).left ≡ false → ahead C (row i).point c ≡ true → cond keep (ahead C c (row o).point) (ahead C (row o).point c) ≡ true → Sides C row' i used (used + 1) o
  unfolding on_side key_of key new_end linked
  sides l r first second =
      record {
        own = rw (h.own, h.right, l) first;
        right_end = rw (h.right, h.own) first;
        left_end = rw (h.left, h.other) second;
        other = rw (h.other, h.left) (flagged keep (row o).left _ _ r second);
      }
