-- Where the points stand in order, those between two that are one by value are one with them: no row outside the block around q has its point.
use mathlib.Core.Path.{◌≡◌, refl, sym, ap, ap₂, ◌∙◌}
use mathlib.Core.Bool.{Bool, true, false, not, ◌&&◌, cond, false≢true}
use mathlib.Core.List.{List, [], ◌++◌}
use Prim.Native.Nat.{ℕ, zero, suc, ◌+◌, ◌-◌, ◌≤◌, ◌<◌}
use native.Mathlib.Nat.{add-zero, zero-add}
use native.Mathlib.Decide.{dec_lt}
use native.Mathlib.Omega.{arith}
use borrow.Author.Tests.{le-ltb, lt-ltb, not-true, not-false}
use lib.Dec.{ltb}
use Rattle.numbers.specs.declared.Point.{Point}
use Rattle.events.specs.Coordinates.{same, ahead}
use Rattle.events.specs.Binary64.{at_binary64}
use Rattle.order.proofs.AtBinary64.{laws}
use Rattle.order.proofs.Laws.{ahead_apart, ahead-ext, ahead-trans}
use Rattle.checks.specs.Numbers.{numbers_from}
use Rattle.contours.specs.Result.{keep}
use Rattle.contours.specs.Round.{down, rights, lefts, tries}
use Rattle.rows.specs.Rows.{Rows, size, point_in, point_at, end_at, table_row, row_of}
use Rattle.round.specs.Block.{block_start, block_end, stands, in_order}
use Rattle.round.specs.Round.{right_ends, left_ends, tries_in, around, tried}
use Rattle.round.proofs.Round.{all_tried}

-- ---- a run of positions, kept by a test that fails at both its ends

module _ (f : ℕ → Bool) where
  abbrev Fails : ℕ → ℕ → Type 0
  Fails i e = (j : ℕ) → i ≤ j → j < e → f j ≡ false

  up_none : (i k : ℕ) → Fails i (i + k) → keep f (numbers_from i k) ≡ []
  unfolding keep numbers_from
  up_none i zero h = refl
  up_none i (suc k) h = rw (h i (omega arith) (omega arith)) (up_none (suc i) k (λ j a b. h j (omega arith) (omega arith)))

  up-late : (i a b : ℕ) → Fails i (i + a) → keep f (numbers_from i (a + b)) ≡ keep f (numbers_from (i + a) b)
  unfolding keep numbers_from
  up-late i zero b h = rw (zero-add, add-zero)
  up-late i (suc a) b h =
      let n : suc a + b ≡ suc (a + b) = omega arith in
      let m : suc i + a ≡ i + suc a = omega arith in
      rw (n, h i (omega arith) (omega arith)) (up-late (suc i) a b (λ j u v. h j (omega arith) (omega arith)) ∙ ap (λ (k : ℕ). keep f (numbers_from k b)) m)

  up-early : (i a b : ℕ) → Fails (i + a) (i + a + b) → keep f (numbers_from i (a + b)) ≡ keep f (numbers_from i a)
  unfolding keep numbers_from
  up-early i zero b h = rw zero-add (up_none i b (λ j u v. h j (omega arith) (omega arith)))
  up-early i (suc a) b h =
      let n : suc a + b ≡ suc (a + b) = omega arith in
      rw (n, up-early (suc i) a b (λ j u v. h j (omega arith) (omega arith)))

  down-none : (i k : ℕ) → Fails i (i + k) → keep f (down i k) ≡ []
  unfolding keep down
  down-none i zero h = refl
  down-none i (suc k) h = rw (h (i + k) (omega arith) (omega arith)) (down-none i k (λ j a b. h j (omega arith) (omega arith)))

  down-late : (i a b : ℕ) → Fails i (i + a) → keep f (down i (a + b)) ≡ keep f (down (i + a) b)
  unfolding keep down
  down-late i a zero h = rw add-zero (down-none i a h)
  down-late i a (suc b) h =
      let n : a + suc b ≡ suc (a + b) = omega arith in
      let m : i + (a + b) ≡ i + a + b = omega arith in
      rw (n, m, down-late i a b h)

  down-early : (i a b : ℕ) → Fails (i + a) (i + a + b) → keep f (down i (a + b)) ≡ keep f (down i a)
  unfolding keep down
  down-early i a zero h = rw add-zero
  down-early i a (suc b) h =
      let n : a + suc b ≡ suc (a + b) = omega arith in
      rw (n, h (i + (a + b)) (omega arith) (omega arith)) (down-early i a b (λ j u v. h j (omega arith) (omega arith)))

  -- the run from i up to e is the one from lo up to hi
  module _ (i lo hi e : ℕ) (a : i ≤ lo) (b : lo ≤ hi) (c : hi ≤ e) (u : Fails i lo) (v : Fails hi e) where
    below : Fails i (i + (lo - i))
    below j x y = u j x (omega arith)

    above : Fails (lo + (hi - lo)) (lo + (hi - lo) + (e - hi))
    above j x y = v j (omega arith) (omega arith)

    pub up-window : keep f (numbers_from i (e - i)) ≡ keep f (numbers_from lo (hi - lo))
    up-window =
        let n : e - i ≡ lo - i + (hi - lo + (e - hi)) = omega arith in
        let m : i + (lo - i) ≡ lo = omega arith in
        rw n (up-late i (lo - i) (hi - lo + (e - hi)) below ∙ rw m (up-early lo (hi - lo) (e - hi) above))

    pub down-window : keep f (down i (e - i)) ≡ keep f (down lo (hi - lo))
    down-window =
        let n : e - i ≡ lo - i + (hi - lo + (e - hi)) = omega arith in
        let m : i + (lo - i) ≡ lo = omega arith in
        rw n (down-late i (lo - i) (hi - lo + (e - hi)) below ∙ rw m (down-early lo (hi - lo) (e - hi) above))

-- ---- points, none of which is ahead of another

-- neither is ahead of the other
one-point : (p q : Point) → ahead at_binary64 p q ≡ false → ahead at_binary64 q p ≡ false → same at_binary64 p q ≡ true
one-point p q a b = go (same at_binary64 p q) refl
  where
    go : (s : Bool) → same at_binary64 p q ≡ s → s ≡ true
    go true e = refl
    go false e = sym a ∙ ahead_apart laws p q e ∙ rw b

not-ahead-trans : (p q r : Point) → ahead at_binary64 r q ≡ false → ahead at_binary64 q p ≡ false → ahead at_binary64 r p ≡ false
not-ahead-trans p q r a b = go (same at_binary64 q p) refl (ahead at_binary64 r p) refl
  where
    go : (s : Bool) → same at_binary64 q p ≡ s → (c : Bool) → ahead at_binary64 r p ≡ c → c ≡ false
    go s e false f = refl
    go true e true f = sym f ∙ sym (ahead-ext laws q p r e).0 ∙ a
    go false e true f =
        let g : ahead at_binary64 p q ≡ true = not-false (ahead at_binary64 p q) (sym (ahead_apart laws q p e) ∙ b) in
        sym (ahead-trans laws r p q f g) ∙ a

-- ---- points in order

module _ (at : List (List ℕ)) where
  all-stand : (i k : ℕ) → in_order at i k ≡ true → (j : ℕ) → i ≤ j → j < i + k → stands at j ≡ true
  unfolding in_order
  all-stand i zero h j a b = absurd (omega arith)
  all-stand i (suc k) h j a b = go (stands at i) refl h (dec_lt i j) (all-stand (suc i) k)
    where
      Rest : Type 0
      Rest = in_order at (suc i) k ≡ true → (j : ℕ) → suc i ≤ j → j < suc i + k → stands at j ≡ true

      go : (s : Bool) → stands at i ≡ s → cond s (in_order at (suc i) k) false ≡ true → Dec (i < j) → Rest → stands at j ≡ true
      go true e v (yes l) r = r v j (omega arith) (omega arith)
      go true e v (no l) r = let n : j ≡ i = omega arith in rw n e
      go false e v d r = absurd (false≢true v)

  next_of : (j : ℕ) → stands at (suc j) ≡ true → ahead at_binary64 (point_in at (suc j)) (point_in at j) ≡ false
  unfolding stands
  next_of j h = not-true (ahead at_binary64 (point_in at (suc j)) (point_in at j)) h

  module _ (n : ℕ) (o : in_order at 0 n ≡ true) where
    stand : (j : ℕ) → j < n → stands at j ≡ true
    stand j h = all-stand 0 n o j (omega arith) (omega arith)

    -- no later point is ahead of an earlier one
    later : (j k : ℕ) → j < k → k < n → ahead at_binary64 (point_in at k) (point_in at j) ≡ false
    later j zero h l = absurd (omega arith)
    later j (suc k) h l = go (dec_lt j k) (later j k)
      where
        go : Dec (j < k) → (j < k → k < n → ahead at_binary64 (point_in at k) (point_in at j) ≡ false) → ahead at_binary64 (point_in at (suc k)) (point_in at j) ≡ false
        go (yes m) r =
            not-ahead-trans (point_in at j) (point_in at k) (point_in at (suc k)) (next_of k (stand (suc k) l)) (r m (omega arith))
        go (no m) r = let e : j ≡ k = omega arith in rw e (next_of k (stand (suc k) l))

    module _ (q j m : ℕ) (s : same at_binary64 (point_in at q) (point_in at j) ≡ true) where
      alike : (ahead at_binary64 (point_in at m) (point_in at q) ≡ ahead at_binary64 (point_in at m) (point_in at j)) × (ahead at_binary64 (point_in at q) (point_in at m) ≡ ahead at_binary64 (point_in at j) (point_in at m))
      alike = ahead-ext laws (point_in at q) (point_in at j) (point_in at m) s

      -- a point between two that are one is one with them
      between-below : q < n → j < m → m < q → same at_binary64 (point_in at q) (point_in at m) ≡ true
      between-below l a b = one-point (point_in at q) (point_in at m) (later m q b l) (alike.0 ∙ later j m a (omega arith))

      between-above : j < n → q < m → m < j → same at_binary64 (point_in at q) (point_in at m) ≡ true
      between-above l a b = one-point (point_in at q) (point_in at m) (alike.1 ∙ later m j b l) (later q m a (omega arith))

  -- ---- the block

  module _ (p : Point) where
    abbrev Here : ℕ → Bool
    Here j = same at_binary64 p (point_in at j)

    start-low : (i : ℕ) → block_start at p i ≤ i
    unfolding block_start
    start-low zero = omega arith
    start-low (suc i) = go (Here i) (start-low i)
      where
        go : (s : Bool) → block_start at p i ≤ i → cond s (block_start at p i) (suc i) ≤ suc i
        go true h = omega arith
        go false h = omega arith

    end-high : (i k : ℕ) → (i ≤ block_end at p i k) × (block_end at p i k ≤ i + k)
    unfolding block_end
    end-high i zero = (omega arith, omega arith)
    end-high i (suc k) = go (Here i) (end-high (suc i) k)
      where
        go : (s : Bool) → (suc i ≤ block_end at p (suc i) k) × (block_end at p (suc i) k ≤ suc i + k)
            → (i ≤ cond s (block_end at p (suc i) k) i) × (cond s (block_end at p (suc i) k) i ≤ i + suc k)
        go true h = (omega (arith, h.0), omega (arith, h.1))
        go false h = (omega arith, omega arith)

    clash : (j m : ℕ) → (Here j ≡ true → Here m ≡ true) → Here m ≡ false → Here j ≡ false
    clash j m h e = go (Here j) refl
      where
        go : (s : Bool) → Here j ≡ s → s ≡ false
        go true f = sym (h f) ∙ e
        go false f = refl

    start-out : (i : ℕ) → ((j m : ℕ) → j < m → m < i → Here j ≡ true → Here m ≡ true) → (j : ℕ) → j < block_start at p i → Here j ≡ false
    unfolding block_start
    start-out zero h j l = absurd (omega arith)
    start-out (suc i) h j l = go (Here i) refl l (dec_lt j i) (start-out i (λ j m a b. h j m a (omega arith)) j)
      where
        go : (s : Bool) → Here i ≡ s → j < cond s (block_start at p i) (suc i) → Dec (j < i) → (j < block_start at p i → Here j ≡ false) → Here j ≡ false
        go true e v d r = r v
        go false e v (yes a) r = clash j i (h j i a (omega arith)) e
        go false e v (no a) r = let n : j ≡ i = omega arith in rw n e

    end-out : (i k : ℕ) → ((m j : ℕ) → i ≤ m → m < j → j < i + k → Here j ≡ true → Here m ≡ true) → (j : ℕ) → block_end at p i k ≤ j → j < i + k → Here j ≡ false
    unfolding block_end
    end-out i zero h j a b = absurd (omega arith)
    end-out i (suc k) h j a b = go (Here i) refl a (dec_lt i j) (λ u. end-out (suc i) k (λ m j x y z. h m j (omega arith) y (omega arith)) j u (omega arith))
      where
        go : (s : Bool) → Here i ≡ s → cond s (block_end at p (suc i) k) i ≤ j → Dec (i < j) → (block_end at p (suc i) k ≤ j → Here j ≡ false) → Here j ≡ false
        go true e v d r = r v
        go false e v (yes l) r = clash j i (h i j (omega arith) l b) e
        go false e v (no l) r = let n : j ≡ i = omega arith in rw n e

-- ---- what is tried

module _ (t : Rows) (o : in_order t.at 0 (size t) ≡ true) where
  module _ (q : ℕ) (l : q < size t) where
    abbrev p : Point
    p = point_at t q

    abbrev lo : ℕ
    lo = block_start t.at p q

    abbrev hi : ℕ
    hi = block_end t.at p (q + 1) (size t - (q + 1))

    lo-low : lo ≤ q
    lo-low = start-low t.at p q

    hi-high : (q + 1 ≤ hi) × (hi ≤ size t)
    hi-high = let h = end-high t.at p (q + 1) (size t - (q + 1)) in (h.0, omega (arith, h.1))

    -- no other row has the point
    below-lo : (j : ℕ) → j < lo → same at_binary64 p (point_at t j) ≡ false
    below-lo = start-out t.at p q (λ j m a b s. between-below t.at (size t) o q j m s l a b)

    above-hi : (j : ℕ) → hi ≤ j → j < size t → same at_binary64 p (point_at t j) ≡ false
    above-hi j a b =
        end-out t.at p (q + 1) (size t - (q + 1)) (λ m j x y z s. between-above t.at (size t) o q j m s (omega arith) (omega arith) y) j a (omega arith)

    abbrev is_right : ℕ → Bool
    is_right j = same at_binary64 p (table_row t j).point && not (table_row t j).left

    abbrev is_left : ℕ → Bool
    is_left j = same at_binary64 p (table_row t j).point && (table_row t j).left

    no-right : (j : ℕ) → same at_binary64 p (point_at t j) ≡ false → is_right j ≡ false
    unfolding table_row row_of
    no-right j h = rw h

    no-left : (j : ℕ) → same at_binary64 p (point_at t j) ≡ false → is_left j ≡ false
    unfolding table_row row_of
    no-left j h = rw h

    -- the ends below q, those in the block, and those above q
    left-low : left_ends t p 0 (q - 0) ≡ left_ends t p lo (q - lo)
    unfolding lefts
    left-low = down-window is_left 0 lo q q (omega arith) lo-low (omega arith) (λ j x y. no-left j (below-lo j y)) (λ j x y. absurd (omega arith))

    left-all : left_ends t p 0 (size t - 0) ≡ left_ends t p lo (hi - lo)
    unfolding lefts
    left-all = down-window is_left 0 lo hi (size t) (omega arith) (omega (arith, lo-low, hi-high.0)) hi-high.1 (λ j x y. no-left j (below-lo j y)) (λ j x y. no-left j (above-hi j x y))

    left-high : left_ends t p (q + 1) (size t - (q + 1)) ≡ left_ends t p (q + 1) (hi - (q + 1))
    unfolding lefts
    left-high = down-window is_left (q + 1) (q + 1) hi (size t) (omega arith) hi-high.0 hi-high.1 (λ j x y. absurd (omega arith)) (λ j x y. no-left j (above-hi j x y))

    right-low : right_ends t p 0 (q - 0) ≡ right_ends t p lo (q - lo)
    unfolding rights
    right-low = up-window is_right 0 lo q q (omega arith) lo-low (omega arith) (λ j x y. no-right j (below-lo j y)) (λ j x y. absurd (omega arith))

    right-all : right_ends t p 0 (size t - 0) ≡ right_ends t p lo (hi - lo)
    unfolding rights
    right-all = up-window is_right 0 lo hi (size t) (omega arith) (omega (arith, lo-low, hi-high.0)) hi-high.1 (λ j x y. no-right j (below-lo j y)) (λ j x y. no-right j (above-hi j x y))

    right-high : right_ends t p (q + 1) (size t - (q + 1)) ≡ right_ends t p (q + 1) (hi - (q + 1))
    unfolding rights
    right-high = up-window is_right (q + 1) (q + 1) hi (size t) (omega arith) hi-high.0 hi-high.1 (λ j x y. absurd (omega arith)) (λ j x y. no-right j (above-hi j x y))

    around-is : around t q ≡ tries (same at_binary64) (size t) (table_row t) q
    unfolding around tries_in
    around-is =
        ap₂ (cond (end_at t q).left)
        (sym (ap₂ ◌++◌ left-low (ap₂ ◌++◌ right-all left-high)))
        (sym (ap₂ ◌++◌ right-high (ap₂ ◌++◌ left-all right-low)))
        ∙ all_tried t (point_at t q) (size t) q refl refl

  tried-near : (q : ℕ) → tried t true q ≡ tries (same at_binary64) (size t) (table_row t) q
  unfolding tried
  tried-near q = go (dec_lt q (size t))
    where
      go : Dec (q < size t) → cond (ltb q (size t)) (around t q) (tries (same at_binary64) (size t) (table_row t) q) ≡ tries (same at_binary64) (size t) (table_row t) q
      go (yes l) = rw (lt-ltb q (size t) l) (around-is q l)
      go (no l) = rw (le-ltb q (size t) (omega arith))

-- by the block only where the points stand in order: what is tried is what the definition tries
pub tried-is : (t : Rows) (near : Bool) → (near ≡ true → in_order t.at 0 (size t) ≡ true) → (q : ℕ) → tried t near q ≡ tries (same at_binary64) (size t) (table_row t) q
unfolding tried
tried-is t true h q = tried-near t (h refl) q
tried-is t false h q = refl
