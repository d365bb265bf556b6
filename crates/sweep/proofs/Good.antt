-- Partners stay mutual and on their proper sides, and points fit, through the whole run; so event order is total and transitive on what waits.
use Rattle.std.proofs.Common.{Ok}
use mathlib.Core.Path.{◌≡◌, refl, sym, ap, ap₂, ◌∙◌, subst}
use mathlib.Core.Logic.{◌≢◌, ⊎_elim}
use mathlib.Core.Bool.{Bool, true, false, true≢false}
use Prim.Native.Nat.{ℕ, ◌+◌, ◌<◌, ◌≤◌}
use native.Mathlib.Omega.{arith}
use borrow.Author.Tests.{not-false}
use Rattle.events.specs.Coordinates.{Coordinates, same, ahead, Crossing}
use Rattle.events.specs.Event.{Event, key}
use Rattle.events.specs.Store.{Store, look}
use Rattle.events.proofs.Stored.{Stored}
use Rattle.events.proofs.Looks.{Blanks, look_in, used-or-blank}
use Rattle.events.proofs.Faces.{Face, face-store}
use Rattle.order.specs.Order.{on_side}
use Rattle.order.specs.Keys.{key_of}
use Rattle.order.proofs.Laws.{ahead-asym}
use Rattle.checks.specs.Checks.{in_order}
use Rattle.checks.specs.Sound as Checked
use Rattle.division.specs.declared.Divided.{Divided}
use Rattle.division.specs.Division.{moved, misses, new_end, linked, divide}
use Rattle.division.proofs.Records.{in_parts}
use Rattle.division.proofs.Pairs.{aside}
use Rattle.division.proofs.Outcomes.{same_size, passed, used-after}
use Rattle.division.proofs.Sides.{MoveLaws}
use Rattle.division.proofs.Whole.{Segment, Whole, whole}
use Rattle.neighbours.proofs.Invariants.{Invariant, numbers_in_use, Kept, used-kept}
use Rattle.checks.proofs.Unstruck.{neither}
use Rattle.sweep.specs.Lined.{Sound, Good}

-- ---- what the checks 2 and 4 leave

module _ {P S : Type 0} (C : Coordinates P) (K : Store P S) (s : S) (n : ℕ) where
  sound-checked : (r : ℕ) → Checked.Sound C (K.row_at s) n r → Sound C (look K s n) n r
  unfolding in_order on_side key_of key
  sound-checked r x =
      let here = look_in K s n r x.inside in
      let mate : look K s n (look K s n r).partner ≡ K.row_at s (K.row_at s r).partner = ap (λ (e : Event P). look K s n e.partner) here ∙ look_in K s n (K.row_at s r).partner x.partner in
      record {
        paired = record { own = x.inside; other = rw (ap (λ (e : Event P). e.partner) here) x.partner; back = ap (λ (e : Event P). e.partner) mate ∙ x.paired };
        side = ap₂ (λ (e f : Event P). on_side C (key e f.point)) here mate ∙ x.ordered;
        fit = ap (λ (e : Event P). C.fit e.point) here ∙ x.fit;
      }

  pub good-checked : n ≤ K.size s → ((r : ℕ) → r < n → Checked.Sound C (K.row_at s) n r) → Good C K s n
  good-checked room h = record { fits = room; sound = λ r l. sound-checked r (h r l) }

-- ---- a record stored over one with its face

module _ {P : Type 0} (C : Coordinates P) {row row' : ℕ → Event P} (f : (j : ℕ) → Face (row' j) (row j)) where
  pub key-alike : (r : ℕ) → key_of row' r ≡ key_of row r
  unfolding key_of key
  key-alike r =
      let x = f r in
      let mate = ap (λ k. (row' k).point) x.partner ∙ (f (row r).partner).point in
      λ i. record { point = x.point i; left = x.left i; subject = x.subject i; ring = x.ring i; mate = mate i }

  sound-alike : {n : ℕ} (r : ℕ) → Sound C row n r → Sound C row' n r
  sound-alike r h =
      let p = h.paired in
      record {
        paired = record { own = p.own; other = rw (f r).partner p.other; back = ap (λ k. (row' k).partner) (f r).partner ∙ (f (row r).partner).partner ∙ p.back };
        side = ap (on_side C) (key-alike r) ∙ h.side;
        fit = ap C.fit (f r).point ∙ h.fit;
      }

module _ {P S : Type 0} {C : Coordinates P} {K : Store P S} (M : MoveLaws C) (st : Stored K) (bl : Blanks K) where
  pub good-put : (s : S) (used i : ℕ) (e : Event P) → Good C K s used → Face e (look K s used i) → Good C K (K.store s i e) used
  good-put s used i e g f =
      record { fits = rw (st.size-store s i e) g.fits; sound = λ r l. sound-alike C (face-store st s used i e g.fits f) r (g.sound r l) }

  -- ---- a division

  pub left-in-use : (s : S) (used i : ℕ) → (look K s used i).left ≡ true → i < used
  left-in-use s used i h = ⊎_elim (λ l. l) (λ e. absurd (true≢false (sym h ∙ ap (λ (x : Event P). x.left) e ∙ bl.right i))) (used-or-blank K s used i)

  module _ (s : S) (used : ℕ) (g : Good C K s used) where
    abbrev row : ℕ → Event P
    row = look K s used

    -- the partner of a left end is a right end
    right_end : (r : ℕ) → r < used → (row r).left ≡ true → (row (row r).partner).left ≡ false
    unfolding on_side key_of key
    right_end r l h = go (row o).left refl
      where
        o : ℕ
        o = (row r).partner

        own : Sound C row used r
        own = g.sound r l

        other : Sound C row used o
        other = g.sound o own.paired.other

        forth : ahead C (row r).point (row o).point ≡ true
        forth = rw h at own.side

        not_back : ahead C (row o).point (row r).point ≡ false
        not_back = ahead-asym M.order (row r).point (row o).point forth

        go : (b : Bool) → (row o).left ≡ b → b ≡ false
        go false q = refl
        go true q =
            let back : ahead C (row o).point (row (row o).partner).point ≡ true = rw q at other.side in
            absurd (true≢false (sym back ∙ ap (λ k. ahead C (row o).point (row k).point) own.paired.back ∙ not_back))

    pub segment : (i : ℕ) → (row i).left ≡ true → Segment row used i
    segment i h =
        let l = left-in-use s used i h in
        record { paired = (g.sound i l).paired; right = right_end i l h }

  cut-fit : (l r c : P) → misses C l r c ≡ false → C.fit c ≡ true
  unfolding misses
  cut-fit l r c h =
      let one = neither (same C c l) _ h in
      let two = neither (same C c r) _ one.1 in
      let three = neither (C.less_x c l) _ two.1 in
      let four = neither (C.less_x r c) _ three.1 in
      not-false (C.fit c) four.1

  -- every record after a division that is done
  module _ {row row' : ℕ → Event P} {used i : ℕ} {c : P} {move : Bool} {d : Divided} (h : (r : ℕ) → r < used → Sound C row used r) (own : i < used)
      (w : Whole C row row' used i c move d) where
    abbrev o : ℕ
    o = (row i).partner

    pub key-beside : (r : ℕ) → r < used → r ≢ i → r ≢ o → key_of row' r ≡ key_of row r
    unfolding key_of
    key-beside r l not-i not-o =
        let same = aside w.records (h i own).paired r (h r l).paired not-i not-o in
        ap₂ (λ (e f : Event P). key e f.point) same.0 (ap (λ (e : Event P). row' e.partner) same.0 ∙ same.1)

    at_i : Sound C row' (used + 2) i
    unfolding linked
    at_i = record { paired = w.still i (h i own).paired; side = w.on_sides.own; fit = ap (λ e. C.fit e.point) w.records.own ∙ (h i own).fit }

    at-o : Sound C row' (used + 2) o
    unfolding linked
    at-o =
        let other = h o (h i own).paired.other in
        record { paired = w.still o other.paired; side = w.on_sides.other; fit = ap (λ e. C.fit e.point) w.records.other ∙ other.fit }

    at_right : C.fit c ≡ true → Sound C row' (used + 2) used
    unfolding new_end
    at_right hit = record { paired = w.new-right; side = w.on_sides.right_end; fit = ap (λ e. C.fit e.point) w.records.right ∙ hit }

    at_left : C.fit c ≡ true → Sound C row' (used + 2) (used + 1)
    unfolding new_end
    at_left hit = record { paired = w.new-left; side = w.on_sides.left_end; fit = ap (λ e. C.fit e.point) w.records.left ∙ hit }

    elsewhere : (r : ℕ) → r < used → r ≢ i → r ≢ o → Sound C row' (used + 2) r
    elsewhere r l not-i not-o =
        let x = h r l in
        let here = (aside w.records (h i own).paired r x.paired not-i not-o).0 in
        record {
          paired = w.still r x.paired;
          side = ap (on_side C) (key-beside r l not-i not-o) ∙ x.side;
          fit = ap (λ e. C.fit e.point) here ∙ x.fit;
        }

    all_sound : C.fit c ≡ true → (r : ℕ) → r < used + 2 → Sound C row' (used + 2) r
    all_sound hit = in_parts (Sound C row' (used + 2)) used i o (at_right hit) (at_left hit) at_i at-o elsewhere

  good-by : (s : S) (used more : ℕ) → more ≡ used + 2 → used + 2 ≤ K.size s → ((r : ℕ) → r < used + 2 → Sound C (look K s more) (used + 2) r) → Good C K s more
  good-by s used more e f h = record { fits = rw e f; sound = λ r l. subst (λ n. Sound C (look K s more) n r) (sym e) (h r (subst (λ n. r < n) e l)) }

  pub good-divided : (s : S) (used i : ℕ) (p : P) → Good C K s used → (d : Divided) → (divide C K s used i p).answer ≡ Ok d
      → Good C K (divide C K s used i p).store (divide C K s used i p).used
  good-divided s used i p g d h =
      let ok = passed C K s used i p d h in
      let w = whole M st s used i p d h (segment s used g i ok.left) in
      let room = ok.free in
      let size = same_size C K s used i p st in
      let hit = cut-fit (look K s used i).point (look K s used (look K s used i).partner).point (moved C (look K s used i).point p) ok.hits in
      good-by _ used _ (used-after C K s used i p d h) (rw size (omega arith)) (all_sound g.sound (left-in-use s used i ok.left) w hit)

  -- through the whole run; and the numbers at hand are in use
  unfoldable pub sound : Invariant P S
  sound = numbers_in_use (λ n s. Good C K s n)

  pub sound-kept : (crossing : Crossing P) → Kept sound C K crossing
  unfolding sound
  sound-kept crossing =
      used-kept C K crossing (λ n s. Good C K s n) st (λ n s g. g.fits) (λ n s i e g l f. good-put s n i e g f) (λ n s i p d g h. good-divided s n i p g d h)
