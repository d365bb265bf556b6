-- Every record after a division: of the four writes, each is read back at its own number and at no other, because the two old numbers are in use and
-- the two new ones are not.
use mathlib.Core.Path.{◌≡◌, refl, sym, ◌∙◌}
use mathlib.Core.Logic.{◌≢◌}
use mathlib.Core.Bool.{Bool, true, false, cond}
use Prim.Native.Nat.{ℕ, ◌+◌, ◌<◌, ◌≤◌}
use native.Mathlib.Omega.{arith}
use borrow.Author.Tests.{ltb-true, ltb-false, eqb-true, eqb-false}
use lib.Dec.{eqb, ltb}
use Rattle.events.specs.Event.{Event}
use Rattle.events.specs.Store.{Store, look}
use Rattle.events.proofs.Stored.{Stored}
use Rattle.events.proofs.Looks.{look_in, look-out}
use Rattle.division.specs.Division.{new_end, linked, parted}
use Rattle.division.specs.Records.{Parted}

past : (r n : ℕ) → n ≤ r → r ≢ n → r ≢ n + 1 → n + 2 ≤ r
past r n h a b = go (ltb r (n + 1)) refl (ltb r (n + 2)) refl
  where
    go : (t : Bool) → ltb r (n + 1) ≡ t → (u : Bool) → ltb r (n + 2) ≡ u → n + 2 ≤ r
    go true e u k = let l = ltb-true r (n + 1) e in absurd (a (omega arith))
    go false e true k =
        let l = ltb-false r (n + 1) e in
        let m = ltb-true r (n + 2) k in
        absurd (b (omega arith))
    go false e false k = ltb-false r (n + 2) k

module _ {P S : Type 0} {K : Store P S} (L : Stored K) (s : S) (used i : ℕ) (e f : Event P) (c : P) (keep : Bool) where
  abbrev after : S
  after = parted K s used i e f c keep

  pub size-parted : K.size after ≡ K.size s
  unfolding parted
  size-parted = L.size-store _ _ _ ∙ L.size-store _ _ _ ∙ L.size-enter _ _ _ ∙ L.size-enter _ _ _

  module _ (room : used + 1 < K.size s) (own : i < used) (other : e.partner < used) where
    right_at : K.row_at after used ≡ new_end e c false i
    unfolding parted
    right_at = rw (L.away _ e.partner used _ (λ h. omega arith), L.away _ i used _ (λ h. omega arith), L.away-enter _ (used + 1) used _ (λ h. omega arith)) (L.here-enter s used _ (omega arith))

    left_at : K.row_at after (used + 1) ≡ new_end e c keep e.partner
    unfolding parted
    left_at = rw (L.away _ e.partner (used + 1) _ (λ h. omega arith), L.away _ i (used + 1) _ (λ h. omega arith)) (L.here-enter _ (used + 1) _ (rw (L.size-enter s used (new_end e c false i)) room))

    own_at : i ≢ e.partner → K.row_at after i ≡ linked e used e.left
    unfolding parted
    own_at d = rw (L.away _ e.partner i _ d) (L.here _ i _ (rw (L.size-enter _ (used + 1) (new_end e c keep e.partner), L.size-enter s used (new_end e c false i)) (omega arith)))

    other_at : K.row_at after e.partner ≡ linked f (used + 1) (cond keep f.left true)
    unfolding parted
    other_at = L.here _ e.partner _ (rw (L.size-store _ i (linked e used e.left), L.size-enter _ (used + 1) (new_end e c keep e.partner), L.size-enter s used (new_end e c false i)) (omega arith))

    rest_at : (r : ℕ) → r ≢ used → r ≢ used + 1 → r ≢ i → r ≢ e.partner → K.row_at after r ≡ K.row_at s r
    unfolding parted
    rest_at r a b d g = L.away _ e.partner r _ g ∙ L.away _ i r _ d ∙ L.away-enter _ (used + 1) r _ b ∙ L.away-enter s used r _ a

-- the two ends read from the store itself
module _ {P S : Type 0} {K : Store P S} (L : Stored K) (s : S) (used i : ℕ) (c : P) (keep : Bool) where
  abbrev row : ℕ → Event P
  row r = look K s used r

  abbrev left_end : Event P
  left_end = row i

  abbrev right_end : Event P
  right_end = row left_end.partner

  abbrev s' : S
  s' = parted K s used i left_end right_end c keep

  pub every-record : used + 1 < K.size s → i < used → (row i).partner < used → i ≢ (row i).partner → Parted row (look K s' (used + 2)) used i c keep
  every-record room own other d =
      record {
        right = look_in K s' (used + 2) used (omega arith) ∙ right_at L s used i left_end right_end c keep room own other;
        left = look_in K s' (used + 2) (used + 1) (omega arith) ∙ left_at L s used i left_end right_end c keep room own other;
        own = look_in K s' (used + 2) i (omega arith) ∙ own_at L s used i left_end right_end c keep room own other d;
        other = look_in K s' (used + 2) left_end.partner (omega arith) ∙ other_at L s used i left_end right_end c keep room own other;
        rest = λ r a b k g. elsewhere r a b (rest_at L s used i left_end right_end c keep room own other r a b k g);
      }
    where
      elsewhere : (r : ℕ) → r ≢ used → r ≢ used + 1 → K.row_at s' r ≡ K.row_at s r → look K s' (used + 2) r ≡ row r
      elsewhere r a b e = go (ltb r used) refl
        where
          go : (t : Bool) → ltb r used ≡ t → look K s' (used + 2) r ≡ row r
          go true t =
              let below = ltb-true r used t in
              look_in K s' (used + 2) r (omega arith) ∙ e ∙ sym (look_in K s used r below)
          go false t =
              let beyond : used + 2 ≤ r = past r used (ltb-false r used t) a b in
              look-out K s' (used + 2) r beyond ∙ sym (look-out K s used r (omega arith))

-- A record in use after a division is one of four, or was in use before it and is of another segment.
pub in_parts : (Q : ℕ → Type 0) (used i o : ℕ) → Q used → Q (used + 1) → Q i → Q o → ((r : ℕ) → r < used → r ≢ i → r ≢ o → Q r) → (r : ℕ) → r < used + 2 → Q r
in_parts Q used i o right left own other rest r l = go (eqb r used) refl (eqb r (used + 1)) refl (eqb r i) refl (eqb r o) refl
  where
    go : (a : Bool) → eqb r used ≡ a → (b : Bool) → eqb r (used + 1) ≡ b → (x : Bool) → eqb r i ≡ x → (y : Bool) → eqb r o ≡ y → Q r
    go true p b q x u y v = rw (eqb-true r used p) right
    go false p true q x u y v = rw (eqb-true r (used + 1) q) left
    go false p false q true u y v = rw (eqb-true r i u) own
    go false p false q false u true v = rw (eqb-true r o v) other
    go false p false q false u false v =
        let not_right = eqb-false r used p in
        let not_left = eqb-false r (used + 1) q in
        rest r (omega arith) (eqb-false r i u) (eqb-false r o v)
