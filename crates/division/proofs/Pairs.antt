-- Partners are mutual again after a division: the four records of the segment name each other in two pairs, and no other record named one of them.
use mathlib.Core.Path.{◌≡◌, refl, sym, ap, ◌∙◌}
use mathlib.Core.Logic.{◌≢◌}
use mathlib.Core.Bool.{Bool, true, false}
use Prim.Native.Nat.{ℕ, ◌+◌, ◌<◌}
use native.Mathlib.Omega.{arith}
use borrow.Author.Tests.{eqb-true, eqb-false}
use lib.Dec.{eqb}
use Rattle.events.specs.Event.{Event}
use Rattle.division.specs.Division.{new_end, linked}
use Rattle.division.specs.Records.{Parted, Paired}

module _ {P : Type 0} {row row' : ℕ → Event P} {used i : ℕ} {c : P} {keep : Bool} (h : Parted row row' used i c keep) (p : Paired row used i) where
  abbrev o : ℕ
  o = (row i).partner

  right-partner : (row' used).partner ≡ i
  unfolding new_end
  right-partner = ap (λ e. e.partner) h.right

  left-partner : (row' (used + 1)).partner ≡ o
  unfolding new_end
  left-partner = ap (λ e. e.partner) h.left

  own-partner : (row' i).partner ≡ used
  unfolding linked
  own-partner = ap (λ e. e.partner) h.own

  other-partner : (row' o).partner ≡ used + 1
  unfolding linked
  other-partner = ap (λ e. e.partner) h.other

  -- two records that name each other
  pair : (r q n : ℕ) → r < n → q < n → (row' r).partner ≡ q → (row' q).partner ≡ r → Paired row' n r
  pair r q n own other to back = record { own = own; other = rw to other; back = rw to back }

  pub right-paired : Paired row' (used + 2) used
  right-paired = let own = p.own in pair used i (used + 2) (omega arith) (omega arith) right-partner own-partner

  pub left-paired : Paired row' (used + 2) (used + 1)
  left-paired = let other = p.other in pair (used + 1) o (used + 2) (omega arith) (omega arith) left-partner other-partner

  -- a record that is not of the segment, and its partner, are as before
  pub aside : (r : ℕ) → Paired row used r → r ≢ i → r ≢ o → (row' r ≡ row r) × (row' (row r).partner ≡ row (row r).partner)
  aside r q not_own not-other =
      let below = q.own in
      let mate-below = q.other in
      let mate = (row r).partner in
      let mate-not-own : mate ≢ i = λ e. not-other (sym q.back ∙ ap (λ k. (row k).partner) e) in
      let mate-not-other : mate ≢ o = λ e. not_own (sym q.back ∙ ap (λ k. (row k).partner) e ∙ p.back) in
      (h.rest r (λ e. omega arith) (λ e. omega arith) not_own not-other, h.rest mate (λ e. omega arith) (λ e. omega arith) mate-not-own mate-not-other)

  kept : (r : ℕ) → Paired row used r → r ≢ i → r ≢ o → Paired row' (used + 2) r
  kept r q not_own not-other =
      let below = q.own in
      let mate-below = q.other in
      let same = aside r q not_own not-other in
      pair r (row r).partner (used + 2) (omega arith) (omega arith) (ap (λ e. e.partner) same.0) (ap (λ e. e.partner) same.1 ∙ q.back)

  pub still-paired : (r : ℕ) → Paired row used r → Paired row' (used + 2) r
  still-paired r q = go (eqb r i) refl (eqb r o) refl
    where
      go : (t : Bool) → eqb r i ≡ t → (u : Bool) → eqb r o ≡ u → Paired row' (used + 2) r
      go true t u v =
          let own = p.own in
          rw (eqb-true r i t) (pair i used (used + 2) (omega arith) (omega arith) own-partner right-partner)
      go false t true v =
          let other = p.other in
          rw (eqb-true r o v) (pair o (used + 1) (used + 2) (omega arith) (omega arith) other-partner left-partner)
      go false t false v = kept r q (eqb-false r i t) (eqb-false r o v)
