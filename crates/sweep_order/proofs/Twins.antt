-- Two stores that are one but for the names of records: whatever is read follows the renaming, for a number that is not in use reads as its own
-- partner; and storing a renamed record under its new name keeps it so.
use mathlib.Core.Path.{◌≡◌, sym, ap, ap₂, ◌∙◌, subst}
use mathlib.Core.Bool.{◌&&◌}
use Prim.Native.Nat.{ℕ, ◌+◌, ◌<◌, ◌≤◌}
use native.Mathlib.Omega.{arith}
use lib.Dec.{eqb, ltb}
use Rattle.events.specs.Coordinates.{Coordinates}
use Rattle.events.specs.Event.{Event, key}
use Rattle.events.specs.Renaming.{rename}
use Rattle.events.specs.Store.{Store, look}
use Rattle.events.proofs.Stored.{Stored}
use Rattle.events.proofs.Looks.{look-store, look-more}
use Rattle.order.specs.Order.{before}
use Rattle.order.specs.Keys.{key_of, key_used}
use Rattle.sweep_order.specs.SameBut.{Renaming}
use Rattle.sweep_order.proofs.Renamings.{cond_map, eqb-to, eqb-fixed, ltb-to}

-- a record's partner, as a number and as a record
abbrev pub mate_in : {P S : Type 0} → Store P S → S → ℕ → ℕ → ℕ
mate_in K s used r = (look K s used r).partner

abbrev pub right_in : {P S : Type 0} → Store P S → S → ℕ → ℕ → Event P
right_in K s used r = look K s used (mate_in K s used r)

-- ---- twins

module _ {P S : Type 0} (K : Store P S) {n : ℕ} (ρ : Renaming n) where
  pub record Twin (s s' : S) (used : ℕ) : Type 0 where
    pub grown : n ≤ used
    pub size : K.size s' ≡ K.size s
    pub fits : used ≤ K.size s
    pub looks : (r : ℕ) → look K s' used (ρ.to r) ≡ rename ρ.to (look K s used r)

module _ {P S : Type 0} {K : Store P S} {n : ℕ} {ρ : Renaming n} {s s' : S} {used : ℕ} (t : Twin K ρ s s' used) where
  -- ---- what is read
  pub mate-to : (r : ℕ) → mate_in K s' used (ρ.to r) ≡ ρ.to (mate_in K s used r)
  unfolding rename
  mate-to r = ap (λ e. e.partner) (t.looks r)

  pub right-to : (r : ℕ) → right_in K s' used (ρ.to r) ≡ rename ρ.to (right_in K s used r)
  right-to r = ap (look K s' used) (mate-to r) ∙ t.looks (mate_in K s used r)

  pub point-to : (r : ℕ) → (look K s' used (ρ.to r)).point ≡ (look K s used r).point
  unfolding rename
  point-to r = ap (λ e. e.point) (t.looks r)

  pub right_point-to : (r : ℕ) → (right_in K s' used (ρ.to r)).point ≡ (right_in K s used r).point
  unfolding rename
  right_point-to r = ap (λ e. e.point) (right-to r)

  -- no order sees a number
  pub key-to : (r : ℕ) → key_used K s' used (ρ.to r) ≡ key_used K s used r
  unfolding key_used key_of key rename
  key-to r = ap₂ key (t.looks r) (right_point-to r)

  module _ (C : Coordinates P) where
    pub before-to : (q r : ℕ) → before C (key_used K s' used (ρ.to q)) (key_used K s' used (ρ.to r)) ≡ before C (key_used K s used q) (key_used K s used r)
    before-to q r = ap₂ (before C) (key-to q) (key-to r)

  -- the next free number is its own name, and the one after it
  pub used-to : used ≡ ρ.to used
  used-to = sym (ρ.beyond used t.grown)

  pub next-to : used + 1 ≡ ρ.to (used + 1)
  next-to = sym (ρ.beyond (used + 1) (omega (arith, t.grown)))

  -- ---- what is stored
  module _ (st : Stored K) where
    pub twin-store : (i : ℕ) (e e' : Event P) → e' ≡ rename ρ.to e → Twin K ρ (K.store s i e) (K.store s' (ρ.to i) e') used
    twin-store i e e' h =
        record {
          grown = t.grown;
          size = st.size-store s' (ρ.to i) e' ∙ t.size ∙ sym (st.size-store s i e);
          fits = rw (st.size-store s i e) t.fits;
          looks = λ r.
              look-store st s' e' (ρ.to r) used (ρ.to i) (rw t.size t.fits)
              ∙ rw (eqb-to ρ r i, ltb-to ρ used i t.grown, t.looks r, h) (cond_map (rename ρ.to) (eqb r i && ltb i used) e (look K s used r))
              ∙ ap (rename ρ.to) (sym (look-store st s e r used i t.fits));
        }

    twin-next : (e e' : Event P) → e' ≡ rename ρ.to e → used < K.size s → Twin K ρ (K.enter s used e) (K.enter s' used e') (used + 1)
    twin-next e e' h l =
        record {
          grown = omega (arith, t.grown);
          size = st.size-enter s' used e' ∙ t.size ∙ sym (st.size-enter s used e);
          fits = rw (st.size-enter s used e) (omega (arith, l));
          looks = λ r.
              look-more st s' e' (ρ.to r) used (rw t.size l)
              ∙ rw (eqb-fixed ρ r used t.grown, t.looks r, h) (cond_map (rename ρ.to) (eqb r used) e (look K s used r))
              ∙ ap (rename ρ.to) (sym (look-more st s e r used l));
        }

    pub twin-more : (e e' : Event P) (more : ℕ) → more ≡ used + 1 → e' ≡ rename ρ.to e → used < K.size s → Twin K ρ (K.enter s used e) (K.enter s' used e') more
    twin-more e e' more m h l = subst (Twin K ρ (K.enter s used e) (K.enter s' used e')) (sym m) (twin-next e e' h l)
