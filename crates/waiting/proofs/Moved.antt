-- The records that have a new partner: partners are mutual, so that they are the partners of the new ones, and come one by one with these.
use mathlib.Core.Path.{◌≡◌, refl, sym, ap, ap₂, ◌∙◌}
use mathlib.Core.Bool.{Bool, true, false, ◌&&◌, ◌||◌, or-true, true≢false}
use Prim.Native.Nat.{ℕ, suc, ◌+◌, ◌<◌}
use native.Mathlib.Omega.{arith}
use lib.Dec.{eqb, ltb, leb}
use borrow.Author.Tests.{ltb-true, ltb-false, leb-true, lt-ltb, le-ltb, le-leb, eqb-true, eqb-false, ne_eqb, eq-eqb}
use Rattle.waiting.proofs.Members.{both, unless}

-- the partner of r is among the first k new records
unfoldable pub moved : (ℕ → ℕ) → ℕ → ℕ → ℕ → Bool
moved partner from k r = leb from (partner r) && ltb (partner r) (from + k)

pub ltb-suc : (r from k : ℕ) → ltb r (from + suc k) ≡ (ltb r (from + k) || eqb (from + k) r)
ltb-suc r from k = go (eqb (from + k) r) refl (ltb r (from + k)) refl
  where
    go : (t : Bool) → eqb (from + k) r ≡ t → (u : Bool) → ltb r (from + k) ≡ u → ltb r (from + suc k) ≡ (u || t)
    go true e u f =
        let i = eqb-true (from + k) r e in
        rw (lt-ltb r (from + suc k) (omega arith)) (sym (or-true u))
    go false e true f =
        let l = ltb-true r (from + k) f in
        lt-ltb r (from + suc k) (omega arith)
    go false e false f =
        let l = ltb-false r (from + k) f in
        let d = eqb-false (from + k) r e in
        le-ltb r (from + suc k) (omega arith)

within : (a b c : Bool) → (c ≡ true → a ≡ true) → (a && (b || c)) ≡ ((a && b) || c)
within true b c h = refl
within false b true h = h refl
within false b false h = refl

module _ (partner : ℕ → ℕ) (from n : ℕ) (pairs : (r : ℕ) → r < from + n → (partner r < from + n) × (partner (partner r) ≡ r)) where
  pub moved_none : (r : ℕ) → moved partner from 0 r ≡ false
  unfolding moved
  moved_none r = unless _ (λ e.
      let two = both (leb from (partner r)) (ltb (partner r) (from + 0)) e in
      let a = leb-true from (partner r) two.0 in
      let b = ltb-true (partner r) (from + 0) two.1 in
      omega arith)

  partner-back : (k r : ℕ) → k < n → r < from + n → eqb (partner (from + k)) r ≡ eqb (from + k) (partner r)
  partner-back k r h b = go (eqb (from + k) (partner r)) refl
    where
      go : (t : Bool) → eqb (from + k) (partner r) ≡ t → eqb (partner (from + k)) r ≡ t
      go true e = eq-eqb (partner (from + k)) r (ap partner (eqb-true (from + k) (partner r) e) ∙ (pairs r b).1)
      go false e = ne_eqb (partner (from + k)) r (λ i. eqb-false (from + k) (partner r) e (sym (pairs (from + k) (omega arith)).1 ∙ ap partner i))

  -- one more: the partner of the last new one
  pub moved-suc : (k r : ℕ) → k < n → r < from + n → moved partner from (suc k) r ≡ (moved partner from k r || eqb (partner (from + k)) r)
  unfolding moved
  moved-suc k r h b =
      rw (partner-back k r h b, ltb-suc (partner r) from k)
      (within (leb from (partner r)) (ltb (partner r) (from + k)) (eqb (from + k) (partner r)) (λ e.
      let i = eqb-true (from + k) (partner r) e in
      le-leb from (partner r) (omega arith)))

  -- a record whose partner is not new has an old partner
  pub not-moved : (r : ℕ) → r < from + n → moved partner from n r ≡ false → partner r < from
  unfolding moved
  not-moved r h e = go (ltb (partner r) from) refl
    where
      go : (t : Bool) → ltb (partner r) from ≡ t → partner r < from
      go true f = ltb-true (partner r) from f
      go false f = absurd (true≢false (sym (ap₂ ◌&&◌ (le-leb from (partner r) (ltb-false (partner r) from f)) (lt-ltb (partner r) (from + n) (pairs r h).0)) ∙ e))
