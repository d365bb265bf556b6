-- What is read of a store of which the first places are in use: in them, beyond them, and after writing a record.
use Rattle.std.proofs.Common.{◌≡◌, ℕ, ◌+◌, ◌<◌, ◌≤◌, Bool, true, false, cond, ◌&&◌, eqb, ltb, ◌⊎◌, refl, ap, ◌∙◌, inl, inr, arith, ltb-false, ltb-true, le-ltb, lt-ltb, eqb-true}
use borrow.Author.Tests.{eqb-false}
use Rattle.events.specs.Event.{Event}
use Rattle.events.specs.Renaming.{rename_link, rename}
use Rattle.events.specs.Store.{Store, look}
use Rattle.events.specs.Pool.{blank, stored}
use Rattle.events.proofs.Stored.{Stored}

-- what is read where there is no record: it means the same under every numbering, and it is no left end
pub record Blanks {P S : Type 0} (K : Store P S) : Type 0 where
  pub renamed : (f : ℕ → ℕ) (r : ℕ) → K.blank (f r) ≡ rename f (K.blank r)
  pub right : (r : ℕ) → (K.blank r).left ≡ false

pub pool-blanks : Blanks stored
unfolding stored blank rename rename_link
pool-blanks = record { renamed = λ f r. refl; right = λ r. refl }

module _ {P S : Type 0} (K : Store P S) (s : S) (used r : ℕ) where
  pub look_in : r < used → look K s used r ≡ K.row_at s r
  unfolding look
  look_in h = rw (lt-ltb r used h)

  pub look-out : used ≤ r → look K s used r ≡ K.blank r
  unfolding look
  look-out h = rw (le-ltb r used h)

  pub used-or-blank : (r < used) ⊎ (look K s used r ≡ K.blank r)
  used-or-blank = go (ltb r used) refl
    where
      go : (b : Bool) → ltb r used ≡ b → (r < used) ⊎ (look K s used r ≡ K.blank r)
      go true e = inl (ltb-true r used e)
      go false e = inr (look-out (ltb-false r used e))

-- ---- after writing

module _ {P S : Type 0} {K : Store P S} (st : Stored K) (s : S) (e : Event P) (j : ℕ) where
  pub look-store : (used i : ℕ) → used ≤ K.size s → look K (K.store s i e) used j ≡ cond (eqb j i && ltb i used) e (look K s used j)
  unfolding look
  look-store used i h = go (eqb j i) refl (ltb j used) refl
    where
      go : (x : Bool) → eqb j i ≡ x → (y : Bool) → ltb j used ≡ y
          → cond y (K.row_at (K.store s i e) j) (K.blank j) ≡ cond (x && ltb i used) e (cond y (K.row_at s j) (K.blank j))
      go false p true q = st.away s i j e (eqb-false j i p)
      go false p false q = refl
      go true p true q =
          let m : j ≡ i = eqb-true j i p in
          let l : j < used = ltb-true j used q in
          rw (lt-ltb i used (omega arith)) (ap (K.row_at (K.store s i e)) m ∙ st.here s i e (omega arith))
      go true p false q =
          let m : j ≡ i = eqb-true j i p in
          let l : used ≤ j = ltb-false j used q in
          rw (le-ltb i used (omega arith))

  -- one place more in use, and the record entered there
  pub look-more : (used : ℕ) → used < K.size s → look K (K.enter s used e) (used + 1) j ≡ cond (eqb j used) e (look K s used j)
  unfolding look
  look-more used h = go (eqb j used) refl
    where
      near : (j ≡ used → ⊥) → (z : Bool) → ltb j used ≡ z → cond (ltb j (used + 1)) (K.row_at (K.enter s used e) j) (K.blank j) ≡ cond z (K.row_at s j) (K.blank j)
      near d true t =
          let k : j < used = ltb-true j used t in
          rw (lt-ltb j (used + 1) (omega arith)) (st.away-enter s used j e d)
      near d false t =
          let k : used ≤ j = ltb-false j used t in
          rw (le-ltb j (used + 1) (omega arith))

      go : (x : Bool) → eqb j used ≡ x → cond (ltb j (used + 1)) (K.row_at (K.enter s used e) j) (K.blank j) ≡ cond x e (cond (ltb j used) (K.row_at s j) (K.blank j))
      go true p = let m : j ≡ used = eqb-true j used p in rw (lt-ltb j (used + 1) (omega arith)) (ap (K.row_at (K.enter s used e)) m ∙ st.here-enter s used e h)
      go false p = near (eqb-false j used p) (ltb j used) refl
