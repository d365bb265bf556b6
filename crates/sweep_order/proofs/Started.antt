-- The sweep's start, on the edges loaded in two orders: the same but for names, and every record sound.
use Rattle.std.proofs.Common.{None, Ok, Option, Some}
use mathlib.Core.Path.{◌≡◌, refl, sym, ap, ◌∙◌}
use mathlib.Core.Bool.{Bool, true, false, cond}
use mathlib.Core.List.{List, [], ◌∷◌, Permᴰ}
use Prim.Native.Nat.{ℕ, zero, suc, ◌≤◌, ◌+◌, ◌*◌}
use native.Mathlib.Omega.{arith}
use lib.ListN.{length}
use lib.Dec.{ltb}
use borrow.Author.Tests.{ltb-true, ltb-false}
use Rattle.events.specs.Coordinates.{Coordinates}
use Rattle.events.specs.Event.{Event}
use Rattle.events.specs.Renaming.{rename_link, rename}
use Rattle.events.specs.Store.{Store, look}
use Rattle.events.proofs.Stored.{Stored}
use Rattle.events.proofs.Looks.{Blanks}
use Rattle.order.proofs.Laws.{ahead_apart}
use Rattle.division.proofs.Sides.{MoveLaws}
use Rattle.loading.specs.Loading.{Edge, loaded, checked_edges}
use Rattle.loading.proofs.Rows.{rows, size-loaded}
use Rattle.loading.proofs.AsLoaded.{sounds}
use Rattle.sweep.specs.State.{start}
use Rattle.sweep.specs.Lined.{Good}
use Rattle.neighbours.proofs.Invariants.{numbers_in_use}
use Rattle.neighbours.proofs.Both.{both}
use Rattle.sweep.proofs.Abreast.{empty, going, Abreast, on}
use Rattle.sweep.proofs.Flags.{all-flagged}
use Rattle.sweep.proofs.Good.{good-checked, sound}
use Rattle.sweep_order.specs.SameBut.{Renaming}
use Rattle.sweep_order.proofs.Renamings.{ltb-to}
use Rattle.sweep_order.proofs.Twins.{Twin}
use Rattle.sweep_order.proofs.Alike.{renames}
use Rattle.sweep_order.proofs.Runs.{Flags}
use Rattle.sweep_order.proofs.Permuted.{renaming_of, two, at, at-to}
use Rattle.sweep_order.proofs.Loaded.{loaded_at}

module _ {P S : Type 0} {C : Coordinates P} {K : Store P S} (M : MoveLaws C) (st : Stored K) (bl : Blanks K) {n : ℕ} (ρ : Renaming n) where
  pub sim-start : {s s' : S} → Twin K ρ s s' n → Good C K s n → Abreast (both (renames K ρ) (sound M st bl)) (Flags ρ.to) (start s (K.size s) n) (start s' (K.size s') n)
  unfolding start both renames sound numbers_in_use
  sim-start {s} {s'} t g =
      on false (record { alike = (t, g) })
      (λ r. all-flagged (K.size s') (ρ.to r) ∙ ap (ltb (ρ.to r)) t.size ∙ ltb-to ρ (K.size s) r t.fits ∙ sym (all-flagged (K.size s) r)) empty empty going

-- ---- the loaded records, read

module _ {P : Type 0} where
  rename-same : (f : ℕ → ℕ) → ((r : ℕ) → f r ≡ r) → (e : Event P) → rename f e ≡ e
  unfolding rename rename_link
  rename-same f h e = rw (h e.partner, go e.below)
    where
      go : (o : Option ℕ) → rename_link f o ≡ o
      go None = refl
      go (Some a) = ap Some (h a)

module _ {P S : Type 0} (C : Coordinates P) {K : Store P S} (st : Stored K) (bl : Blanks K) where
  at-beyond : (l : List (Edge P)) (r : ℕ) → 2 * length l ≤ r → at C K l r ≡ K.blank r
  unfolding at
  at-beyond [] r h = refl
  at-beyond (e ∷ l) zero h = absurd (omega arith)
  at-beyond (e ∷ l) (suc zero) h = absurd (omega arith)
  at-beyond (e ∷ l) (suc (suc r)) h = ap (rename two) (at-beyond l r (omega arith)) ∙ sym (bl.renamed two r)

  pub look-loaded : (s : S) (l : List (Edge P)) → 2 * length l ≤ K.size s → (r : ℕ) → look K (loaded C K s 0 l) (2 * length l) r ≡ at C K l r
  unfolding look
  look-loaded s l room r = go (ltb r (2 * length l)) refl
    where
      go : (b : Bool) → ltb r (2 * length l) ≡ b → cond b (K.row_at (loaded C K s 0 l) r) (K.blank r) ≡ at C K l r
      go true e =
          let same : r ≡ 2 * 0 + r = omega arith in
          ap (K.row_at (loaded C K s 0 l)) same ∙ loaded_at C K (rows C st l s 0 (omega arith)) r (ltb-true r (2 * length l) e) ∙ rename-same (λ x. 2 * 0 + x) (λ x. omega arith) (at C K l r)
      go false e = sym (at-beyond l r (ltb-false r (2 * length l) e))

  pub twin-loaded : {l m : List (Edge P)} (p : Permᴰ l m) (s s' : S) → K.size s' ≡ K.size s → 2 * length l ≤ K.size s → length m ≡ length l
      → Twin K (renaming_of p) (loaded C K s 0 l) (loaded C K s' 0 m) (2 * length l)
  twin-loaded {l} {m} p s s' e room k =
      record {
        grown = omega arith;
        size = size-loaded C st m s' 0 ∙ e ∙ sym (size-loaded C st l s 0);
        fits = rw (size-loaded C st l s 0) room;
        looks = λ r.
            ap (λ j. look K (loaded C K s' 0 m) (2 * j) ((renaming_of p).to r)) (sym k) ∙ look-loaded s' m (rw (e, k) room) ((renaming_of p).to r) ∙ at-to C K bl p r
            ∙ ap (rename (renaming_of p).to) (sym (look-loaded s l room r));
      }

  -- ---- sound

  pub good-loaded : MoveLaws C → (s : S) (l : List (Edge P)) → 2 * length l ≤ K.size s → checked_edges C 0 l ≡ Ok tt → Good C K (loaded C K s 0 l) (2 * length l)
  good-loaded M s l room h =
      let held = rows C st l s 0 (omega arith) in
      good-checked C K (loaded C K s 0 l) (2 * length l) (rw (size-loaded C st l s 0) room)
      (λ r k. sounds C (K.row_at (loaded C K s 0 l)) (2 * length l) (ahead_apart M.order) held h (omega arith) r (omega arith) (omega arith))
