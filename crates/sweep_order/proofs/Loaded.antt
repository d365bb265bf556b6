-- What loading leaves, by number: record r of the edges from i on stands at place 2i + r.
use mathlib.Core.Path.{◌≡◌, refl, sym, ap, ◌∙◌}
use mathlib.Core.Bool.{not}
use mathlib.Core.List.{List}
use Prim.Native.Nat.{ℕ, zero, suc, ◌<◌, ◌+◌, ◌*◌}
use native.Mathlib.Omega.{arith}
use lib.ListN.{length}
use Rattle.events.specs.Coordinates.{Coordinates, ahead}
use Rattle.events.specs.Event.{Event}
use Rattle.events.specs.Renaming.{rename_link, rename}
use Rattle.events.specs.Store.{Store}
use Rattle.loading.specs.Loading.{Edge, end, first_end, second_end}
use Rattle.loading.proofs.Rows.{Rows, none, more}
use Rattle.sweep_order.proofs.Permuted.{rename-rename, two, at}

module _ {P S : Type 0} (C : Coordinates P) (K : Store P S) where
  first-named : (i : ℕ) (e : Edge P) → first_end C i e ≡ rename (λ x. 2 * i + x) (first_end C 0 e)
  unfolding rename rename_link first_end end
  first-named i e = refl

  second-named : (i : ℕ) (e : Edge P) → second_end C i e ≡ rename (λ x. 2 * i + x) (second_end C 0 e)
  unfolding rename rename_link second_end end
  second-named i e =
      let same : 2 * i ≡ 2 * i + 0 = omega arith in
      ap (end e e.to (not (ahead C e.from e.to))) same

  pub loaded_at : {row : ℕ → Event P} {i : ℕ} {l : List (Edge P)} → Rows C row i l → (r : ℕ) → r < 2 * length l → row (2 * i + r) ≡ rename (λ x. 2 * i + x) (at C K l r)
  unfolding at
  loaded_at (none i) r h = absurd (omega arith)
  loaded_at {row} (more i e l u v rest) zero h =
      let same : 2 * i + 0 ≡ 2 * i = omega arith in
      ap row same ∙ u ∙ first-named i e
  loaded_at (more i e l u v rest) (suc zero) h = v ∙ second-named i e
  loaded_at {row} (more i e l u v rest) (suc (suc r)) h =
      let same : 2 * i + suc (suc r) ≡ 2 * suc i + r = omega arith in
      ap row same ∙ loaded_at rest r (omega arith) ∙ sym (rename-rename (λ x. 2 * i + x) two (λ x. 2 * suc i + x) (λ x. omega arith) (at C K l r))
