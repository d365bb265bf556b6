-- Loading into the front of a store: it enters and reads nothing.
use mathlib.Core.Path.{◌≡◌, refl, ap, ◌∙◌}
use mathlib.Core.List.{List, [], ◌∷◌}
use Prim.Native.Nat.{ℕ, suc}
use Rattle.events.specs.Coordinates.{Coordinates}
use Rattle.events.specs.Store.{Store}
use Rattle.loading.specs.Loading.{Edge, loaded_edge, loaded}
use Rattle.sweep_room.proofs.Fronts.{Front}

module _ {P S : Type 0} (C : Coordinates P) {K : Store P S} {n : ℕ} (F : Front K n) where
  edge-front : (s : S) (i : ℕ) (e : Edge P) → loaded_edge C K (F.front s) i e ≡ F.front (loaded_edge C K s i e)
  unfolding loaded_edge
  edge-front s i e = simp F.enter-front

  pub loaded-front : (l : List (Edge P)) (s : S) (i : ℕ) → loaded C K (F.front s) i l ≡ F.front (loaded C K s i l)
  unfolding loaded
  loaded-front [] s i = refl
  loaded-front (e ∷ l) s i = ap (λ (t : S). loaded C K t (suc i) l) (edge-front s i e) ∙ loaded-front l (loaded_edge C K s i e) (suc i)
