-- Loading keeps the lengths of the pool's arrays.
use Rattle.std.proofs.Common.{Err, Ok}
use Rattle.refusals.specs.Refusals.{Verdict}
use mathlib.Core.Path.{◌≡◌, refl, ◌∙◌}
use mathlib.Core.List.{List, [], ◌∷◌}
use Prim.Native.Nat.{ℕ, suc}
use lib.ListN.{length, length-set}
use Rattle.numbers.specs.declared.Point.{Point}
use Rattle.events.specs.Coordinates.{Coordinates}
use Rattle.events.specs.Event.{Event}
use Rattle.events.specs.Store.{Store}
use Rattle.events.specs.Binary64.{at_binary64}
use Rattle.events.specs.Pool.{Pool, point_of, marks_of, enter, stored}
use Rattle.loading.specs.Loading.{Edge, loaded_edge, loaded}
use Rattle.loading.specs.OnPool.{edges_of, accept, after_checks, load}

-- what no new record changes, no loading does
kept-loaded : {P S A : Type 0} (C : Coordinates P) (K : Store P S) (f : S → A) → ((s : S) (i : ℕ) (e : Event P) → f (K.enter s i e) ≡ f s)
    → (s : S) (i : ℕ) (l : List (Edge P)) → f (loaded C K s i l) ≡ f s
unfolding loaded loaded_edge
kept-loaded C K f h s i [] = refl
kept-loaded C K f h s i (e ∷ l) = kept-loaded C K f h (loaded_edge C K s i e) (suc i) l ∙ h _ _ _ ∙ h _ _ _

module _ (p : Pool) (i : ℕ) (l : List (Edge Point)) where
  pub points-loaded : length (loaded at_binary64 stored p i l).points ≡ length p.points
  unfolding stored enter
  points-loaded = kept-loaded at_binary64 stored (λ q. length q.points) (λ q i e. length-set q.points i (point_of e)) p i l

  pub marks-loaded : length (loaded at_binary64 stored p i l).marks ≡ length p.marks
  unfolding stored enter
  marks-loaded = kept-loaded at_binary64 stored (λ q. length q.marks) (λ q i e. length-set q.marks i (marks_of e)) p i l

-- refused or not
module _ (ends : List (List ℕ)) (labels : List (List ℕ)) (p : Pool) where
  pub points_kept : length (load ends labels p).pool.points ≡ length p.points
  unfolding load after_checks
  points_kept = go (accept ends labels p)
    where
      go : (x : Verdict) → length (after_checks x (edges_of ends labels) p).pool.points ≡ length p.points
      go (Ok _) = points-loaded p 0 (edges_of ends labels)
      go (Err r) = refl

  pub marks-kept : length (load ends labels p).pool.marks ≡ length p.marks
  unfolding load after_checks
  marks-kept = go (accept ends labels p)
    where
      go : (x : Verdict) → length (after_checks x (edges_of ends labels) p).pool.marks ≡ length p.marks
      go (Ok _) = marks-loaded p 0 (edges_of ends labels)
      go (Err r) = refl
