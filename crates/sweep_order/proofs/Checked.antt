-- Loading's checks look at one edge at a time, so that edges which pass them pass in every order.
use Rattle.std.proofs.Common.{Err, Ok}
use Rattle.refusals.specs.declared.Reason.TheVariants as Reason
use Rattle.refusals.specs.Refusals.{Verdict}
use mathlib.Core.Path.{◌≡◌, refl, subst}
use mathlib.Core.Bool.{Bool, true, false, not, cond, ◌||◌}
use mathlib.Core.List.{List, [], ◌∷◌, Permᴰ}
use Prim.Native.Nat.{ℕ, suc}
use Rattle.events.specs.Coordinates.{Coordinates, same}
use Rattle.checks.specs.Checks.{and_then}
use Rattle.checks.proofs.Told.{not-both, both-passed}
use Rattle.loading.specs.Loading.{Edge, checked_edge, checked_edges}

-- by two tests, told at a place
by : Bool → Bool → ℕ → Verdict
by t u i = cond t (Err (record { reason = Reason.Coordinate; place = i })) (cond u (Err (record { reason = Reason.Ends; place = i })) (Ok tt))

elsewhere : (t u : Bool) (i j : ℕ) → by t u i ≡ Ok tt → by t u j ≡ Ok tt
unfolding by
elsewhere true u i j h = absurd (not-both _ _ h refl)
elsewhere false true i j h = absurd (not-both _ _ h refl)
elsewhere false false i j h = refl

module _ {P : Type 0} (C : Coordinates P) where
  -- where an edge stands does not matter
  any_place : (i j : ℕ) (e : Edge P) → checked_edge C i e ≡ Ok tt → checked_edge C j e ≡ Ok tt
  unfolding checked_edge by
  any_place i j e h = elsewhere (not (C.fit e.from) || not (C.fit e.to)) (same C e.from e.to) i j h

  abbrev Each : List (Edge P) → Type 0
  Each [] = Unit {0}
  Each (e ∷ l) = (checked_edge C 0 e ≡ Ok tt) × Each l

  each : (i : ℕ) (l : List (Edge P)) → checked_edges C i l ≡ Ok tt → Each l
  unfolding checked_edges
  each i [] h = tt
  each i (e ∷ l) h =
      let two = both-passed (checked_edge C i e) (checked_edges C (suc i) l) h in
      (any_place i 0 e two.0, each (suc i) l two.1)

  all : (i : ℕ) (l : List (Edge P)) → Each l → checked_edges C i l ≡ Ok tt
  unfolding checked_edges and_then
  all i [] h = refl
  all i (e ∷ l) h = rw (any_place 0 i e h.0) (all (suc i) l h.1)

  permuted : {l m : List (Edge P)} → Permᴰ l m → Each l → Each m
  permuted Permᴰ.nil h = h
  permuted (Permᴰ.cons e p) h = (subst (λ x. checked_edge C 0 x ≡ Ok tt) e h.0, permuted p h.1)
  permuted (Permᴰ.swap e f) h = (subst (λ x. checked_edge C 0 x ≡ Ok tt) f h.1.0, (subst (λ x. checked_edge C 0 x ≡ Ok tt) e h.0, h.1.1))
  permuted (Permᴰ.trans p q) h = permuted q (permuted p h)

  pub any_order : {l m : List (Edge P)} → Permᴰ l m → checked_edges C 0 l ≡ Ok tt → checked_edges C 0 m ≡ Ok tt
  any_order {l} {m} p h = all 0 m (permuted p (each 0 l h))
