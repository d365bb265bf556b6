-- One turn of each loop over the edges, and its end: what is left to do gives the whole.
use Rattle.std.proofs.Common.{Err, Ok}
use Rattle.refusals.specs.Refusals.{Verdict}
use mathlib.Core.Path.{◌≡◌}
use mathlib.Core.Bool.{Bool, not}
use mathlib.Core.List.{List, ◌∷◌}
use Prim.Native.Nat.{ℕ, suc, ◌+◌, ◌*◌}
use native.Mathlib.Numerals.{add-one}
use lib.ListN.{length, drop}
use lib.Seq.{drop-length}
use Rattle.refusals.specs.declared.Refusal.{Refusal}
use Rattle.numbers.specs.declared.Point.{Point}
use Rattle.events.specs.Coordinates.{Coordinates, ahead}
use Rattle.events.specs.Binary64.{at_binary64}
use Rattle.events.specs.Event.{Event}
use Rattle.events.specs.Store.{Store}
use Rattle.events.specs.Pool.{Pool, enter, stored}
use Rattle.checks.specs.Checks.{and_then}
use Rattle.loading.specs.Loading.{Edge, end, first_end, second_end, loaded_edge, loaded, checked_edge, checked_edges}

module _ {P : Type 0} (C : Coordinates P) (l : List (Edge P)) where
  -- ---- the checks

  -- the edge read is the one at i
  pub told_at : (i : ℕ) {e at : Edge P} {t u : Verdict} → t ≡ checked_edge C i e → e ≡ at → t ≡ u → checked_edge C i at ≡ u
  told_at i t e u = rw (← e, ← t, u)

  module _ (whole : Verdict) (i : ℕ) (left : checked_edges C i (drop i l) ≡ whole) where
    module _ (e : Edge P) (next : drop i l ≡ e ∷ drop (suc i) l) where
      pub check-passed : checked_edge C i e ≡ Ok tt → checked_edges C (i + 1) (drop (i + 1) l) ≡ whole
      unfolding checked_edges and_then
      check-passed t = rw (add-one, ← left, next, t)

      pub check-refused : (x : Refusal) → checked_edge C i e ≡ Err x → Err x ≡ whole
      unfolding checked_edges and_then
      check-refused x t = rw (← left, next, t)

    pub check-ended : i ≡ length l → Ok tt ≡ whole
    unfolding checked_edges
    check-ended e = rw (← left, e, drop-length l)

  -- ---- the stores

  module _ {S : Type 0} (K : Store P S) (whole s : S) (i : ℕ) (left : loaded C K s i (drop i l) ≡ whole) where
    -- the edge read is the one at i
    pub load-turn : (at : Edge P) → drop i l ≡ at ∷ drop (suc i) l → {t : S} {e : Edge P} → t ≡ loaded_edge C K s i e → e ≡ at → loaded C K t (i + 1) (drop (i + 1) l) ≡ whole
    unfolding loaded
    load-turn at next q e = rw (add-one, ← left, next, q, e)

    pub load-ended : i ≡ length l → s ≡ whole
    unfolding loaded
    load-ended e = rw (← left, e, drop-length l)

-- ---- an edge's two records in the lent pool
pub both_ends : (p q r : Pool) (i : ℕ) (e : Edge Point) {left : Bool} {a b : Event Point}
    → left ≡ ahead at_binary64 e.from e.to
    → a ≡ end e e.from left (2 * i + 1)
    → q ≡ enter p (2 * i) a
    → b ≡ end e e.to (not left) (2 * i)
    → r ≡ enter q (2 * i + 1) b
    → r ≡ loaded_edge at_binary64 stored p i e
unfolding loaded_edge first_end second_end stored
both_ends p q r i e l f s g t = rw (t, s, g, f, l)
