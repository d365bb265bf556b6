-- Loading (01: edge i becomes events 2i, its first end, and 2i+1; the end earlier by x, then y, is left), over any kind of coordinate and any store.
use Rattle.std.specs.Prelude.{Bool, not, cond, ◌||◌, List, [], ◌∷◌, ℕ, suc, ◌+◌, ◌*◌, Err, Ok}
use Rattle.refusals.specs.declared.Reason.TheVariants as Reason
use Rattle.refusals.specs.Refusals.{Verdict}
use Rattle.events.specs.Coordinates.{Coordinates, same, ahead}
use Rattle.events.specs.Event.{Event, fresh}
use Rattle.events.specs.Store.{Store}
use Rattle.checks.specs.Checks.{and_then}

pub record Edge (P : Type 0) : Type 0 where
  pub subject : Bool
  pub ring : ℕ
  pub from : P
  pub to : P

-- ---- the events of an edge

module _ {P : Type 0} where
  -- an end of the edge e
  unfoldable pub end : Edge P → P → Bool → ℕ → Event P
  end e p left partner = fresh p left e.subject e.ring partner

  module _ (C : Coordinates P) where
    -- the first end of edge i, and the second
    unfoldable pub first_end : ℕ → Edge P → Event P
    first_end i e = end e e.from (ahead C e.from e.to) (2 * i + 1)

    unfoldable pub second_end : ℕ → Edge P → Event P
    second_end i e = end e e.to (not (ahead C e.from e.to)) (2 * i)

    module _ {S : Type 0} (K : Store P S) where
      unfoldable pub loaded_edge : S → ℕ → Edge P → S
      loaded_edge s i e = K.enter (K.enter s (2 * i) (first_end i e)) (2 * i + 1) (second_end i e)

      -- the edges l, which are those from i on; the other places stay as lent
      unfoldable pub loaded : S → ℕ → List (Edge P) → S
      loaded s i [] = s
      loaded s i (e ∷ l) = loaded (loaded_edge s i e) (suc i) l

    -- ---- the checks of each edge in turn: 2, an end that is not fit; 3, equal ends

    unfoldable pub checked_edge : ℕ → Edge P → Verdict
    checked_edge i e =
        cond (not (C.fit e.from) || not (C.fit e.to)) (Err (record { reason = Reason.Coordinate; place = i }))
        (cond (same C e.from e.to) (Err (record { reason = Reason.Ends; place = i })) (Ok tt))

    unfoldable pub checked_edges : ℕ → List (Edge P) → Verdict
    checked_edges i [] = Ok tt
    checked_edges i (e ∷ l) = and_then (checked_edge i e) (checked_edges (suc i) l)
