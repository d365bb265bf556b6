-- Each edge of a contour begins, by value, where the one before it ended: so each two neighbouring corners are the two ends of the edge walked there.
use Rattle.std.proofs.Common.{Option}
use mathlib.Core.Path.{◌≡◌, ap}
use mathlib.Core.Bool.{Bool, true}
use mathlib.Core.List.{List, [], ◌∷◌, map}
use Prim.Native.Nat.{ℕ, zero, suc, ◌<◌}
use native.Mathlib.Nat.{not-suc-le-zero, le_of_suc-le-suc}
use native.Mathlib.Omega.{arith}
use lib.ListN.{length, get_or, length-map}
use Rattle.contours.specs.Table.{Row}
use Rattle.contours.specs.Walk.{corners}
use Rattle.contours.specs.Contours.{Contour, trail_at, trace}
use Rattle.contours.proofs.Lists.{All, get_d_map}
use Rattle.contours.proofs.Turns.{Ends, marked, more, trace-end}
use Rattle.contours.proofs.Walked.{Good, ByValue, all_snoc, Fine, Steps, last, next, fine-marks, steps-in, steps, fresh}

module _ {P : Type 0} (same : P → P → Bool) (n : ℕ) (row : ℕ → Row P) where
  -- the edges follow one another from the point p
  abbrev pub Linked : P → List ℕ → Type 0
  Linked p [] = Unit {0}
  Linked p (i ∷ t) = (same p (row i).point ≡ true) × Linked (row (row i).other).point t

  abbrev pub Trail : List ℕ → Type 0
  Trail [] = ⊥
  Trail (i ∷ t) = All (λ j. j < n) (i ∷ t) × Linked (row i).point (i ∷ t)

  -- the edge at place k of a trail: from corner k, by value, to corner k + 1
  pub record EdgeAt (t : List ℕ) (k : ℕ) (d : P) : Type 0 where
    pub inside : get_or t k 0 < n
    pub from : same (get_or (corners same n row t) k d) (row (get_or t k 0)).point ≡ true
    pub to : get_or (corners same n row t) (suc k) d ≡ (row (row (get_or t k 0)).other).point

  abbrev ends : List ℕ → List P
  ends t = map (λ j. (row (row j).other).point) t

  from_at : (p : P) (t : List ℕ) → Linked p t → (k : ℕ) → k < length t → (d : P) → same (get_or (p ∷ ends t) k d) (row (get_or t k 0)).point ≡ true
  from_at p [] h k l d = absurd (not-suc-le-zero l)
  from_at p (i ∷ t) h zero l d = h.0
  from_at p (i ∷ t) h (suc k) l d = from_at (row (row i).other).point t h.1 k (le_of_suc-le-suc l) d

  in-at : (t : List ℕ) → All (λ j. j < n) t → (k : ℕ) → k < length t → get_or t k 0 < n
  in-at [] h k l = absurd (not-suc-le-zero l)
  in-at (i ∷ t) h zero l = h.0
  in-at (i ∷ t) h (suc k) l = in-at t h.1 k (le_of_suc-le-suc l)

  pub edge_at : (t : List ℕ) → Trail t → (k : ℕ) → k < length t → (d : P) → EdgeAt t k d
  unfolding corners
  edge_at [] h k l d = absurd h
  edge_at (i ∷ t) h k l d =
      record {
        inside = in-at (i ∷ t) h.0 k l;
        from = from_at (row i).point (i ∷ t) h.1 k l d;
        to = get_d_map (λ j. (row (row j).other).point) (i ∷ t) k d 0 l;
      }

  -- one corner more than edges
  pub corners-length : (t : List ℕ) → Trail t → length (corners same n row t) ≡ suc (length t)
  unfolding corners
  corners-length [] h = absurd h
  corners-length (i ∷ t) h = ap (λ (k : ℕ). suc (suc k)) (length-map t (λ j. (row (row j).other).point))

  -- and at least one edge
  pub some-edge : (t : List ℕ) → Trail t → 0 < length t
  some-edge [] h = absurd h
  some-edge (i ∷ t) h = omega arith

module _ {P : Type 0} (same : P → P → Bool) (n : ℕ) (row : ℕ → Row P) (good : Good n row) (value : ByValue n row same) where
  steps-linked : {h c i : ℕ} {ms t : List ℕ} → Steps same n row good value h c i ms t → (p : P) → same p (row i).point ≡ true → Linked same n row p t
  steps-linked (last l e d) p q = (q, tt)
  steps-linked (next {i = i} l e m s r) p q = (q, steps-linked r (row (row i).other).point s)

  steps-trail : {c i : ℕ} {ms t : List ℕ} → Steps same n row good value i c i ms t → Trail same n row t
  steps-trail {i = i} (last l e d) = (steps-in same n row good value (last l e d), steps-linked (last l e d) (row i).point (value.self i l))
  steps-trail {i = i} (next l e m s r) = (steps-in same n row good value (next l e m s r), steps-linked (next l e m s r) (row i).point (value.self i l))

  pub record Chained (i : ℕ) (ms : List ℕ) (cs : List Contour) : Type 0 where
    pub fine : Fine same n row good value ms
    pub all : All (λ k. Trail same n row k.trail) cs

  chained-make : (i : ℕ) (ms : List ℕ) (cs : List Contour) (p : Option ℕ) (d : ℕ) → i < n → Chained i ms cs → get_or ms i 1 ≡ 0
      → Chained (suc i) (marked same n row i cs ms) (more same n row i cs ms p d)
  chained-make i ms cs p d l h e =
      let s : Steps same n row good value i (length cs) i ms (trail_at same n row i (length cs) ms) = steps same n row good value (length cs) i ms h.fine l e in
      record { fine = fine-marks same n row good value s h.fine; all = all_snoc (λ k. Trail same n row k.trail) cs _ h.all (steps-trail s) }

  pub chained : Ends n Chained (trace same n row)
  chained = trace-end same n row Chained (λ i ms cs l h o. record { fine = h.fine; all = h.all }) chained-make (record { fine = fresh same n row good value; all = tt })
