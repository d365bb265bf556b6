-- The definition's walk, edge by edge as the loop goes: what is left to walk from now on gives what the whole walk gives.
use Rattle.std.proofs.Common.{Option, None, Some}
use mathlib.Core.Path.{◌≡◌, refl, sym, ap, ap₂, ◌∙◌, fun_ext}
use mathlib.Core.Bool.{Bool, true, false, not, cond}
use mathlib.Core.List.{List, [], ◌∷◌, map}
use Prim.Native.Nat.{ℕ, zero, suc, ◌+◌, ◌-◌, ◌≤◌, ◌<◌}
use native.Mathlib.Numerals.{add-one}
use native.Mathlib.Nat.{add-zero}
use native.Mathlib.Omega.{arith}
use lib.ListN.{length, set, length-map}
use lib.Seq.{sets}
use Rattle.numbers.specs.declared.Point.{Point}
use Rattle.events.specs.Coordinates.{same}
use Rattle.events.specs.Binary64.{at_binary64}
use Rattle.contours.specs.Round.{seek, tries}
use Rattle.contours.specs.Walk.{mark, marks, walk, onward, halt, corners}
use Rattle.contours.specs.Outline.{final, closes}
use Rattle.rows.specs.Rows.{Rows, size, point_at, point_code, table_row, row_of}
use Rattle.round.specs.Round.{tried, next_pos, found}
use Rattle.round.proofs.Found.{seek-in}
use Rattle.walks.specs.Walks.{Toured, toured, told, trail, trail_from, corners_of, unclosed_trail, marks_of, walked_along, walked_from, Trip, trip, other_of, corner_after, marked, edges_along, edges_from, head_to, heading}

tours : {m m' : List ℕ} {o o' : List (List ℕ)} {e e' : ℕ} {b b' : Bool} → m ≡ m' → o ≡ o' → e ≡ e' → b ≡ b' → toured m o (told e b) ≡ toured m' o' (told e' b')
tours p q r s = rw (p, q, r, s)

-- ---- where a walk goes on

module _ (t : Rows) (home : Point) (near : Bool) (ms : List ℕ) (q : ℕ) where
  abbrev Sought : Option ℕ → Type 0
  Sought o = seek ms (tried t near q) ≡ o

  pub head_none : length ms ≤ next_pos t near ms q → heading t home near ms q ≡ length ms
  unfolding heading head_to next_pos found
  head_none h = go (seek ms (tried t near q)) refl h
    where
      go : (o : Option ℕ) → Sought o → length ms ≤ found (length ms) o → head_to t home (length ms) o ≡ length ms
      go None s f = refl
      go (Some i) s f = absurd (omega (arith, seek-in ms _ i s))

  pub head_some : next_pos t near ms q < length ms → heading t home near ms q ≡ cond (same at_binary64 home (point_at t (next_pos t near ms q))) (length ms) (next_pos t near ms q)
  unfolding heading head_to next_pos found
  head_some h = go (seek ms (tried t near q)) h
    where
      go : (o : Option ℕ) → found (length ms) o < length ms → head_to t home (length ms) o ≡ cond (same at_binary64 home (point_at t (found (length ms) o))) (length ms) (found (length ms) o)
      go None f = absurd (omega arith)
      go (Some i) f = refl

-- ---- the loop

module _ (t : Rows) (home : Point) (near : Bool) (c : ℕ) where
  abbrev path : ℕ → List ℕ → ℕ → List ℕ
  path k ms i = trail t near k home c ms i

  -- the edge from i walked: the marks after it, and where the walk goes on
  module _ (ms : List ℕ) (i : ℕ) where
    abbrev pub after : List ℕ
    after = marked t c ms i (other_of t i)

    abbrev pub onto : ℕ
    onto = heading t home near after (other_of t i)

    abbrev goes : ℕ → Option ℕ → List ℕ
    goes k s = i ∷ onward s (λ j. same at_binary64 home (point_at t j)) (λ j. path k after j)

    path-on : (k : ℕ) → onto < length after → path (suc k) ms i ≡ i ∷ path k after onto
    unfolding trail onward halt heading head_to marked mark table_row row_of
    path-on k h = go (seek after (tried t near (other_of t i))) h
      where
        at : (l : ℕ) (b : Bool) → cond b (length after) l < length after → i ∷ halt b (λ j. path k after j) l ≡ i ∷ path k after (cond b (length after) l)
        at l true h = absurd (omega arith)
        at l false h = refl

        go : (s : Option ℕ) → head_to t home (length after) s < length after → goes k s ≡ i ∷ path k after (head_to t home (length after) s)
        go None h = absurd (omega arith)
        go (Some l) h = at l (same at_binary64 home (point_at t l)) h

    path-end : (k : ℕ) → length after ≤ onto → path (suc k) ms i ≡ i ∷ []
    unfolding trail onward halt heading head_to marked mark table_row row_of
    path-end k h = go (seek after (tried t near (other_of t i))) refl h
      where
        at : (l : ℕ) (b : Bool) → l < length after → length after ≤ cond b (length after) l → i ∷ halt b (λ j. path k after j) l ≡ i ∷ []
        at l true n h = refl
        at l false n h = absurd (omega arith)

        go : (s : Option ℕ) → seek after (tried t near (other_of t i)) ≡ s → length after ≤ head_to t home (length after) s → goes k s ≡ i ∷ []
        go None q h = refl
        go (Some l) q h = at l (same at_binary64 home (point_at t l)) (seek-in after _ l q) h

    module _ (out : List (List ℕ)) (e l : ℕ) where
      abbrev pub stored : List (List ℕ)
      stored = set out e (point_code (point_at t (other_of t i)))

      -- an edge more in front
      along-more : (r : List ℕ) → edges_along t home c ms out e l (i ∷ r) ≡ edges_along t home c after stored (e + 1) (other_of t i) r
      unfolding edges_along marks_of marks marked mark table_row row_of final corner_after
      along-more r =
          let n : e + suc (length r) ≡ e + 1 + length r = omega arith in
          rw (n, add-one)

      -- corners are stored up to and not with n
      module _ (n : ℕ) where
        one_more : e < n → n - e ≡ suc (n - (e + 1))
        one_more h = omega arith

        pub edges_more : e < n → onto < length after → edges_from t home near c (n - e) ms out e l i ≡ edges_from t home near c (n - (e + 1)) after stored (e + 1) (other_of t i) onto
        unfolding edges_from
        edges_more h k = rw (one_more h, path-on (n - (e + 1)) k) (along-more (path (n - (e + 1)) after onto))

        pub edges_last : e < n → length after ≤ onto → edges_from t home near c (n - e) ms out e l i ≡ trip after stored (e + 1) (other_of t i)
        unfolding edges_from edges_along marks_of marks final
        edges_last h k = rw (one_more h, path-end (n - (e + 1)) k) (along-more [] ∙ rw add-zero)

        pub edges_none : n ≤ e → edges_from t home near c (n - e) ms out e l i ≡ trip ms out e l
        unfolding edges_from edges_along trail marks_of marks final
        edges_none h = let z : n - e ≡ 0 = omega arith in rw (z, add-zero)

-- ---- the contour

pub whole_none : (t : Rows) (near : Bool) (c i first : ℕ) (ms : List ℕ) (out : List (List ℕ)) → size t ≡ 0 → walked_from t near c i first ms out ≡ toured ms out (told first true)
unfolding walked_from walked_along trail_from trail marks_of marks corners_of unclosed_trail corners closes
whole_none t near c i first ms out h = rw (h, add-zero)

module _ (t : Rows) (near : Bool) (c i first : ℕ) (ms : List ℕ) (out : List (List ℕ)) where
  abbrev pub home : Point
  home = point_at t i

  -- the edges, and whether the last of them is home again
  abbrev pub closing : Point → Trip → Toured
  closing p w = toured w.walked w.corners (told w.end (not (same at_binary64 p (point_at t w.last))))

  corners-are : (r : List ℕ) → map point_code (map (λ j. (table_row t (table_row t j).other).point) r) ≡ map (corner_after t) r
  unfolding table_row row_of corner_after
  corners-are [] = refl
  corners-are (j ∷ r) = ap (λ (l : List (List ℕ)). corner_after t j ∷ l) (corners-are r)

  final-is : (l : ℕ) (r : List ℕ) → point_at t (final l (map (other_of t) r)) ≡ final (point_at t l) (map (λ j. (table_row t (table_row t j).other).point) r)
  unfolding final table_row row_of
  final-is l [] = refl
  final-is l (j ∷ r) = final-is (other_of t j) r

  -- the first corner, and then the edges
  along-whole : (r : List ℕ) → closing home (edges_along t home c ms (set out first (point_code home)) (first + 1) 0 (i ∷ r)) ≡ walked_along t c first ms out (i ∷ r)
  unfolding walked_along edges_along corners_of unclosed_trail corners closes final table_row row_of
  along-whole r =
      tours refl
      (ap (λ (n : ℕ). sets (set out first (point_code home)) n (map (corner_after t) (i ∷ r))) (add-one first)
      ∙ ap (λ (l : List (List ℕ)). sets (set out first (point_code home)) (suc first) l) (sym (corners-are (i ∷ r))))
      (omega (arith, length-map (map (λ j. (table_row t (table_row t j).other).point) (i ∷ r)) point_code, length-map (i ∷ r) (λ j. (table_row t (table_row t j).other).point)))
      (ap (λ (p : Point). not (same at_binary64 home p)) (final-is (other_of t i) r))

  whole_by_lem : (k : ℕ) → (k ≡ 0 → ⊥) → closing home (edges_from t home near c k ms (set out first (point_code home)) (first + 1) 0 i) ≡ walked_along t c first ms out (trail t near k home c ms i)
  unfolding trail edges_from
  whole_by_lem zero h = absurd (h refl)
  whole_by_lem (suc k) h = along-whole _

  pub whole_some : (size t ≡ 0 → ⊥) → walked_from t near c i first ms out ≡ closing home (edges_from t home near c (size t) ms (set out first (point_code home)) (first + 1) 0 i)
  unfolding walked_from trail_from table_row row_of
  whole_some h = sym (whole_by_lem (size t) h)

-- ---- how far a walk goes

module _ (t : Rows) (home : Point) (near : Bool) (c : ℕ) where
  walk-short : (k : ℕ) (ms : List ℕ) (i : ℕ) → length (path t home near c k ms i) ≤ k
  unfolding trail onward halt
  walk-short zero ms i = omega arith
  walk-short (suc k) ms i = go (seek M (tried t near (table_row t i).other)) (λ j. walk-short k M j)
    where
      M : List ℕ
      M = mark (same at_binary64) (size t) (table_row t) c ms i

      Rest : Type 0
      Rest = (j : ℕ) → length (path t home near c k M j) ≤ k

      at : (b : Bool) (j : ℕ) → Rest → suc (length (halt b (λ j. path t home near c k M j) j)) ≤ suc k
      at true j h = omega arith
      at false j h = omega (arith, h j)

      go : (s : Option ℕ) → Rest → suc (length (onward s (λ j. same at_binary64 home (table_row t j).point) (λ j. path t home near c k M j))) ≤ suc k
      go None h = omega arith
      go (Some j) h = at (same at_binary64 home (table_row t j).point) j h

corners-short : (t : Rows) (r : List ℕ) → length (corners_of t r) ≤ length r + 1
unfolding corners_of corners
corners-short t [] = omega arith
corners-short t (i ∷ r) =
    omega (arith, length-map (map (λ j. (table_row t (table_row t j).other).point) (i ∷ r)) point_code, length-map (i ∷ r) (λ j. (table_row t (table_row t j).other).point))

-- no contour has more corners than the table has rows, and one
pub corners-few : (t : Rows) (near : Bool) (c i : ℕ) (ms : List ℕ) → length (corners_of t (trail_from t near c i ms)) ≤ size t + 1
unfolding trail_from
corners-few t near c i ms = omega (arith, corners-short t (path t (table_row t i).point near c (size t) ms i), walk-short t (table_row t i).point near c (size t) ms i)

-- ---- the definition's walk

-- where what is tried is what the definition tries
module _ (t : Rows) (near : Bool) (h : (q : ℕ) → tried t near q ≡ tries (same at_binary64) (size t) (table_row t) q) where
  trail_is : (k : ℕ) (home : Point) (c : ℕ) (ms : List ℕ) (i : ℕ) → trail t near k home c ms i ≡ walk (same at_binary64) (size t) (table_row t) k home c ms i
  unfolding trail walk
  trail_is zero home c ms i = refl
  trail_is (suc k) home c ms i =
      ap₂ (λ (o : Option ℕ) (f : ℕ → List ℕ). i ∷ onward o (λ j. same at_binary64 home (table_row t j).point) f)
      (ap (seek (mark (same at_binary64) (size t) (table_row t) c ms i)) (h (table_row t i).other))
      (fun_ext (trail_is k home c (mark (same at_binary64) (size t) (table_row t) c ms i)))

  pub trail-from : (c i : ℕ) (ms : List ℕ) → trail_from t near c i ms ≡ walk (same at_binary64) (size t) (table_row t) (size t) (table_row t i).point c ms i
  unfolding trail_from
  trail-from c i ms = trail_is (size t) (table_row t i).point c ms i
