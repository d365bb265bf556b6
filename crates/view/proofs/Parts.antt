-- Where points lie one after the other, each part is shown as it was laid; a part is only ever points that were lent; and its corners are read one by
-- one until there is none.
use Rattle.std.proofs.Common.{None, Some}
use mathlib.Core.Path.{◌≡◌, refl, ap, ◌∙◌}
use mathlib.Core.Bool.{Bool, true, false, cond}
use mathlib.Core.List.{List, [], ◌++◌}
use Prim.Native.Nat.{ℕ, ◌+◌, ◌-◌, ◌<◌, ◌≤◌}
use native.Mathlib.Omega.{arith}
use borrow.Author.Tests.{le-leb, lt-leb, lt-ltb, le-ltb, ltb-true, ltb-false}
use lib.Dec.{leb, ltb}
use lib.ListN.{length, get_or, take, drop, length-append}
use lib.Seq.{take-append_seam, drop-append_seam, get_or-take, get_or-drop}
use Rattle.numbers.specs.declared.Point.{Point}
use Rattle.view.specs.View.{part_of, point_at, corner_at}

-- the lengths of three that lie one after the other
three : (before part after : List (List ℕ)) → length (before ++ (part ++ after)) ≡ length before + (length part + length after)
three before part after = length-append before (part ++ after) ∙ ap (λ (n : ℕ). length before + n) (length-append part after)

laid-part : (before part after : List (List ℕ)) → part_of (before ++ (part ++ after)) (length before) (length before + length part) ≡ part
unfolding part_of
laid-part before part after =
    let count : length before + length part - length before ≡ length part = omega arith in
    rw
    (le-leb (length before) (length before + length part) (omega arith), le-leb (length before + length part) (length (before ++ (part ++ after))) (omega (arith, three before part after)), count, drop-append_seam before (part ++ after))
    (take-append_seam part after)

-- the same by numbers
pub laid-at : (before part after : List (List ℕ)) (first n : ℕ) → length before ≡ first → length part ≡ n → part_of (before ++ (part ++ after)) first (first + n) ≡ part
laid-at before part after first n h k = rw (← h, ← k) (laid-part before part after)

abbrev nothing : List (List ℕ)
nothing = []

module _ (points : List (List ℕ)) (first end : ℕ) where
  pub part-within : first ≤ end → end ≤ length points → part_of points first end ≡ take (end - first) (drop first points)
  unfolding part_of
  part-within h k = rw (le-leb first end h, le-leb end (length points) k)

  pub part_at : (i : ℕ) → first ≤ end → end ≤ length points → i < end - first → get_or (part_of points first end) i [] ≡ get_or points (first + i) []
  part_at i h k l = ap (λ (ps : List (List ℕ)). get_or ps i []) (part-within h k) ∙ get_or-take (end - first) (drop first points) i [] l ∙ get_or-drop first points i []

  pub part-beyond : length points < end → part_of points first end ≡ []
  unfolding part_of
  part-beyond k = rw (lt-leb end (length points) k) (either (leb first end))
    where
      either : (t : Bool) → cond t nothing nothing ≡ nothing
      either true = refl
      either false = refl

-- ---- corners by number

module _ (points : List (List ℕ)) (i : ℕ) where
  pub corner-within : i < length points → corner_at points i ≡ Some (point_at points i)
  unfolding corner_at
  corner-within h = rw (lt-ltb i (length points) h)

  pub corner-beyond : length points ≤ i → corner_at points i ≡ None
  unfolding corner_at
  corner-beyond h = rw (le-ltb i (length points) h)

  -- what an answer tells of the place
  pub found_within : (p : Point) → corner_at points i ≡ Some p → (i < length points) × (point_at points i ≡ p)
  unfolding corner_at
  found_within p = go (ltb i (length points)) refl
    where
      go : (b : Bool) → ltb i (length points) ≡ b → cond b (Some (point_at points i)) None ≡ Some p → (i < length points) × (point_at points i ≡ p)
      go true e f = (ltb-true i (length points) e, let z : point_at points i ≡ p = cc in z)
      go false e f = let z : ◌≡◌ {A = ℕ} 0 1 = cc in absurd (omega arith)

  pub none-beyond : corner_at points i ≡ None → length points ≤ i
  unfolding corner_at
  none-beyond = go (ltb i (length points)) refl
    where
      go : (b : Bool) → ltb i (length points) ≡ b → cond b (Some (point_at points i)) None ≡ None → length points ≤ i
      go true e f = let z : ◌≡◌ {A = ℕ} 0 1 = cc in absurd (omega arith)
      go false e f = ltb-false i (length points) e
