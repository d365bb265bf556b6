-- The table of an accepted list: its size, its rows by their records, links in range, mutual and proper, points compared by value, and the ends at a point.
use mathlib.Core.Path.{◌≡◌, refl, sym, ap, ◌∙◌}
use mathlib.Core.Logic.{◌≢◌}
use mathlib.Core.Bool.{Bool, true, false, not, cond, ◌&&◌, true≢false, false≢true}
use mathlib.Core.List.Permᴰ
use mathlib.Core.List.{List, [], ◌∷◌, Memᴰ, Permᴰ}
use Prim.Native.Nat.{ℕ, suc, ◌+◌, ◌<◌}
use native.Mathlib.Nat.{zero-add}
use native.Mathlib.Omega.{arith}
use lib.ListN.{length, get_or, replicate, length-map}
use Rattle.events.specs.Coordinates.{Coordinates, same}
use Rattle.events.specs.Event.{Event, key}
use Rattle.order.specs.Order.{on_side}
use Rattle.order.proofs.Laws.{OrderLaws, same_refl, same-ext}
use Rattle.checks.specs.Checks.{in_order}
use Rattle.checks.specs.Sound.{Sound}
use Rattle.order.specs.Keys.{key_of}
use Rattle.events.specs.Event.{has_transition}
use Rattle.contours.specs.Result.{keep, in_result, results, result_edges, earlier, ordered}
use Rattle.contours.specs.Table.{Row, place, row_of, table, row_at}
use Rattle.contours.specs.Renaming.{ends_at}
use Rattle.contours.proofs.Lists.{Pairs, pairs-perm, pairs-keep, mem-perm, mem-get_d, keep-in, keep_out, keep-perm, length-perm, get_d_map}
use Rattle.contours.proofs.Sort.{sort-is}
use Rattle.contours.proofs.Places.{place_of, place-get_d}
use Rattle.contours.proofs.Marks.{open_from, weight, bit}
use Rattle.contours.proofs.Walked.{Good, ByValue}
use Rattle.contours.proofs.Accepted.{Accepted}

-- the open positions that a test holds of, where it is a test of the members of a list
count-members : (g f : ℕ → Bool) (s : List ℕ) (b : ℕ) → ((j : ℕ) → j < length s → f (b + j) ≡ g (get_or s j 0)) → open_from f b (replicate (length s) 0) ≡ length (keep g s)
unfolding open_from weight bit keep
count-members g f [] b h = refl
count-members g f (r ∷ s) b h =
    rw (ap f (sym q) ∙ h 0 (omega arith)) (go (g r) (count-members g f s (suc b) (λ j l. ap f (omega arith) ∙ h (suc j) (omega arith))))
  where
    q : b + 0 ≡ b
    q = omega arith

    go : (t : Bool) → open_from f (suc b) (replicate (length s) 0) ≡ length (keep g s) → bit t + open_from f (suc b) (replicate (length s) 0) ≡ length (cond t (r ∷ keep g s) (keep g s))
    go true i = omega arith
    go false i = omega arith

keep-keep : {A : Type 0} (f g : A → Bool) (l : List A) → keep g (keep f l) ≡ keep (λ a. f a && g a) l
unfolding keep
keep-keep f g [] = refl
keep-keep {A} f g (a ∷ l) = go (f a) (keep-keep f g l)
  where
    go : (t : Bool) → keep g (keep f l) ≡ keep (λ a. f a && g a) l → keep g (cond t (a ∷ keep f l) (keep f l)) ≡ cond (t && g a) (a ∷ keep (λ a. f a && g a) l) (keep (λ a. f a && g a) l)
    go true i = ap (λ (m : List A). cond (g a) (a ∷ m) m) i
    go false i = i

not_own : (b : Bool) → b ≡ not b → ⊥
not_own true e = true≢false e
not_own false e = false≢true e

-- ---- any list

module _ {P : Type 0} (C : Coordinates P) (row : ℕ → Event P) (void : P) (list : List ℕ) where
  pub size : length (table row C list) ≡ length (ordered row C list)
  unfolding table
  size = length-map (ordered row C list) (row_of row (ordered row C list))

  pub sorted : Permᴰ (results row list) (ordered row C list)
  unfolding ordered
  sorted = sort-is (earlier row C) (results row list)

  pub row_is : (i : ℕ) → i < length (table row C list) → row_at void (table row C list) i ≡ row_of row (ordered row C list) (get_or (ordered row C list) i 0)
  unfolding table row_at
  row_is i l = get_d_map (row_of row (ordered row C list)) (ordered row C list) i _ 0 (omega (arith, size))

  -- the left ends, one for each result edge
  pub lefts-open : open_from (λ j. (row_at void (table row C list) j).left) 0 (replicate (length (table row C list)) 0) ≡ length (result_edges row list)
  unfolding row_of results result_edges
  lefts-open =
      ap (λ (k : ℕ). open_from f 0 (replicate k 0)) size
      ∙ count-members (λ r. (row r).left) f (ordered row C list) 0 (λ j l. rw (zero-add j) (ap (λ (r : Row P). r.left) (row_is j (omega (arith, size)))))
      ∙ sym (length-perm (keep-perm (λ r. (row r).left) sorted))
      ∙ ap length (keep-keep (in_result row) (λ r. (row r).left) list)
    where
      f : ℕ → Bool
      f j = (row_at void (table row C list) j).left

  -- the result edges that end at the point of a row
  pub ends_open : (p : P) → open_from (λ j. same C p (row_at void (table row C list) j).point) 0 (replicate (length (table row C list)) 0) ≡ ends_at C row list p
  unfolding ends_at row_of
  ends_open p =
      ap (λ (k : ℕ). open_from f 0 (replicate k 0)) size
      ∙ count-members (λ r. same C p (row r).point) f (ordered row C list) 0
      (λ j l. rw (zero-add j) (ap (λ (r : Row P). same C p r.point) (row_is j (omega (arith, size)))))
      ∙ sym (length-perm (keep-perm (λ r. same C p (row r).point) sorted))
    where
      f : ℕ → Bool
      f j = same C p (row_at void (table row C list) j).point

-- ---- an accepted list

module _ {P : Type 0} (C : Coordinates P) (row : ℕ → Event P) (n : ℕ) (void : P) (list : List ℕ) (ok : Accepted C row n list) where
  abbrev s : List ℕ
  s = ordered row C list

  abbrev at : ℕ → Row P
  at i = row_at void (table row C list) i

  abbrev rec : ℕ → ℕ
  rec i = get_or s i 0

  abbrev mate : ℕ → ℕ
  mate r = (row r).partner

  pub in_list : (r : ℕ) → Memᴰ r (results row list) → Memᴰ r list × (in_result row r ≡ true)
  unfolding results
  in_list r m = keep_out (in_result row) list r m

  pub in-results : (r : ℕ) → Memᴰ r s → Memᴰ r (results row list)
  in-results r m = mem-perm (Permᴰ.symm (sorted C row void list)) m

  pub sound-result : (r : ℕ) → Memᴰ r (results row list) → Sound C row n r
  sound-result r m = ok.each r (in_list r m).0

  mate-result : (r : ℕ) → Memᴰ r list → in_result row (mate r) ≡ in_result row r
  unfolding in_result
  mate-result r m = rw ((ok.each r m).paired, (ok.each r m).unlike) (go (row r).left)
    where
      go : (b : Bool) → cond (not b) (has_transition (row (mate r)).transition) (has_transition (row r).transition) ≡ cond b (has_transition (row r).transition) (has_transition (row (mate r)).transition)
      go true = refl
      go false = refl

  -- with a result event its other end is one
  pub mate-in : (r : ℕ) → Memᴰ r (results row list) → Memᴰ (mate r) (results row list)
  unfolding results
  mate-in r m =
      let l = in_list r m in
      keep-in (in_result row) list (mate r) (ok.both r l.0 l.1) (mate-result r l.0 ∙ l.1)

  pub s-distinct : Pairs ◌≢◌ s
  unfolding results
  s-distinct = pairs-perm ◌≢◌ (λ a b h e. h (sym e)) (sorted C row void list) (pairs-keep (in_result row) ◌≢◌ list ok.distinct)

  pub rec-in : (i : ℕ) → i < length (table row C list) → Memᴰ (rec i) (results row list)
  rec-in i l = in-results (rec i) (mem-get_d s i 0 (omega (arith, size C row void list)))

  pub other-is : (i : ℕ) → i < length (table row C list) → (at i).other ≡ place s (mate (rec i))
  unfolding row_of
  other-is i l = ap (λ (r : Row P). r.other) (row_is C row void list i l)

  pub point-is : (i : ℕ) → i < length (table row C list) → (at i).point ≡ (row (rec i)).point
  unfolding row_of
  point-is i l = ap (λ (r : Row P). r.point) (row_is C row void list i l)

  mate-place : (i : ℕ) → i < length (table row C list) → (place s (mate (rec i)) < length s) × (get_or s (place s (mate (rec i))) 0 ≡ mate (rec i))
  mate-place i l = place_of s (mate (rec i)) 0 (mem-perm (sorted C row void list) (mate-in (rec i) (rec-in i l)))

  near : (i : ℕ) → i < length (table row C list) → (at i).other < length (table row C list)
  near i l = rw (other-is i l, size C row void list) (mate-place i l).0

  -- the record at the other end
  pub rec-other : (i : ℕ) → i < length (table row C list) → rec (at i).other ≡ mate (rec i)
  rec-other i l = ap (λ (k : ℕ). get_or s k 0) (other-is i l) ∙ (mate-place i l).1

  back : (i : ℕ) → i < length (table row C list) → (at (at i).other).other ≡ i
  back i l =
      other-is (at i).other (near i l) ∙ ap (λ (r : ℕ). place s (mate r)) (rec-other i l)
      ∙ ap (place s) (sound-result (rec i) (rec-in i l)).paired
      ∙ place-get_d s i 0 s-distinct (omega (arith, size C row void list))

  proper : (i : ℕ) → i < length (table row C list) → (at i).other ≢ i
  proper i l e = not_own (row (rec i)).left (ap (λ (r : ℕ). (row r).left) (sym (ap rec e) ∙ rec-other i l) ∙ (sound-result (rec i) (rec-in i l)).unlike)

  pub left_is : (i : ℕ) → i < length (table row C list) → (at i).left ≡ (row (rec i)).left
  unfolding row_of
  left_is i l = ap (λ (r : Row P). r.left) (row_is C row void list i l)

  -- of the two ends of an edge one is left and the other right
  pub sides : (i : ℕ) → i < length (table row C list) → (at (at i).other).left ≡ not (at i).left
  sides i l =
      left_is (at i).other (near i l) ∙ ap (λ (r : ℕ). (row r).left) (rec-other i l)
      ∙ (sound-result (rec i) (rec-in i l)).unlike
      ∙ ap not (sym (left_is i l))

  pub good : Good (length (table row C list)) at
  good = record { near = near; back = back; proper = proper }

  -- the partner of every listed record, in the result or not, lies on its proper side
  pub key-side : (r : ℕ) → Memᴰ r list → on_side C (key_of row r) ≡ true
  unfolding key_of key on_side in_order
  key-side r m = (ok.each r m).ordered

  -- ---- where coordinates have the laws of event order
  module _ (L : OrderLaws C) where
    pub by_value : ByValue (length (table row C list)) at (same C)
    by_value =
        record {
          self = λ i l. same_refl L (at i).point;
          alike = λ i j k l m o e. same-ext L (at i).point (at j).point (at k).point e;
        }
