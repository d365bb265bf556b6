-- Another numbering and another listing of an accepted list give the same table: a key holds no record number, and a place survives a renaming.
use Rattle.std.proofs.Common.{None, Option, Some}
use mathlib.Core.Path.{◌≡◌, refl, sym, ap, ap₂, ◌∙◌}
use mathlib.Core.Logic.{◌≢◌}
use mathlib.Core.Bool.{true, ◌&&◌}
use mathlib.Core.List.{List, [], ◌∷◌, map, Memᴰ, Permᴰ}
use Prim.Native.Nat.{ℕ}
use lib.ListN.{length, length-map}
use Rattle.events.specs.Coordinates.{Coordinates}
use Rattle.events.specs.Event.{Event, key}
use Rattle.events.specs.Renaming.{rename_link, rename}
use Rattle.order.specs.Order.{before, on_side}
use Rattle.order.proofs.Laws.{OrderLaws, trans, apart}
use Rattle.checks.specs.Sound.{LeftIn, Sound}
use Rattle.order.specs.Keys.{key_of}
use Rattle.contours.specs.Result.{keep, in_result, results, result_edges, earlier, ordered}
use Rattle.contours.specs.Table.{below_of, row_of, table}
use Rattle.contours.specs.Connect.{with_contour}
use Rattle.contours.specs.Renaming.{Renumbered, Relisted, NoneOneWay}
use Rattle.contours.proofs.Lists.{All, Pairs, all_of, all_map, all-perm, pairs_of, pairs-keep, keep-perm, keep-map, map-map, length-perm}
use Rattle.contours.proofs.Sort.{Apart, sort-perm, sort-map}
use Rattle.contours.proofs.Places.{place_map}
use Rattle.contours.proofs.Accepted.{Accepted}
use Rattle.contours.proofs.Good.{sorted, in_list, sound-result, key-side}

module _ {P : Type 0} (C : Coordinates P) (ρ : ℕ → ℕ) (n : ℕ) (row row' : ℕ → Event P) (rn : Renumbered ρ n row row') where
  abbrev Fit : ℕ → Type 0
  Fit r = Sound C row n r

  module _ (r : ℕ) (h : Fit r) where
    own : row' (ρ r) ≡ with_contour (row' (ρ r)).contour (rename ρ (row r))
    own = rn.kept r h.inside

    other : row' (ρ (row r).partner) ≡ with_contour (row' (ρ (row r).partner)).contour (rename ρ (row (row r).partner))
    other = rn.kept (row r).partner h.partner

    pub key-kept : key_of row' (ρ r) ≡ key_of row r
    unfolding key_of key rename with_contour
    key-kept = rw (own, other)

    pub result-kept : in_result row' (ρ r) ≡ in_result row r
    unfolding in_result rename with_contour
    result-kept = rw (own, other)

    pub edge_kept : (in_result row' (ρ r) && (row' (ρ r)).left) ≡ (in_result row r && (row r).left)
    unfolding rename with_contour
    edge_kept = rw (result-kept, own)

    below-kept : (s : List ℕ) (l : Option ℕ) → ((b : ℕ) → l ≡ Some b → LeftIn row n b) → below_of row' (map ρ s) (rename_link ρ l) ≡ below_of row s l
    unfolding below_of rename_link rename with_contour
    below-kept s None k = refl
    below-kept s (Some b) k = rw (rn.kept b (k b refl).inside, place_map ρ rn.injective s b)

    pub row_kept : (s : List ℕ) → row_of row' (map ρ s) (ρ r) ≡ row_of row s r
    unfolding row_of rename with_contour
    row_kept s = rw (own, place_map ρ rn.injective s (row r).partner, below-kept s (row r).below h.below)

  module _ (list list' : List ℕ) (p : Relisted ρ list list') (sounds : (r : ℕ) → Memᴰ r list → Fit r) where
    fits : All Fit list
    fits = all_of Fit list sounds

    -- the result events, renamed and relisted
    pub results-kept : Permᴰ (map ρ (results row list)) (results row' list')
    unfolding results
    results-kept = rw (keep-map ρ Fit (in_result row) (in_result row') result-kept list fits) at (keep-perm (in_result row') p)

    pub events-kept : length (results row' list') ≡ length (results row list)
    events-kept = sym (length-perm results-kept) ∙ length-map (results row list) ρ

    pub edges-kept : length (result_edges row' list') ≡ length (result_edges row list)
    unfolding result_edges
    edges-kept =
        sym (length-perm (keep-perm (λ r. in_result row' r && (row' r).left) p))
        ∙ ap length (keep-map ρ Fit (λ r. in_result row r && (row r).left) (λ r. in_result row' r && (row' r).left) edge_kept list fits)
        ∙ length-map (keep (λ r. in_result row r && (row r).left) list) ρ

-- ---- the table

module _ {P : Type 0} (C : Coordinates P) (L : OrderLaws C)
    (ρ : ℕ → ℕ) (n : ℕ) (row row' : ℕ → Event P) (rn : Renumbered ρ n row row')
    (list list' : List ℕ) (p : Relisted ρ list list') (void : P) (ok : Accepted C row n list) (free : NoneOneWay C row list) where
  abbrev Fits : ℕ → Type 0
  Fits r = Sound C row n r

  abbrev Keyed : ℕ → Type 0
  Keyed r = on_side C (key_of row r) ≡ true

  abbrev Keyed' : ℕ → Type 0
  Keyed' r = on_side C (key_of row' r) ≡ true

  both : (r : ℕ) → Memᴰ r (results row list) → Fits r × Keyed r
  both r m = (sound-result C row n void list ok r m, key-side C row n void list ok r (in_list C row n void list ok r m).0)

  res-fit : All Fits (results row list)
  res-fit = all_of Fits (results row list) (λ r m. (both r m).0)

  earlier-kept : (a b : ℕ) → Fits a → Fits b → earlier row' C (ρ a) (ρ b) ≡ earlier row C a b
  unfolding earlier
  earlier-kept a b l m = ap₂ (before C) (key-kept C ρ n row row' rn a l) (key-kept C ρ n row row' rn b m)

  -- after the renaming: keys are valid, the order is transitive on them, and no two tie
  valid' : All Keyed' (map ρ (results row list))
  valid' =
      all_map ρ (λ r. Fits r × Keyed r) Keyed' (λ r k. rw (key-kept C ρ n row row' rn r k.0) k.1) (results row list)
      (all_of (λ r. Fits r × Keyed r) (results row list) both)

  trans' : (a b c : ℕ) → Keyed' a → Keyed' b → Keyed' c → earlier row' C a b ≡ true → earlier row' C b c ≡ true → earlier row' C a c ≡ true
  unfolding earlier
  trans' a b c = trans L (key_of row' a) (key_of row' b) (key_of row' c)

  res-apart : Pairs (Apart (earlier row C)) (results row list)
  unfolding earlier results
  res-apart =
      pairs_of (Apart (earlier row C)) (results row list) (pairs-keep (in_result row) ◌≢◌ list ok.distinct)
      (λ a b l m d. apart L (key_of row a) (key_of row b) (free a b l m d))

  apart-map : (l : List ℕ) → All Fits l → Pairs (Apart (earlier row C)) l → Pairs (Apart (earlier row' C)) (map ρ l)
  apart-map [] d h = tt
  apart-map (a ∷ l) d h = (heads l d.1 h.0, apart-map l d.1 h.1)
    where
      heads : (m : List ℕ) → All Fits m → All (Apart (earlier row C) a) m → All (Apart (earlier row' C) (ρ a)) (map ρ m)
      heads [] e g = tt
      heads (b ∷ m) e g = (rw (earlier-kept a b d.0 e.0, earlier-kept b a e.0 d.0) g.0, heads m e.1 g.1)

  -- first the other listing, then the renaming
  pub order-kept : ordered row' C list' ≡ map ρ (ordered row C list)
  unfolding ordered
  order-kept =
      sym (sort-perm (earlier row' C) Keyed' trans' (results-kept C ρ n row row' rn list list' p ok.each) valid' (apart-map (results row list) res-fit res-apart))
      ∙ sort-map (earlier row C) (earlier row' C) ρ Fits earlier-kept (results row list) res-fit

  -- the same table
  pub table_kept : table row' C list' ≡ table row C list
  unfolding table
  table_kept =
      ap (λ (s : List ℕ). map (row_of row' s) s) order-kept
      ∙ map-map ρ Fits (row_of row' (map ρ (ordered row C list))) (row_of row (ordered row C list)) (λ r h. row_kept C ρ n row row' rn r h (ordered row C list)) (ordered row C list)
      (all-perm Fits (sorted C row void list) res-fit)
