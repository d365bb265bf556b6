-- Edges are read one after the other; those read and those that are missing make up the count.
use Rattle.refusals.specs.declared.Refusal.{Refusal}
use Rattle.refusals.specs.declared.Reason.TheVariants as Reason
use Rattle.sheet.specs.declared.layers.Miscount.{Miscount}
use Rattle.sheet.specs.declared.layers.Miscount.TheVariants as Miscount
use Rattle.std.proofs.Common.{None, Option, Some, Ok, Err, Result}
use mathlib.Core.Path.{◌≡◌, refl, sym, ap, ◌∙◌}
use mathlib.Core.Bool.{Bool, true, false, cond}
use mathlib.Core.List.{List, [], ◌∷◌}
use Prim.Native.Nat.{ℕ, zero, suc, ◌+◌, ◌-◌, ◌≤◌, ◌<◌}
use native.Mathlib.Nat.{sub-zero}
use native.Mathlib.Omega.{arith}
use borrow.Author.Tests.{ltb-false}
use lib.Dec.{eqb, ltb}
use lib.ListN.{length, drop}
use Rattle.text.specs.Words.{begins}
use Rattle.text.specs.Digits.{decimal_at}
use Rattle.sheet.specs.declared.edges.Edge.{Edge}
use Rattle.sheet.specs.declared.layers.Section.{Section}
use Rattle.sheet.specs.Reading.{Parsed, Got, Wrong, edge_of, on_edge, edges_of, Whole, Broken, whole_by, Counted, Count, Many, Malformed, numeral, over, count_with, count_by, count_from, count_of, layer_by, layer_of}
use Rattle.sheet.specs.Shown.{reason_of, shown_edge, shown_count, begun, shown_layer, CountedLayer}

-- ---- one edge

module _ (n : ℕ) (s : List ℕ) where
  module _ (e : Edge) (t : List ℕ) (h : Got e t ≡ edge_of s) where
    pub list_on : (edges_of (suc n) s).list ≡ e ∷ (edges_of n t).list
    unfolding edges_of on_edge
    list_on = rw (← h)

    pub missing-on : (edges_of (suc n) s).missing ≡ (edges_of n t).missing
    unfolding edges_of on_edge
    missing-on = rw (← h)

    pub rest-on : (edges_of (suc n) s).rest ≡ (edges_of n t).rest
    unfolding edges_of on_edge
    rest-on = rw (← h)

  module _ (h : Wrong ≡ edge_of s) where
    pub list-none : (edges_of (suc n) s).list ≡ []
    unfolding edges_of on_edge
    list-none = rw (← h)

    pub missing-none : (edges_of (suc n) s).missing ≡ suc n
    unfolding edges_of on_edge
    missing-none = rw (← h)

    pub rest-none : (edges_of (suc n) s).rest ≡ s
    unfolding edges_of on_edge
    rest-none = rw (← h)

-- read and missing
pub all : (n : ℕ) (s : List ℕ) → length (edges_of n s).list + (edges_of n s).missing ≡ n
unfolding edges_of
all zero s = refl
all (suc n) s = go (edge_of s) refl (λ t. all n t)
  where
    go : (x : Parsed Edge) → x ≡ edge_of s → ((t : List ℕ) → length (edges_of n t).list + (edges_of n t).missing ≡ n) → length (edges_of (suc n) s).list + (edges_of (suc n) s).missing ≡ suc n
    go (Got e t) h r = rw (list_on n s e t h, missing-on n s e t h) (omega (arith, r t))
    go Wrong h r = rw (list-none n s h, missing-none n s h) (omega arith)

-- ---- one after the other: i of count are read, and the next begins at p

module _ (s : List ℕ) (count i p : ℕ) where
  module _ (h : i < count) (r : Option (Edge × ℕ)) (hr : shown_edge s r ≡ edge_of (drop p s)) where
    one_less : count - i ≡ suc (count - (i + 1))
    one_less = omega arith

    module _ (e : Edge) (q : ℕ) (er : r ≡ Some (e, q)) where
      there : Got e (drop q s) ≡ edge_of (drop p s)
      there = rw er at hr

      pub next-list : (edges_of (count - i) (drop p s)).list ≡ e ∷ (edges_of (count - (i + 1)) (drop q s)).list
      next-list = rw one_less (list_on (count - (i + 1)) (drop p s) e (drop q s) there)

      pub read_again : (l : ℕ) → i + length (edges_of (count - i) (drop p s)).list ≡ l → i + 1 + length (edges_of (count - (i + 1)) (drop q s)).list ≡ l
      read_again l inv = omega (arith, ap length next-list)

      pub rest-again : (t : List ℕ) → (edges_of (count - i) (drop p s)).rest ≡ t → (edges_of (count - (i + 1)) (drop q s)).rest ≡ t
      rest-again t inv = sym (rest-on (count - (i + 1)) (drop p s) e (drop q s) there) ∙ (rw one_less at inv)

    module _ (er : r ≡ None) where
      nothing : Wrong ≡ edge_of (drop p s)
      nothing = rw er at hr

      pub stop-list : (edges_of (count - i) (drop p s)).list ≡ []
      stop-list = rw one_less (list-none (count - (i + 1)) (drop p s) nothing)

      pub read-stop : (l : ℕ) → i + length (edges_of (count - i) (drop p s)).list ≡ l → i ≡ l
      read-stop l inv = omega (arith, ap length stop-list)

      pub rest-stop : (t : List ℕ) → (edges_of (count - i) (drop p s)).rest ≡ t → drop p s ≡ t
      rest-stop t inv = sym (rest-none (count - (i + 1)) (drop p s) nothing) ∙ (rw one_less at inv)

  module _ (h : count ≤ i) where
    none_left : count - i ≡ 0
    none_left = omega arith

    pub end_list : (edges_of (count - i) (drop p s)).list ≡ []
    unfolding edges_of
    end_list = rw none_left

    pub read-end : (l : ℕ) → i + length (edges_of (count - i) (drop p s)).list ≡ l → i ≡ l
    read-end l inv = omega (arith, ap length end_list)

    pub rest_end : (t : List ℕ) → (edges_of (count - i) (drop p s)).rest ≡ t → drop p s ≡ t
    unfolding edges_of
    rest_end t inv = rw none_left at inv

module _ (s : List ℕ) (count at : ℕ) where
  pub read-begun : 0 + length (edges_of (count - 0) (drop at s)).list ≡ length (edges_of count (drop at s)).list
  read-begun = rw (sub-zero count) (omega arith)

  pub rest-begun : (edges_of (count - 0) (drop at s)).rest ≡ (edges_of count (drop at s)).rest
  rest-begun = rw (sub-zero count)

-- ---- a layer: all of its edges, or a line that is none

module _ (b : List ℕ) (n line first k : ℕ) (h : k ≡ length (edges_of n (drop first b)).list) where
  pub whole-broken : k < n → Broken Reason.Malformed (line + 1 + k) ≡ whole_by (line + 1) (edges_of n (drop first b)).list (edges_of n (drop first b)).missing (edges_of n (drop first b)).rest
  unfolding whole_by
  whole-broken l = rw h (go (edges_of n (drop first b)).missing (omega (arith, all n (drop first b))))
    where
      go : (m : ℕ) → 0 < m → Broken Reason.Malformed (line + 1 + length (edges_of n (drop first b)).list) ≡ whole_by (line + 1) (edges_of n (drop first b)).list m (edges_of n (drop first b)).rest
      go zero z = absurd (omega arith)
      go (suc m) z = refl

  pub whole-read : n ≤ k → (p : ℕ) → drop p b ≡ (edges_of n (drop first b)).rest → Whole (edges_of n (drop first b)).list (drop p b) ≡ whole_by (line + 1) (edges_of n (drop first b)).list (edges_of n (drop first b)).missing (edges_of n (drop first b)).rest
  unfolding whole_by
  whole-read l p e =
      let z : (edges_of n (drop first b)).missing ≡ 0 = omega (arith, all n (drop first b)) in
      rw (z, e)

-- its count decides
module _ (b word : List ℕ) (at most line : ℕ) (r : Result (ℕ × ℕ) Miscount) (h : shown_count b r ≡ count_of word most (drop at b)) where
  module _ (n first : ℕ) (e : r ≡ Ok (n, first)) (x : Result Section Refusal) where
    pub layer-read : shown_layer (edges_of n (drop first b)).list b x ≡ whole_by (line + 1) (edges_of n (drop first b)).list (edges_of n (drop first b)).missing (edges_of n (drop first b)).rest → shown_layer (begun (count_of word most (drop at b))) b x ≡ layer_of word most line (drop at b)
    unfolding layer_of layer_by
    layer-read g = rw (← h, e) g

    pub layer-counted : CountedLayer (edges_of n (drop first b)).list x → CountedLayer (begun (count_of word most (drop at b))) x
    layer-counted g = rw (← h, e) g

  layer-many : r ≡ Err Miscount.Many → Broken Reason.Size line ≡ layer_of word most line (drop at b)
  unfolding layer_of layer_by
  layer-many e = rw (← h, e)

  layer-malformed : r ≡ Err Miscount.Malformed → Broken Reason.Malformed line ≡ layer_of word most line (drop at b)
  unfolding layer_of layer_by
  layer-malformed e = rw (← h, e)

  pub layer-miscounted : (m : Miscount) → r ≡ Err m → Broken (reason_of m) line ≡ layer_of word most line (drop at b)
  layer-miscounted Miscount.Many = layer-many
  layer-miscounted Miscount.Malformed = layer-malformed

-- ---- a layer holds no more than the limit

module _ (most n : ℕ) (t : List ℕ) where
  by-few : (r : Option ℕ) (s : List ℕ) → count_by most r s ≡ Count n t → n ≤ most
  unfolding count_by count_with
  by-few (Some v) s e = go (ltb most v) refl (begins (10 ∷ []) s) e
    where
      go : (x : Bool) → ltb most v ≡ x → (y : Bool) → cond x Many (cond y (Count v (drop 1 s)) Malformed) ≡ Count n t → n ≤ most
      go true h y f = let z : ◌≡◌ {A = ℕ} 0 1 = cc in absurd (omega arith)
      go false h true f = let q : v ≡ n = cc in omega (arith, ltb-false most v h)
      go false h false f = let z : ◌≡◌ {A = ℕ} 0 1 = cc in absurd (omega arith)
  by-few None s e = let z : ◌≡◌ {A = ℕ} 0 1 = cc in absurd (omega arith)

  from-few : (k : ℕ) (s : List ℕ) → count_from most k s ≡ Count n t → n ≤ most
  unfolding count_from
  from-few k s e = go (eqb k 0) (over (drop k s)) e
    where
      go : (x y : Bool) → cond x Malformed (cond y (count_by most (decimal_at s 0 k) (drop k s)) Malformed) ≡ Count n t → n ≤ most
      go true y f = let z : ◌≡◌ {A = ℕ} 0 1 = cc in absurd (omega arith)
      go false true f = by-few (decimal_at s 0 k) (drop k s) f
      go false false f = let z : ◌≡◌ {A = ℕ} 0 1 = cc in absurd (omega arith)

  pub count-few : (word s : List ℕ) → count_of word most s ≡ Count n t → n ≤ most
  unfolding count_of
  count-few word s e = go (begins word s) e
    where
      go : (x : Bool) → cond x (count_from most (numeral (drop (length word) s)) (drop (length word) s)) Malformed ≡ Count n t → n ≤ most
      go true f = from-few (numeral (drop (length word) s)) (drop (length word) s) f
      go false f = let z : ◌≡◌ {A = ℕ} 0 1 = cc in absurd (omega arith)

whole-list : (line m : ℕ) (l : List Edge) (s : List ℕ) (k : List Edge) (t : List ℕ) → whole_by line l m s ≡ Whole k t → l ≡ k
unfolding whole_by
whole-list line zero l s k t e = cc
whole-list line (suc m) l s k t e = let z : ◌≡◌ {A = ℕ} 0 1 = cc in absurd (omega arith)

-- the edges of a whole layer are those that were read
pub whole-begun : (word : List ℕ) (most line : ℕ) (s : List ℕ) (l : List Edge) (t : List ℕ) → layer_of word most line s ≡ Whole l t → begun (count_of word most s) ≡ l
unfolding layer_of layer_by
whole-begun word most line s l t e = go (count_of word most s) e
  where
    go : (x : Counted) → layer_by line x ≡ Whole l t → begun x ≡ l
    go (Count n u) f = whole-list (line + 1) (edges_of n u).missing (edges_of n u).list (edges_of n u).rest l t f
    go Many f = let z : ◌≡◌ {A = ℕ} 0 1 = cc in absurd (omega arith)
    go Malformed f = let z : ◌≡◌ {A = ℕ} 0 1 = cc in absurd (omega arith)

begun-few : (word : List ℕ) (most : ℕ) (s : List ℕ) → length (begun (count_of word most s)) ≤ most
begun-few word most s = go (count_of word most s) refl
  where
    go : (x : Counted) → count_of word most s ≡ x → length (begun x) ≤ most
    go (Count n u) h = omega (arith, all n u, count-few most n u word s h)
    go Many h = omega arith
    go Malformed h = omega arith

pub layer-few : (word : List ℕ) (most line : ℕ) (s : List ℕ) (l : List Edge) (t : List ℕ) → layer_of word most line s ≡ Whole l t → length l ≤ most
layer-few word most line s l t e = omega (arith, ap length (whole-begun word most line s l t e), begun-few word most s)

-- .. as the code counts them
pub counted-whole : (l : List Edge) (r : Result Section Refusal) (x : Section) → CountedLayer l r → r ≡ Ok x → x.count ≡ length l
counted-whole l r x h e = rw e at h

pub section-few : (b word : List ℕ) (most p : ℕ) (r : Result Section Refusal) (x : Section) → CountedLayer (begun (count_of word most (drop p b))) r → r ≡ Ok x → x.count ≤ most
section-few b word most p r x h e = omega (arith, counted-whole (begun (count_of word most (drop p b))) r x h e, begun-few word most (drop p b))
