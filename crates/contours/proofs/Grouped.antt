-- The table is in event order: the ends at one point stand together, right ends before left ends. So a point's round is one run of positions.
use mathlib.Core.Path.{◌≡◌, refl, sym, ap₂, ◌∙◌}
use mathlib.Core.Bool.{Bool, true, false, true≢false}
use mathlib.Core.List.{List, [], ◌∷◌, Memᴰ}
use Prim.Native.Nat.{ℕ, zero, suc, ◌<◌}
use native.Mathlib.Nat.{not-suc-le-zero, le_of_suc-le-suc}
use native.Mathlib.Omega.{arith}
use native.Mathlib.Decide.{dec_lt}
use lib.ListN.{length, get_or}
use Rattle.events.specs.Coordinates.{Coordinates, same, ahead}
use Rattle.events.specs.Event.{Event, Key, key}
use Rattle.order.specs.Order.{before, on_side}
use Rattle.checks.proofs.Unstruck.{right-last}
use Rattle.order.proofs.Laws.{OrderLaws, trans, otherwise, left-before-right, before-ahead, same-sym, same-ext, ahead-asym, ahead-ext, ahead-trans}
use Rattle.order.specs.Keys.{key_of}
use Rattle.contours.specs.Result.{results, earlier, ordered}
use Rattle.contours.specs.Table.{Row, table, row_at}
use Rattle.contours.proofs.Lists.{Pairs, all_of, all-mem, mem-get_d}
use Rattle.contours.proofs.Sort.{sort-ordered}
use Rattle.contours.proofs.Walked.{Good, RightLater}
use Rattle.contours.proofs.Accepted.{Accepted}
use Rattle.contours.proofs.Good.{good, in_list, rec-other, sound-result, size, key-side, rec-in, point-is, left_is}

pairs-get_d : (R : ℕ → ℕ → Type 0) (s : List ℕ) → Pairs R s → (i j : ℕ) → i < j → j < length s → R (get_or s i 0) (get_or s j 0)
pairs-get_d R [] h i j l m = absurd (not-suc-le-zero m)
pairs-get_d R (x ∷ s) h i zero l m = absurd (not-suc-le-zero l)
pairs-get_d R (x ∷ s) h zero (suc j) l m = all-mem (R x) s (get_or s j 0) h.0 (mem-get_d s j 0 (le_of_suc-le-suc m))
pairs-get_d R (x ∷ s) h (suc i) (suc j) l m = pairs-get_d R s h.1 i j (le_of_suc-le-suc l) (le_of_suc-le-suc m)

-- ---- three keys in order

module _ {P : Type 0} {C : Coordinates P} (L : OrderLaws C) where
  same-not-ahead : (p q : P) → same C p q ≡ true → ahead C p q ≡ false
  same-not-ahead p q e = go (ahead C p q) refl
    where
      own : ahead C p q ≡ ahead C q q
      own = (ahead-ext L p q q e).1

      go : (b : Bool) → ahead C p q ≡ b → b ≡ false
      go true a = sym (sym own ∙ a) ∙ ahead-asym L q q (sym own ∙ a)
      go false a = refl

  between : (a b c : Key P) → before C a b ≡ true → before C b c ≡ true → same C a.point c.point ≡ true → same C a.point b.point ≡ true
  between a b c p q e = go (same C a.point b.point) refl
    where
      go : (t : Bool) → same C a.point b.point ≡ t → t ≡ true
      go true d = refl
      go false d =
          let far : same C b.point c.point ≡ false = sym (same-ext L a.point c.point b.point e) ∙ apart d in
          let first : ahead C a.point b.point ≡ true = sym (before-ahead L a b d) ∙ p in
          let then : ahead C b.point c.point ≡ true = sym (before-ahead L b c far) ∙ q in
          absurd (true≢false (sym (ahead-trans L a.point b.point c.point first then) ∙ same-not-ahead a.point c.point e))
        where
          apart : same C a.point b.point ≡ false → same C b.point a.point ≡ false
          apart d = flip (same C b.point a.point) refl
            where
              flip : (t : Bool) → same C b.point a.point ≡ t → t ≡ false
              flip true r = sym (same-sym L b.point a.point r) ∙ d
              flip false r = refl

  right-first : (a b : Key P) → before C a b ≡ true → same C a.point b.point ≡ true → a.left ≡ true → b.left ≡ true
  right-first a b p e l = go b.left refl
    where
      go : (t : Bool) → b.left ≡ t → t ≡ true
      go true r = refl
      go false r = absurd (true≢false (sym p ∙ left-before-right C a b l r ∙ same-not-ahead a.point b.point e))

-- ---- the table

module _ {P : Type 0} (C : Coordinates P) (row : ℕ → Event P) (n : ℕ) (void : P) (list : List ℕ) (ok : Accepted C row n list)
    (L : OrderLaws C) where
  abbrev s : List ℕ
  s = ordered row C list

  abbrev count : ℕ
  count = length (table row C list)

  abbrev at : ℕ → Row P
  at i = row_at void (table row C list) i

  abbrev Keyed : ℕ → Type 0
  Keyed r = on_side C (key_of row r) ≡ true

  keyed-result : (r : ℕ) → Memᴰ r (results row list) → Keyed r
  keyed-result r m = key-side C row n void list ok r (in_list C row n void list ok r m).0

  in_order_lem : Pairs (λ a b. earlier row C a b ≡ true) s
  unfolding ordered earlier
  in_order_lem =
      sort-ordered (earlier row C) Keyed (λ a b c. trans L (key_of row a) (key_of row b) (key_of row c))
      (λ a b u v. otherwise L (key_of row a) (key_of row b))
      (results row list)
      (all_of Keyed (results row list) keyed-result)

  -- an earlier position is before a later one
  pub in-turn : (i j : ℕ) → i < j → j < count → before C (key_of row (get_or s i 0)) (key_of row (get_or s j 0)) ≡ true
  unfolding earlier
  in-turn i j l m = pairs-get_d (λ a b. earlier row C a b ≡ true) s in_order_lem i j l (omega (arith, size C row void list))

  -- the ends at one point stand together
  pub together : (i j k : ℕ) → i < j → j < k → k < count → same C (at i).point (at k).point ≡ true → same C (at i).point (at j).point ≡ true
  unfolding key_of key
  together i j k l m o e =
      let pi = point-is C row n void list ok i (omega arith) in
      let pj = point-is C row n void list ok j (omega arith) in
      let pk = point-is C row n void list ok k o in
      ap₂ (same C) pi pj
      ∙ between L (key_of row (get_or s i 0)) (key_of row (get_or s j 0)) (key_of row (get_or s k 0)) (in-turn i j l (omega arith)) (in-turn j k m o)
      (sym (ap₂ (same C) pi pk) ∙ e)

  -- right ends before left ends
  pub rights-first : (i j : ℕ) → i < j → j < count → same C (at i).point (at j).point ≡ true → (at i).left ≡ true → (at j).left ≡ true
  unfolding key_of key
  rights-first i j l m e f =
      let pi = point-is C row n void list ok i (omega arith) in
      let pj = point-is C row n void list ok j m in
      left_is C row n void list ok j m
      ∙ right-first L (key_of row (get_or s i 0)) (key_of row (get_or s j 0)) (in-turn i j l m)
      (sym (ap₂ (same C) pi pj) ∙ e)
      (sym (left_is C row n void list ok i (omega arith)) ∙ f)

  -- a right end stands after its left end
  pub right-later : RightLater count at
  unfolding key_of key
  right-later i l f = go (dec_lt (at i).other i)
    where
      g : Good count at
      g = good C row n void list ok

      r : ℕ
      r = get_or s i 0

      o : ℕ
      o = (at i).other

      ro : get_or s o 0 ≡ (row r).partner
      ro = rec-other C row n void list ok i l

      snd : ahead C (row (get_or s o 0)).point (row r).point ≡ true
      snd = rw ro (right-last C row n r (sound-result C row n void list ok r (rec-in C row n void list ok i l)) (sym (left_is C row n void list ok i l) ∙ f))

      K : Key P
      K = key_of row r

      M : Key P
      M = key_of row (get_or s o 0)

      differ : (b : Bool) → same C K.point M.point ≡ b → b ≡ false
      differ true q = absurd (true≢false (sym snd ∙ same-not-ahead L M.point K.point (same-sym L K.point M.point q)))
      differ false q = refl

      go : Dec (o < i) → o < i
      go (yes h) = h
      go (no h) =
          let apart = g.proper i l in
          let turn = in-turn i o (omega arith) (g.near i l) in
          absurd (true≢false (sym turn ∙ before-ahead L K M (differ _ refl) ∙ ahead-asym L M.point K.point snd))
