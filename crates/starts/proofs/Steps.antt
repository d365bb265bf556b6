-- Each function against its part of the definition, and how far a turn can have come.
use mathlib.Core.Path.{◌≡◌, refl, ap}
use mathlib.Core.Bool.{Bool, true, false, cond}
use mathlib.Core.List.{List, [], ◌∷◌}
use Prim.Native.Nat.{ℕ, suc, ◌+◌, ◌-◌, ◌≤◌, ◌<◌}
use native.Mathlib.Decide.{ℕ_discrete, dec_lt}
use native.Mathlib.Omega.{arith}
use borrow.Author.Tests.{le-ltb, lt-ltb}
use lib.ListN.{length, get_or, set, get_or-eq_default}
use lib.Seq.{get_or-set_same, get_or-set_other, set_out}
use lib.Dec.{eqb, ltb}
use Rattle.rows.specs.Rows.{Rows, size}
use Rattle.walks.specs.declared.Walk.{Walk}
use Rattle.walks.specs.Walks.{Toured, toured, walked_along, walked_from}
use Rattle.walks.proofs.Walks.{corners-few}
use Rattle.starts.specs.declared.Turn.{Turn}
use Rattle.starts.specs.declared.context.Place.{Place}
use Rattle.starts.specs.Starts.{Sheet, sheet, turn_of}
use Rattle.starts.specs.Steps.{place, mark_below, blank, nest_at, above, above_mark, context_of, ended, made_at, start_at, after, starts, Shallow, Within}

-- ---- depth

-- a new depth is at most one more than those that were there
above-deep : (b : Bool) (m : ℕ) (q : List ℕ) (d : ℕ) → get_or q 3 0 ≤ d → (above b m q).depth ≤ d + 1
unfolding above
above-deep true m q d h = go (eqb (get_or q 2 0) 0)
  where
    go : (x : Bool) → (cond x (place false m (get_or q 3 0 + 1)) (place false (get_or q 2 0) (get_or q 3 0))).depth ≤ d + 1
    go true = omega arith
    go false = omega arith
above-deep false m q d h = omega arith

context-deep : (ms : List ℕ) (ns : List (List ℕ)) (c w : ℕ) (b : Bool) (d : ℕ) → Shallow ns c d → (context_of ms ns c w b).depth ≤ d + 1
unfolding context_of above_mark
context-deep ms ns c w b d h = go (eqb w 0) (eqb m 0)
  where
    m : ℕ
    m = mark_below ms (w - 1)

    go : (x y : Bool) → (cond x (place false 0 0) (cond y (place b 0 0) (above b m (nest_at ns c (m - 1))))).depth ≤ d + 1
    go true y = omega arith
    go false true = omega arith
    go false false = above-deep b m (nest_at ns c (m - 1)) d (h (m - 1))

pub deep_of : (ms : List ℕ) (ns : List (List ℕ)) (c w : ℕ) (b : Bool) (d : ℕ) (p : Place) → p ≡ context_of ms ns c w b → Shallow ns c d → p.depth ≤ d + 1
deep_of ms ns c w b d p q h = rw q (context-deep ms ns c w b d h)

-- ---- one contour

pub walk_end : (t : Rows) (near : Bool) (c i first : ℕ) (ms ms' : List ℕ) (out out' : List (List ℕ)) (w : Walk) → toured ms' out' w ≡ walked_from t near c i first ms out → w.end ≤ first + size t + 1
unfolding walked_from walked_along
walk_end t near c i first ms ms' out out' w e = omega (arith, ap (λ (x : Toured). x.told.end) e, corners-few t near c i ms)

one_at_most : (b : Bool) → cond b 1 0 ≤ 1
one_at_most true = omega arith
one_at_most false = omega arith

deep-set : (ns : List (List ℕ)) (c b : ℕ) (x : List ℕ) → get_or x 3 0 ≤ b + 1 → Shallow ns c b → Shallow (set ns c x) (c + 1) (b + 1)
unfolding nest_at
deep-set ns c b x h s j = go (dec_lt j (c + 1)) (ℕ_discrete j c) (dec_lt c (length ns))
  where
    go : Dec (j < c + 1) → Dec (j ≡ c) → Dec (c < length ns) → get_or (cond (ltb j (c + 1)) (get_or (set ns c x) j blank) blank) 3 0 ≤ b + 1
    go (no l) e m = rw (le-ltb j (c + 1) (omega arith)) (omega arith)
    go (yes l) (yes e) (yes m) = rw (lt-ltb j (c + 1) l, e, get_or-set_same ns c x blank m) h
    go (yes l) (yes e) (no m) = rw (lt-ltb j (c + 1) l, e, set_out ns c x (omega arith), get_or-eq_default ns blank {n = c} (omega arith)) (omega arith)
    go (yes l) (no e) m =
        let u : get_or (cond (ltb j c) (get_or ns j blank) blank) 3 0 ≤ b = s j in
        let v : get_or (get_or ns j blank) 3 0 ≤ b = rw (lt-ltb j c (omega arith)) at u in
        rw (lt-ltb j (c + 1) l, get_or-set_other ns c j x blank e) (omega (arith, v))

pub made-within : (t : Rows) (near : Bool) (ms ms' : List ℕ) (out out' : List (List ℕ)) (ns ns' : List (List ℕ)) (s r : Turn) (i p d : ℕ)
    → sheet ms' out' ns' r ≡ made_at t near (sheet ms out ns s) i p d → d ≤ i + 1 → Within s ns i → size t ≤ 4096 → Within r ns' (i + 1)
unfolding made_at ended
made-within t near ms ms' out out' ns ns' s r i p d m h w n =
    let W : Toured = walked_from t near s.count i s.end ms out in
    let k : ns' ≡ set ns s.count (s.end ∷ W.told.end ∷ p ∷ d ∷ []) = ap (λ (x : Sheet). x.nests) m in
    let c : r.count ≡ s.count + 1 = ap (λ (x : Sheet). x.turn.count) m in
    let e : r.end ≡ W.told.end = ap (λ (x : Sheet). x.turn.end) m in
    let u : r.unclosed ≡ s.unclosed + cond W.told.unclosed 1 0 = ap (λ (x : Sheet). x.turn.unclosed) m in
    record {
      count = omega (arith, w.count, c);
      unclosed = omega (arith, w.unclosed, u, one_at_most W.told.unclosed);
      end = omega (arith, w.end, e, n, walk_end t near s.count i s.end ms W.walked out W.corners W.told refl);
      deep = rw (k, c) (deep-set ns s.count i _ h w.deep);
    }

-- ---- all positions

module _ (t : Rows) (near : Bool) (n : ℕ) where
  pub starts_more : (i : ℕ) (s : Sheet) → i < n → starts t near (n - i) i s ≡ cond (eqb (start_at t near s i).turn.stop 0) (starts t near (n - (i + 1)) (i + 1) (start_at t near s i)) (start_at t near s i)
  unfolding starts after
  starts_more i s h = let q : n - i ≡ suc (n - (i + 1)) = omega arith in rw q

  pub starts_none : (i : ℕ) (s : Sheet) → n ≤ i → starts t near (n - i) i s ≡ s
  unfolding starts
  starts_none i s h = let q : n - i ≡ 0 = omega arith in rw q

pub within_none : (ns : List (List ℕ)) (s : Turn) → s ≡ turn_of 0 0 0 0 0 → Within s ns 0
unfolding nest_at
within_none ns s e = rw e (record { count = omega arith; unclosed = omega arith; end = omega arith; deep = λ j. rw (le-ltb j 0 (omega arith)) (omega arith) })
