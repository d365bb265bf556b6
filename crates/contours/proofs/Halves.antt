-- Half of the ends of edges are left ends: each edge that is walked takes one left end and two ends, until nothing is left.
use mathlib.Core.Path.{◌≡◌, refl, sym, ◌∙◌}
use mathlib.Core.Logic.{◌≢◌, ◌⊎◌, inl, inr}
use mathlib.Core.Bool.{Bool, true, not}
use mathlib.Core.List.{List, [], ◌∷◌}
use Prim.Native.Nat.{ℕ, zero, suc, ◌+◌, ◌≤◌, ◌<◌}
use native.Mathlib.Decide.{dec_lt}
use native.Mathlib.Nat.{suc-ne-zero}
use native.Mathlib.Omega.{arith}
use lib.ListN.{length, get_or, replicate, get_or-eq_default}
use Rattle.contours.specs.Table.{Row}
use Rattle.contours.specs.Walk.{mark}
use Rattle.contours.proofs.Marks.{open_none}
use Rattle.contours.proofs.Walked.{Good, ByValue, Fine, fine-mark, fresh}
use Rattle.contours.proofs.Amount.{lefts, ends, one_left, two_ends}

-- a position that is not yet walked, or none
abbrev Open : List ℕ → Type 0
Open ms = ((i : ℕ) × (get_or ms i 1 ≡ 0)) ⊎ ((j : ℕ) → get_or ms j 1 ≢ 0)

some-open : (ms : List ℕ) → Open ms
some-open [] = inr (λ j e. suc-ne-zero 0 e)
some-open (zero ∷ ms) = inl (0, refl)
some-open (suc m ∷ ms) = go (some-open ms)
  where
    later : ((j : ℕ) → get_or ms j 1 ≢ 0) → (j : ℕ) → get_or (suc m ∷ ms) j 1 ≢ 0
    later f zero e = suc-ne-zero m e
    later f (suc j) e = f j e

    go : Open ms → Open (suc m ∷ ms)
    go (inl o) = inl (suc o.0, o.1)
    go (inr f) = inr (later f)

within : (ms : List ℕ) (i : ℕ) → get_or ms i 1 ≡ 0 → i < length ms
within ms i e = go (dec_lt i (length ms))
  where
    go : Dec (i < length ms) → i < length ms
    go (yes l) = l
    go (no l) = absurd (suc-ne-zero 0 (sym (get_or-eq_default ms 1 {n = i} (omega arith)) ∙ e))

module _ {P : Type 0} (same : P → P → Bool) (n : ℕ) (row : ℕ → Row P) (good : Good n row) (value : ByValue n row same)
    (sides : (i : ℕ) → i < n → (row (row i).other).left ≡ not (row i).left) where
  abbrev left-ends : List ℕ → ℕ
  left-ends ms = lefts same n row good value sides ms

  abbrev all-ends : List ℕ → ℕ
  all-ends ms = ends same n row good value sides ms

  abbrev Half : List ℕ → Type 0
  Half ms = all-ends ms ≡ left-ends ms + left-ends ms

  none_left : (ms : List ℕ) → ((j : ℕ) → get_or ms j 1 ≢ 0) → Half ms
  none_left ms o = omega (arith, open_none (λ j. true) ms (λ j l q. o j), open_none (λ j. (row j).left) ms (λ j l q. o j))

  -- where at most k ends are left
  half : (k : ℕ) (ms : List ℕ) → Fine same n row good value ms → all-ends ms ≤ k → Half ms
  half zero ms f h = go (some-open ms)
    where
      go : Open ms → Half ms
      go (inl o) = absurd (omega (arith, h, two_ends same n row good value sides 0 ms f o.0 (omega (arith, within ms o.0 o.1, f.size)) o.1))
      go (inr o) = none_left ms o
  half (suc k) ms f h = go (some-open ms) (half k)
    where
      go : Open ms → ((ms : List ℕ) → Fine same n row good value ms → all-ends ms ≤ k → Half ms) → Half ms
      go (inl o) r =
          let l : o.0 < n = omega (arith, within ms o.0 o.1, f.size) in
          let two = two_ends same n row good value sides 0 ms f o.0 l o.1 in
          let one = one_left same n row good value sides 0 ms f o.0 l o.1 in
          omega (arith, two, one, r (mark same n row 0 ms o.0) (fine-mark same n row good value 0 ms f o.0 l o.1) (omega (arith, h, two)))
      go (inr o) r = none_left ms o

  -- before anything is walked
  pub halves : all-ends (replicate n 0) ≡ left-ends (replicate n 0) + left-ends (replicate n 0)
  halves = half (all-ends (replicate n 0)) (replicate n 0) (fresh same n row good value) (omega arith)
