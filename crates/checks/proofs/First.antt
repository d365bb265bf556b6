-- The first record that a test strikes: it is what a search finds, and what it tells of the list.
use mathlib.Core.Path.{◌≡◌, refl, sym, ap}
use mathlib.Core.Logic.{◌⊎◌, inl, inr}
use mathlib.Core.Bool.{Bool, true, false, cond}
use mathlib.Core.List.{List, [], ◌∷◌}
use Prim.Native.Nat.{ℕ, zero, suc, ◌+◌, ◌<◌}
use native.Mathlib.Numerals.{add-one}
use native.Mathlib.Omega.{arith}
use lib.ListN.{length, get_or}
use Rattle.std.specs.Prelude.{Option}
use Rattle.std.specs.Option.{MatchOption, unwrap_or}
use Rattle.std.specs.List.{position_or_len, AllWithin, HoldsAt}
use Rattle.std.proofs.lemmas.Iterator.{index_from_first}
use Rattle.std.proofs.lemmas.List.Recursion.{is_position_or_len}
use Rattle.checks.specs.Checks.{first}

-- ---- the search

-- in the words of std
pub first-place : (test : ℕ → Bool) (rs : List ℕ) → first test rs ≡ position_or_len test rs
unfolding first
first-place test = is_position_or_len (first test) test refl (λ r rs. let e : suc (first test rs) ≡ 1 + first test rs = omega arith in ap (cond (test r) 0) e)

-- what a search finds, or the length
pub first-is : (test : ℕ → Bool) (rs : List ℕ) (found : Option ℕ)
    → MatchOption found (AllWithin (λ r. test r ≡ false) rs 0 (length rs)) (λ i. (i < length rs) × HoldsAt (λ r. test r ≡ true) rs i × AllWithin (λ r. test r ≡ false) rs 0 i)
    → unwrap_or found (length rs) ≡ first test rs
unfolding first
first-is test rs found h = sym (index_from_first (first test) (λ r. test r ≡ true) (λ r. test r ≡ false) refl (λ r rs e. rw e) (λ r rs e. rw (e, add-one)) rs found h)

-- ---- what the first tells

-- the test strikes none of the records
abbrev pub None : (ℕ → Bool) → List ℕ → Type 0
None test rs = (k : ℕ) → k < length rs → test (get_or rs k 0) ≡ false

-- the test strikes the record at this place, and none before it
pub record FirstAt (test : ℕ → Bool) (rs : List ℕ) (i : ℕ) : Type 0 where
  pub within : i < length rs
  pub struck : test (get_or rs i 0) ≡ true
  pub earlier : (k : ℕ) → k < i → test (get_or rs k 0) ≡ false

-- a search that ends at i found nothing, or its first there
abbrev pub Ended : (ℕ → Bool) → List ℕ → ℕ → Type 0
Ended test rs i = ((i ≡ length rs) × None test rs) ⊎ FirstAt test rs i

module _ (test : ℕ → Bool) where
  none_more : (r : ℕ) (rs : List ℕ) → test r ≡ false → None test rs → None test (r ∷ rs)
  none_more r rs e h zero l = e
  none_more r rs e h (suc k) l = h k (omega arith)

  later : (r : ℕ) (rs : List ℕ) (i : ℕ) → test r ≡ false → FirstAt test rs i → FirstAt test (r ∷ rs) (suc i)
  later r rs i e f = record { within = omega (arith, f.within); struck = f.struck; earlier = before }
    where
      before : (k : ℕ) → k < suc i → test (get_or (r ∷ rs) k 0) ≡ false
      before zero l = e
      before (suc k) l = f.earlier k (omega arith)

  pub searched : (rs : List ℕ) → Ended test rs (first test rs)
  unfolding first
  searched [] = inl (refl, λ k l. absurd (omega arith))
  searched (r ∷ rs) = by (test r) refl (searched rs)
    where
      by : (t : Bool) → test r ≡ t → Ended test rs (first test rs) → Ended test (r ∷ rs) (cond t 0 (suc (first test rs)))
      by true e rest = inr (record { within = omega arith; struck = e; earlier = λ k l. absurd (omega arith) })
      by false e (inl (q, h)) = inl (omega (arith, q), none_more r rs e h)
      by false e (inr f) = inr (later r rs (first test rs) e f)
