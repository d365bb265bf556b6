-- The numbers from 0 on: what stands at a place of them, and that a search over them finds the lowest that a test strikes.
use Rattle.refusals.specs.declared.Reason.{Reason}
use mathlib.Core.Path.{◌≡◌, refl, sym, ◌∙◌}
use mathlib.Core.Bool.{Bool, true, false}
use Prim.Native.Nat.{ℕ, zero, suc, ◌+◌, ◌<◌, ◌≤◌}
use native.Mathlib.Omega.{arith}
use borrow.Author.Tests.{lt-ltb, le-ltb}
use lib.ListN.{length, get_or}
use Rattle.std.specs.Prelude.{Option, Some, None, Err, Ok}
use Rattle.std.specs.Option.{MatchOption, unwrap_or}
use Rattle.std.proofs.lemmas.List.Sums.{position_or_len_is}
use Rattle.checks.specs.Checks.{first, told}
use Rattle.checks.specs.Numbers.{numbers_from}
use Rattle.checks.proofs.First.{first-place}

pub length-numbers : (i k : ℕ) → length (numbers_from i k) ≡ k
unfolding numbers_from
length-numbers i zero = refl
length-numbers i (suc k) = rw (length-numbers (suc i) k)

pub number_at : (i k j : ℕ) → j < k → get_or (numbers_from i k) j 0 ≡ i + j
unfolding numbers_from
number_at i zero j h = absurd (omega arith)
number_at i (suc k) zero h = omega arith
number_at i (suc k) (suc j) h =
    let rest = number_at (suc i) k j (omega arith) in
    rest ∙ omega arith

module _ (test : ℕ → Bool) (n : ℕ) where
  -- ---- the search: none below the place strikes, and the record there does, or it is n

  abbrev pub Found : Option ℕ → Type 0
  Found r = MatchOption r ((k : ℕ) → 0 ≤ k → k < n → test k ≡ false) (λ i. (0 ≤ i) × (i < n) × (test i ≡ true) × ((k : ℕ) → 0 ≤ k → k < i → test k ≡ false))

  found-at : (i : ℕ) → i ≤ n → ((k : ℕ) → k < i → test k ≡ false) → (i < n → test i ≡ true) → i ≡ first test (numbers_from 0 n)
  found-at i h below here =
      let at : (k : ℕ) → k < n → get_or (numbers_from 0 n) k 0 ≡ k = λ k l. number_at 0 n k l ∙ omega arith in
      let len = length-numbers 0 n in
      sym (first-place test (numbers_from 0 n) ∙ position_or_len_is test (numbers_from 0 n) i 0 (omega arith) (λ k l. rw (at k (omega arith)) (below k l)) (λ l. rw (at i (omega arith)) (here (omega arith))))

  pub lowest-is : (r : Option ℕ) → Found r → unwrap_or r n ≡ first test (numbers_from 0 n)
  lowest-is None h = found-at n (omega arith) (λ k l. h k (omega arith) l) (λ l. absurd (omega arith))
  lowest-is (Some i) h = found-at i (omega (arith, h.1)) (λ k l. h.3 k (omega arith) l) (λ l. h.2)

  -- ---- what is told

  module _ (r : ℕ) (reason : Reason) (e : r ≡ first test (numbers_from 0 n)) where
    pub told-lowest : r < n → {m : Reason} {at : ℕ} → m ≡ reason → at ≡ r → Err (record { reason = m; place = at }) ≡ told reason test (numbers_from 0 n)
    unfolding told
    told-lowest h q p =
        let there : get_or (numbers_from 0 n) r 0 ≡ r = number_at 0 n r h ∙ omega arith in
        rw (q, p, ← e, length-numbers, lt-ltb r n h, there)

    pub told_none : n ≤ r → Ok tt ≡ told reason test (numbers_from 0 n)
    unfolding told
    told_none h = rw (← e, length-numbers, le-ltb r n h)
