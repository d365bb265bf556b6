-- Counts of the positions that are not yet walked, how a mark changes them, and what a search among them finds.
use Rattle.std.proofs.Common.{None, Some}
use mathlib.Core.Path.{◌≡◌, refl, sym, ap, ◌∙◌}
use mathlib.Core.Logic.{◌≢◌, ◌⊎◌, inl, inr}
use mathlib.Core.Bool.{Bool, true, false, cond, true≢false, false≢true}
use mathlib.Core.List.Memᴰ
use mathlib.Core.List.{List, [], ◌∷◌, Memᴰ}
use Prim.Native.Nat.{ℕ, zero, suc, ◌+◌, ◌≤◌, ◌<◌}
use native.Mathlib.Nat.{suc_inj, suc-ne-zero, zero-add}
use native.Mathlib.Omega.{arith}
use native.Mathlib.Decide.{ℕ_discrete}
use lib.ListN.{length, get_or, set, replicate}
use lib.Dec.{eqb, eqb-suc-suc, eqb-zero-suc, eqb-suc-zero}
use Rattle.checks.specs.Numbers.{numbers_from}
use Rattle.contours.specs.Result.{keep}
use Rattle.contours.specs.Round.{down, is_open, seek}

unfoldable pub bit : Bool → ℕ
bit true = 1
bit false = 0

unfoldable pub weight : ℕ → Bool → ℕ
unfolding bit
weight zero b = bit b
weight (suc m) b = 0

not-0 : {A : Type 0} → ◌≡◌ {A = ℕ} 1 0 → A
not-0 e = absurd (suc-ne-zero 0 e)

-- ---- the open positions that a test holds of, the first being b

unfoldable pub open_from : (ℕ → Bool) → ℕ → List ℕ → ℕ
open_from f b [] = 0
open_from f b (m ∷ ms) = weight m (f b) + open_from f (suc b) ms

module _ (f : ℕ → Bool) where
  set-from : (b : ℕ) (ms : List ℕ) (i c : ℕ) → get_or ms i 1 ≡ 0 → open_from f b ms ≡ bit (f (b + i)) + open_from f b (set ms i (suc c))
  unfolding open_from weight
  set-from b [] i c e = not-0 e
  set-from b (m ∷ ms) zero c e = let q : b + 0 ≡ b = omega arith in rw (e, q) (omega arith)
  set-from b (m ∷ ms) (suc i) c e = let q : b + suc i ≡ suc b + i = omega arith in rw q (omega (arith, set-from (suc b) ms i c e))

  none_from : (b : ℕ) (ms : List ℕ) → ((j : ℕ) → j < length ms → f (b + j) ≡ true → get_or ms j 1 ≢ 0) → open_from f b ms ≡ 0
  unfolding open_from weight bit
  none_from b [] h = refl
  none_from b (m ∷ ms) h = go m (f b) refl (λ q. h 0 (omega arith) (ap f (omega arith) ∙ q)) (none_from (suc b) ms (λ j l q. h (suc j) (omega arith) (ap f (omega arith) ∙ q)))
    where
      go : (m : ℕ) (t : Bool) → f b ≡ t → (f b ≡ true → m ≢ 0) → open_from f (suc b) ms ≡ 0 → weight m (f b) + open_from f (suc b) ms ≡ 0
      go zero true q n i = absurd (n q refl)
      go zero false q n i = rw q (omega arith)
      go (suc m) t q n i = omega arith

  pub open-count : (ms : List ℕ) (i c : ℕ) → get_or ms i 1 ≡ 0 → open_from f 0 ms ≡ bit (f i) + open_from f 0 (set ms i (suc c))
  open-count ms i c e = rw zero-add at (set-from 0 ms i c e)

  pub open_none : (ms : List ℕ) → ((j : ℕ) → j < length ms → f j ≡ true → get_or ms j 1 ≢ 0) → open_from f 0 ms ≡ 0
  open_none ms h = none_from 0 ms (λ j l q. h j l (ap f (omega arith) ∙ q))

  pub open-le : (b : ℕ) (ms : List ℕ) → open_from f b ms ≤ length ms
  unfolding open_from weight bit
  open-le b [] = omega arith
  open-le b (m ∷ ms) = go m (f b) (open-le (suc b) ms)
    where
      go : (m : ℕ) (t : Bool) → open_from f (suc b) ms ≤ length ms → weight m t + open_from f (suc b) ms ≤ suc (length ms)
      go zero true i = omega arith
      go zero false i = omega arith
      go (suc m) t i = omega arith

  -- where nothing is walked
  pub open-all : (b k : ℕ) → open_from f b (replicate k 0) ≡ length (keep f (numbers_from b k))
  unfolding open_from weight bit keep numbers_from
  open-all b zero = refl
  open-all b (suc k) = go (f b) (open-all (suc b) k)
    where
      go : (t : Bool) → open_from f (suc b) (replicate k 0) ≡ length (keep f (numbers_from (suc b) k)) → bit t + open_from f (suc b) (replicate k 0) ≡ length (cond t (b ∷ keep f (numbers_from (suc b) k)) (keep f (numbers_from (suc b) k)))
      go true i = omega arith
      go false i = omega arith

-- ---- one mark

pub open-set : (ms : List ℕ) (i j c : ℕ) → get_or (set ms i (suc c)) j 1 ≡ 0 → (j ≢ i) × (get_or ms j 1 ≡ 0)
open-set [] i j c e = not-0 e
open-set (m ∷ ms) zero zero c e = absurd (suc-ne-zero c e)
open-set (m ∷ ms) zero (suc j) c e = (suc-ne-zero j, e)
open-set (m ∷ ms) (suc i) zero c e = (λ q. suc-ne-zero i (sym q), e)
open-set (m ∷ ms) (suc i) (suc j) c e = let h : (j ≢ i) × (get_or ms j 1 ≡ 0) = open-set ms i j c e in (λ q. h.0 (suc_inj q), h.1)

unfoldable pub flag : List ℕ → ℕ → ℕ
flag ms j = bit (is_open (get_or ms j 1))

pub flag-set : (ms : List ℕ) (i j c : ℕ) → get_or ms i 1 ≡ 0 → flag ms j ≡ bit (eqb i j) + flag (set ms i (suc c)) j
unfolding flag bit is_open
flag-set [] i j c e = not-0 e
flag-set (m ∷ ms) zero zero c e = rw e
flag-set (m ∷ ms) zero (suc j) c e = rw eqb-zero-suc (omega arith)
flag-set (m ∷ ms) (suc i) zero c e = rw eqb-suc-zero (omega arith)
flag-set (m ∷ ms) (suc i) (suc j) c e = rw eqb-suc-suc (flag-set ms i j c e)

pub flag-open : (ms : List ℕ) (j : ℕ) → get_or ms j 1 ≡ 0 → flag ms j ≡ 1
unfolding flag bit is_open
flag-open ms j e = rw e

pub flag-shut : (ms : List ℕ) (j : ℕ) → is_open (get_or ms j 1) ≡ false → flag ms j ≡ 0
unfolding flag bit
flag-shut ms j e = rw e

pub open-true : (m : ℕ) → is_open m ≡ true → m ≡ 0
unfolding is_open
open-true zero e = refl
open-true (suc m) e = absurd (false≢true e)

pub open-false : (m : ℕ) → is_open m ≡ false → m ≢ 0
unfolding is_open
open-false zero e q = true≢false e
open-false (suc m) e q = suc-ne-zero m q

-- ---- what a search finds

pub seek-some : (ms l : List ℕ) (j : ℕ) → seek ms l ≡ Some j → (get_or ms j 1 ≡ 0) × Memᴰ j l
unfolding seek
seek-some ms [] j e = let z : ◌≡◌ {A = ℕ} 1 0 = cc in not-0 z
seek-some ms (i ∷ l) j e = go (is_open (get_or ms i 1)) refl e (seek-some ms l j)
  where
    go : (b : Bool) → is_open (get_or ms i 1) ≡ b → cond b (Some i) (seek ms l) ≡ Some j → (seek ms l ≡ Some j → (get_or ms j 1 ≡ 0) × Memᴰ j l)
        → (get_or ms j 1 ≡ 0) × Memᴰ j (i ∷ l)
    go true q e r = let s : i ≡ j = cc in (rw s at (open-true (get_or ms i 1) q), Memᴰ.head (sym s))
    go false q e r = ((r e).0, Memᴰ.tail (r e).1)

pub seek-none : (ms l : List ℕ) → seek ms l ≡ None → (j : ℕ) → Memᴰ j l → get_or ms j 1 ≢ 0
unfolding seek
seek-none ms [] e j m = absurd (Memᴰ.not-nil m)
seek-none ms (i ∷ l) e j m = go (is_open (get_or ms i 1)) refl e (Memᴰ.cases_cons m) (λ q. seek-none ms l q j)
  where
    go : (b : Bool) → is_open (get_or ms i 1) ≡ b → cond b (Some i) (seek ms l) ≡ None → (j ≡ i) ⊎ Memᴰ j l → (seek ms l ≡ None → Memᴰ j l → get_or ms j 1 ≢ 0) → get_or ms j 1 ≢ 0
    go true q e d r = let z : ◌≡◌ {A = ℕ} 1 0 = cc in not-0 z
    go false q e (inl s) r = rw s (open-false (get_or ms i 1) q)
    go false q e (inr k) r = r e k

-- ---- runs of positions

pub numbers-in : (i k j : ℕ) → i ≤ j → j < i + k → Memᴰ j (numbers_from i k)
unfolding numbers_from
numbers-in i zero j h l = absurd (omega arith)
numbers-in i (suc k) j h l = go (ℕ_discrete j i) (numbers-in (suc i) k j)
  where
    go : Dec (j ≡ i) → (suc i ≤ j → j < suc i + k → Memᴰ j (numbers_from (suc i) k)) → Memᴰ j (i ∷ numbers_from (suc i) k)
    go (yes s) r = Memᴰ.head s
    go (no s) r = Memᴰ.tail (r (omega arith) (omega arith))

pub numbers-out : (i k j : ℕ) → Memᴰ j (numbers_from i k) → j < i + k
unfolding numbers_from
numbers-out i zero j m = absurd (Memᴰ.not-nil m)
numbers-out i (suc k) j m = go (Memᴰ.cases_cons m) (numbers-out (suc i) k j)
  where
    go : (j ≡ i) ⊎ Memᴰ j (numbers_from (suc i) k) → (Memᴰ j (numbers_from (suc i) k) → j < suc i + k) → j < i + suc k
    go (inl s) r = omega arith
    go (inr m) r = omega (arith, r m)

pub down-in : (i k j : ℕ) → i ≤ j → j < i + k → Memᴰ j (down i k)
unfolding down
down-in i zero j h l = absurd (omega arith)
down-in i (suc k) j h l = go (ℕ_discrete j (i + k)) (down-in i k j h)
  where
    go : Dec (j ≡ i + k) → (j < i + k → Memᴰ j (down i k)) → Memᴰ j ((i + k) ∷ down i k)
    go (yes s) r = Memᴰ.head s
    go (no s) r = Memᴰ.tail (r (omega arith))

pub down_out : (i k j : ℕ) → Memᴰ j (down i k) → j < i + k
unfolding down
down_out i zero j m = absurd (Memᴰ.not-nil m)
down_out i (suc k) j m = go (Memᴰ.cases_cons m) (down_out i k j)
  where
    go : (j ≡ i + k) ⊎ Memᴰ j (down i k) → (Memᴰ j (down i k) → j < i + k) → j < i + suc k
    go (inl s) r = omega arith
    go (inr m) r = omega (arith, r m)
