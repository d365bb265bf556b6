-- Each function of the search against its part of the definition.
use mathlib.Core.Path.{◌≡◌, refl, ◌∙◌}
use mathlib.Core.Bool.{Bool, true, false, not, ◌&&◌, cond, beq}
use mathlib.Core.List.{List, ◌∷◌}
use Prim.Native.Nat.{ℕ, zero, suc, ◌+◌, ◌-◌, ◌≤◌, ◌<◌}
use native.Mathlib.Numerals.{add-one}
use native.Mathlib.Nat.{sub-zero}
use native.Mathlib.Omega.{arith}
use lib.ListN.{length, get_or}
use Rattle.numbers.specs.declared.Point.{Point}
use Rattle.events.specs.Coordinates.{same}
use Rattle.events.specs.Binary64.{at_binary64}
use Rattle.checks.specs.Numbers.{numbers_from}
use Rattle.contours.specs.Result.{keep}
use Rattle.contours.specs.Round.{down, is_open, seek, rights, lefts, tries}
use Rattle.rows.specs.Rows.{Rows, size, point_at, end_at, table_row, row_of}
use Rattle.round.specs.Round.{found, mark_in, tries_in, fitting, rights_from, lefts_from}

-- ---- a mark

pub open_no : (m : ℕ) → (m ≡ 0 → ⊥) → is_open m ≡ false
unfolding is_open
open_no zero h = absurd (h refl)
open_no (suc m) h = refl

pub open_yes : (m : ℕ) → m ≡ 0 → is_open m ≡ true
unfolding is_open
open_yes m h = rw h

-- ---- runs of positions

module _ (t : Rows) (ms : List ℕ) (p : Point) where
  right-step : (i k : ℕ) → rights_from t ms p i (suc k) ≡ cond (fitting t ms p false i) i (rights_from t ms p (suc i) k)
  unfolding rights_from rights keep numbers_from seek found fitting mark_in table_row row_of
  right-step i k = go (is_open (get_or ms i 1)) (end_at t i).left (same at_binary64 p (point_at t i)) refl
    where
      rest : List ℕ
      rest = keep (λ j. same at_binary64 p (point_at t j) && not (end_at t j).left) (numbers_from (suc i) k)

      go : (o l s : Bool) → is_open (get_or ms i 1) ≡ o
          → found (length ms) (seek ms (cond (s && not l) (i ∷ rest) rest)) ≡ cond (cond o (cond (beq l false) s false) false) i (found (length ms) (seek ms rest))
      go true true true e = refl
      go true true false e = refl
      go true false true e = rw e
      go true false false e = refl
      go false true true e = refl
      go false true false e = refl
      go false false true e = rw e
      go false false false e = refl

  left_step : (i k : ℕ) → lefts_from t ms p i (suc k) ≡ cond (fitting t ms p true (i + k)) (i + k) (lefts_from t ms p i k)
  unfolding lefts_from lefts keep down seek found fitting mark_in table_row row_of
  left_step i k = go (is_open (get_or ms (i + k) 1)) (end_at t (i + k)).left (same at_binary64 p (point_at t (i + k))) refl
    where
      rest : List ℕ
      rest = keep (λ j. same at_binary64 p (point_at t j) && (end_at t j).left) (down i k)

      go : (o l s : Bool) → is_open (get_or ms (i + k) 1) ≡ o
          → found (length ms) (seek ms (cond (s && l) ((i + k) ∷ rest) rest)) ≡ cond (cond o (cond (beq l true) s false) false) (i + k) (found (length ms) (seek ms rest))
      go true true true e = rw e
      go true true false e = refl
      go true false true e = refl
      go true false false e = refl
      go false true true e = rw e
      go false true false e = refl
      go false false true e = refl
      go false false false e = refl

  pub up_more : (j e : ℕ) → j < e → rights_from t ms p j (e - j) ≡ cond (fitting t ms p false j) j (rights_from t ms p (j + 1) (e - (j + 1)))
  up_more j e h = let q : e - j ≡ suc (e - (j + 1)) = omega arith in rw q (right-step j (e - (j + 1)) ∙ rw add-one)

  pub up_none : (j e : ℕ) → e ≤ j → rights_from t ms p j (e - j) ≡ length ms
  unfolding rights_from rights keep numbers_from seek found
  up_none j e h = let q : e - j ≡ 0 = omega arith in rw q

  pub down_more : (i j : ℕ) → i < j → lefts_from t ms p i (j - i) ≡ cond (fitting t ms p true (j - 1)) (j - 1) (lefts_from t ms p i (j - 1 - i))
  down_more i j h =
      let q : j - i ≡ suc (j - 1 - i) = omega arith in
      let r : i + (j - 1 - i) ≡ j - 1 = omega arith in
      rw q (left_step i (j - 1 - i) ∙ rw r)

  pub down_none : (i j : ℕ) → j ≤ i → lefts_from t ms p i (j - i) ≡ length ms
  unfolding lefts_from lefts keep down seek found
  down_none i j h = let q : j - i ≡ 0 = omega arith in rw q

-- ---- the next position

-- the whole table as a run of rows
pub all_tried : (t : Rows) (p : Point) (n q : ℕ) → p ≡ point_at t q → n ≡ size t → tries_in t p 0 n q ≡ tries (same at_binary64) (size t) (table_row t) q
unfolding tries_in tries table_row row_of
all_tried t p n q e f = rw (e, f, sub-zero q, sub-zero (size t))
