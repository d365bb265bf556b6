-- What a search through lists one after the other finds: the first that finds anything tells.
use Rattle.std.proofs.Common.{Some}
use mathlib.Core.Path.{◌≡◌, refl, ap}
use mathlib.Core.Bool.{Bool, true, false, cond}
use mathlib.Core.List.{List, [], ◌∷◌, ◌++◌}
use Prim.Native.Nat.{ℕ, ◌≤◌, ◌<◌}
use native.Mathlib.Omega.{arith}
use native.Mathlib.Decide.{dec_lt}
use lib.ListN.{length, get_or, get_or-eq_default}
use Rattle.contours.specs.Round.{is_open, seek}
use Rattle.round.specs.Round.{found}

-- what is open is within the marks
pub open_in : (ms : List ℕ) (i : ℕ) → is_open (get_or ms i 1) ≡ true → i < length ms
unfolding is_open
open_in ms i h = go (dec_lt i (length ms))
  where
    go : Dec (i < length ms) → i < length ms
    go (yes l) = l
    go (no l) =
        let e : get_or ms i 1 ≡ 1 = get_or-eq_default ms 1 (omega arith) in
        let z : ◌≡◌ {A = ℕ} 0 1 = cc (ap is_open e) in
        absurd (omega arith)

module _ (ms : List ℕ) where
  abbrev pub tells : List ℕ → ℕ
  tells l = found (length ms) (seek ms l)

  pub tells_first : (a b : List ℕ) → tells a < length ms → tells (a ++ b) ≡ tells a
  unfolding found seek
  tells_first [] b h = absurd (omega arith)
  tells_first (x ∷ a) b h = go (is_open (get_or ms x 1)) h (tells_first a b)
    where
      go : (o : Bool) → found (length ms) (cond o (Some x) (seek ms a)) < length ms → (tells a < length ms → tells (a ++ b) ≡ tells a)
          → found (length ms) (cond o (Some x) (seek ms (a ++ b))) ≡ found (length ms) (cond o (Some x) (seek ms a))
      go true l r = refl
      go false l r = r l

  pub tells_next : (a b : List ℕ) → length ms ≤ tells a → tells (a ++ b) ≡ tells b
  unfolding found seek
  tells_next [] b h = refl
  tells_next (x ∷ a) b h = go (is_open (get_or ms x 1)) refl h (tells_next a b)
    where
      go : (o : Bool) → is_open (get_or ms x 1) ≡ o → length ms ≤ found (length ms) (cond o (Some x) (seek ms a)) → (length ms ≤ tells a → tells (a ++ b) ≡ tells b)
          → found (length ms) (cond o (Some x) (seek ms (a ++ b))) ≡ tells b
      go true e l r = absurd (omega (arith, open_in ms x e))
      go false e l r = r l

-- what is found is open
pub seek-in : (ms l : List ℕ) (j : ℕ) → seek ms l ≡ Some j → j < length ms
unfolding seek
seek-in ms [] j e = let z : ◌≡◌ {A = ℕ} 0 1 = cc in absurd (omega arith)
seek-in ms (x ∷ l) j e = go (is_open (get_or ms x 1)) refl e (seek-in ms l j)
  where
    go : (o : Bool) → is_open (get_or ms x 1) ≡ o → cond o (Some x) (seek ms l) ≡ Some j → (seek ms l ≡ Some j → j < length ms) → j < length ms
    go true q e h = let z : x ≡ j = cc in omega (arith, open_in ms x q)
    go false q e h = h e
