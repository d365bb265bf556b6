-- The flags of those that wait: the first of them is one, and taking it leaves one flag less.
use Rattle.std.proofs.Common.{Some}
use mathlib.Core.Path.{◌≡◌, refl, sym, ap, ◌∙◌}
use mathlib.Core.Bool.{Bool, true, false, cond, false≢true}
use mathlib.Core.List.{List, [], ◌∷◌}
use Prim.Native.Nat.{ℕ, zero, suc, ◌<◌}
use native.Mathlib.Omega.{arith}
use lib.ListN.{length, get_or, set, replicate, get_or-eq_default}
use lib.Seq.{get_or-set_same, get_or-set_other, set_out}
use lib.Dec.{eqb, ltb, leb-suc-suc}
use borrow.Author.Tests.{lt-ltb, le-ltb, ltb-true, ltb-false, eqb-true, eqb-false}
use Rattle.waiting.specs.Waiting.{first, flagged}
use Rattle.waiting.proofs.First.{found}
use Rattle.sweep.specs.Turn.{trues}

-- the event to be taken waits
pub first-waits : (waits : ℕ → Bool) (before : ℕ → ℕ → Bool) (n e : ℕ) → first waits before n ≡ Some e → waits e ≡ true
first-waits waits before n e h = (found waits before n e h).waiting

-- ---- the flags as a list

pub flag-within : (w : List Bool) (e : ℕ) → flagged w e ≡ true → e < length w
unfolding flagged
flag-within [] e h = absurd (false≢true h)
flag-within (b ∷ w) zero h = omega arith
flag-within (b ∷ w) (suc e) h = let i = flag-within w e h in omega arith

pub one_less : (w : List Bool) (e : ℕ) → flagged w e ≡ true → suc (trues (set w e false)) ≡ trues w
unfolding flagged trues
one_less [] e h = absurd (false≢true h)
one_less (b ∷ w) zero h = rw h
one_less (true ∷ w) (suc e) h = ap suc (one_less w e h)
one_less (false ∷ w) (suc e) h = one_less w e h

pub trues-all : (n : ℕ) → trues (replicate n true) ≡ n
unfolding trues
trues-all zero = refl
trues-all (suc n) = ap suc (trues-all n)

-- all wait
pub all-flagged : (k r : ℕ) → flagged (replicate k true) r ≡ ltb r k
unfolding flagged
all-flagged zero r = sym (le-ltb r 0 (omega arith))
all-flagged (suc k) zero = sym (lt-ltb 0 (suc k) (omega arith))
all-flagged (suc k) (suc r) = all-flagged k r ∙ sym (leb-suc-suc (suc r) k)

-- a flag put down is down, wherever it stands
pub down : (w : List Bool) (e r : ℕ) → flagged (set w e false) r ≡ cond (eqb r e) false (flagged w r)
unfolding flagged
down w e r = go (eqb r e) refl
  where
    inside : r ≡ e → (x : Bool) → ltb e (length w) ≡ x → get_or (set w e false) r false ≡ false
    inside p true q = rw p (get_or-set_same w e false false (ltb-true e (length w) q))
    inside p false q =
        let beyond = ltb-false e (length w) q in
        rw (set_out w e false beyond, p) (get_or-eq_default w false beyond)

    go : (x : Bool) → eqb r e ≡ x → get_or (set w e false) r false ≡ cond x false (get_or w r false)
    go true p = inside (eqb-true r e p) (ltb e (length w)) refl
    go false p = get_or-set_other w e r false false (eqb-false r e p)
