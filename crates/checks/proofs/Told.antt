-- One check over a list, and two in a row: what each answer says of the records.
use Rattle.std.proofs.Common.{Err, Ok}
use Rattle.refusals.specs.declared.Reason.{Reason}
use Rattle.refusals.specs.Refusals.{Verdict}
use mathlib.Core.Path.{◌≡◌, refl, sym, ◌∙◌}
use mathlib.Core.Logic.{◌⊎◌, inl, inr, ⊎_elim}
use mathlib.Core.Bool.{Bool, true≢false}
use mathlib.Core.List.{List}
use Prim.Native.Nat.{ℕ, ◌<◌}
use native.Mathlib.Omega.{arith}
use borrow.Author.Tests.{lt-ltb, le-ltb}
use lib.ListN.{length, get_or}
use Rattle.refusals.specs.declared.Refusal.{Refusal}
use Rattle.checks.specs.Checks.{first, told, and_then}
use Rattle.checks.proofs.First.{None, FirstAt, searched}

-- the refusal by this reason at the first record that the test strikes
pub record Struck (reason : Reason) (test : ℕ → Bool) (rs : List ℕ) (x : Refusal) : Type 0 where
  pub place : ℕ
  pub first-at : FirstAt test rs place
  pub tells : x ≡ record { reason = reason; place = get_or rs place 0 }

pub not-both : (o : Verdict) (x : Refusal) → o ≡ Ok tt → o ≡ Err x → ⊥
not-both o x p q = let z : ◌≡◌ {A = ℕ} 0 1 = cc in omega arith

module _ (reason : Reason) (test : ℕ → Bool) (rs : List ℕ) where
  passing : first test rs ≡ length rs → told reason test rs ≡ Ok tt
  unfolding told
  passing q = rw (le-ltb (first test rs) (length rs) (omega arith))

  refusing : first test rs < length rs → told reason test rs ≡ Err (record { reason = reason; place = get_or rs (first test rs) 0 })
  unfolding told
  refusing l = rw (lt-ltb (first test rs) (length rs) l)

  pub none-struck : told reason test rs ≡ Ok tt → None test rs
  none-struck e = ⊎_elim (λ h. h.1) (λ f. absurd (not-both _ _ e (refusing f.within))) (searched test rs)

  pub told-passed : None test rs → told reason test rs ≡ Ok tt
  told-passed n = ⊎_elim (λ h. passing h.0) (λ f. absurd (true≢false (sym f.struck ∙ n _ f.within))) (searched test rs)

  pub told-refused : (x : Refusal) → told reason test rs ≡ Err x → Struck reason test rs x
  told-refused x e =
      ⊎_elim
      (λ h. absurd (not-both _ _ (passing h.0) e))
      (λ f. record { place = first test rs; first-at = f; tells = cc (refusing f.within) })
      (searched test rs)

pub both-passed : (a b : Verdict) → and_then a b ≡ Ok tt → (a ≡ Ok tt) × (b ≡ Ok tt)
unfolding and_then
both-passed (Ok _) b e = (refl, e)
both-passed (Err x) b e = absurd (not-both _ _ e refl)

pub passed-both : (a b : Verdict) → a ≡ Ok tt → b ≡ Ok tt → and_then a b ≡ Ok tt
unfolding and_then
passed-both a b p q = rw (p, q)

-- the first refused, or it passed and the second refused
pub either-refused : (a b : Verdict) (x : Refusal) → and_then a b ≡ Err x → (a ≡ Err x) ⊎ ((a ≡ Ok tt) × (b ≡ Err x))
unfolding and_then
either-refused (Ok _) b x e = inr (refl, e)
either-refused (Err y) b x e = inl e
