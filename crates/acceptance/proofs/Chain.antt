-- Two checks in a row: the first decides where it is refused.
use Rattle.std.proofs.Common.{Err, Ok}
use Rattle.refusals.specs.Refusals.{Verdict}
use mathlib.Core.Path.{◌≡◌, refl, sym, ◌∙◌}
use mathlib.Core.Bool.{Bool, true, false, true≢false, false≢true}
use Rattle.checks.specs.Checks.{and_then}
use Rattle.acceptance.specs.OnPool.{is_refused}

first-decides : (a b : Verdict) → is_refused a ≡ true → a ≡ and_then a b
unfolding and_then is_refused
first-decides (Ok _) b e = absurd (false≢true e)
first-decides (Err x) b e = refl

not-refused : (a : Verdict) → is_refused a ≡ false → a ≡ Ok tt
unfolding is_refused
not-refused (Ok _) e = refl
not-refused (Err x) e = absurd (true≢false e)

-- the code's answer x, which is what the check a tells, looked at by a test t
module _ {x : Verdict} (a : Verdict) {t : Bool} (is : x ≡ a) (tested : t ≡ is_refused x) where
  pub refuses : (b : Verdict) → t ≡ true → x ≡ and_then a b
  refuses b e = rw is (first-decides a b (rw is at (sym tested ∙ e)))

  pub passes : t ≡ false → a ≡ Ok tt
  passes e = not-refused a (rw is at (sym tested ∙ e))

pub later : {a b x : Verdict} → a ≡ Ok tt → x ≡ b → x ≡ and_then a b
unfolding and_then
later p e = rw p e

-- what the second may take for granted
pub where-passed : (a b c : Verdict) → (a ≡ Ok tt → b ≡ c) → and_then a b ≡ and_then a c
unfolding and_then
where-passed (Ok _) b c h = h refl
where-passed (Err x) b c h = refl
