-- A check that tells the lowest record, with one more record looked at.
use Rattle.refusals.specs.declared.Reason.{Reason}
use Rattle.std.specs.Prelude.{Bool, true, false, ℕ, min, Err, Ok}
use Rattle.refusals.specs.Refusals.{Verdict}

unfoldable pub told_also : Verdict → Reason → (r : ℕ) → Bool → Verdict
told_also told reason r false = told
told_also (Ok _) reason r true = Err (record { reason = reason; place = r })
told_also (Err least) reason r true = Err (record { reason = reason; place = min r least.place })
