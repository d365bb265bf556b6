-- The entries on single records (01, 'Numbers given back'): the checks of the records named, in the order named, then the answer. A refused call
-- leaves the pool as it was lent.
use Rattle.std.specs.Prelude.{Bool, List, [], ◌∷◌, ℕ, Err, None, Ok, Option, Result, Some}
use Rattle.refusals.specs.declared.Refusal.{Refusal}
use Rattle.refusals.specs.Refusals.{Verdict}
use Rattle.std.specs.declared.cmp.Ordering.{Ordering}
use Rattle.events.specs.Binary64.{at_binary64}
use Rattle.events.specs.Pool.{Pool}
use Rattle.order.specs.Order.{before}
use Rattle.order.specs.Keys.{key_at}
use Rattle.segments.specs.OnPool.{compare_at}
use Rattle.class.specs.declared.Operation.{Operation}
use Rattle.class.specs.OnPool.{classified_at}
use Rattle.checks.specs.OnPool.{checked_named, checked_left_named}

-- ---- event order of any two records

abbrev pub before_by : Verdict → Bool → Result Bool Refusal
before_by (Err x) told = Err x
before_by (Ok _) told = Ok told

unfoldable pub is_before : Pool → ℕ → ℕ → Result Bool Refusal
is_before p a b = before_by (checked_named p (a ∷ b ∷ [])) (before at_binary64 (key_at p a) (key_at p b))

-- ---- segment order of two left records, in a mode of crossing

abbrev pub compared_by : Verdict → Ordering → Result Ordering Refusal
compared_by (Err x) told = Err x
compared_by (Ok _) told = Ok told

unfoldable pub compare_segments : (mode : ℕ) → Pool → ℕ → ℕ → Result Ordering Refusal
compare_segments mode p a b = compared_by (checked_left_named p (a ∷ b ∷ [])) (compare_at mode p a b)

-- ---- the class of a left record above a left record, or above nothing

-- what a call that changes the pool leaves: its answer, and both arrays
pub record Outcome (A : Type 0) : Type 0 where
  pub answer : A
  pub after : Pool

abbrev pub outcome : {A : Type 0} → A → Pool → Outcome A
outcome a p = record { answer = a; after = p }

-- the record, then its lower neighbour
abbrev pub named_with : ℕ → Option ℕ → List ℕ
named_with e None = e ∷ []
named_with e (Some n) = e ∷ n ∷ []

abbrev pub computed_by : Verdict → Pool → Pool → Outcome Verdict
computed_by (Err x) lent changed = outcome (Err x) lent
computed_by (Ok _) lent changed = outcome (Ok tt) changed

unfoldable pub compute_fields : Operation → Pool → ℕ → Option ℕ → Outcome Verdict
compute_fields op p e lower = computed_by (checked_left_named p (named_with e lower)) p (classified_at op p e lower)
