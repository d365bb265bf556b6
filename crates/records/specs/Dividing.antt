-- The entries that divide (01, 'Numbers given back'): the checks, then the division or the neighbours' meeting, which refuse by 7 and 6 of their own.
-- A call that the checks refuse leaves the pool as it was lent.
use Rattle.division.specs.declared.Divided.{Divided}
use Rattle.std.specs.Prelude.{[], ◌∷◌, ℕ, Err, Ok, Result}
use Rattle.refusals.specs.declared.Refusal.{Refusal}
use Rattle.refusals.specs.Refusals.{Verdict}
use Rattle.numbers.specs.declared.Point.{Point}
use Rattle.events.specs.Binary64.{at_binary64, in_mode}
use Rattle.events.specs.Pool.{Pool, stored}
use Rattle.division.specs.Division.{After, divide}
use Rattle.neighbours.specs.Neighbours.{Meeting, meeting, meet}
use Rattle.records.specs.Records.{Outcome, outcome}
use Rattle.records.specs.InUse.{checked_in, checked_left_in}

-- ---- division of the segment of a left record; a right record is 7, as any segment that the cut does not divide

abbrev pub divided_by : Verdict → Pool → After Pool → Outcome (Result Divided Refusal)
divided_by (Err x) lent done = outcome (Err x) lent
divided_by (Ok _) lent done = outcome done.answer done.store

unfoldable pub divide_segment : Pool → ℕ → ℕ → Point → Outcome (Result Divided Refusal)
divide_segment p used i cut = divided_by (checked_in p used (i ∷ [])) p (divide at_binary64 stored p used i cut)

-- ---- two left records, in a mode of crossing

abbrev pub met_by : Verdict → Pool → ℕ → Meeting Pool → Meeting Pool
met_by (Err x) lent used done = meeting lent used (Err x)
met_by (Ok _) lent used done = done

unfoldable pub possible_intersection : (mode : ℕ) → Pool → ℕ → ℕ → ℕ → Meeting Pool
possible_intersection mode p used a b = met_by (checked_left_in p used (a ∷ b ∷ [])) p used (meet at_binary64 stored (in_mode mode) p used a b)
