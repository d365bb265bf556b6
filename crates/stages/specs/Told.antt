-- What a C caller is told by the stages: which output gets which value of the answer (`specs/Answer.antt` of each stage). An output that the answer
-- does not speak of is as it was lent.
use Rattle.refusals.specs.declared.Reason.{Reason}
use Rattle.refusals.specs.declared.Reason.TheVariants as Reason
use Rattle.refusals.specs.Refusals.{Verdict}
use Rattle.std.specs.Prelude.{◌≡◌, Bool, true, false, cond, List, [], ◌∷◌, ℕ, eqb, get_or, Err, Ok, Result}
use Rattle.refusals.specs.declared.Refusal.{Refusal}
use Rattle.events.specs.Pool.{Pool, flag_number}
use Rattle.class.specs.declared.Operation.{Operation}
use Rattle.class.specs.declared.Operation.TheVariants.{Intersection, Difference, Union, Xor}
use Rattle.loading.specs.Answer as LoadAnswer
use Rattle.loading.specs.OnPool as Load
use Rattle.sweep.specs.declared.Swept.{Swept}
use Rattle.sweep.specs.Answer as SweepAnswer
use Rattle.sweep.specs.OnPool as Sweep
use Rattle.connection.specs.declared.Connected.{Connected}
use Rattle.connection.specs.Answer as ConnectAnswer
use Rattle.connection.specs.Connection as Connection
use Rattle.connection.specs.Connection.{Lent}

-- ---- loading

-- of an answer that is done the value is the places in use, of a refusal its place
unfoldable pub load_used : Result ℕ Refusal → ℕ → ℕ
load_used (Ok n) lent = get_or (LoadAnswer.values_of (Ok n)) 0 lent
load_used (Err why) lent = lent

unfoldable pub load_place : Result ℕ Refusal → ℕ → ℕ
load_place (Ok n) lent = lent
load_place (Err why) lent = get_or (LoadAnswer.values_of (Err why)) 0 lent

-- ---- counts

-- refused by the checks of the sweep or of connection, and so before anything is done
unfoldable pub by_checks : Reason → Bool
by_checks Reason.Size = true
by_checks Reason.Coordinate = true
by_checks Reason.Ends = false
by_checks Reason.Link = true
by_checks Reason.Room = true
by_checks Reason.Full = false
by_checks Reason.Cut = false
by_checks Reason.HalfEdge = true
by_checks Reason.Loose = false
by_checks Reason.Malformed = false

-- told by a call that has done something
unfoldable pub counts_by : Verdict → (told lent : List ℕ) → List ℕ
counts_by (Ok _) told lent = told
counts_by (Err why) told lent = cond (by_checks why.reason) lent told

-- ---- the sweep

-- a number that is no operation stands for the last
unfoldable pub operation_of : ℕ → Operation
operation_of n = cond (eqb n 0) Intersection (cond (eqb n 1) Difference (cond (eqb n 2) Union Xor))

unfoldable pub sweep_place : Verdict → ℕ → ℕ
sweep_place end lent = get_or (SweepAnswer.values_of end) 0 lent

-- events taken, divisions made, places in use, and whether a tie was met
unfoldable pub sweep_counts : Swept → List ℕ → List ℕ
sweep_counts s = counts_by s.outcome (s.taken ∷ s.divisions ∷ s.used ∷ flag_number s.tied ∷ [])

-- ---- connection

unfoldable pub connect_place : Verdict → ℕ → ℕ
connect_place end lent = get_or (ConnectAnswer.values_of end) 0 lent

-- contours, corners, holes, contours that are open
unfoldable pub connect_counts : Connected → List ℕ → List ℕ
connect_counts c = counts_by c.outcome (c.contours ∷ c.corners ∷ c.holes ∷ c.«open» ∷ [])

-- ---- a call that its checks refuse leaves everything as lent

pub record LoadAsLent (x : Load.After) (p : Pool) (lent : ℕ) : Type 0 where
  pub pool : x.pool ≡ p
  pub used : load_used x.answer lent ≡ lent

pub record SweepAsLent (x : Sweep.After) (p : Pool) (list lent : List ℕ) : Type 0 where
  pub pool : x.pool ≡ p
  pub taken : x.taken ≡ list
  pub counts : sweep_counts x.answer lent ≡ lent

pub record ConnectAsLent (x : Connection.After) (p : Pool) (l : Lent) (lent : List ℕ) : Type 0 where
  pub pool : x.pool ≡ p
  pub outlines : x.outlines ≡ l
  pub counts : connect_counts x.answer lent ≡ lent
