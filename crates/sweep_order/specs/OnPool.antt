-- 01's sentence about the two calls, loading and the sweep, on lent arrays at binary64, in any mode of crossing.
use Rattle.std.specs.Prelude.{◌≡◌, ℕ, ◌<◌, ◌≤◌, length, get_or, Err, Ok}
use Rattle.refusals.specs.Refusals.{Verdict}
use mathlib.Core.List.{List, [], map, Permᴰ}
use Rattle.std.proofs.lemmas.List.Edits.{sets}
use Rattle.events.specs.Binary64.{at_binary64, in_mode}
use Rattle.events.specs.Renaming.{rename}
use Rattle.events.specs.Pool.{Pool, row_at, stored}
use Rattle.class.specs.declared.Operation.{Operation}
use Rattle.loading.specs.OnPool.{edges_of, load}
use Rattle.sweep.specs.declared.Swept.{Swept}
use Rattle.sweep.specs.OnPool.{After, subdivide_pool}
use Rattle.sweep_order.specs.SameBut.{rename_refusal}
use Rattle.sweep_order.specs.Loadings.{OnlyNumbers}

-- the same edges in another order
pub record Reordered (ends : List (List ℕ)) (labels : List (List ℕ)) (ends' : List (List ℕ)) (labels' : List (List ℕ)) : Type 0 where
  pub as_many_ends : length ends' ≡ length ends
  pub as_many_labels : length labels' ≡ length labels
  pub edges : Permᴰ (edges_of ends labels) (edges_of ends' labels')

-- a pool and a taken list for its events, lent twice: of one size, holding anything
pub record SameSize (p : Pool) (taken : List ℕ) (p' : Pool) (taken' : List ℕ) : Type 0 where
  pub points : length p'.points ≡ length p.points
  pub marks : length p'.marks ≡ length p.marks
  pub takes : length taken ≡ length p.points
  pub takes' : length taken' ≡ length p'.points

-- ---- what the sweep leaves

unfoldable pub rename_outcome : (ℕ → ℕ) → Verdict → Verdict
rename_outcome ρ (Ok _) = Ok tt
rename_outcome ρ (Err r) = Err (rename_refusal ρ r)

-- every count is the same
unfoldable pub rename_swept : (ℕ → ℕ) → Swept → Swept
rename_swept ρ a = record { taken = a.taken; divisions = a.divisions; used = a.used; tied = a.tied; outcome = rename_outcome ρ a.outcome }

-- the places from n on are as they were in p
pub record AsLent (n : ℕ) (p q : Pool) : Type 0 where
  pub points : (r : ℕ) → n ≤ r → get_or q.points r [] ≡ get_or p.points r []
  pub marks : (r : ℕ) → n ≤ r → get_or q.marks r [] ≡ get_or p.marks r []

-- p and p' hold the records, `lent` and `lent'` are the taken lists as lent, a and a' what the two sweeps leave
pub record SameAfter (ρ : ℕ → ℕ) (p : Pool) (lent : List ℕ) (a : After) (p' : Pool) (lent' : List ℕ) (a' : After) : Type 0 where
  pub answer : a'.answer ≡ rename_swept ρ a.answer
  pub records : (r : ℕ) → r < a.answer.used → row_at a'.pool (ρ r) ≡ rename ρ (row_at a.pool r)
  pub unused : AsLent a.answer.used p a.pool
  pub unused' : AsLent a'.answer.used p' a'.pool
  -- the events taken, as many as are counted
  pub events : List ℕ
  pub counted : a.answer.taken ≡ length events
  pub told : a.taken ≡ sets lent 0 events
  pub told' : a'.taken ≡ sets lent' 0 (map ρ events)

-- ---- the sentence

-- Edges that were loaded, n records in all, load in another order too; the runs are the same but for names, step by step; and so are the calls.
pub record OrderFreeCalls (op : Operation) (mode n : ℕ) (ends : List (List ℕ)) (labels : List (List ℕ)) (p : Pool) (taken : List ℕ)
    (ends' : List (List ℕ)) (labels' : List (List ℕ)) (p' : Pool) (taken' : List ℕ) : Type 0 where
  pub loads : (load ends' labels' p').answer ≡ Ok n
  pub runs : OnlyNumbers at_binary64 stored (in_mode mode) op n (load ends labels p).pool (load ends' labels' p').pool
  pub calls : SameAfter runs.renaming.to (load ends labels p).pool taken (subdivide_pool op mode (load ends labels p).pool n taken)
      (load ends' labels' p').pool taken' (subdivide_pool op mode (load ends' labels' p').pool n taken')
