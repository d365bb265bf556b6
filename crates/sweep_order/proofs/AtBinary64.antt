-- The theorem at binary64, with the crossing that the code computes in any mode, about the two calls on lent arrays: the hypotheses left are 01's and that the
-- two pools have one size.
use Rattle.std.proofs.Common.{Err, Ok}
use Rattle.refusals.specs.Refusals.{Verdict}
use mathlib.Core.Path.{◌≡◌, refl, sym, ap, ap₂, ◌∙◌, subst}
use mathlib.Core.Bool.{false}
use mathlib.Core.List.{List}
use Prim.Native.Nat.{ℕ, ◌≤◌, ◌*◌, min}
use native.Mathlib.Omega.{arith}
use lib.ListN.{length}
use borrow.Author.Tests.{eq-eqb, le-ltb}
use Rattle.refusals.specs.declared.Refusal.{Refusal}
use Rattle.numbers.specs.declared.Point.{Point}
use Rattle.events.specs.Binary64.{at_binary64, in_mode}
use Rattle.events.specs.Pool.{Pool, size, row_at, stored}
use Rattle.events.proofs.Stored.{pool-stored}
use Rattle.events.proofs.Looks.{pool-blanks}
use Rattle.class.specs.declared.Operation.{Operation}
use Rattle.checks.specs.Checks.{and_then, max_events, missized, checked}
use Rattle.checks.specs.Numbers.{numbers_from}
use Rattle.checks.specs.Sound.{Sized}
use Rattle.checks.proofs.Told.{both-passed}
use Rattle.division.proofs.AtBinary64.{move-laws}
use Rattle.loading.specs.Loading.{Edge, loaded}
use Rattle.loading.specs.OnPool as Loading
use Rattle.loading.specs.OnPool.{edges_of, edges_sized, pool_sized, load}
use Rattle.loading.proofs.Accepted.{accepted, as_many}
use Rattle.loading.proofs.Kept.{points-loaded, marks-loaded}
use Rattle.loading.proofs.AsLoaded.{as-loaded}
use Rattle.sweep.specs.Run.{subdivide}
use Rattle.sweep.specs.OnPool.{After, sizes, accept, answer_of, after_run, subdivide_pool}
use Rattle.sweep.specs.Lined.{Good}
use Rattle.sweep_order.specs.Loadings.{NeverTie, OnlyNumbers}
use Rattle.sweep_order.specs.OnPool.{Reordered, SameSize, SameAfter, OrderFreeCalls}
use Rattle.sweep_order.proofs.Permuted as Permuted
use Rattle.sweep_order.proofs.Checked.{any_order}
use Rattle.sweep_order.proofs.Started.{good-loaded}
use Rattle.sweep_order.proofs.Order.{order-free, never-tie}
use Rattle.sweep_order.proofs.Calls.{called, same-calls}

-- ---- one loading

not_done : (r : Refusal) (n : ℕ) → Err r ≡ Ok n → ⊥
not_done r n e = let z : ◌≡◌ {A = ℕ} 0 1 = cc in omega arith

-- what an answer of loading tells
record Did (edges : List (Edge Point)) (c : Verdict) (n : ℕ) : Type 0 where
  passed : c ≡ Ok tt
  records : n ≡ 2 * length edges

did : (c : Verdict) (edges : List (Edge Point)) (p : Pool) (n : ℕ) → (Loading.after_checks c edges p).answer ≡ Ok n → Did edges c n
unfolding Loading.after_checks
did (Ok _) edges p n h = record { passed = refl; records = let e : 2 * length edges ≡ n = cc in sym e }
did (Err r) edges p n h = absurd (not_done r n h)

module _ (ends : List (List ℕ)) (labels : List (List ℕ)) (p : Pool) where
  abbrev l : List (Edge Point)
  l = edges_of ends labels

  tells : (n : ℕ) → (load ends labels p).answer ≡ Ok n → Did l (Loading.accept ends labels p) n
  unfolding load
  tells n h = did (Loading.accept ends labels p) l p n h

  module _ (h : Loading.accept ends labels p ≡ Ok tt) where
    loads : load ends labels p ≡ record { answer = Ok (2 * length l); pool = loaded at_binary64 stored p 0 l }
    unfolding load Loading.after_checks
    loads = ap (λ c. Loading.after_checks c l p) h

    sized : edges_sized (length ends) (length labels) ≡ Ok tt
    unfolding Loading.accept
    sized = (both-passed (edges_sized (length ends) (length labels)) _ h).0

    roomy : pool_sized (length p.points) (length p.marks) (length ends) ≡ Ok tt
    unfolding Loading.accept
    roomy = (both-passed (pool_sized (length p.points) (length p.marks) (length ends)) _ (both-passed (edges_sized (length ends) (length labels)) _ h).1).0

    fits : 2 * length l ≤ length p.points
    fits =
        let a = accepted ends labels p h in
        omega (arith, as_many ends labels p a, a.room)

    room : 2 * length l ≤ size p
    unfolding size
    room =
        let equal = (accepted ends labels p h).sizes.equal in
        let enough = fits in
        omega arith

    good : Good at_binary64 stored (loaded at_binary64 stored p 0 l) (2 * length l)
    unfolding stored
    good = good-loaded at_binary64 pool-stored pool-blanks move-laws p l room (accepted ends labels p h).each

    -- the sweep's checks pass
    sizes-pass : (points marks taken n : ℕ) → Sized points marks → taken ≡ points → n ≤ points → sizes points marks taken n ≡ Ok tt
    unfolding sizes missized
    sizes-pass points marks taken n s e k = rw (eq-eqb points marks s.equal, le-ltb max_events points s.few, eq-eqb points taken (sym e), le-ltb points n k)

    sound-records : checked at_binary64 (row_at (loaded at_binary64 stored p 0 l)) (2 * length l) (numbers_from 0 (2 * length l)) ≡ Ok tt
    sound-records =
        subst (λ (a : Loading.After). checked at_binary64 (row_at a.pool) (2 * length l) (numbers_from 0 (2 * length l)) ≡ Ok tt) loads
        (as-loaded ends labels p (2 * length l) (ap (λ (a : Loading.After). a.answer) loads))

    accepts : (taken : List ℕ) → length taken ≡ length p.points → accept (loaded at_binary64 stored p 0 l) (2 * length l) taken ≡ Ok tt
    unfolding accept and_then
    accepts taken e =
        rw (points-loaded p 0 l, marks-loaded p 0 l, sizes-pass (length p.points) (length p.marks) (length taken) (2 * length l) (accepted ends labels p h).sizes e fits) sound-records

-- ---- two loadings

-- both parts of the sentence, of pools that hold n records
record Both (op : Operation) (mode n : ℕ) (p : Pool) (taken : List ℕ) (p' : Pool) (taken' : List ℕ) : Type 0 where
  runs : OnlyNumbers at_binary64 stored (in_mode mode) op n p p'
  calls : SameAfter runs.renaming.to p taken (subdivide_pool op mode p n taken) p' taken' (subdivide_pool op mode p' n taken')

module _ (op : Operation) (mode : ℕ) (ends : List (List ℕ)) (labels : List (List ℕ)) (p : Pool) (taken : List ℕ)
    (ends' : List (List ℕ)) (labels' : List (List ℕ)) (p' : Pool) (taken' : List ℕ) (o : Reordered ends labels ends' labels') (s : SameSize p taken p' taken') where
  abbrev l₁ : List (Edge Point)
  l₁ = edges_of ends labels

  abbrev l₂ : List (Edge Point)
  l₂ = edges_of ends' labels'

  abbrev q₁ : Pool
  q₁ = loaded at_binary64 stored p 0 l₁

  abbrev q₂ : Pool
  q₂ = loaded at_binary64 stored p' 0 l₂

  as-many-records : 2 * length l₂ ≡ 2 * length l₁
  as-many-records = ap (λ k. 2 * k) (Permuted.as_many o.edges)

  same_size : size p' ≡ size p
  unfolding size
  same_size = ap₂ min s.points s.marks

  module _ (h : Loading.accept ends labels p ≡ Ok tt) where
    -- what loads in one order loads in the other
    accepted-too : Loading.accept ends' labels' p' ≡ Ok tt
    unfolding Loading.accept and_then
    accepted-too =
        rw (o.as_many_ends, o.as_many_labels, s.points, s.marks, sized ends labels p h, roomy ends labels p h) (any_order at_binary64 o.edges (accepted ends labels p h).each)

    run-tied : (subdivide_pool op mode q₁ (2 * length l₁) taken).answer.tied ≡ (subdivide at_binary64 stored (in_mode mode) op q₁ (2 * length l₁)).tied
    unfolding after_run answer_of
    run-tied = ap (λ (a : After). a.answer.tied) (called op mode (2 * length l₁) q₁ taken (accepts ends labels p h taken s.takes))

    both : (subdivide at_binary64 stored (in_mode mode) op q₁ (2 * length l₁)).tied ≡ false → Both op mode (2 * length l₁) q₁ taken q₂ taken'
    unfolding stored
    both u =
        let runs = order-free move-laws pool-stored pool-blanks (in_mode mode) op o.edges p p' same_size (room ends labels p h) (accepted ends labels p h).each u in
        record {
          runs = runs;
          calls =
              same-calls op mode (2 * length l₁) runs.renaming.to q₁ q₂ taken taken' (accepts ends labels p h taken s.takes)
              (subst (λ n. accept q₂ n taken' ≡ Ok tt) as-many-records (accepts ends' labels' p' accepted-too taken' s.takes'))
              (good ends labels p h)
              (subst (Good at_binary64 stored q₂) as-many-records (good ends' labels' p' accepted-too))
              runs.at_last;
        }

  -- the same of n and of pools that are these
  module _ (n : ℕ) (q q' : Pool) (k : n ≡ 2 * length l₁) (e : q ≡ q₁) where
    both_at : q' ≡ q₂ → Loading.accept ends labels p ≡ Ok tt → (subdivide at_binary64 stored (in_mode mode) op q n).tied ≡ false → Both op mode n q taken q' taken'
    both_at e' h u = rw (k, e, e') (both h (rw (k, e) at u))

    told_at : Loading.accept ends labels p ≡ Ok tt → (subdivide_pool op mode q n taken).answer.tied ≡ (subdivide at_binary64 stored (in_mode mode) op q n).tied
    told_at h = rw (k, e) (run-tied h)

  module _ (n : ℕ) (h : (load ends labels p).answer ≡ Ok n) where
    abbrev pool : Pool
    pool = (load ends labels p).pool

    by-run : (subdivide at_binary64 stored (in_mode mode) op pool n).tied ≡ false → OrderFreeCalls op mode n ends labels p taken ends' labels' p' taken'
    by-run u =
        let a = tells ends labels p n h in
        let first = loads ends labels p a.passed in
        let second = loads ends' labels' p' (accepted-too a.passed) in
        let x = both_at n _ _ a.records (ap (λ (b : Loading.After). b.pool) first) (ap (λ (b : Loading.After). b.pool) second) a.passed u in
        record { loads = ap (λ (b : Loading.After). b.answer) second ∙ ap Ok (as-many-records ∙ sym a.records); runs = x.runs; calls = x.calls }

    -- the sweep's own answer certifies a sheet
    pub order-of-loading : (subdivide_pool op mode pool n taken).answer.tied ≡ false → OrderFreeCalls op mode n ends labels p taken ends' labels' p' taken'
    order-of-loading u =
        let a = tells ends labels p n h in
        let first = loads ends labels p a.passed in
        by-run (sym (told_at n pool pool a.records (ap (λ (b : Loading.After). b.pool) first) a.passed) ∙ u)

    -- 01's sentence
    pub sentence : NeverTie at_binary64 stored (in_mode mode) op pool n → OrderFreeCalls op mode n ends labels p taken ends' labels' p' taken'
    sentence t = by-run (never-tie (in_mode mode) op pool n t)
