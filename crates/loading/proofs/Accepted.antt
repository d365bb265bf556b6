-- What passing the checks of loading gives: sizes within their limits, two places for each edge, and each edge fit.
use Rattle.std.proofs.Common.{Err, Ok}
use Rattle.refusals.specs.Refusals.{Verdict}
use mathlib.Core.Path.{◌≡◌, refl}
use mathlib.Core.Bool.{Bool, true, false, not, cond}
use mathlib.Core.List.{List}
use Prim.Native.Nat.{ℕ, ◌*◌, ◌≤◌}
use native.Mathlib.Omega.{arith}
use borrow.Author.Tests.{eqb-true, ltb-false, not-false}
use lib.Dec.{eqb, ltb}
use lib.ListN.{length}
use Rattle.refusals.specs.declared.Refusal.{Refusal}
use Rattle.events.specs.Binary64.{at_binary64}
use Rattle.events.specs.Pool.{Pool, stored}
use Rattle.checks.specs.Checks.{missized}
use Rattle.checks.specs.Sound.{Sized}
use Rattle.checks.proofs.Told.{not-both, both-passed}
use Rattle.checks.proofs.Unstruck.{neither}
use Rattle.checks.proofs.Passed.{well-sized}
use Rattle.loading.specs.Loading.{loaded, checked_edges}
use Rattle.loading.specs.OnPool.{max_edges, edges_of, edges_sized, pool_sized, accept, after, after_checks, load}
use Rattle.loading.proofs.Edges.{length-edges}

-- a test that would refuse has not struck, and the rest passed
pub unstruck : (t : Bool) (x : Refusal) (rest : Verdict) → cond t (Err x) rest ≡ Ok tt → (t ≡ false) × (rest ≡ Ok tt)
unstruck true x rest e = absurd (not-both _ _ e refl)
unstruck false x rest e = (refl, e)

pub record Accepted (ends : List (List ℕ)) (labels : List (List ℕ)) (p : Pool) : Type 0 where
  pub equal : length ends ≡ length labels
  pub few : length ends ≤ max_edges
  pub sizes : Sized (length p.points) (length p.marks)
  pub room : 2 * length ends ≤ length p.points
  pub each : checked_edges at_binary64 0 (edges_of ends labels) ≡ Ok tt

pub accepted : (ends : List (List ℕ)) (labels : List (List ℕ)) (p : Pool) → accept ends labels p ≡ Ok tt → Accepted ends labels p
unfolding accept edges_sized pool_sized
accepted ends labels p e =
    let n = length ends in
    let points = length p.points in
    let marks = length p.marks in
    let first = both-passed (edges_sized n (length labels)) _ e in
    let second = both-passed (pool_sized points marks n) _ first.1 in
    let edges = neither (not (eqb n (length labels))) (ltb max_edges n) (unstruck _ _ _ first.0).0 in
    let pool = neither (missized points marks) (ltb points (2 * n)) (unstruck _ _ _ second.0).0 in
    record {
      equal = eqb-true n (length labels) (not-false _ edges.0);
      few = ltb-false max_edges n edges.1;
      sizes = well-sized points marks pool.0;
      room = ltb-false points (2 * n) pool.1;
      each = second.1;
    }

-- as many as the ends lent
pub as_many : (ends : List (List ℕ)) (labels : List (List ℕ)) (p : Pool) → Accepted ends labels p → length (edges_of ends labels) ≡ length ends
as_many ends labels p a =
    let q = length-edges ends labels in
    omega (arith, a.equal)

-- ---- the answer

module _ (ends : List (List ℕ)) (labels : List (List ℕ)) (p : Pool) {t : Verdict} (told : t ≡ accept ends labels p) where
  pub few-edges : t ≡ Ok tt → length (edges_of ends labels) ≤ max_edges
  few-edges e =
      let a = accepted ends labels p (rw (← told) e) in
      omega (arith, as_many ends labels p a, a.few)

  pub answer-refused : (x : Refusal) → t ≡ Err x → after (Err x) p ≡ load ends labels p
  unfolding load after_checks
  answer-refused x e = rw (← told, e)

  pub answer-done : t ≡ Ok tt → {used : ℕ} {q : Pool} → used ≡ 2 * length (edges_of ends labels) → q ≡ loaded at_binary64 stored p 0 (edges_of ends labels) → after (Ok used) q ≡ load ends labels p
  unfolding load after_checks
  answer-done e u q = rw (← told, e, u, q)
