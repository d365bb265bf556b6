-- Which refusals a sweep tells: 1, 2 and 4 of what it is given, and on its way 6 and 7, of a division or a lost crossing (`Kept`).
use Rattle.std.proofs.Common.{Err, Ok}
use Rattle.refusals.specs.declared.Reason.TheVariants as Reason
use Rattle.refusals.specs.Refusals.{Verdict, passed}
use mathlib.Core.Path.{◌≡◌, refl, sym, ap}
use mathlib.Core.Logic.{◌⊎◌, inl, inr, ⊎_elim}
use mathlib.Core.Bool.{Bool, true, false, not, cond, ◌||◌}
use mathlib.Core.List.{List}
use Prim.Native.Nat.{ℕ}
use native.Mathlib.Omega.{arith}
use lib.ListN.{length}
use lib.Dec.{eqb, ltb}
use Rattle.refusals.specs.declared.Refusal.{Refusal}
use Rattle.events.specs.Coordinates.{Coordinates, Crossing}
use Rattle.events.specs.Binary64.{at_binary64, in_mode}
use Rattle.events.specs.Pool.{Pool, row_at, stored}
use Rattle.events.specs.Store.{Store, look}
use Rattle.class.specs.declared.Operation.{Operation}
use Rattle.checks.specs.Checks.{missized, size_refusal}
use Rattle.checks.specs.Numbers.{numbers_from}
use Rattle.checks.proofs.Told.{either-refused}
use Rattle.checks.proofs.Passed.{checked_refused}
use Rattle.division.specs.Division.{moved, moves, divide_at, divide, refused, done, misses, full}
use Rattle.neighbours.proofs.Likeness.{crossing_of}
use Rattle.neighbours.proofs.Invariants.{Invariant, Kept, crossed-any}
use Rattle.sweep.specs.declared.turn.Stop.{Stop}
use Rattle.sweep.specs.declared.turn.Stop.TheVariants as Stops
use Rattle.sweep.specs.Run.{subdivide}
use Rattle.sweep.specs.OnPool.{sizes, accept, outcome_of, answer_of, after_run, as_lent, after_checks, subdivide_pool}
use Rattle.sweep.proofs.Kept.{IfRefused, kept-sweep}

-- on the way
abbrev pub CutBy : Refusal → Type 0
CutBy r = (r.reason ≡ Reason.Full) ⊎ (r.reason ≡ Reason.Cut)

module _ {P S : Type 0} (C : Coordinates P) (K : Store P S) where
  divided-by : (s : S) (n i : ℕ) (p : P) (r : Refusal) → (divide C K s n i p).answer ≡ Err r → CutBy r
  unfolding divide divide_at refused done
  divided-by s n i p r = go (not (look K s n i).left || misses C _ _ _) (full K s n)
    where
      go : (out short : Bool) → (cond out (refused s n Reason.Cut i) (cond short (refused s n Reason.Full i) (done C K s n i (look K s n i) (look K s n (look K s n i).partner) (moved C (look K s n i).point p) (moves C (look K s n i).point p)))).answer ≡ Err r → CutBy r
      go true short e = let z : record { reason = Reason.Cut; place = i } ≡ r = cc in inr (sym (ap (λ (y : Refusal). y.reason) z))
      go false true e = let z : record { reason = Reason.Full; place = i } ≡ r = cc in inl (sym (ap (λ (y : Refusal). y.reason) z))
      go false false e = let z : ◌≡◌ {A = ℕ} 0 1 = cc in absurd (omega arith)

  unfoldable cutting : Invariant P S
  cutting = record { OfStore = λ n s. Unit {0}; OfNumber = λ n r. Unit {0}; OfPoint = λ p. Unit {0}; OfRefusal = CutBy; later = λ m n r l h. tt }

  kept_by : (crossing : Crossing P) → Kept cutting C K crossing
  unfolding cutting
  kept_by crossing =
      record {
        points = λ n s r h. tt;
        fresh = λ n m l. tt;
        crosses = λ n s a b h x y. crossed-any (inr refl) (crossing_of C K crossing s n a b);
        put = λ n s i e h x f. tt;
        coincides = λ n s a b h x y. tt;
        done = λ n s i p d h x q e. tt;
        told = λ n s i p r h x e. divided-by s n i p r e;
      }

  pub sweep-by : (crossing : Crossing P) (op : Operation) (s : S) (n : ℕ) → IfRefused CutBy (subdivide C K crossing op s n).stop
  unfolding cutting
  sweep-by crossing op s n = (kept-sweep cutting (kept_by crossing) (λ m e l. tt) op s n tt).told

-- ---- the call

-- of what is given, or on the way
abbrev pub Known : Refusal → Type 0
Known r = ((r.reason ≡ Reason.Size) ⊎ ((r.reason ≡ Reason.Coordinate) ⊎ (r.reason ≡ Reason.Link))) ⊎ CutBy r

sizes-by : (points marks taken n : ℕ) (x : Refusal) → sizes points marks taken n ≡ Err x → x.reason ≡ Reason.Size
unfolding sizes
sizes-by points marks taken n x = go (missized points marks || (not (eqb points taken) || ltb points n))
  where
    go : (b : Bool) → cond b (Err size_refusal) passed ≡ Err x → x.reason ≡ Reason.Size
    go true e = let z : size_refusal ≡ x = cc in sym (ap (λ (y : Refusal). y.reason) z)
    go false e = let z : ◌≡◌ {A = ℕ} 0 1 = cc in absurd (omega arith)

module _ (op : Operation) (mode : ℕ) (p : Pool) (n : ℕ) (lent : List ℕ) where
  pub given_by : (x : Refusal) → accept p n lent ≡ Err x → (x.reason ≡ Reason.Size) ⊎ ((x.reason ≡ Reason.Coordinate) ⊎ (x.reason ≡ Reason.Link))
  unfolding accept
  given_by x e =
      ⊎_elim (λ h. inl (sizes-by _ _ _ _ x h))
      (λ h. inr (⊎_elim (λ k. inl (ap (λ (y : Refusal). y.reason) k.tells)) (λ k. inr (ap (λ (y : Refusal). y.reason) k.1.tells)) (checked_refused at_binary64 (row_at p) n (numbers_from 0 n) x h.1)))
      (either-refused (sizes (length p.points) (length p.marks) (length lent) n) _ x e)

  pub told-by : (x : Refusal) → (subdivide_pool op mode p n lent).answer.outcome ≡ Err x → Known x
  unfolding subdivide_pool after_checks after_run answer_of as_lent outcome_of
  told-by x = go (accept p n lent) refl
    where
      stop : (y : Stop) → IfRefused CutBy y → outcome_of y ≡ Err x → CutBy x
      stop Stops.Going h e = let z : ◌≡◌ {A = ℕ} 0 1 = cc in absurd (omega arith)
      stop Stops.Ended h e = let z : ◌≡◌ {A = ℕ} 0 1 = cc in absurd (omega arith)
      stop (Stops.Refused r) h e = let z : r ≡ x = cc in rw z at h

      go : (y : Verdict) → accept p n lent ≡ y → (after_checks y op mode p n lent).answer.outcome ≡ Err x → Known x
      go (Ok _) h e = inr (stop (subdivide at_binary64 stored (in_mode mode) op p n).stop (sweep-by at_binary64 stored (in_mode mode) op p n) e)
      go (Err r) h e = let z : r ≡ x = cc in inl (given_by x (rw z at h))
