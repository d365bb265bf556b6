-- Where refusal 1 passes, the places in use lie within both arrays, and the pool that they are is what division reads: the checks and the division look
-- at the same records.
use mathlib.Core.Path.{◌≡◌, refl, sym, ap₂, ◌∙◌, fun_ext}
use mathlib.Core.Bool.{Bool, true, false, cond}
use mathlib.Core.List.{[]}
use Prim.Native.Nat.{ℕ, ◌≤◌, ◌<◌, min}
use native.Mathlib.Omega.{arith}
use borrow.Author.Tests.{ltb-true, ltb-false, lt-ltb}
use lib.Dec.{ltb}
use lib.ListN.{length, get_or, take}
use lib.Seq.{length-take-le, get_or-take}
use Rattle.events.specs.Store.{look}
use Rattle.events.specs.Pool.{Pool, size, event_of, blank, row_at, stored}
use Rattle.checks.specs.Checks.{missized, sized}
use Rattle.checks.proofs.Unstruck.{neither}
use Rattle.checks.proofs.Passed.{sized-passed}
use Rattle.records.specs.InUse.{part_in_use, overused}

pub record Within (p : Pool) (used : ℕ) : Type 0 where
  pub points : used ≤ length p.points
  pub marks : used ≤ length p.marks

pub within : (p : Pool) (used : ℕ) (t : Bool) → t ≡ overused p used → t ≡ false → Within p used
unfolding overused sized
within p used t told passed =
    let h = neither (missized (length p.points) (length p.marks)) (ltb (length p.points) used) (sym told ∙ passed) in
    let sizes = sized-passed (length p.points) (length p.marks) (rw h.0) in
    let points = ltb-false (length p.points) used h.1 in
    record { points = points; marks = omega (arith, points, sizes.equal) }

module _ (p : Pool) (used : ℕ) (w : Within p used) where
  pub size-in-use : size (part_in_use p used) ≡ used
  unfolding size part_in_use
  size-in-use = ap₂ min (length-take-le used p.points w.points) (length-take-le used p.marks w.marks) ∙ omega arith

  -- a record that is in use
  whole_row : (i : ℕ) → i < used → row_at p i ≡ event_of (get_or p.points i []) (get_or p.marks i [])
  unfolding row_at
  whole_row i l = rw (lt-ltb i (length p.points) (omega (arith, w.points)), lt-ltb i (length p.marks) (omega (arith, w.marks)))

  seen_at : (i : ℕ) → row_at (part_in_use p used) i ≡ look stored p used i
  unfolding row_at part_in_use look stored
  seen_at i = rw (length-take-le used p.points w.points, length-take-le used p.marks w.marks) (by (ltb i used) refl)
    where
      by : (t : Bool) → ltb i used ≡ t → cond t (cond t (event_of (get_or (take used p.points) i []) (get_or (take used p.marks) i [])) (blank i)) (blank i) ≡ cond t (row_at p i) (blank i)
      by true e =
          let l = ltb-true i used e in
          ap₂ event_of (get_or-take used p.points i [] l) (get_or-take used p.marks i [] l) ∙ sym (whole_row i l)
      by false e = refl

  pub seen : row_at (part_in_use p used) ≡ look stored p used
  seen = fun_ext seen_at
