-- The checks on a pool: refusal 1 first, then the rest. They pass exactly if all is well, and a refusal tells the first thing that is not.
use Rattle.std.proofs.Common.{Err, Ok}
use Rattle.refusals.specs.declared.Reason.TheVariants as Reason
use mathlib.Core.Path.{◌≡◌}
use mathlib.Core.Logic.{⊎_elim}
use mathlib.Core.Bool.{true}
use mathlib.Core.List.{List}
use Prim.Native.Nat.{ℕ}
use lib.ListN.{length}
use Rattle.refusals.specs.declared.Refusal.{Refusal}
use Rattle.events.specs.Binary64.{at_binary64}
use Rattle.events.specs.Pool.{Pool, size, row_at}
use Rattle.checks.specs.Checks.{missized, size_refusal, unfit_at, mistaken, sized, checked, named, checked_left}
use Rattle.checks.specs.Sound.{Sized}
use Rattle.checks.specs.OnPool.{on, checked_at, checked_named, checked_left_named}
use Rattle.checks.proofs.First.{None}
use Rattle.checks.proofs.Told.{Struck, both-passed, passed-both, either-refused}
use Rattle.checks.proofs.Passed.{Each, sized-passed, passed-sized, sized-refused, checked-passed, passed-checked, checked_refused}
use Rattle.checks.proofs.Named.{EachPair, pairs, each}
use Rattle.checks.proofs.Left.{EachLeft, left_passed, passed-left}

-- what passing gives for a list of records
pub record Clear (p : Pool) (rs : List ℕ) : Type 0 where
  pub sizes : Sized (length p.points) (length p.marks)
  pub sounds : Each at_binary64 (row_at p) (size p) rs

-- what passing gives for records that are named
pub record ClearNamed (p : Pool) (rs : List ℕ) : Type 0 where
  pub sizes : Sized (length p.points) (length p.marks)
  pub both : EachPair at_binary64 (row_at p) (size p) rs

-- what passing gives for records that are named and wanted left
pub record ClearLeft (p : Pool) (rs : List ℕ) : Type 0 where
  pub named : ClearNamed p rs
  pub lefts : EachLeft at_binary64 (row_at p) (size p) rs

-- why a list of records is refused
pub data Cause (p : Pool) (rs : List ℕ) (x : Refusal) : Type 0 where
  size1 : missized (length p.points) (length p.marks) ≡ true → x ≡ size_refusal → Cause p rs x
  unfit2 : Sized (length p.points) (length p.marks) → Struck Reason.Coordinate (on p (unfit_at at_binary64)) rs x → Cause p rs x
  mistake4 : Sized (length p.points) (length p.marks) → None (on p (unfit_at at_binary64)) rs → Struck Reason.Link (on p (mistaken at_binary64)) rs x → Cause p rs x

module _ (p : Pool) (rs : List ℕ) where
  pub clear : checked_at p rs ≡ Ok tt → Clear p rs
  unfolding checked_at
  clear e =
      let h = both-passed (sized (length p.points) (length p.marks)) (on p (checked at_binary64) rs) e in
      record { sizes = sized-passed _ _ h.0; sounds = checked-passed at_binary64 (row_at p) (size p) rs h.1 }

  pub passes : Clear p rs → checked_at p rs ≡ Ok tt
  unfolding checked_at
  passes c = passed-both _ _ (passed-sized _ _ c.sizes) (passed-checked at_binary64 (row_at p) (size p) rs c.sounds)

  pub refused : (x : Refusal) → checked_at p rs ≡ Err x → Cause p rs x
  unfolding checked_at
  refused x e =
      ⊎_elim
      (λ q. let h = sized-refused _ _ x q in size1 h.0 h.1)
      (λ q.
      let s = sized-passed _ _ q.0 in
      ⊎_elim (λ u. unfit2 s u) (λ m. mistake4 s m.0 m.1) (checked_refused at_binary64 (row_at p) (size p) rs x q.1))
      (either-refused (sized (length p.points) (length p.marks)) (on p (checked at_binary64) rs) x e)

module _ (p : Pool) (rs : List ℕ) where
  pub clear-named : checked_named p rs ≡ Ok tt → ClearNamed p rs
  clear-named e =
      let c = clear p (on p named rs) e in
      record { sizes = c.sizes; both = pairs at_binary64 (row_at p) (size p) rs c.sounds }

  pub passes-named : ClearNamed p rs → checked_named p rs ≡ Ok tt
  passes-named c = passes p (on p named rs) (record { sizes = c.sizes; sounds = each at_binary64 (row_at p) (size p) rs c.both })

module _ (p : Pool) (rs : List ℕ) where
  pub clear-left : checked_left_named p rs ≡ Ok tt → ClearLeft p rs
  unfolding checked_left_named checked_at
  clear-left e =
      let h = both-passed (sized (length p.points) (length p.marks)) (on p (checked_left at_binary64) rs) e in
      let t = left_passed at_binary64 (row_at p) (size p) rs h.1 in
      record { named = clear-named p rs (passed-both _ _ h.0 t.0); lefts = t.1 }

  pub passes-left : ClearLeft p rs → checked_left_named p rs ≡ Ok tt
  unfolding checked_left_named checked_at
  passes-left c =
      let h = both-passed (sized (length p.points) (length p.marks)) (on p (checked at_binary64) (on p named rs)) (passes-named p rs c.named) in
      passed-both _ _ h.0 (passed-left at_binary64 (row_at p) (size p) rs h.1 c.lefts)
