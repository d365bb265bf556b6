-- Refusal 1 passes exactly if the arrays have one size within the limit; 2 and 4 pass exactly if each record of the list is sound.
use Rattle.refusals.specs.Refusals.{passed}
use Rattle.std.proofs.Common.{Err, Ok}
use Rattle.refusals.specs.declared.Reason.TheVariants as Reason
use mathlib.Core.Path.{◌≡◌, refl}
use mathlib.Core.Logic.{◌⊎◌, inl, inr, ⊎_elim}
use mathlib.Core.Bool.{Bool, true, false, not, cond}
use mathlib.Core.List.{List}
use Prim.Native.Nat.{ℕ, ◌<◌}
use borrow.Author.Tests.{eqb-true, eq-eqb, ltb-false, le-ltb, not-false}
use lib.Dec.{eqb, ltb}
use lib.ListN.{length, get_or}
use Rattle.refusals.specs.declared.Refusal.{Refusal}
use Rattle.events.specs.Coordinates.{Coordinates}
use Rattle.events.specs.Event.{Event}
use Rattle.checks.specs.Checks.{max_events, missized, size_refusal, mistaken, unfit_at, told, sized, checked}
use Rattle.checks.specs.Sound.{Sized, Sound}
use Rattle.checks.proofs.First.{None}
use Rattle.checks.proofs.Told.{Struck, not-both, none-struck, told-passed, told-refused, both-passed, passed-both, either-refused}
use Rattle.checks.proofs.Unstruck.{neither, sound, sound-fit, sound-not-mistaken}

-- ---- refusal 1

module _ (points marks : ℕ) where
  pub well-sized : missized points marks ≡ false → Sized points marks
  unfolding missized
  well-sized e =
      let h = neither (not (eqb points marks)) (ltb max_events points) e in
      record { equal = eqb-true points marks (not-false _ h.0); few = ltb-false max_events points h.1 }

  pub passed-sized : Sized points marks → sized points marks ≡ Ok tt
  unfolding sized missized
  passed-sized s = rw (eq-eqb points marks s.equal, le-ltb max_events points s.few)

  pub sized-passed : sized points marks ≡ Ok tt → Sized points marks
  unfolding sized
  sized-passed = by (missized points marks) refl
    where
      by : (t : Bool) → missized points marks ≡ t → cond t (Err size_refusal) passed ≡ Ok tt → Sized points marks
      by true m e = absurd (not-both _ _ e refl)
      by false m e = well-sized m

  pub sized-refused : (x : Refusal) → sized points marks ≡ Err x → (missized points marks ≡ true) × (x ≡ size_refusal)
  unfolding sized
  sized-refused x = by (missized points marks) refl
    where
      by : (t : Bool) → missized points marks ≡ t → cond t (Err size_refusal) passed ≡ Err x → (missized points marks ≡ true) × (x ≡ size_refusal)
      by true m e = (m, cc)
      by false m e = absurd (not-both _ _ refl e)

-- ---- 2 and 4 over a list, for any kind of coordinate

module _ {P : Type 0} (C : Coordinates P) (row : ℕ → Event P) (n : ℕ) where
  -- each record of the list is sound
  abbrev pub Each : List ℕ → Type 0
  Each rs = (k : ℕ) → k < length rs → Sound C row n (get_or rs k 0)

  pub checked-passed : (rs : List ℕ) → checked C row n rs ≡ Ok tt → Each rs
  unfolding checked
  checked-passed rs e k l =
      let h = both-passed (told Reason.Coordinate (unfit_at C row n) rs) (told Reason.Link (mistaken C row n) rs) e in
      sound C row n (get_or rs k 0) (none-struck Reason.Coordinate (unfit_at C row n) rs h.0 k l) (none-struck Reason.Link (mistaken C row n) rs h.1 k l)

  pub passed-checked : (rs : List ℕ) → Each rs → checked C row n rs ≡ Ok tt
  unfolding checked
  passed-checked rs h =
      passed-both (told Reason.Coordinate (unfit_at C row n) rs) (told Reason.Link (mistaken C row n) rs)
      (told-passed Reason.Coordinate (unfit_at C row n) rs (λ k l. sound-fit C row n (get_or rs k 0) (h k l)))
      (told-passed Reason.Link (mistaken C row n) rs (λ k l. sound-not-mistaken C row n (get_or rs k 0) (h k l)))

  -- refused: by 2 at the first record that it strikes, or, where it strikes none, by 4
  pub checked_refused : (rs : List ℕ) (x : Refusal) → checked C row n rs ≡ Err x → Struck Reason.Coordinate (unfit_at C row n) rs x ⊎ (None (unfit_at C row n) rs × Struck Reason.Link (mistaken C row n) rs x)
  unfolding checked
  checked_refused rs x e =
      ⊎_elim
      (λ q. inl (told-refused Reason.Coordinate (unfit_at C row n) rs x q))
      (λ q. inr (none-struck Reason.Coordinate (unfit_at C row n) rs q.0, told-refused Reason.Link (mistaken C row n) rs x q.1))
      (either-refused (told Reason.Coordinate (unfit_at C row n) rs) (told Reason.Link (mistaken C row n) rs) x e)
