-- A check that wants the records named left passes exactly if the one that does not passes, and each of them is left.
use Rattle.std.proofs.Common.{Ok}
use Rattle.refusals.specs.declared.Reason.TheVariants as Reason
use mathlib.Core.Path.{◌≡◌, refl, fun_ext}
use mathlib.Core.Bool.{Bool, true, false, not, ◌&&◌, ◌||◌, or-true}
use mathlib.Core.List.{List, [], ◌∷◌, map}
use Prim.Native.Nat.{ℕ, zero, suc, ◌<◌}
use native.Mathlib.Omega.{arith}
use borrow.Author.Tests.{eq-eqb, eqb-true, not-false}
use lib.Dec.{eqb}
use lib.ListN.{length, get_or}
use Rattle.events.specs.Coordinates.{Coordinates}
use Rattle.events.specs.Event.{Event}
use Rattle.checks.specs.Checks.{any, mistaken, right_among, mistaken_or_right, unfit_at, told, checked, named, checked_left}
use Rattle.checks.proofs.First.{None}
use Rattle.checks.proofs.Told.{none-struck, told-passed, both-passed, passed-both}
use Rattle.checks.proofs.Unstruck.{neither}

-- ---- which records are wanted

-- a record of the list is one of them
wanted-at : (rs : List ℕ) (k : ℕ) → k < length rs → any (map eqb rs) (get_or rs k 0) ≡ true
wanted-at [] k l = absurd (omega arith)
wanted-at (r ∷ rs) zero l = rw (eq-eqb r r refl)
wanted-at (r ∷ rs) (suc k) l = rw (wanted-at rs k (omega arith)) (or-true (eqb r (get_or rs k 0)))

or-twice : (a b : Bool) → (a || (a || b)) ≡ (a || b)
or-twice true b = refl
or-twice false b = refl

module _ {P : Type 0} (C : Coordinates P) (row : ℕ → Event P) (n : ℕ) where
  pub wanted-twice : (a : ℕ) → mistaken_or_right C row n (a ∷ a ∷ []) ≡ mistaken_or_right C row n (a ∷ [])
  unfolding mistaken_or_right right_among
  wanted-twice a = fun_ext (λ r. rw (or-twice (eqb a r) false))

  -- ---- what passing says of them

  -- each record of the list is left
  abbrev pub EachLeft : List ℕ → Type 0
  EachLeft rs = (k : ℕ) → k < length rs → (row (get_or rs k 0)).left ≡ true

  not_right : (rs : List ℕ) → EachLeft rs → (r : ℕ) → right_among row rs r ≡ false
  unfolding right_among
  not_right [] h r = refl
  not_right (a ∷ rs) h r = by (eqb a r) refl (not_right rs (λ k l. h (suc k) (omega arith)) r)
    where
      by : (t : Bool) → eqb a r ≡ t → (any (map eqb rs) r && not (row r).left) ≡ false → ((t || any (map eqb rs) r) && not (row r).left) ≡ false
      by true e rest = let left : (row r).left ≡ true = rw (eqb-true a r e) at (h 0 (omega arith)) in rw left
      by false e rest = rest

  left-if-wanted : (rs : List ℕ) (r : ℕ) → any (map eqb rs) r ≡ true → right_among row rs r ≡ false → (row r).left ≡ true
  unfolding right_among
  left-if-wanted rs r w e = not-false _ (rw w at e)

  -- a test that strikes none of the records named and their partners strikes none of those named
  none_named : (test : ℕ → Bool) (rs : List ℕ) → None test (named row n rs) → None test rs
  unfolding named
  none_named test [] h k l = absurd (omega arith)
  none_named test (r ∷ rs) h zero l = h 0 (omega arith)
  none_named test (r ∷ rs) h (suc k) l = none_named test rs (λ j m. h (suc (suc j)) (omega arith)) k (omega arith)

  module _ (rs : List ℕ) where
    both-tests : (r : ℕ) → mistaken_or_right C row n rs r ≡ false → (mistaken C row n r ≡ false) × (right_among row rs r ≡ false)
    unfolding mistaken_or_right
    both-tests r e = neither _ _ e

    neither-test : (r : ℕ) → mistaken C row n r ≡ false → right_among row rs r ≡ false → mistaken_or_right C row n rs r ≡ false
    unfolding mistaken_or_right
    neither-test r m t = rw (m, t)

    pub left_passed : checked_left C row n rs ≡ Ok tt → (checked C row n (named row n rs) ≡ Ok tt) × EachLeft rs
    unfolding checked_left checked
    left_passed e =
        let ns = named row n rs in
        let test = mistaken_or_right C row n rs in
        let h = both-passed (told Reason.Coordinate (unfit_at C row n) ns) (told Reason.Link test ns) e in
        let none = none-struck Reason.Link test ns h.1 in
        let mistakes = told-passed Reason.Link (mistaken C row n) ns (λ k l. (both-tests (get_or ns k 0) (none k l)).0) in
        let right : None (right_among row rs) rs = λ k l. (both-tests (get_or rs k 0) (none_named test rs none k l)).1 in
        (passed-both _ _ h.0 mistakes, λ k l. left-if-wanted rs (get_or rs k 0) (wanted-at rs k l) (right k l))

    pub passed-left : checked C row n (named row n rs) ≡ Ok tt → EachLeft rs → checked_left C row n rs ≡ Ok tt
    unfolding checked_left checked
    passed-left e lefts =
        let ns = named row n rs in
        let h = both-passed (told Reason.Coordinate (unfit_at C row n) ns) (told Reason.Link (mistaken C row n) ns) e in
        let none = none-struck Reason.Link (mistaken C row n) ns h.1 in
        passed-both _ _ h.0 (told-passed Reason.Link (mistaken_or_right C row n rs) ns (λ k l. neither-test (get_or ns k 0) (none k l) (not_right rs lefts (get_or ns k 0))))
