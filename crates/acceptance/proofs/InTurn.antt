-- 2, 4, 8 and 5 in turn: the first that is refused is told, and each is asked only where those before it passed.
use mathlib.Core.Path.{◌≡◌}
use Rattle.refusals.specs.Refusals.{Verdict}
use mathlib.Core.Bool.{Bool, true, false}
use mathlib.Core.List.{List}
use Prim.Native.Nat.{ℕ}
use Rattle.events.specs.Pool.{Pool}
use Rattle.acceptance.specs.declared.flaws.Flaw.{Flaw}
use Rattle.acceptance.specs.declared.flaws.Flaw.TheVariants.{Misplaced, HalfListed}
use Rattle.acceptance.specs.OnPool.{is_refused, told_unfit, told_flaw, told_room, accept_seen}
use Rattle.acceptance.proofs.Chain.{refuses, passes, later}

module _ (p : Pool) (seen list : List ℕ) (corners contours holes : ℕ) where
  abbrev told : Flaw → Verdict
  told = told_flaw p seen list

  abbrev accepted : Verdict
  accepted = accept_seen p seen list corners contours holes

  module _ {x : Verdict} {t : Bool} (unfit : x ≡ told_unfit p list) (tested : t ≡ is_refused x) where
    pub unfit-told : t ≡ true → x ≡ accepted
    unfolding accept_seen
    unfit-told e = refuses _ unfit tested _ e

    module _ (fit : t ≡ false) {y : Verdict} {u : Bool} (misplaced : y ≡ told Misplaced) (tested₂ : u ≡ is_refused y) where
      pub misplaced-told : u ≡ true → y ≡ accepted
      unfolding accept_seen
      misplaced-told e = later (passes _ unfit tested fit) (refuses _ misplaced tested₂ _ e)

      module _ (linked : u ≡ false) {z : Verdict} {w : Bool} (half : z ≡ told HalfListed) (tested₃ : w ≡ is_refused z) where
        pub half-told : w ≡ true → z ≡ accepted
        unfolding accept_seen
        half-told e = later (passes _ unfit tested fit) (later (passes _ misplaced tested₂ linked) (refuses _ half tested₃ _ e))

        pub room-told : w ≡ false → {answer : Verdict} → answer ≡ told_room p list corners contours holes → answer ≡ accepted
        unfolding accept_seen
        room-told whole e =
            later (passes _ unfit tested fit) (later (passes _ misplaced tested₂ linked) (later (passes _ half tested₃ whole) e))
