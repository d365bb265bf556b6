-- A sweep of accepted records asks for crossings of fit points alone: two crossings that tell the same of those make the same sweep. So where none of fit
-- points is lost, whatever stood for Lost would change nothing.
use mathlib.Core.Path.{◌≡◌}
use mathlib.Core.Bool.{true}
use Prim.Native.Nat.{ℕ, suc}
use Rattle.events.specs.Coordinates.{Coordinates, Crossing}
use Rattle.events.specs.Store.{Store}
use Rattle.events.proofs.Stored.{Stored}
use Rattle.events.proofs.Looks.{Blanks}
use Rattle.class.specs.declared.Operation.{Operation}
use Rattle.division.proofs.Sides.{MoveLaws}
use Rattle.neighbours.proofs.Invariants.{numbers_in_use, Agrees}
use Rattle.sweep.specs.Bounds.{past}
use Rattle.sweep.specs.Run.{subdivide}
use Rattle.sweep.specs.Lined.{Good}
use Rattle.sweep.proofs.Kept.{keeping_start, same-run}
use Rattle.sweep.proofs.Good.{sound, sound-kept}

-- the same of any four fit points
abbrev pub SameOfFit : {P : Type 0} → Coordinates P → (crossing crossing' : Crossing P) → Type 0
SameOfFit {P} C crossing crossing' =
    (p q p' q' : P) → C.fit p ≡ true → C.fit q ≡ true → C.fit p' ≡ true → C.fit q' ≡ true → crossing' p q p' q' ≡ crossing p q p' q'

module _ {P S : Type 0} {C : Coordinates P} {K : Store P S} (M : MoveLaws C) (st : Stored K) (bl : Blanks K) (crossing crossing' : Crossing P) (h : SameOfFit C crossing crossing') where
  at-hand : Agrees (sound M st bl) C K crossing crossing'
  unfolding sound numbers_in_use
  at-hand n s a b g x y =
      let own = g.sound a x in
      let other = g.sound b y in
      h _ _ _ _ own.fit (g.sound _ own.paired.other).fit other.fit (g.sound _ other.paired.other).fit

  pub same-sweep : (op : Operation) (s : S) (n : ℕ) → Good C K s n → subdivide C K crossing' op s n ≡ subdivide C K crossing op s n
  unfolding subdivide sound numbers_in_use
  same-sweep op s n g =
      same-run (sound M st bl) (sound-kept M st bl crossing) op (past C op (K.row_at s) n) crossing' at-hand (λ m e l. l) (suc (K.size s)) _ (keeping_start (sound M st bl) s (K.size s) n g)
