-- Binary64 and the lent pool satisfy what the laws of division ask: a word that equals x by value has x's next_up, which compares greater than x and,
-- where refusal 2 passes it, is read from its word again.
use Rattle.std.proofs.Common.{Ok}
use mathlib.Core.Path.{◌≡◌, refl}
use mathlib.Core.Bool.{true, false, true≢false}
use Prim.Native.Nat.{ℕ}
use borrow.Author.Tests.{not-true}
use lib.Ieee.{Float, nan, inf, fin, binary64, lt, le, eq, neg, fits, of_bits, to_bits}
use lib.Ieee.Bits.{of_bits-to_bits, of_bits-fits}
use Rattle.numbers.specs.Binary64.{Finite, Held, not_finite, unfit}
use Rattle.numbers.specs.declared.Point.{Point}
use Rattle.numbers.specs.Next.{next_pattern, next_up}
use Rattle.numbers.specs.Words.{value, unfit_word}
use Rattle.numbers.proofs.Next.{above}
use Rattle.numbers.proofs.NextSame.{next-same}
use Rattle.numbers.proofs.Units.{fit-finite}
use Rattle.numbers.proofs.Values.{value-finite, value-word}
use Rattle.events.specs.Binary64.{at_binary64}
use Rattle.events.specs.Store.{look}
use Rattle.events.specs.Pool.{Pool, stored}
use Rattle.events.proofs.Stored.{pool-stored}
use Rattle.order.proofs.AtBinary64.{laws}
use Rattle.division.specs.declared.Divided.{Divided}
use Rattle.division.specs.Division.{moves, moved, divide}
use Rattle.division.proofs.Sides.{MoveLaws, and_left}
use Rattle.division.proofs.Whole.{Segment, Whole, whole}

next-held : (x : Float) → Held x → Held (next_up x)
unfolding next_up fits neg of_bits
next-held nan h = h
next-held (inf true) h = tt
next-held (inf false) h = h
next-held (fin s m e) h = of_bits-fits binary64 (next_pattern (to_bits binary64 (fin s m e)))

-- a step that refusal 2 passes is taken from a finite number
stepped : (x : Float) → Held x → unfit (next_up x) ≡ false → Finite x
unfolding next_up unfit not_finite lt le eq neg of_bits
stepped nan h u = absurd (true≢false u)
stepped (inf true) h u = absurd (true≢false u)
stepped (inf false) h u = absurd (true≢false u)
stepped (fin s m e) h u = record { held = h; finite = refl }

-- by the word's value, which is then the number itself
step-finite : (w : ℕ) → unfit_word (to_bits binary64 (next_up (of_bits binary64 w))) ≡ false → (value w ≡ of_bits binary64 w) × Finite (next_up (value w))
unfolding unfit_word value
step-finite w k =
    let x = of_bits binary64 w in
    let held = next-held x (of_bits-fits binary64 w) in
    let fit = rw (of_bits-to_bits binary64 (next_up x) held) at k in
    let own = (stepped x (of_bits-fits binary64 w) fit).finite in
    rw own (refl, fit-finite (next_up x) held fit)

further : (l p : Point) → at_binary64.fit (at_binary64.next_x p) ≡ true → at_binary64.same_x p l ≡ true → at_binary64.less_x l (at_binary64.next_x p) ≡ true
unfolding at_binary64
further l p k e =
    let step = step-finite p.x (not-true _ (and_left _ _ k)) in
    let one = next-same (value p.x) (value l.x) (value-finite l.x) e in
    rw (← step.0, value-word (next_up (value p.x)) step.1, one) (above (value l.x) (value-finite l.x) (rw one at step.1))

pub move-laws : MoveLaws at_binary64
unfolding laws
move-laws = record { order = laws; further = further }

-- the code's division, told whole
pub whole-pool : (s : Pool) (used i : ℕ) (p : Point) (d : Divided) → (divide at_binary64 stored s used i p).answer ≡ Ok d → Segment (look stored s used) used i
    → Whole at_binary64 (look stored s used) (look stored (divide at_binary64 stored s used i p).store (divide at_binary64 stored s used i p).used) used i
    (moved at_binary64 (look stored s used i).point p) (moves at_binary64 (look stored s used i).point p) d
whole-pool s used i p = whole move-laws pool-stored s used i p
