-- The first end of an arranged edge is its left end, because its corners are in order by the places of their numbers, and these by value.
use mathlib.Core.Path.{◌≡◌, refl, ◌∙◌}
use mathlib.Core.Bool.{Bool, true, false, not, cond, ◌&&◌, false≢true}
use mathlib.Core.List.{List, [], ◌∷◌}
use Prim.Native.Nat.{ℕ, ◌<◌}
use native.Mathlib.Decide.{dec_lt}
use native.Mathlib.Omega.{arith}
use borrow.Author.Tests.{leb-true, eqb-false, lt-ltb, le-ltb, eq-eqb}
use lib.Dec.{ltb, eqb}
use Rattle.numbers.specs.declared.Point.{Point}
use Rattle.numbers.specs.Words.{unsigned_word}
use Rattle.events.specs.Coordinates.{same, ahead}
use Rattle.events.specs.Binary64.{at_binary64, as_loaded}
use Rattle.contours.proofs.Lists.{All, all_map, all-mem, all-perm}
use Rattle.sheet.specs.declared.edges.Edge.{Edge}
use Rattle.sheet.specs.Sheet.{Sheet, CornerFits, EdgeFits, AllFit, Fits}
use Rattle.sheet.proofs.Sheets.{describes}
use Rattle.sorting.specs.Rows.{at_most}
use Rattle.sorting.proofs.Order.{total}
use Rattle.arranging.specs.Order.{rank, corner_key}
use Rattle.arranging.specs.Arranged.{edge, from_earlier, plain, in_order, arranged}
use Rattle.arranging.specs.Earlier.{FirstIsLeft, LeftFirst}
use Rattle.arranging.proofs.Ranks.{unsigned-twice}
use Rattle.arranging.proofs.Values.{stored-in-order}
use Rattle.arranging.proofs.Plain.{loaded-fits}
use Rattle.arranging.proofs.InOrder.{fit-each, in-order-is}
use Rattle.arranging.proofs.Sheets.{either-layer}
use Rattle.arranging.proofs.Earlier.{first_more, first-same}

-- ---- of two pairs of numbers that differ, the one that is at most the other is less

module _ (a b c d : ℕ) where
  strictly : at_most (a ∷ b ∷ []) (c ∷ d ∷ []) ≡ true → (eqb a c && eqb b d) ≡ false → cond (ltb a c) true (cond (ltb c a) false (ltb b d)) ≡ true
  strictly h n = go (dec_lt a c) (dec_lt c a)
    where
      go : Dec (a < c) → Dec (c < a) → cond (ltb a c) true (cond (ltb c a) false (ltb b d)) ≡ true
      go (yes l) m = rw (lt-ltb a c l)
      go (no l) (yes m) = absurd (false≢true (first_more a b c d m ∙ h))
      go (no l) (no m) =
          let most = leb-true b d (first-same a b c d (omega arith) (omega arith) ∙ h) in
          let other : eqb b d ≡ false = rw (eq-eqb a c (omega arith)) at n in
          let differ = eqb-false b d other in
          rw (le-ltb a c (omega arith), le-ltb c a (omega arith), lt-ltb b d (omega arith))

-- ---- two ends in order

both : (a b : Bool) → (not a && not b) ≡ true → (a ≡ false) × (b ≡ false)
both true b h = absurd (false≢true h)
both false true h = absurd (false≢true h)
both false false h = (refl, refl)

left-first : (ring : ℕ) (p q : Point) → CornerFits p → CornerFits q → at_most (corner_key (as_loaded p)) (corner_key (as_loaded q)) ≡ true → FirstIsLeft (edge ring p q)
unfolding corner_key as_loaded same ahead at_binary64
left-first ring p q h k l loads =
    let i = both _ _ loads.from in
    let j = both _ _ loads.to in
    let x = stored-in-order p.x q.x h.x k.x i.0 j.0 in
    let back = stored-in-order q.x p.x k.x h.x j.0 i.0 in
    let y = stored-in-order p.y q.y h.y k.y i.1 j.1 in
    let apart : (eqb (rank (unsigned_word p.x)) (rank (unsigned_word q.x)) && eqb (rank (unsigned_word p.y)) (rank (unsigned_word q.y))) ≡ false = rw (x.equal, y.equal) at loads.apart in
    rw (x.less, back.less, y.less) (strictly (rank (unsigned_word p.x)) (rank (unsigned_word p.y)) (rank (unsigned_word q.x)) (rank (unsigned_word q.y)) l apart)

loaded-twice : (p : Point) → as_loaded (as_loaded p) ≡ as_loaded p
unfolding as_loaded
loaded-twice p = rw (unsigned-twice p.x, unsigned-twice p.y)

-- ---- an edge, a layer, a sheet

from-left : (ring : ℕ) (p q : Point) → CornerFits p → CornerFits q → as_loaded p ≡ p → as_loaded q ≡ q → FirstIsLeft (from_earlier ring p q)
unfolding from_earlier
from-left ring p q h k s t = go (at_most (corner_key p) (corner_key q)) refl
  where
    go : (b : Bool) → at_most (corner_key p) (corner_key q) ≡ b → FirstIsLeft (cond b (edge ring p q) (edge ring q p))
    go true e = left-first ring p q h k (rw (s, t) e)
    go false e = left-first ring q p k h (rw (s, t) (total (corner_key p) (corner_key q) e))

pub plain-left : (e : Edge) → EdgeFits e → FirstIsLeft (plain e)
unfolding plain
plain-left e h =
    from-left e.ring (as_loaded e.from) (as_loaded e.to) (loaded-fits e.from h.from) (loaded-fits e.to h.to)
    (loaded-twice e.from) (loaded-twice e.to)

layer-left : (l : List Edge) → AllFit l → All FirstIsLeft (in_order l)
layer-left l h = all-perm FirstIsLeft (in-order-is l) (all_map plain EdgeFits FirstIsLeft plain-left l (fit-each l h))

abbrev BothLeft : Sheet → Type 0
BothLeft s = All FirstIsLeft s.subject × All FirstIsLeft s.clip

sheet-left : (s : Sheet) → Fits s → BothLeft (arranged s)
unfolding arranged
sheet-left s h =
    let p = layer-left s.subject h.subject in
    let q = layer-left s.clip h.clip in
    either-layer BothLeft s.operation (in_order s.subject) (in_order s.clip) (p, q) (λ e. (q, p))

pub left-ends-first : LeftFirst
left-ends-first =
    record {
      subject = λ b s r e m. all-mem FirstIsLeft (arranged s).subject e (sheet-left s (describes b s r).1).0 m;
      clip = λ b s r e m. all-mem FirstIsLeft (arranged s).clip e (sheet-left s (describes b s r).1).1 m;
    }
