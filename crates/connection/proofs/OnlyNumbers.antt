-- A contour number is stored over the record that is there, which says nothing else anew: done, stopped by 9 or refused, no other number of the pool moves.
use Rattle.std.proofs.Common.{Err, Ok, Option}
use Rattle.refusals.specs.Refusals.{Verdict}
use mathlib.Core.Path.{◌≡◌, refl, sym, ap, ◌∙◌, subst}
use mathlib.Core.Bool.{Bool, true, false}
use mathlib.Core.List.{List, [], ◌∷◌}
use Prim.Native.Nat.{ℕ, zero, suc, ◌<◌, ◌≤◌}
use native.Mathlib.Omega.{arith}
use native.Mathlib.Decide.{ℕ_discrete}
use borrow.Author.Tests.{ltb-true, ltb-false}
use lib.Dec.{ltb}
use lib.ListN.{length}
use Rattle.numbers.specs.declared.Point.{Point}
use Rattle.events.specs.Binary64.{at_binary64}
use Rattle.events.specs.Event.{Event}
use Rattle.events.specs.Pool.{Pool, row_at, stored}
use Rattle.events.specs.Lent.{among, AsLentBut}
use Rattle.events.proofs.Stored.{pool-stored}
use Rattle.events.proofs.Lent.{twelve, Agree, left, subject, ring, partner, there, below, edge_type, transition, in_out, other_in_out, numbered, contour, lent-here, lent-away, lent_same, lent-then, then-lent}
use Rattle.contours.specs.Result.{ordered}
use Rattle.contours.specs.Contours.{Answer, done, halted}
use Rattle.contours.specs.Accept.{accept}
use Rattle.contours.specs.Connect.{with_contour, settle, settled, number_in, finished, outcome_of, traced, after_checks, connect}
use Rattle.contours.specs.OnPool.{connect_pool}
use Rattle.numbering.proofs.TwoMarks.{contour-alone}
use Rattle.contours.proofs.Settled.{settled_on, settled-row, settled-size}
use Rattle.connection.specs.Connection.{Lent, room_of, after, connect_edges}
use Rattle.connection.specs.OnlyNumbers.{OnlyNumbers}

-- ---- what a record says with a contour number

-- its own
nothing : {P : Type 0} (e : Event P) (l : Option ℕ) → e.contour ≡ l → (k : ℕ) → k < 12 → among k [] ≡ false → Agree e (with_contour l e) k
unfolding with_contour
nothing e l q = twelve (λ k. among k [] ≡ false → Agree e (with_contour l e) k) (λ h. left refl) (λ h. subject refl) (λ h. ring refl) (λ h. partner refl) (λ h. there refl) (λ h. below refl) (λ h. edge_type refl) (λ h. transition refl) (λ h. in_out refl) (λ h. other_in_out refl) (λ h. numbered q) (λ h. contour q)

-- ---- all records settled

-- a record has these marks as lent where they say the same of it with its number
abbrev Saying : (number : ℕ → Option ℕ) → Pool → List ℕ → ℕ → Type 0
Saying number s ks r = (k : ℕ) → k < 12 → among k ks ≡ false → Agree (stored.row_at s r) (with_contour (number r) (stored.row_at s r)) k

module _ (number : ℕ → Option ℕ) (s : Pool) where
  abbrev to : ℕ → Pool
  to k = settled stored number k s

  not_yet : (k r : ℕ) → k ≤ r → AsLentBut [] s (to k) r
  unfolding settled settle
  not_yet zero r h = lent_same [] s r
  not_yet (suc k) r h = lent-then (not_yet k r (omega arith)) (lent-away (to k) k r _ (λ q. omega arith))

  one : (ks : List ℕ) (k : ℕ) → k < stored.size s → Saying number s ks k → AsLentBut ks s (settle stored (to k) k (number k)) k
  unfolding settle with_contour
  one ks k h a =
      let read : stored.row_at (to k) k ≡ stored.row_at s k = settled_on stored pool-stored number s k k (omega arith) in
      let size = settled-size stored pool-stored number s k in
      lent-then (not_yet k k (omega arith))
      (lent-here (to k) k ks (stored.row_at (to k) k) _ (omega (arith, size)) refl refl
      (subst (λ (e : Event Point). (m : ℕ) → m < 12 → among m ks ≡ false → Agree e (with_contour (number k) e) m) (sym read) a))

  reached : (ks : List ℕ) (k r : ℕ) → k ≤ stored.size s → r < k → Saying number s ks r → AsLentBut ks s (to k) r
  unfolding settled settle
  reached ks zero r h l a = absurd (omega arith)
  reached ks (suc k) r h l a = go (ℕ_discrete r k) (λ m. reached ks k r (omega arith) m a)
    where
      go : Dec (r ≡ k) → (r < k → AsLentBut ks s (to k) r) → AsLentBut ks s (settle stored (to k) k (number k)) r
      go (yes q) f = subst (AsLentBut ks s (settle stored (to k) k (number k))) (sym q) (one ks k (omega arith) (subst (Saying number s ks) q a))
      go (no q) f = then-lent (f (omega arith)) (lent-away (to k) k r _ q)

  -- every record of the pool; beyond it nothing is written
  all : (ks : List ℕ) (r : ℕ) → (r < stored.size s → Saying number s ks r) → AsLentBut ks s (to (stored.size s)) r
  all ks r a = go (ltb r (stored.size s)) refl
    where
      go : (t : Bool) → ltb r (stored.size s) ≡ t → AsLentBut ks s (to (stored.size s)) r
      go true e = let l = ltb-true r (stored.size s) e in reached ks (stored.size s) r (omega arith) l (a l)
      go false e = lent-then (not_yet (stored.size s) r (ltb-false r (stored.size s) e)) (lent_same ks _ r)

  -- a contour that is the one it had
  kept : (r : ℕ) → r < stored.size s → (stored.row_at (to (stored.size s)) r).contour ≡ (stored.row_at s r).contour → (stored.row_at s r).contour ≡ number r
  unfolding with_contour
  kept r l e = sym e ∙ ap (λ (x : Event Point). x.contour) (settled-row stored pool-stored number s (stored.size s) r (omega arith) l)

  pub settled_only : OnlyNumbers s (to (stored.size s))
  unfolding stored
  settled_only =
      record {
        rest = λ r. all (10 ∷ 11 ∷ []) r (λ l. contour-alone (row_at s r) (number r));
        same = λ r e. all [] r (λ l. nothing (row_at s r) (number r) (kept r l e));
      }

-- ---- the call

same-pool : (p : Pool) → OnlyNumbers p p
same-pool p = record { rest = λ r. lent_same (10 ∷ 11 ∷ []) p r; same = λ r e. lent_same [] p r }

pub only-numbers : (p : Pool) (list : List ℕ) (l : Lent) → OnlyNumbers p (connect_edges p list l).pool
unfolding connect_edges connect_pool connect after_checks outcome_of after finished
only-numbers p list l = go (accept at_binary64 (stored.row_at p) (stored.size p) (length p.points) (length p.marks) list (room_of l))
  where
    by : (a : Answer) → OnlyNumbers p (after (outcome_of at_binary64 stored p list a) p l).pool
    by (done ms cs) = settled_only (number_in (ordered (stored.row_at p) at_binary64 list) ms) p
    by (halted number i ms cs) = settled_only (number_in (ordered (stored.row_at p) at_binary64 list) ms) p

    go : (x : Verdict) → OnlyNumbers p (after (after_checks at_binary64 stored p list x) p l).pool
    go (Ok _) = by (traced at_binary64 stored p list)
    go (Err r) = same-pool p
