-- A division writes two new records, and stores over its two ends records that differ from them in partner and flag alone.
use Rattle.std.proofs.Common.{Ok}
use mathlib.Core.Path.{◌≡◌, refl, sym, ap, ◌∙◌, subst}
use mathlib.Core.Logic.{◌≢◌}
use mathlib.Core.Bool.{Bool, true, false, not, cond, true≢false}
use mathlib.Core.List.{[], ◌∷◌}
use Prim.Native.Nat.{ℕ, ◌+◌, ◌<◌}
use native.Mathlib.Omega.{arith}
use Rattle.numbers.specs.declared.Point.{Point}
use Rattle.events.specs.Binary64.{at_binary64}
use Rattle.events.specs.Event.{Event}
use Rattle.events.specs.Store.{look}
use Rattle.events.specs.Pool.{Pool, stored}
use Rattle.events.specs.Lent.{among, AsLentBut}
use Rattle.events.proofs.Stored.{pool-stored}
use Rattle.events.proofs.Looks.{look_in}
use Rattle.events.proofs.Lent.{twelve, Agree, left, subject, ring, there, below, edge_type, transition, in_out, other_in_out, numbered, contour, lent-here, lent-away, lent-away-enter, lent-then, then-lent}
use Rattle.division.specs.declared.Divided.{Divided}
use Rattle.division.specs.Division.{moved, keeps, new_end, linked, parted, After, done, divide}
use Rattle.division.specs.Untouched.{Untouched}
use Rattle.division.proofs.Outcomes.{passed}
use Rattle.division.proofs.Whole.{Segment, told}
use Rattle.division.proofs.AtBinary64.{move-laws}

-- ---- what a record says with another partner, and with another flag too

partner-alone : (e : Event Point) (n k : ℕ) → k < 12 → among k (3 ∷ []) ≡ false → Agree e (linked e n e.left) k
unfolding linked
partner-alone e n = twelve (λ k. among k (3 ∷ []) ≡ false → Agree e (linked e n e.left) k) (λ h. left refl) (λ h. subject refl) (λ h. ring refl) (λ h. absurd (true≢false h)) (λ h. there refl) (λ h. below refl) (λ h. edge_type refl) (λ h. transition refl) (λ h. in_out refl) (λ h. other_in_out refl) (λ h. numbered refl) (λ h. contour refl)

flag-too : (e : Event Point) (n : ℕ) (b : Bool) (k : ℕ) → k < 12 → among k (0 ∷ 3 ∷ []) ≡ false → Agree e (linked e n b) k
unfolding linked
flag-too e n b = twelve (λ k. among k (0 ∷ 3 ∷ []) ≡ false → Agree e (linked e n b) k) (λ h. absurd (true≢false h)) (λ h. subject refl) (λ h. ring refl) (λ h. absurd (true≢false h)) (λ h. there refl) (λ h. below refl) (λ h. edge_type refl) (λ h. transition refl) (λ h. in_out refl) (λ h. other_in_out refl) (λ h. numbered refl) (λ h. contour refl)

by_flag : (e : Event Point) (n : ℕ) (keep : Bool) (k : ℕ) → k < 12 → among k (cond (not keep) (0 ∷ 3 ∷ []) (3 ∷ [])) ≡ false → Agree e (linked e n (cond keep e.left true)) k
by_flag e n true = partner-alone e n
by_flag e n false = flag-too e n true

-- ---- the four writes

module _ (s : Pool) (used i : ℕ) (e f : Event Point) (c : Point) (keep : Bool) (room : used + 1 < stored.size s) (in_use : i < used) (mate-in-use : e.partner < used)
    (apart : i ≢ e.partner) (at_i : stored.row_at s i ≡ e) (at-mate : stored.row_at s e.partner ≡ f) where
  abbrev o : ℕ
  o = e.partner

  abbrev right : Pool
  right = stored.enter s used (new_end e c false i)

  abbrev both : Pool
  both = stored.enter right (used + 1) (new_end e c keep o)

  abbrev first : Pool
  first = stored.store both i (linked e used e.left)

  entered : (r : ℕ) → r ≢ used → r ≢ used + 1 → AsLentBut [] s both r
  entered r a b = lent-then (lent-away-enter s used r _ a) (lent-away-enter right (used + 1) r _ b)

  read-after : (r : ℕ) → r ≢ used → r ≢ used + 1 → stored.row_at both r ≡ stored.row_at s r
  read-after r a b = pool-stored.away-enter right (used + 1) r _ b ∙ pool-stored.away-enter s used r _ a

  same_size : stored.size both ≡ stored.size s
  same_size = pool-stored.size-enter right (used + 1) _ ∙ pool-stored.size-enter s used _

  first-size : stored.size first ≡ stored.size s
  first-size = pool-stored.size-store both i _ ∙ same_size

  parted-lent : Untouched s (parted stored s used i e f c keep) used i o (not keep)
  unfolding parted linked
  parted-lent =
      record {
        own = then-lent (lent-then (entered i (λ h. omega arith) (λ h. omega arith)) (lent-here both i (3 ∷ []) e _ (omega (arith, same_size)) (read-after i (λ h. omega arith) (λ h. omega arith) ∙ at_i) refl (partner-alone e used))) (lent-away first o i _ apart);
        other = lent-then (lent-then (entered o (λ h. omega arith) (λ h. omega arith)) (lent-away both i o _ (λ h. apart (sym h))))
            (lent-here first o (cond (not keep) (0 ∷ 3 ∷ []) (3 ∷ [])) f _ (omega (arith, first-size)) (pool-stored.away both i o _ (λ h. apart (sym h)) ∙ read-after o (λ h. omega arith) (λ h. omega arith) ∙ at-mate) refl (by_flag f (used + 1) keep));
        rest = λ r a b x y. lent-then (lent-then (entered r a b) (lent-away both i r _ x)) (lent-away first o r _ y);
      }

-- ---- the division

module _ (s : Pool) (used i : ℕ) (p : Point) where
  abbrev row : ℕ → Event Point
  row r = look stored s used r

  pub untouched : (d : Divided) → (divide at_binary64 stored s used i p).answer ≡ Ok d → Segment row used i
      → Untouched s (divide at_binary64 stored s used i p).store used i (row i).partner d.swapped
  unfolding done
  untouched d h w =
      let g = passed at_binary64 stored s used i p d h in
      let own = w.paired.own in
      let other = w.paired.other in
      let free = g.free in
      let apart : i ≢ (row i).partner = λ e. true≢false (sym g.left ∙ ap (λ r. (row r).left) e ∙ w.right) in
      let keep = keeps at_binary64 (row i) (row (row i).partner) (moved at_binary64 (row i).point p) in
      let made = parted-lent s used i (row i) (row (row i).partner) (moved at_binary64 (row i).point p) keep (omega arith) own other apart (sym (look_in stored s used i own)) (sym (look_in stored s used (row i).partner other)) in
      let swapped : not keep ≡ d.swapped = ap (λ (t : Divided). t.swapped) (told move-laws pool-stored s used i p d h g) in
      subst (λ (b : Bool). Untouched s (divide at_binary64 stored s used i p).store used i (row i).partner b) swapped
      (subst (λ (a : After Pool). Untouched s a.store used i (row i).partner (not keep)) (sym g.is) made)
