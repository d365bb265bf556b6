-- A division that is done, told whole: the answer gives both new numbers and says what was done, four records are new or changed and all others as
-- before, partners are mutual again, and the four ends lie on their proper sides. Each part is a law of its own; here they meet at one division.
use Rattle.std.proofs.Common.{Ok}
use mathlib.Core.Path.{◌≡◌, refl, sym, ap, ◌∙◌, subst}
use mathlib.Core.Logic.{◌≢◌}
use mathlib.Core.Bool.{Bool, false, not, not-not, true≢false}
use Prim.Native.Nat.{ℕ, ◌+◌}
use native.Mathlib.Omega.{arith}
use Rattle.events.specs.Coordinates.{Coordinates}
use Rattle.events.specs.Event.{Event}
use Rattle.events.specs.Store.{Store, look}
use Rattle.events.proofs.Stored.{Stored}
use Rattle.division.specs.declared.Divided.{Divided}
use Rattle.division.specs.Division.{moves, moved, keeps, After, parted, done, divide}
use Rattle.division.specs.Records.{Parted, Paired}
use Rattle.division.proofs.Records.{every-record}
use Rattle.division.proofs.Pairs.{right-paired, left-paired, still-paired}
use Rattle.division.proofs.Outcomes.{Passed, passed}
use Rattle.division.proofs.Sides.{MoveLaws, Sides, sides, cut-after, cut-aside}

-- a segment that refusal 4 passes: its ends name each other, and the second is a right end
pub record Segment {P : Type 0} (row : ℕ → Event P) (n i : ℕ) : Type 0 where
  pub paired : Paired row n i
  pub right : (row (row i).partner).left ≡ false

-- row' reads the records after the division of row's segment i at the cut c, which move says was moved
pub record Whole {P : Type 0} (C : Coordinates P) (row row' : ℕ → Event P) (n i : ℕ) (c : P) (move : Bool) (d : Divided) : Type 0 where
  pub right : d.right ≡ n
  pub left : d.left ≡ n + 1
  pub move-told : d.moved ≡ move
  pub records : Parted row row' n i c (not d.swapped)
  pub new-right : Paired row' (n + 2) n
  pub new-left : Paired row' (n + 2) (n + 1)
  pub still : (r : ℕ) → Paired row n r → Paired row' (n + 2) r
  pub on_sides : Sides C row' i n (n + 1) (row i).partner

module _ {P S : Type 0} {C : Coordinates P} {K : Store P S} (M : MoveLaws C) (L : Stored K) (s : S) (used i : ℕ) (p : P) where
  abbrev row : ℕ → Event P
  row r = look K s used r

  abbrev o : ℕ
  o = (row i).partner

  abbrev c : P
  c = moved C (row i).point p

  abbrev keep : Bool
  keep = keeps C (row i) (row o) c

  abbrev after : After S
  after = divide C K s used i p

  abbrev tells : Divided
  tells = record { right = used; left = used + 1; moved = moves C (row i).point p; swapped = not keep }

  pub told : (d : Divided) → after.answer ≡ Ok d → Passed C K s used i p → tells ≡ d
  unfolding done
  told d h g = let same : Ok tells ≡ Ok d = sym (ap (λ a. a.answer) g.is) ∙ h in cc

  parts : Passed C K s used i p → Segment row used i → Whole C row (look K (parted K s used i (row i) (row o) c keep) (used + 2)) used i c (moves C (row i).point p) tells
  parts g w =
      let apart : i ≢ o = λ e. true≢false (sym g.left ∙ ap (λ r. (row r).left) e ∙ w.right) in
      let free = g.free in
      let pair = w.paired in
      let all = every-record L s used i c keep (omega arith) pair.own pair.other apart in
      record {
        right = refl;
        left = refl;
        move-told = refl;
        records = rw (not-not keep) all;
        new-right = right-paired all pair;
        new-left = left-paired all pair;
        still = still-paired all pair;
        on_sides = sides C all g.left w.right (cut-after M (row i).point (row o).point p g.hits) (cut-aside M (row i) (row o) c g.hits);
      }

  pub whole : (d : Divided) → after.answer ≡ Ok d → Segment row used i → Whole C row (look K after.store after.used) used i c (moves C (row i).point p) d
  unfolding done
  whole d h w =
      let g = passed C K s used i p d h in
      let made = subst (λ (a : After S). Whole C row (look K a.store a.used) used i c (moves C (row i).point p) tells) (sym g.is) (parts g w) in
      subst (λ (t : Divided). Whole C row (look K after.store after.used) used i c (moves C (row i).point p) t) (told d h g) made
