-- Where two segments cross, each is cut by its own rule: a cut changes no record of the other segment, so that the second is cut as if it were alone.
use Rattle.division.specs.declared.Divided.{Divided}
use Rattle.std.proofs.Common.{Err, Ok, Result}
use Rattle.refusals.specs.declared.Refusal.{Refusal}
use mathlib.Core.Path.{◌≡◌, refl, sym, ap, ap₂, ◌∙◌}
use mathlib.Core.Logic.{◌≢◌}
use mathlib.Core.Bool.{Bool, true, false, cond, true≢false}
use Prim.Native.Nat.{ℕ, ◌+◌, ◌<◌}
use native.Mathlib.Omega.{arith}
use Rattle.events.specs.Coordinates.{Coordinates, Cross, point, Crossing}
use Rattle.events.specs.Event.{Event}
use Rattle.events.specs.Store.{Store, look}
use Rattle.events.proofs.Stored.{Stored}
use Rattle.division.specs.Division.{moved, new_end, linked, keeps, done, divide}
use Rattle.division.specs.Records.{Parted, Paired}
use Rattle.division.proofs.Records.{every-record}
use Rattle.division.proofs.Pairs.{left-paired, aside, still-paired}
use Rattle.division.proofs.Outcomes.{passed}
use Rattle.neighbours.specs.Step.{Step, stop_of, cut, cut_unless}
use Rattle.neighbours.specs.Neighbours.{Meeting, ended, at_end, crossed, meet}
use Rattle.neighbours.specs.Pairs.{LeftEnd, ends_at, CutAt, EachCut}
use Rattle.neighbours.proofs.Likeness.{crossing_of}
use Rattle.neighbours.proofs.Codes.{stopped, went_on, went, Came, at-point, one_left, another, came}

-- ---- one cut, record by record

-- the segment of i was cut at c
pub record Halved {P S : Type 0} (K : Store P S) (s : S) (used i : ℕ) (c : P) (after : Step S) : Type 0 where
  pub keep : Bool
  pub more : after.used ≡ used + 2
  pub parts : Parted (look K s used) (look K after.store after.used) used i c keep

module _ {P S : Type 0} (C : Coordinates P) {K : Store P S} (L : Stored K) (s : S) (used i : ℕ) (p : P) where
  abbrev row : ℕ → Event P
  row r = look K s used r

  pub halved : LeftEnd row used i → (cut C K s used i p).stop ≡ Ok tt → Halved K s used i (moved C (row i).point p) (cut C K s used i p)
  unfolding cut stop_of done
  halved w h = go (divide C K s used i p).answer refl h
    where
      go : (a : Result Divided Refusal) → (divide C K s used i p).answer ≡ a → stop_of a ≡ Ok tt → Halved K s used i (moved C (row i).point p) (cut C K s used i p)
      go (Err r) e h = absurd (stopped r _ refl h)
      go (Ok d) e h =
          let g = passed C K s used i p d e in
          let free = g.free in
          let apart : i ≢ (row i).partner = λ k. true≢false (sym w.left ∙ ap (λ r. (row r).left) k ∙ w.right) in
          let all = every-record L s used i (moved C (row i).point p) (keeps C (row i) (row (row i).partner) (moved C (row i).point p)) (omega arith) w.paired.own w.paired.other apart in
          rw g.is (record { keep = _; more = refl; parts = all })

-- ---- a cut that may be left out

-- what it makes of the segment of r, and that another is as before
record Alone {P : Type 0} (row row' : ℕ → Event P) (n n' r : ℕ) (whole : Bool) (c : P) : Type 0 where
  pub end : (row' (row' r).partner).point ≡ cond whole (row (row r).partner).point c
  pub half : whole ≡ false → ((row' ((row' r).partner + 1)).point ≡ c) × Paired row' n' ((row' r).partner + 1) × ((row' r).partner ≡ n)
  pub others : (q : ℕ) → Paired row n q → q ≢ r → q ≢ (row r).partner → (row' q ≡ row q) × (row' (row q).partner ≡ row (row q).partner)
  pub pairs : (q : ℕ) → Paired row n q → Paired row' n' q

parted-alone : {P : Type 0} (row row' : ℕ → Event P) (n n' r : ℕ) (c : P) (keep : Bool) → n' ≡ n + 2 → Paired row n r → Parted row row' n r c keep → Alone row row' n n' r false c
unfolding new_end linked
parted-alone row row' n n' r c keep more w h =
    let mate : (row' r).partner ≡ n = ap (λ e. e.partner) h.own in
    record {
      end = rw mate (ap (λ e. e.point) h.right);
      half = λ z. (rw mate (ap (λ e. e.point) h.left), rw (mate, more) (left-paired h w), mate);
      others = aside h w;
      pairs = λ q x. rw more (still-paired h w q x);
    }

module _ {P S : Type 0} (C : Coordinates P) {K : Store P S} (L : Stored K) (s : S) (n r : ℕ) (p : P) where
  alone : (whole : Bool) → LeftEnd (look K s n) n r → (cut_unless C K whole s n r p).stop ≡ Ok tt
      → Alone (look K s n) (look K (cut_unless C K whole s n r p).store (cut_unless C K whole s n r p).used) n (cut_unless C K whole s n r p).used r whole (moved C (look K s n r).point p)
  unfolding cut_unless
  alone true w h = record { end = refl; half = λ z. absurd (true≢false z); others = λ q x y z. (refl, refl); pairs = λ q x. x }
  alone false w h =
      let g = halved C L s n r p w h in
      parted-alone (look K s n) _ n _ r (moved C (look K s n r).point p) g.keep g.more w.paired g.parts

-- ---- two segments

-- a left end is no right end
lefts-apart : {P : Type 0} (row : ℕ → Event P) (n a b : ℕ) → LeftEnd row n a → LeftEnd row n b → a ≢ (row b).partner
lefts-apart row n a b u v e = true≢false (sym u.left ∙ ap (λ r. (row r).left) e ∙ v.right)

-- one cut and then the other
module _ {P : Type 0} (C : Coordinates P) (row one : ℕ → Event P) (n m a b : ℕ) (p : P) (first : Alone row one n m a (ends_at C row p a) (moved C (row a).point p)) (u : LeftEnd row n a) (v : LeftEnd row n b) (apart : a ≢ b) where
  still : (one b ≡ row b) × (one (row b).partner ≡ row (row b).partner)
  still = first.others b v.paired (λ e. apart (sym e)) (lefts-apart row n b a v u)

  mate-still : one (one b).partner ≡ row (row b).partner
  mate-still = ap (λ (e : Event P). one e.partner) still.0 ∙ still.1

  second-left : LeftEnd one m b
  second-left =
      record {
        paired = first.pairs b v.paired;
        left = ap (λ (e : Event P). e.left) still.0 ∙ v.left;
        right = ap (λ (e : Event P). e.left) mate-still ∙ v.right;
      }

  module _ (two : ℕ → Event P) (k : ℕ) (second : Alone one two m k b (ends_at C row p b) (moved C (one b).point p)) where
    not-mate : (q : ℕ) → q ≢ (row b).partner → q ≢ (one b).partner
    not-mate q h e = h (e ∙ ap (λ (e : Event P). e.partner) still.0)

    kept : (two a ≡ one a) × (two (one a).partner ≡ one (one a).partner)
    kept = second.others a (first.pairs a u.paired) apart (not-mate a (lefts-apart row n a b u v))

    half-kept : (q : ℕ) → Paired one m q → n < q → two q ≡ one q
    half-kept q h l =
        let own = v.paired.own in
        let other = v.paired.other in
        (second.others q h (λ e. omega arith) (not-mate q (λ e. omega arith))).0

    first-cut : CutAt C row two p a
    first-cut =
        record {
          end = ap (λ (e : Event P). (two e.partner).point) kept.0 ∙ ap (λ (e : Event P). e.point) kept.1 ∙ first.end;
          second_half =
              λ z.
              let (at, pair, is) = first.half z in
              let l : n < (one a).partner + 1 = omega arith in
              ap (λ (e : Event P). (two (e.partner + 1)).point) kept.0 ∙ ap (λ (e : Event P). e.point) (half-kept ((one a).partner + 1) pair l) ∙ at;
        }

    second-cut : CutAt C row two p b
    second-cut =
        let moves : moved C (one b).point p ≡ moved C (row b).point p = ap (λ (e : Event P). moved C e.point p) still.0 in
        record {
          end = second.end ∙ ap₂ (cond (ends_at C row p b)) (ap (λ (e : Event P). e.point) mate-still) moves;
          second_half = λ z. (second.half z).0 ∙ moves;
        }

-- ---- the meeting

module _ {P S : Type 0} (C : Coordinates P) {K : Store P S} (L : Stored K) (crossing : Crossing P) (s : S) (used a b : ℕ) (u : LeftEnd (look K s used) used a) (v : LeftEnd (look K s used) used b) (apart : a ≢ b) where
  crossed-each : (found : Cross P) (p : P) → found ≡ point p → (crossed C K s used a b p).stop ≡ Ok tt
      → EachCut C found (look K s used) (look K (crossed C K s used a b p).store (crossed C K s used a b p).used) a b
  unfolding crossed at_end
  crossed-each found p is h =
      let on = went_on _ _ h in
      let first = alone C L s used a p (at_end C K s used a p) u on.first in
      let left = second-left C _ _ used _ a b p first u v apart in
      let second = alone C L _ _ b p (at_end C K s used b p) left (sym (ap (λ (x : Step S). x.stop) on.then) ∙ h) in
      rw on.then (record { p = p; is = is; first = first-cut C _ _ used _ a b p first u v apart _ _ second; second = second-cut C _ _ used _ a b p first u v apart _ _ second })

  -- After code 1 each segment is whole, or cut where its own left end puts the crossing.
  pub each-cut : (meet C K crossing s used a b).met ≡ Ok 1 → EachCut C (crossing_of C K crossing s used a b) (look K s used) (look K (meet C K crossing s used a b).store (meet C K crossing s used a b).used) a b
  unfolding meet ended
  each-cut h = go _ (came C K s used a b _ _ _) h
    where
      found : Cross P
      found = crossing_of C K crossing s used a b

      go : {oneRight : Bool} (m : Meeting S) → Came C K s used a b found oneRight m → m.met ≡ Ok 1 → EachCut C found (look K s used) (look K m.store m.used) a b
      go m (at-point p is) h = crossed-each found p is (went _ 1 1 h).0
      go m (one_left i k e) h = absurd (let z = (went _ 2 1 h).1 in omega arith)
      go m (another x c not-1 not-2) h = absurd (not-1 (went _ c 1 h).1)
