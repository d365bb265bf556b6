-- Under another numbering and listing the checks answer by the same number: each test strikes a renamed record exactly if it strikes the record.
use Rattle.refusals.specs.declared.Reason.TheVariants as Reason
use Rattle.refusals.specs.declared.Reason.{Reason}
use Rattle.std.proofs.Common.{Err, None, Ok, Option, Some}
use Rattle.refusals.specs.Refusals.{Verdict}
use mathlib.Core.Path.{◌≡◌, refl, sym, ap, ap₂, ◌∙◌}
use mathlib.Core.Bool.{Bool, true, false, not, cond, ◌&&◌, ◌||◌, beq}
use mathlib.Core.List.{List, [], ◌∷◌, map, Permᴰ}
use Prim.Native.Nat.{ℕ, suc, ◌<◌}
use native.Mathlib.Nat.{suc-ne-zero}
use borrow.Author.Tests.{ltb-true}
use lib.ListN.{length, length-map}
use lib.Dec.{eqb, ltb}
use Rattle.refusals.specs.declared.Refusal.{Refusal}
use Rattle.events.specs.Coordinates.{Coordinates, ahead}
use Rattle.events.specs.Event.{Event}
use Rattle.events.specs.Renaming.{rename_link, rename}
use Rattle.checks.specs.Checks.{outside, unpaired, alike, in_order, misordered, not_to_left, misled, mistaken, unfit_at, and_then, sized}
use Rattle.checks.specs.Sound.{Sound}
use Rattle.contours.specs.Result.{keep, in_result}
use Rattle.contours.specs.Accept.{at_most, lowest, refused_at, told_lowest, list_sized, listed, twice, misplaced, half_listed, Room, accept}
use Rattle.contours.specs.Connect.{with_contour}
use Rattle.contours.specs.Renaming.{Renumbered, Relisted}
use Rattle.contours.proofs.Lists.{All, all_of, keep-map, keep-perm, length-perm}
use Rattle.contours.proofs.Places.{eqb-map}
use Rattle.contours.proofs.Partners.{named-relisted}
use Rattle.contours.proofs.Accepted.{soundly}
use Rattle.contours.proofs.Renamed.{result-kept, events-kept, edges-kept}

-- ---- two checks with one number

pub data SameNumber : Verdict → Verdict → Type 0 where
  both-pass : SameNumber (Ok tt) (Ok tt)
  both-refuse : {x y : Refusal} → y.reason ≡ x.reason → SameNumber (Err x) (Err y)

self : (a : Verdict) → SameNumber a a
self (Ok _) = both-pass
self (Err x) = both-refuse refl

-- the second is asked only where the first passed
then_same : {a a' : Verdict} (b b' : Verdict) → SameNumber a a' → (a ≡ Ok tt → SameNumber b b') → SameNumber (and_then a b) (and_then a' b')
unfolding and_then
then_same b b' both-pass h = h refl
then_same b b' (both-refuse e) h = both-refuse e

-- what is told depends on whether the test strikes a member
data Strikes (test : ℕ → Bool) (l : List ℕ) : Type 0 where
  nowhere : lowest test l ≡ None → length (keep test l) ≡ 0 → Strikes test l
  somewhere : (r k : ℕ) → lowest test l ≡ Some r → length (keep test l) ≡ suc k → Strikes test l

strikes : (test : ℕ → Bool) (l : List ℕ) → Strikes test l
unfolding lowest keep
strikes test [] = nowhere refl refl
strikes test (x ∷ l) = go (test x) refl (strikes test l)
  where
    go : (t : Bool) → test x ≡ t → Strikes test l → Strikes test (x ∷ l)
    go true e s = somewhere (at_most x (lowest test l)) (length (keep test l)) (rw e) (rw e)
    go false e (nowhere p q) = nowhere (rw e p) (rw e q)
    go false e (somewhere r k p q) = somewhere r k (rw e p) (rw e q)

told_same : (reason : Reason) (test test' : ℕ → Bool) (l l' : List ℕ) → length (keep test' l') ≡ length (keep test l) → SameNumber (told_lowest reason test l) (told_lowest reason test' l')
unfolding told_lowest refused_at
told_same reason test test' l l' e = go (strikes test l) (strikes test' l')
  where
    go : Strikes test l → Strikes test' l' → SameNumber (refused_at reason (lowest test l)) (refused_at reason (lowest test' l'))
    go (nowhere p q) (nowhere p' q') = rw (p, p') both-pass
    go (nowhere p q) (somewhere r' k' p' q') = absurd (suc-ne-zero k' (sym q' ∙ e ∙ q))
    go (somewhere r k p q) (nowhere p' q') = absurd (suc-ne-zero k (sym q ∙ sym e ∙ q'))
    go (somewhere r k p q) (somewhere r' k' p' q') = rw (p, p') (both-refuse refl)

-- ---- the list, renamed and relisted

listed-perm : {l m : List ℕ} → Permᴰ l m → (r : ℕ) → listed l r ≡ listed m r
unfolding listed
listed-perm Permᴰ.nil r = refl
listed-perm (Permᴰ.cons e p) r = rw (e, listed-perm p r)
listed-perm (Permᴰ.swap {a = a} {b = b} {l = l} e f) r = rw (← e, ← f) (go (eqb a r) (eqb b r))
  where
    go : (x y : Bool) → (x || (y || listed l r)) ≡ (y || (x || listed l r))
    go true true = refl
    go true false = refl
    go false true = refl
    go false false = refl
listed-perm (Permᴰ.trans p q) r = listed-perm p r ∙ listed-perm q r

twice-perm : {l m : List ℕ} → Permᴰ l m → (r : ℕ) → twice l r ≡ twice m r
unfolding twice listed
twice-perm Permᴰ.nil r = refl
twice-perm (Permᴰ.cons e p) r = rw (e, listed-perm p r, twice-perm p r)
twice-perm (Permᴰ.swap {a = a} {b = b} {l = l} e f) r = rw (← e, ← f) (go (eqb a r) (eqb b r) (listed l r) (twice l r))
  where
    go : (x y u v : Bool) → ((x && (y || u)) || ((y && u) || v)) ≡ ((y && (x || u)) || ((x && u) || v))
    go true true u v = refl
    go true false true v = refl
    go true false false v = refl
    go false true true v = refl
    go false true false v = refl
    go false false u v = refl
twice-perm (Permᴰ.trans p q) r = twice-perm p r ∙ twice-perm q r

module _ (ρ : ℕ → ℕ) (inj : (a b : ℕ) → ρ a ≡ ρ b → a ≡ b) where
  listed-map : (l : List ℕ) (r : ℕ) → listed (map ρ l) (ρ r) ≡ listed l r
  unfolding listed
  listed-map [] r = refl
  listed-map (x ∷ l) r = rw (eqb-map ρ inj x r, listed-map l r)

  twice-map : (l : List ℕ) (r : ℕ) → twice (map ρ l) (ρ r) ≡ twice l r
  unfolding twice
  twice-map [] r = refl
  twice-map (x ∷ l) r = rw (eqb-map ρ inj x r, listed-map l r, twice-map l r)

-- ---- one check

module _ (ρ : ℕ → ℕ) (l l' : List ℕ) (p : Relisted ρ l l') (reason : Reason) where
  -- for a test that is kept on the records looked at
  check-same : (D : ℕ → Type 0) (test test' : ℕ → Bool) → ((r : ℕ) → D r → test' (ρ r) ≡ test r) → All D l → SameNumber (told_lowest reason test l) (told_lowest reason test' l')
  check-same D test test' k h =
      told_same reason test test' l l' (sym (length-perm (keep-perm test' p)) ∙ ap length (keep-map ρ D test test' k l h) ∙ length-map (keep test l) ρ)

  -- for one that is kept on all
  check-any : (test test' : ℕ → Bool) → ((r : ℕ) → test' (ρ r) ≡ test r) → SameNumber (told_lowest reason test l) (told_lowest reason test' l')
  check-any test test' k = check-same (λ r. Unit {0}) test test' (λ r u. k r) (all_of (λ (r : ℕ). Unit {0}) l (λ r m. tt))

-- ---- the tests

is-outside : (n r : ℕ) → ltb r n ≡ false → outside n r ≡ true
unfolding outside
is-outside n r e = rw e

module _ {P : Type 0} (C : Coordinates P) (ρ : ℕ → ℕ) (n : ℕ) (row row' : ℕ → Event P) (rn : Renumbered ρ n row row') where
  outside_kept : (r : ℕ) → outside n (ρ r) ≡ outside n r
  unfolding outside
  outside_kept r = rw (rn.within r)

  unfit-kept : (r : ℕ) → unfit_at C row' n (ρ r) ≡ unfit_at C row n r
  unfolding unfit_at outside rename with_contour
  unfit-kept r = rw (rn.within r) (go (ltb r n) refl)
    where
      go : (b : Bool) → ltb r n ≡ b → (not (not b) && not (C.fit (row' (ρ r)).point)) ≡ (not (not b) && not (C.fit (row r).point))
      go true e = rw (rn.kept r (ltb-true r n e))
      go false e = refl

  to_left-kept : (l : Option ℕ) → not_to_left row' n (rename_link ρ l) ≡ not_to_left row n l
  unfolding not_to_left rename_link outside rename with_contour
  to_left-kept None = refl
  to_left-kept (Some b) = rw (rn.within b) (go (ltb b n) refl)
    where
      go : (t : Bool) → ltb b n ≡ t → (not t || not (row' (ρ b)).left) ≡ (not t || not (row b).left)
      go true e = rw (rn.kept b (ltb-true b n e))
      go false e = refl

  -- a record of the pool
  inner-kept : (r : ℕ) → r < n
      → (unpaired row' n (ρ r) || (alike row' (ρ r) || (misordered C row' (ρ r) || (misled row' n (ρ r) || false))))
      ≡ (unpaired row n r || (alike row r || (misordered C row r || (misled row n r || false))))
  unfolding unpaired alike misordered in_order misled outside rename with_contour
  inner-kept r h = rw (rn.kept r h, rn.within (row r).partner, to_left-kept (row r).below) (go (ltb (row r).partner n) refl)
    where
      q : ℕ
      q = (row r).partner

      own : P
      own = (row r).point

      go : (b : Bool) → ltb q n ≡ b
          → ((not b || not (eqb (row' (ρ q)).partner (ρ r)))
          || (beq (row r).left (row' (ρ q)).left
          || (not (cond (row r).left (ahead C own (row' (ρ q)).point) (ahead C (row' (ρ q)).point own)) || (not_to_left row n (row r).below || false))))
          ≡ ((not b || not (eqb (row q).partner r))
          || (beq (row r).left (row q).left
          || (not (cond (row r).left (ahead C own (row q).point) (ahead C (row q).point own)) || (not_to_left row n (row r).below || false))))
      go true e = rw (rn.kept q (ltb-true q n e), eqb-map ρ rn.injective (row q).partner r)
      go false e = refl

  mistaken-kept : (r : ℕ) → mistaken C row' n (ρ r) ≡ mistaken C row n r
  unfolding mistaken
  mistaken-kept r = rw (outside_kept r) (go (ltb r n) refl)
    where
      go : (b : Bool) → ltb r n ≡ b
          → (outside n r || (unpaired row' n (ρ r) || (alike row' (ρ r) || (misordered C row' (ρ r) || (misled row' n (ρ r) || false)))))
          ≡ (outside n r || (unpaired row n r || (alike row r || (misordered C row r || (misled row n r || false)))))
      go true e = ap (λ (t : Bool). outside n r || t) (inner-kept r (ltb-true r n e))
      go false e = rw (is-outside n r e)

  module _ (list list' : List ℕ) (p : Relisted ρ list list') where
    listed_kept : (r : ℕ) → listed list' (ρ r) ≡ listed list r
    listed_kept r = sym (listed-perm p (ρ r)) ∙ listed-map ρ rn.injective list r

    twice-kept : (r : ℕ) → twice list' (ρ r) ≡ twice list r
    twice-kept r = sym (twice-perm p (ρ r)) ∙ twice-map ρ rn.injective list r

    misplaced-kept : (r : ℕ) → misplaced C row' n list' (ρ r) ≡ misplaced C row n list r
    unfolding misplaced
    misplaced-kept r = ap₂ ◌||◌ (twice-kept r) (mistaken-kept r)

    half-kept : (r : ℕ) → Sound C row n r → half_listed C row' n list' (ρ r) ≡ half_listed C row n list r
    unfolding half_listed rename with_contour
    half-kept r h = rw (result-kept C ρ n row row' rn r h, rn.kept r h.inside) (ap (λ (t : Bool). in_result row r && not t) (listed_kept (row r).partner))

    sized_same : SameNumber (list_sized list) (list_sized list')
    unfolding list_sized
    sized_same = rw (sym (length-perm p) ∙ length-map list ρ) (self _)

    -- all checks
    pub accept-same : (points marks : ℕ) (room : Room) → SameNumber (accept C row n points marks list room) (accept C row' n points marks list' room)
    unfolding accept
    accept-same points marks room =
        then_same _ _ sized_same
        (λ e1. then_same _ _ (self (sized points marks))
        (λ e2. then_same _ _ (check-any ρ _ _ (named-relisted ρ n row row' rn list list' p) Reason.Coordinate (unfit_at C row n) (unfit_at C row' n) unfit-kept)
        (λ e3. then_same _ _ (check-any ρ list list' p Reason.Link (misplaced C row n list) (misplaced C row' n list') misplaced-kept)
        (λ e4. let sounds = (soundly C row n list e3 e4).0 in
        then_same _ _ (check-same ρ list list' p Reason.HalfEdge (Sound C row n) (half_listed C row n list) (half_listed C row' n list') half-kept (all_of (Sound C row n) list sounds))
        (λ e5. rw (events-kept C ρ n row row' rn list list' p sounds, edges-kept C ρ n row row' rn list list' p sounds) (self _))))))
