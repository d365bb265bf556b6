-- What the checks leave: each listed record is sound and listed once, its partner's point is fit, and with a result event its other end is listed.
use Rattle.refusals.specs.Refusals.{passed}
use Rattle.refusals.specs.declared.Reason.{Reason}
use Rattle.std.proofs.Common.{Err, Ok, Option, None, Some}
use Rattle.refusals.specs.declared.Reason.TheVariants as Reason
use mathlib.Core.Path.{◌≡◌, refl, sym, ap, ◌∙◌}
use mathlib.Core.Logic.{◌≢◌, ◌⊎◌, inl, inr}
use mathlib.Core.Bool.{Bool, true, false, not, cond, ◌&&◌, ◌||◌, and-false, true≢false, false≢true}
use mathlib.Core.List.Memᴰ
use mathlib.Core.List.{List, [], ◌∷◌, Memᴰ}
use Prim.Native.Nat.{ℕ, ◌≤◌, ◌<◌}
use borrow.Author.Tests.{eqb-true, eq-eqb, ltb-false, le-ltb, not-false}
use lib.ListN.{length}
use lib.Dec.{eqb}
use Rattle.refusals.specs.declared.Refusal.{Refusal}
use Rattle.events.specs.Coordinates.{Coordinates}
use Rattle.events.specs.Event.{Event}
use Rattle.checks.specs.Checks.{max_events, outside, unfit_at, mistaken, named}
use Rattle.checks.specs.Sound.{Sized, Sound}
use Rattle.checks.proofs.Told.{not-both, both-passed, passed-both}
use Rattle.checks.proofs.Unstruck.{neither, sound, sound-fit, sound-not-mistaken, not-outside}
use Rattle.checks.proofs.Passed.{sized-passed, passed-sized}
use Rattle.contours.specs.Result.{in_result, results, result_edges}
use Rattle.contours.specs.Accept.{at_most, lowest, refused_at, told_lowest, list_sized, listed, twice, misplaced, half_listed, Room, room_for, roomy, accept}
use Rattle.contours.proofs.Lists.{Pairs, all_of, all-mem}
use Rattle.contours.proofs.Partners.{own-named, partner-named, named-all}

-- ---- one check over a list: it passes exactly if the test strikes no member

pub none-struck : (test : ℕ → Bool) (l : List ℕ) → lowest test l ≡ None → (r : ℕ) → Memᴰ r l → test r ≡ false
unfolding lowest
none-struck test [] e r m = absurd (Memᴰ.not-nil m)
none-struck test (x ∷ l) e r m = go (test x) refl e (Memᴰ.cases_cons m) (λ q. none-struck test l q r)
  where
    go : (t : Bool) → test x ≡ t → cond t (Some (at_most x (lowest test l))) (lowest test l) ≡ None → (r ≡ x) ⊎ Memᴰ r l → (lowest test l ≡ None → Memᴰ r l → test r ≡ false) → test r ≡ false
    go true q e d h = let z : ◌≡◌ {A = Bool} true false = cc in absurd (true≢false z)
    go false q e (inl s) h = ap test s ∙ q
    go false q e (inr k) h = h e k

pub struck-none : (test : ℕ → Bool) (l : List ℕ) → ((r : ℕ) → Memᴰ r l → test r ≡ false) → lowest test l ≡ None
unfolding lowest
struck-none test [] h = refl
struck-none test (x ∷ l) h = rw (h x (Memᴰ.head refl)) (struck-none test l (λ r m. h r (Memᴰ.tail m)))

module _ (reason : Reason) (test : ℕ → Bool) (l : List ℕ) where
  pub told_none : told_lowest reason test l ≡ Ok tt → (r : ℕ) → Memᴰ r l → test r ≡ false
  unfolding told_lowest refused_at
  told_none e = go (lowest test l) refl e
    where
      go : (o : Option ℕ) → lowest test l ≡ o → refused_at reason o ≡ Ok tt → (r : ℕ) → Memᴰ r l → test r ≡ false
      go None q e = none-struck test l q
      go (Some x) q e = absurd (not-both _ _ e refl)

  pub none_told : ((r : ℕ) → Memᴰ r l → test r ≡ false) → told_lowest reason test l ≡ Ok tt
  unfolding told_lowest refused_at
  none_told h = rw (struck-none test l h)

-- ---- the list

pub listed_in : (l : List ℕ) (r : ℕ) → listed l r ≡ true → Memᴰ r l
unfolding listed
listed_in [] r e = absurd (false≢true e)
listed_in (x ∷ l) r e = go (eqb x r) refl e (listed_in l r)
  where
    go : (t : Bool) → eqb x r ≡ t → (t || listed l r) ≡ true → (listed l r ≡ true → Memᴰ r l) → Memᴰ r (x ∷ l)
    go true q e h = Memᴰ.head (sym (eqb-true x r q))
    go false q e h = Memᴰ.tail (h e)

or-true : (a : Bool) → (a || true) ≡ true
or-true true = refl
or-true false = refl

pub in-listed : (l : List ℕ) (r : ℕ) → Memᴰ r l → listed l r ≡ true
unfolding listed
in-listed [] r m = absurd (Memᴰ.not-nil m)
in-listed (x ∷ l) r m = go (Memᴰ.cases_cons m) (in-listed l r)
  where
    go : (r ≡ x) ⊎ Memᴰ r l → (Memᴰ r l → listed l r ≡ true) → (eqb x r || listed l r) ≡ true
    go (inl e) h = rw (eq-eqb x r (sym e))
    go (inr k) h = rw (h k) (or-true (eqb x r))

-- no member twice
pub once-distinct : (l : List ℕ) → ((r : ℕ) → Memᴰ r l → twice l r ≡ false) → Pairs ◌≢◌ l
unfolding twice
once-distinct [] h = tt
once-distinct (x ∷ l) h = (
  all_of (λ y. x ≢ y) l (λ y m e. alone (neither (eqb x x && listed l x) (twice l x) (h x (Memᴰ.head refl))).0 (rw e (in-listed l y m))),
  once-distinct l (λ r m. (neither (eqb x r && listed l r) (twice l r) (h r (Memᴰ.tail m))).1),
)
  where
    alone : (eqb x x && listed l x) ≡ false → listed l x ≡ true → ⊥
    alone e f = true≢false (sym (rw (eq-eqb x x refl, f)) ∙ e)

pub distinct-once : (l : List ℕ) → Pairs ◌≢◌ l → (r : ℕ) → twice l r ≡ false
unfolding twice
distinct-once [] h r = refl
distinct-once (x ∷ l) h r = rw (distinct-once l h.1 r) (go (eqb x r) refl (listed l r) refl)
  where
    go : (a : Bool) → eqb x r ≡ a → (b : Bool) → listed l r ≡ b → ((a && b) || false) ≡ false
    go false p b q = refl
    go true p false q = refl
    go true p true q = absurd (all-mem (λ y. x ≢ y) l r h.0 (listed_in l r q) (eqb-true x r p))

-- ---- all checks

module _ {P : Type 0} (C : Coordinates P) (row : ℕ → Event P) (n : ℕ) (list : List ℕ) where
  pub record Accepted : Type 0 where
    pub each : (r : ℕ) → Memᴰ r list → Sound C row n r
    pub other-fit : (r : ℕ) → Memᴰ r list → C.fit (row (row r).partner).point ≡ true
    pub distinct : Pairs ◌≢◌ list
    pub both : (r : ℕ) → Memᴰ r list → in_result row r ≡ true → Memᴰ (row r).partner list

  -- what passing says besides: sizes and room
  pub record Fits (points marks : ℕ) (room : Room) : Type 0 where
    pub short : length list ≤ max_events
    pub sizes : Sized points marks
    pub events : length (results row list) ≤ room.points
    pub outlines : length (result_edges row list) ≤ room.contours
    pub holes : length (result_edges row list) ≤ room.holes

both_out : (a b : Bool) → a ≡ true → (a && not b) ≡ false → b ≡ true
both_out a b p e = not-false b (rw p at e)

and_no : (a b : Bool) → (a ≡ true → b ≡ true) → (a && not b) ≡ false
and_no true b h = rw (h refl)
and_no false b h = refl

cond-passed : (t : Bool) (x : Refusal) → cond t (Err x) passed ≡ Ok tt → t ≡ false
cond-passed true x e = absurd (not-both _ _ e refl)
cond-passed false x e = refl

pub list-short : (list : List ℕ) → list_sized list ≡ Ok tt → length list ≤ max_events
unfolding list_sized
list-short list e = ltb-false max_events (length list) (cond-passed _ _ e)

pub room-passed : (wanted places : ℕ) → room_for wanted places ≡ Ok tt → wanted ≤ places
unfolding room_for
room-passed wanted places e = ltb-false places wanted (cond-passed _ _ e)

passed-room : (wanted places : ℕ) → wanted ≤ places → room_for wanted places ≡ Ok tt
unfolding room_for
passed-room wanted places h = rw (le-ltb places wanted h)

module _ {P : Type 0} (C : Coordinates P) (row : ℕ → Event P) (n : ℕ) (list : List ℕ) where
  -- 2, of the listed records and their partners
  abbrev pub FitEnds : Type 0
  FitEnds = told_lowest Reason.Coordinate (unfit_at C row n) (named row n list) ≡ Ok tt

  -- 2 and 4
  sound-all : FitEnds → told_lowest Reason.Link (misplaced C row n list) list ≡ Ok tt → (r : ℕ) → Memᴰ r list → Sound C row n r
  unfolding misplaced
  sound-all e f r m = sound C row n r (told_none Reason.Coordinate _ (named row n list) e r (own-named row n list r m)) (neither (twice list r) (mistaken C row n r) (told_none Reason.Link (misplaced C row n list) list f r m)).1

  pub soundly : FitEnds → told_lowest Reason.Link (misplaced C row n list) list ≡ Ok tt
      → ((r : ℕ) → Memᴰ r list → Sound C row n r) × Pairs ◌≢◌ list
  unfolding misplaced
  soundly e f = (sound-all e f, once-distinct list (λ r m. (neither (twice list r) (mistaken C row n r) (told_none Reason.Link (misplaced C row n list) list f r m)).0))

  fit-inside : (q : ℕ) → q < n → unfit_at C row n q ≡ false → C.fit (row q).point ≡ true
  unfolding unfit_at
  fit-inside q h e = not-false _ (rw (not-outside n q h) at e)

  -- event order reads these points too
  others-fit : FitEnds → ((r : ℕ) → Memᴰ r list → Sound C row n r) → (r : ℕ) → Memᴰ r list → C.fit (row (row r).partner).point ≡ true
  others-fit e h r m =
      fit-inside (row r).partner (h r m).partner (told_none Reason.Coordinate _ (named row n list) e (row r).partner (partner-named row n list r (h r m).inside m))

  pub accepted-by : FitEnds → told_lowest Reason.Link (misplaced C row n list) list ≡ Ok tt → told_lowest Reason.HalfEdge (half_listed C row n list) list ≡ Ok tt
      → Accepted C row n list
  unfolding half_listed
  accepted-by two four eight =
      let sounds = soundly two four in
      record {
        each = sounds.0;
        other-fit = others-fit two sounds.0;
        distinct = sounds.1;
        both = λ r m i. listed_in list _ (both_out (in_result row r) _ i (told_none Reason.HalfEdge (half_listed C row n list) list eight r m));
      }

  pub accepted : (points marks : ℕ) (room : Room) → accept C row n points marks list room ≡ Ok tt → Accepted C row n list × Fits C row n list points marks room
  unfolding accept roomy list_sized
  accepted points marks room e =
      let one = both-passed _ _ e in
      let size = both-passed _ _ one.1 in
      let two = both-passed _ _ size.1 in
      let four = both-passed _ _ two.1 in
      let eight = both-passed _ _ four.1 in
      let five = both-passed _ _ eight.1 in
      let rest = both-passed _ _ five.1 in (
        accepted-by two.0 four.0 eight.0,
        record {
          short = list-short list one.0;
          sizes = sized-passed points marks size.0;
          events = room-passed _ _ five.0;
          outlines = room-passed _ _ rest.0;
          holes = room-passed _ _ rest.1;
        },
      )

  not-unfit : (q : ℕ) → C.fit (row q).point ≡ true → unfit_at C row n q ≡ false
  unfolding unfit_at
  not-unfit q e = rw e (and-false (not (outside n q)))

  -- and nothing more is refused
  pub passes : (points marks : ℕ) (room : Room) → Accepted C row n list → Fits C row n list points marks room → accept C row n points marks list room ≡ Ok tt
  unfolding accept roomy list_sized half_listed misplaced
  passes points marks room a f =
      passed-both _ _ (rw (le-ltb max_events (length list) f.short))
      (passed-both _ _ (passed-sized points marks f.sizes)
      (passed-both _ _ (none_told Reason.Coordinate _ (named row n list)
      (named-all row n (λ q. unfit_at C row n q ≡ false) list (λ r m. ((a.each r m).inside, (sound-fit C row n r (a.each r m), not-unfit _ (a.other-fit r m))))))
      (passed-both _ _ (none_told Reason.Link (misplaced C row n list) list (λ r m. rw (distinct-once list a.distinct r, sound-not-mistaken C row n r (a.each r m))))
      (passed-both _ _ (none_told Reason.HalfEdge (half_listed C row n list) list (λ r m. and_no (in_result row r) _ (λ i. in-listed list _ (a.both r m i))))
      (passed-both _ _ (passed-room _ _ f.events) (passed-both _ _ (passed-room _ _ f.outlines) (passed-room _ _ f.holes)))))))
