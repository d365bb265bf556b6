-- A member that the plain tests pass lies below: it starts no later than the new segment and ends behind its start, and its ends are lower than both of
-- that one's.
use mathlib.Core.Path.{◌≡◌, refl, sym, ap, subst, ◌∙◌}
use Rattle.std.specs.declared.cmp.Ordering.TheVariants.{Greater}
use mathlib.Core.Bool.{Bool, true, false, not, cond, true≢false}
use mathlib.Core.List.{List, []}
use Prim.Native.Nat.{ℕ, zero, suc, ◌+◌, ◌-◌, ◌*◌, ◌/◌, ◌<◌, ◌≤◌}
use native.Mathlib.Omega.{arith}
use borrow.Author.Tests.{ltb-true, ltb-false, lt-ltb}
use lib.Dec.{eqb, ltb}
use lib.ListN.{length, take, drop, get_or, length-take}
use Rattle.std.specs.Simd.{first_chunks}
use Rattle.std.proofs.lemmas.List.{get_or-take, get_or-drop}
use Rattle.numbers.specs.declared.Point.{Point}
use Rattle.events.specs.Coordinates.{Coordinates, Crossing}
use Rattle.events.specs.Binary64.{at_binary64, in_mode}
use Rattle.events.specs.Event.{Key, key as keyFrom}
use Rattle.events.specs.Pool.{Pool, pool, row_at, event_of, stored}
use Rattle.events.specs.Store.{look}
use Rattle.events.specs.Runs.{in_run}
use Rattle.events.proofs.Runs.{Word}
use Rattle.order.specs.Keys.{key_of, key_used}
use Rattle.order.proofs.Laws.{OrderLaws}
use Rattle.order.proofs.AtBinary64.{laws}
use Rattle.segments.specs.Segments.{compare_segments}
use Rattle.segments.proofs.Places.{less-x, not-less-x, less-y, not-less-y, is-less-y}
use Rattle.events.proofs.Parted.{Parts, parts}
use Rattle.segments.proofs.Certain.{lies-above}
use Rattle.lists.proofs.Slots.{Standing, passed}
use Rattle.sweep_events.specs.Event.{is_less, is_below}
use Rattle.sweep_events.specs.declared.clear.Bounds.{Bounds}
use Rattle.sweep_events.specs.Clear.{lower_of, BoundsOf, point_at, mate_at, Ready, Above, Passed, AllPassed}

module _ {P : Type 0} {C : Coordinates P} (L : OrderLaws C) where
  -- below the lower of two points is below both
  lower-both : (p a b : P) → C.less_y p (lower_of C a b) ≡ true → (C.less_y p a ≡ true) × (C.less_y p b ≡ true)
  unfolding lower_of
  lower-both p a b t = go (C.less_y a b) refl t
    where
      go : (r : Bool) → C.less_y a b ≡ r → C.less_y p (cond r a b) ≡ true → (C.less_y p a ≡ true) × (C.less_y p b ≡ true)
      go true h t = (t, is-less-y L p b (omega (arith, less-y L p a t, less-y L a b h)))
      go false h t = (is-less-y L p a (omega (arith, less-y L p b t, not-less-y L a b h)), t)

  module _ {crossing : Crossing P} (K : Parts C crossing) (old new : Key P) where
    abbrev low : P
    low = lower_of C new.point new.mate

    pub passes : C.less_y old.point low ≡ true → C.less_y old.mate low ≡ true → C.less_x new.point old.point ≡ false
        → C.less_x new.point old.mate ≡ true → compare_segments C crossing new old ≡ Greater
    passes a b c d =
        let one = lower-both _ _ _ a in
        let two = lower-both _ _ _ b in
        let from = not-less-x L _ _ c in
        let to = less-x L _ _ d in
        lies-above L old new K (record { wide = omega (arith, from, to); from = from; within = omega (arith, to) })
        (record { a_c = one.0; a-d = one.1; b-c = two.0; b-d = two.1 })

-- ---- a member whose words the bounds hold
pub clear_above : (b : Bounds) (p q : Point) → Word p.x → Word p.y → Word q.x → Word q.y → in_run b.lower p.y ≡ true → in_run b.lower q.y ≡ true
    → in_run b.reached p.x ≡ true → in_run b.beyond q.x ≡ true → Above b p q
clear_above b p q px py qx qy i j l m k t mode left subject ring = passes laws (parts mode) _ k (t.lower p py i) (t.lower q qy j) (t.reached p px l) (t.beyond q qx m)

-- ---- a member whose two points were read
pub read-passed : (p : List (List ℕ)) (m : List (List ℕ)) (used ready x y : ℕ) (b : Bounds) → Ready (pool p m) used ready → x < ready → y < ready
    → y ≡ mate_at m x → (u v : Point) → u ≡ point_at p x → v ≡ point_at p y → Above b u v → Passed (pool p m) used b x
unfolding key_used key_of look stored row_at event_of keyFrom
read-passed p m used ready x y b r h g e u v eu ev f k t mode =
    let there : Above b (point_at p x) (point_at p y) = subst (λ (o : Point). Above b o (point_at p y)) eu (subst (λ (o : Point). Above b u o) ev f) in
    rw (
      lt-ltb x used (omega (arith, h, r.0)),
      lt-ltb x (length p) (omega (arith, h, r.1)),
      lt-ltb x (length m) (omega (arith, h, r.2)),
      ← e,
      lt-ltb y used (omega (arith, g, r.0)),
      lt-ltb y (length p) (omega (arith, g, r.1)),
      lt-ltb y (length m) (omega (arith, g, r.2)),
    )
    (there k t mode _ _ _)

-- ---- the places passed so far
pub turned : (t : Bool) → not t ≡ false → t ≡ true
turned true h = refl
turned false h = absurd (true≢false h)

pub none_yet : (p : Pool) (used : ℕ) (b : Bounds) (status : List ℕ) (from : ℕ) → AllPassed p used b status from from
none_yet p used b status from j h g = absurd (omega (arith, h, g))

pub one_more : (p : Pool) (used : ℕ) (b : Bounds) (status : List ℕ) (from i : ℕ) → AllPassed p used b status from i → Passed p used b (get_or status i 0) → AllPassed p used b status from (i + 1)
one_more p used b status from i all this j h g = go (ltb j i) refl
  where
    go : (t : Bool) → ltb j i ≡ t → Passed p used b (get_or status j 0)
    go true e = all j h (ltb-true j i e)
    go false e =
        let last : i ≡ j = omega (arith, g, ltb-false j i e) in
        subst (λ (n : ℕ). Passed p used b (get_or status n 0)) last this

pub two-more : (p : Pool) (used : ℕ) (b : Bounds) (status : List ℕ) (from i : ℕ) → AllPassed p used b status from i → Passed p used b (get_or status i 0) → Passed p used b (get_or status (i + 1) 0) → AllPassed p used b status from (i + 2)
two-more p used b status from i all this next j h g = one_more p used b status from (i + 1) (one_more p used b status from i all this) next j h (omega arith)

-- the k-th of the pairs that a list is cut into
in-pair : (n k : ℕ) (l : List ℕ) (j : ℕ) → j < 2 → k < n → get_or (get_or (first_chunks 2 n l) k []) j 0 ≡ get_or l (2 * k + j) 0
in-pair zero k l j h g = absurd (omega (arith, g))
in-pair (suc n) zero l j h g = get_or-take 2 l j 0 h ∙ ap (λ i. get_or l i 0) (omega arith)
in-pair (suc n) (suc k) l j h g =
    in-pair n k (drop 2 l) j h (omega (arith, g)) ∙ get_or-drop 2 l (2 * k + j) 0 ∙ ap (λ i. get_or l i 0) (omega arith)

module _ (p : Pool) (used : ℕ) (b : Bounds) (status : List ℕ) (from count : ℕ) where
  abbrev asked : List ℕ
  asked = take count (drop from status)

  pub next-pair : (k : ℕ) (pairs : List (List ℕ)) → pairs ≡ first_chunks 2 (length asked / 2) asked → k < length asked / 2 → AllPassed p used b status from (from + 2 * k)
      → Passed p used b (get_or (get_or pairs k []) 0 0) → Passed p used b (get_or (get_or pairs k []) 1 0) → AllPassed p used b status from (from + 2 * (k + 1))
  next-pair k pairs is h all this next =
      let on : from + 2 * k + 2 ≡ from + 2 * (k + 1) = omega arith in
      let first : from + 2 * k + 0 ≡ from + 2 * k = omega arith in
      subst (AllPassed p used b status from) on
      (two-more p used b status from (from + 2 * k) all (subst (λ i. Passed p used b (get_or status i 0)) first (subst (Passed p used b) (stands 0 (omega arith)) this))
      (subst (Passed p used b) (stands 1 (omega arith)) next))
    where
      stands : (j : ℕ) → j < 2 → get_or (get_or pairs k []) j 0 ≡ get_or status (from + 2 * k + j) 0
      stands j g =
          let here : 2 * k + j < count = omega (arith, h, g, length-take count (drop from status)) in
          rw is (in-pair (length asked / 2) k asked j g h ∙ get_or-take count (drop from status) (2 * k + j) 0 here ∙ get_or-drop from status (2 * k + j) 0 ∙ ap (λ i. get_or status i 0) (omega arith))

-- ---- a member that is passed is not the place
alike : (t : Bool) → cond t false false ≡ false
alike true = refl
alike false = refl

not-below-it : (mode : ℕ) (s : Pool) (used e x : ℕ) (key : Key Point) (b : Bounds) → key ≡ key_used stored s used e → BoundsOf key b → Passed s used b x → is_below at_binary64 stored (in_mode mode) s used e x ≡ false
unfolding is_below is_less
not-below-it mode s used e x key b k t h = rw (← k, h key t mode) (alike (eqb e x))

module _ (test : ℕ → Bool) (s : List ℕ) (n : ℕ) where
  further : (d i : ℕ) → i + d ≤ length (take n s) → ((j : ℕ) → i ≤ j → j < i + d → test (get_or s j 0) ≡ false) → Standing test s n i → Standing test s n (i + d)
  further zero i h none w =
      let here : i ≡ i + 0 = omega arith in subst (Standing test s n) here w
  further (suc d) i h none w =
      let next = further d (i + 1) (omega arith) (λ j p q. none j (omega arith) (omega arith)) (passed test s n i (omega arith) w (sym (none i (omega arith) (omega arith))) refl) in
      let here : i + 1 + d ≡ i + suc d = omega arith in subst (Standing test s n) here next

  skipped : (i r : ℕ) → i ≤ r → r ≤ length (take n s) → ((j : ℕ) → i ≤ j → j < r → test (get_or s j 0) ≡ false) → Standing test s n i → Standing test s n r
  skipped i r h k none w =
      let all : i + (r - i) ≡ r = omega arith in
      subst (Standing test s n) all (further (r - i) i (omega arith) (λ j p q. none j p (omega arith)) w)

module _ (mode : ℕ) (p : Pool) (used e : ℕ) (key : Key Point) (own : key ≡ key_used stored p used e) (b : Bounds) (bound : BoundsOf key b) (status : List ℕ) (n : ℕ) where
  pub after-passed : (i r : ℕ) → i ≤ r → r ≤ length (take n status) → AllPassed p used b status i r
      → Standing (is_below at_binary64 stored (in_mode mode) p used e) status n i → Standing (is_below at_binary64 stored (in_mode mode) p used e) status n r
  after-passed i r h k all w = skipped (is_below at_binary64 stored (in_mode mode) p used e) status n i r h k (λ j f l. not-below-it mode p used e _ key b own bound (all j f l)) w
