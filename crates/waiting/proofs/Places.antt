-- A new member's place: halving finds where those that lead it begin, and put in there it keeps the order.
use mathlib.Core.Path.{◌≡◌, refl, sym, ap, ◌∙◌}
use mathlib.Core.Bool.{Bool, true, false, cond, ◌||◌, or_comm, true≢false}
use mathlib.Core.List.{List, [], ◌∷◌}
use Prim.Native.Nat.{ℕ, zero, suc, ◌+◌, ◌/◌, ◌<◌, ◌≤◌}
use native.Mathlib.Omega.{arith}
use lib.Dec.{eqb, ltb}
use lib.ListN.{length, get_or, take, drop, take-append-drop}
use borrow.Author.Tests.{ltb-true, ltb-false, eqb-true, eqb-false}
use Rattle.lists.specs.Lists.{insert_at}
use Rattle.waiting.specs.Queue.{leads, has, Led, Ordered, halving, place}
use Rattle.waiting.proofs.Leading.{Orders, turned, leads-trans}
use Rattle.waiting.proofs.Members.{unless, has_first, has-behind, not_first, not_behind, led-by, has-append}

has-place : (l : List ℕ) (i : ℕ) → i < length l → has l (get_or l i 0) ≡ true
has-place [] i h = absurd (omega arith)
has-place (x ∷ l) zero h = has_first x l
has-place (x ∷ l) (suc i) h = has-behind x l (get_or l i 0) (has-place l i (omega arith))

-- those below place a do not lead x, those from place b on do
pub record Split (before : ℕ → ℕ → Bool) (l : List ℕ) (x a b : ℕ) : Type 0 where
  pub low : (i : ℕ) → i < a → leads before (get_or l i 0) x ≡ false
  pub high : (i : ℕ) → b ≤ i → i < length l → leads before (get_or l i 0) x ≡ true

-- ---- the order of the members by their places

module _ (before : ℕ → ℕ → Bool) where
  leads-back : (l : List ℕ) → Ordered before l → (i j : ℕ) → i < j → j < length l → leads before (get_or l j 0) (get_or l i 0) ≡ true
  unfolding Ordered
  leads-back [] o i j h k = absurd (omega arith)
  leads-back (x ∷ l) o i zero h k = absurd (omega arith)
  leads-back (x ∷ l) o zero (suc j) h k = led-by before x l o.0 (get_or l j 0) (has-place l j (omega arith))
  leads-back (x ∷ l) o (suc i) (suc j) h k = leads-back l o.1 i j (omega arith) (omega arith)

  -- ---- put in at a place

  led-places : (x : ℕ) (l : List ℕ) → ((i : ℕ) → i < length l → leads before (get_or l i 0) x ≡ true) → Led before x l
  unfolding Led
  led-places x [] h = tt
  led-places x (y ∷ l) h = (h 0 (omega arith), led-places x l (λ i k. h (suc i) (omega arith)))

  led-insert : (y : ℕ) (l : List ℕ) (k x : ℕ) → Led before y l → leads before x y ≡ true → Led before y (insert_at l k x)
  unfolding Led insert_at
  led-insert y [] zero x h e = (e, tt)
  led-insert y [] (suc k) x h e = (e, tt)
  led-insert y (z ∷ l) zero x h e = (e, h)
  led-insert y (z ∷ l) (suc k) x h e = (h.0, led-insert y l k x h.1 e)

  insert-ordered : (l : List ℕ) (k x : ℕ) → Ordered before l → has l x ≡ false → Split before l x k k → Ordered before (insert_at l k x)
  unfolding Ordered Led insert_at
  insert-ordered [] zero x o d s = (tt, tt)
  insert-ordered [] (suc k) x o d s = (tt, tt)
  insert-ordered (y ∷ l) zero x o d s = (led-places x (y ∷ l) (λ i h. s.high i (omega arith) h), o)
  insert-ordered (y ∷ l) (suc k) x o d s = (
    led-insert y l k x o.0 (turned before y x (not_first y l x d) (s.low 0 (omega arith))),
    insert-ordered l k x o.1 (not_behind y l x d)
        (record { low = λ i h. s.low (suc i) (omega arith); high = λ i h j. s.high (suc i) (omega arith) (omega arith) }),
  )

either_way : (a b c : Bool) → (a || (b || c)) ≡ ((a || c) || b)
either_way true b c = refl
either_way false b c = or_comm b c

pub has-insert : (l : List ℕ) (k x r : ℕ) → has (insert_at l k x) r ≡ (has l r || eqb x r)
unfolding insert_at has
has-insert l k x r =
    let whole = ap (λ (m : List ℕ). has m r) (sym (take-append-drop k l)) ∙ has-append (take k l) (drop k l) r in
    has-append (take k l) (x ∷ drop k l) r ∙ either_way (has (take k l) r) (eqb x r) (has (drop k l) r) ∙ ap (λ (t : Bool). t || eqb x r) (sym whole)

-- ---- by halving

module _ (before : ℕ → ℕ → Bool) {n : ℕ} (O : Orders before n) (l : List ℕ) (x : ℕ) (o : Ordered before l)
    (inside : (r : ℕ) → has l r ≡ true → r < n) (x_below : x < n) where
  in_bounds : (i : ℕ) → i < length l → get_or l i 0 < n
  in_bounds i h = inside (get_or l i 0) (has-place l i h)

  -- whoever stands behind one that leads x leads it too
  leads-on : (i j : ℕ) → i < j → j < length l → leads before (get_or l i 0) x ≡ true → leads before (get_or l j 0) x ≡ true
  leads-on i j h k e =
      leads-trans before O (get_or l j 0) (get_or l i 0) x (in_bounds j k) (in_bounds i (omega arith)) x_below (leads-back before l o i j h k) e

  narrow_high : (lo m hi : ℕ) → m < length l → leads before (get_or l m 0) x ≡ true → Split before l x lo hi → Split before l x lo m
  narrow_high lo m hi h e s = record { low = s.low; high = up }
    where
      up : (i : ℕ) → m ≤ i → i < length l → leads before (get_or l i 0) x ≡ true
      up i k b = go (eqb m i) refl
        where
          go : (t : Bool) → eqb m i ≡ t → leads before (get_or l i 0) x ≡ true
          go true p = rw (← eqb-true m i p) e
          go false p = let d = eqb-false m i p in leads-on m i (omega arith) b e

  narrow-low : (lo m hi : ℕ) → m < length l → leads before (get_or l m 0) x ≡ false → Split before l x lo hi → Split before l x (m + 1) hi
  narrow-low lo m hi h e s = record { low = down; high = s.high }
    where
      down : (i : ℕ) → i < m + 1 → leads before (get_or l i 0) x ≡ false
      down i k = go (eqb i m) refl
        where
          go : (t : Bool) → eqb i m ≡ t → leads before (get_or l i 0) x ≡ false
          go true p = rw (eqb-true i m p) e
          go false p =
              let d = eqb-false i m p in
              unless (leads before (get_or l i 0) x) (λ t. true≢false (sym (leads-on i m (omega arith) h t) ∙ e))

  Landed : ℕ → Type 0
  Landed p = Split before l x p p

  halved : (k lo hi : ℕ) → lo ≤ hi → hi ≤ lo + k → hi ≤ length l → Split before l x lo hi → Landed (halving before k l x lo hi)
  unfolding halving Landed
  halved zero lo hi a b c s = let i : hi ≡ lo = omega arith in rw i at s
  halved (suc k) lo hi a b c s = go (ltb lo hi) refl (leads before (get_or l ((lo + hi) / 2) 0) x) refl (halved k)
    where
      go : (t : Bool) → ltb lo hi ≡ t → (u : Bool) → leads before (get_or l ((lo + hi) / 2) 0) x ≡ u
          → ((lo hi : ℕ) → lo ≤ hi → hi ≤ lo + k → hi ≤ length l → Split before l x lo hi → Landed (halving before k l x lo hi))
          → Landed (cond t (cond u (halving before k l x lo ((lo + hi) / 2)) (halving before k l x ((lo + hi) / 2 + 1) hi)) lo)
      go false p u q ih = let h = ltb-false lo hi p in let i : hi ≡ lo = omega arith in rw i at s
      go true p true q ih =
          let h = ltb-true lo hi p in
          ih lo ((lo + hi) / 2) (omega arith) (omega arith) (omega arith) (narrow_high lo ((lo + hi) / 2) hi (omega arith) q s)
      go true p false q ih =
          let h = ltb-true lo hi p in
          ih ((lo + hi) / 2 + 1) hi (omega arith) (omega arith) c (narrow-low lo ((lo + hi) / 2) hi (omega arith) q s)

  pub place-ordered : has l x ≡ false → Ordered before (insert_at l (place before l x) x)
  unfolding place Landed
  place-ordered d =
      let all : Split before l x 0 (length l) = record { low = λ i h. absurd (omega arith); high = λ i h k. absurd (omega arith) } in
      insert-ordered before l (place before l x) x o d (halved (length l) 0 (length l) (omega arith) (omega arith) (omega arith) all)
