-- The last member of a queue leads all in front of it, and the last but one is the last of those.
use Rattle.std.proofs.Common.{None, Some}
use mathlib.Core.Path.{◌≡◌, refl, sym, ap, ◌∙◌}
use mathlib.Core.Bool.{Bool, true, false, ◌||◌, or-true, or-false, true≢false}
use mathlib.Core.List.{List, [], ◌∷◌, ◌++◌}
use Prim.Native.Nat.{ℕ, zero, suc, ◌-◌, ◌≤◌}
use native.Mathlib.Numerals.{sub-one}
use native.Mathlib.Omega.{arith}
use lib.Dec.{eqb}
use lib.ListN.{length, take}
use lib.Seq.{length-take-le}
use Rattle.status.specs.Status.{member, below}
use Rattle.status.proofs.Members.{member-there, member-read}
use Rattle.waiting.specs.Queue.{leads, has, Ordered}
use Rattle.waiting.proofs.Members.{one_of, has_first, led-by, led-all, has-append}

module _ (before : ℕ → ℕ → Bool) where
  front_ordered : (l m : List ℕ) → Ordered before (l ++ m) → Ordered before l
  unfolding Ordered
  front_ordered [] m o = tt
  front_ordered (x ∷ l) m o = (led-all before x l (λ r e. led-by before x (l ++ m) o.0 r (rw (has-append, e))), front_ordered l m o.1)

  front-led : (l : List ℕ) (e : ℕ) → Ordered before (l ++ e ∷ []) → (r : ℕ) → has l r ≡ true → leads before e r ≡ true
  unfolding Ordered has
  front-led [] e o r h = absurd (true≢false (sym h))
  front-led (x ∷ l) e o r h =
      let last : has (l ++ e ∷ []) e ≡ true = has-append l (e ∷ []) e ∙ rw (has_first e []) (or-true (has l e)) in
      one_of x l r h (λ i. rw (← i) (led-by before x (l ++ e ∷ []) o.0 e last)) (front-led l e o.1 r)

-- all but the last
abbrev pub front : List ℕ → List ℕ
front l = take (length l - 1) l

front-cons : (x y : ℕ) (l : List ℕ) → front (x ∷ y ∷ l) ≡ x ∷ front (y ∷ l)
front-cons x y l = simp sub-one

front-last : (l : List ℕ) (e : ℕ) → below l (length l) ≡ Some e → l ≡ front l ++ (e ∷ [])
unfolding below member
front-last [] e h = let z : ◌≡◌ {A = ℕ} 0 1 = cc in absurd (omega arith)
front-last (x ∷ []) e h = let i : x ≡ e = cc in rw i
front-last (x ∷ y ∷ l) e h = rw (front-cons x y l) (ap (λ (m : List ℕ). x ∷ m) (front-last (y ∷ l) e h))

pub none_last : (l : List ℕ) → below l (length l) ≡ None → (r : ℕ) → has l r ≡ false
unfolding below has
none_last [] h r = refl
none_last (x ∷ l) h r =
    let there = member-there (x ∷ l) (length l) (omega arith) in
    let z : ◌≡◌ {A = ℕ} 0 1 = cc in
    absurd (omega arith)

below-take : (l : List ℕ) (k : ℕ) → k ≤ length l → below l k ≡ below (take k l) k
unfolding below
below-take l zero h = refl
below-take l (suc k) h = sym (member-there l k (omega arith)) ∙ member-read l (suc k) k (omega arith) (omega arith)

-- the last but one is the last of those in front
pub below-front : (l : List ℕ) → below l (length l - 1) ≡ below (front l) (length (front l))
below-front l = rw (length-take-le (length l - 1) l (omega arith)) (below-take l (length l - 1) (omega arith))

pub record Ends (before : ℕ → ℕ → Bool) (l : List ℕ) (e : ℕ) : Type 0 where
  pub has_last : (r : ℕ) → has l r ≡ (has (front l) r || eqb e r)
  pub ordered-front : Ordered before (front l)
  pub leads-front : (r : ℕ) → has (front l) r ≡ true → leads before e r ≡ true

pub ends : (before : ℕ → ℕ → Bool) (l : List ℕ) (e : ℕ) → Ordered before l → below l (length l) ≡ Some e → Ends before l e
unfolding has
ends before l e o h =
    let split = front-last l e h in
    let o' : Ordered before (front l ++ (e ∷ [])) = rw split at o in
    record {
      has_last = λ r. ap (λ (m : List ℕ). has m r) split ∙ has-append (front l) (e ∷ []) r ∙ ap (λ (t : Bool). has (front l) r || t) (or-false (eqb e r));
      ordered-front = front_ordered before (front l) (e ∷ []) o';
      leads-front = front-led before (front l) e o';
    }
