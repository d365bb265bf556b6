-- The members of a queue: being led by all is being led by each, and an order that leads alike among them keeps them in order.
use mathlib.Core.Path.{◌≡◌, refl, sym, ◌∙◌}
use mathlib.Core.Logic.{◌≢◌}
use mathlib.Core.Bool.{Bool, true, false, ◌&&◌, ◌||◌, or-true, or_assoc, true≢false}
use mathlib.Core.List.{List, [], ◌∷◌, ◌++◌}
use Prim.Native.Nat.{ℕ}
use lib.Dec.{eqb}
use borrow.Author.Tests.{eqb-true, eq-eqb}
use Rattle.waiting.specs.Queue.{leads, has, Led, Ordered}

pub both : (a b : Bool) → (a && b) ≡ true → (a ≡ true) × (b ≡ true)
both true b h = (refl, h)
both false b h = absurd (true≢false (sym h))

pub unless : (t : Bool) → (t ≡ true → ⊥) → t ≡ false
unless true h = absurd (h refl)
unless false h = refl

-- a member is the first one or behind it
pub one_of : {F : Type 0} (x : ℕ) (l : List ℕ) (r : ℕ) → has (x ∷ l) r ≡ true → (x ≡ r → F) → (has l r ≡ true → F) → F
unfolding has
one_of {F} x l r h here behind = go (eqb x r) refl h
  where
    go : (t : Bool) → eqb x r ≡ t → (t || has l r) ≡ true → F
    go true p q = here (eqb-true x r p)
    go false p q = behind q

pub has_first : (x : ℕ) (l : List ℕ) → has (x ∷ l) x ≡ true
unfolding has
has_first x l = rw (eq-eqb x x refl)

pub has-behind : (x : ℕ) (l : List ℕ) (r : ℕ) → has l r ≡ true → has (x ∷ l) r ≡ true
unfolding has
has-behind x l r e = rw e (or-true (eqb x r))

pub not_first : (x : ℕ) (l : List ℕ) (r : ℕ) → has (x ∷ l) r ≡ false → x ≢ r
not_first x l r h i = true≢false (sym (rw (← i) (has_first x l)) ∙ h)

pub not_behind : (x : ℕ) (l : List ℕ) (r : ℕ) → has (x ∷ l) r ≡ false → has l r ≡ false
not_behind x l r h = unless (has l r) (λ e. true≢false (sym (has-behind x l r e) ∙ h))

-- ---- being led

module _ (before : ℕ → ℕ → Bool) (x : ℕ) where
  pub led-by : (l : List ℕ) → Led before x l → (r : ℕ) → has l r ≡ true → leads before r x ≡ true
  unfolding Led has
  led-by [] h r e = absurd (true≢false (sym e))
  led-by (y ∷ l) h r e = one_of y l r e (λ i. rw (← i) h.0) (led-by l h.1 r)

  pub led-all : (l : List ℕ) → ((r : ℕ) → has l r ≡ true → leads before r x ≡ true) → Led before x l
  unfolding Led
  led-all [] h = tt
  led-all (y ∷ l) h = (h y (has_first y l), led-all l (λ r e. h r (has-behind y l r e)))

  -- no member leads itself, so none is there twice
  pub led-once : (l : List ℕ) → Led before x l → leads before x x ≡ false → has l x ≡ false
  led-once l h s = unless (has l x) (λ e. true≢false (sym (led-by l h x e) ∙ s))

-- under another order that leads alike among the members
pub ordered-alike : (before before' : ℕ → ℕ → Bool) (l : List ℕ)
    → ((a b : ℕ) → has l a ≡ true → has l b ≡ true → leads before' a b ≡ leads before a b) → Ordered before l → Ordered before' l
unfolding Ordered
ordered-alike before before' [] h o = tt
ordered-alike before before' (x ∷ l) h o = (
  led-all before' x l (λ r e. h r x (has-behind x l r e) (has_first x l) ∙ led-by before x l o.0 r e),
  ordered-alike before before' l (λ a b p q. h a b (has-behind x l a p) (has-behind x l b q)) o.1,
)

pub has-append : (l m : List ℕ) (r : ℕ) → has (l ++ m) r ≡ (has l r || has m r)
unfolding has
has-append [] m r = refl
has-append (x ∷ l) m r = rw (has-append l m r) (sym (or_assoc (eqb x r) (has l r) (has m r)))
