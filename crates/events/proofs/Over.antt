-- A mark written over a lent one says what it should; one that said so already is as lent.
use Rattle.std.proofs.Common.{◌≡◌, ℕ, Bool, true, false, cond, eqb, sym, refl, ap, ◌∙◌, eq-eqb, eqb-true, None, Option, Some}
use mathlib.Core.Bool.{false≢true}
use Rattle.std.specs.Option.{option_eq}
use Rattle.events.specs.Pool.{link_of, there_number, link_number, same_link, over, there_over, link_over}
use Rattle.events.proofs.Codes.{link}

-- ---- one mark

module _ {A : Type 0} (says : ℕ → A) (number : A → ℕ) where
  pub over-says : ((b : A) → says (number b) ≡ b) → (m : ℕ) (a : A) → says (over says number m a) ≡ a
  unfolding over
  over-says back m a = go (eqb (number (says m)) (number a)) refl
    where
      go : (t : Bool) → eqb (number (says m)) (number a) ≡ t → says (cond t m (number a)) ≡ a
      go true e = sym (back (says m)) ∙ ap says (eqb-true (number (says m)) (number a) e) ∙ back a
      go false e = back a

  pub over-lent : (m : ℕ) (a : A) → says m ≡ a → over says number m a ≡ m
  unfolding over
  over-lent m a h = rw (eq-eqb (number (says m)) (number a) (ap number h))

-- ---- the two marks of a link

-- what `==` tells of two links
pub same_link-eq : (a b : Option ℕ) → same_link a b ≡ option_eq eqb a b
unfolding same_link
same_link-eq None None = refl
same_link-eq None (Some b) = refl
same_link-eq (Some a) None = refl
same_link-eq (Some a) (Some b) = refl

pub same-link : (a b : Option ℕ) → same_link a b ≡ true → a ≡ b
unfolding same_link
same-link None None e = refl
same-link None (Some b) e = absurd (false≢true e)
same-link (Some a) None e = absurd (false≢true e)
same-link (Some a) (Some b) e = ap Some (eqb-true a b e)

link-same : (l : Option ℕ) → same_link l l ≡ true
unfolding same_link
link-same None = refl
link-same (Some n) = eq-eqb n n refl

module _ (there n : ℕ) (l : Option ℕ) where
  pub link-says : link_of (there_over there n l) (link_over there n l) ≡ l
  unfolding there_over link_over
  link-says = go (same_link (link_of there n) l) refl
    where
      go : (t : Bool) → same_link (link_of there n) l ≡ t → link_of (cond t there (there_number l)) (cond t n (link_number l)) ≡ l
      go true e = same-link (link_of there n) l e
      go false e = link l

  pub there-lent : link_of there n ≡ l → there_over there n l ≡ there
  unfolding there_over
  there-lent h = rw (h, link-same l)

  pub link-lent : link_of there n ≡ l → link_over there n l ≡ n
  unfolding link_over
  link-lent h = rw (h, link-same l)
