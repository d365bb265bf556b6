-- Another order of the edges renames the loaded records, two by two, and no number beyond them.
use Rattle.std.proofs.Common.{None, Option, Some}
use mathlib.Core.Path.{◌≡◌, refl, sym, ap, ◌∙◌}
use mathlib.Core.List.{List, [], ◌∷◌, Permᴰ}
use Prim.Native.Nat.{ℕ, zero, suc, ◌≤◌, ◌*◌}
use native.Mathlib.Omega.{arith}
use lib.ListN.{length}
use Rattle.events.specs.Coordinates.{Coordinates}
use Rattle.events.specs.Event.{Event}
use Rattle.events.specs.Renaming.{rename_link, rename}
use Rattle.events.specs.Store.{Store}
use Rattle.events.proofs.Looks.{Blanks}
use Rattle.loading.specs.Loading.{Edge, end, first_end, second_end}
use Rattle.sweep_order.specs.SameBut.{Renaming}

-- ---- renamings

kept : Renaming 0
kept = record { to = λ r. r; from = λ r. r; from_to = λ r. refl; to_from = λ r. refl; beyond = λ r h. refl }

-- two numbers first that stay
unfoldable lift : (ℕ → ℕ) → ℕ → ℕ
lift f zero = 0
lift f (suc zero) = 1
lift f (suc (suc r)) = suc (suc (f r))

lift-lift : (f g : ℕ → ℕ) → ((r : ℕ) → f (g r) ≡ r) → (r : ℕ) → lift f (lift g r) ≡ r
unfolding lift
lift-lift f g h zero = refl
lift-lift f g h (suc zero) = refl
lift-lift f g h (suc (suc r)) = ap (λ x. suc (suc x)) (h r)

lift-far : (f : ℕ → ℕ) (n : ℕ) → ((r : ℕ) → 2 * n ≤ r → f r ≡ r) → (r : ℕ) → 2 * suc n ≤ r → lift f r ≡ r
unfolding lift
lift-far f n h zero l = refl
lift-far f n h (suc zero) l = refl
lift-far f n h (suc (suc r)) l = ap (λ x. suc (suc x)) (h r (omega arith))

lifted : (n : ℕ) → Renaming (2 * n) → Renaming (2 * suc n)
lifted n ρ =
    record {
      to = lift ρ.to;
      from = lift ρ.from;
      from_to = lift-lift ρ.from ρ.to ρ.from_to;
      to_from = lift-lift ρ.to ρ.from ρ.to_from;
      beyond = lift-far ρ.to n ρ.beyond;
    }

-- the first two numbers and the next two change places
unfoldable swap : ℕ → ℕ
swap zero = 2
swap (suc zero) = 3
swap (suc (suc zero)) = 0
swap (suc (suc (suc zero))) = 1
swap (suc (suc (suc (suc r)))) = suc (suc (suc (suc r)))

swap-swap : (r : ℕ) → swap (swap r) ≡ r
unfolding swap
swap-swap zero = refl
swap-swap (suc zero) = refl
swap-swap (suc (suc zero)) = refl
swap-swap (suc (suc (suc zero))) = refl
swap-swap (suc (suc (suc (suc r)))) = refl

swap-far : (n r : ℕ) → 2 * suc (suc n) ≤ r → swap r ≡ r
unfolding swap
swap-far n zero l = absurd (omega arith)
swap-far n (suc zero) l = absurd (omega arith)
swap-far n (suc (suc zero)) l = absurd (omega arith)
swap-far n (suc (suc (suc zero))) l = absurd (omega arith)
swap-far n (suc (suc (suc (suc r)))) l = refl

swapped : (n : ℕ) → Renaming (2 * suc (suc n))
swapped n = record { to = swap; from = swap; from_to = swap-swap; to_from = swap-swap; beyond = swap-far n }

after : {n m : ℕ} → Renaming n → Renaming m → m ≡ n → Renaming n
after ρ σ e =
    record {
      to = λ r. σ.to (ρ.to r);
      from = λ r. ρ.from (σ.from r);
      from_to = λ r. ap ρ.from (σ.from_to (ρ.to r)) ∙ ρ.from_to r;
      to_from = λ r. ap σ.to (ρ.to_from (σ.from r)) ∙ σ.to_from r;
      beyond = λ r h. ap σ.to (ρ.beyond r h) ∙ σ.beyond r (rw e h);
    }

-- ---- of a permutation

module _ {P : Type 0} where
  pub as_many : {l m : List (Edge P)} → Permᴰ l m → length m ≡ length l
  as_many Permᴰ.nil = refl
  as_many (Permᴰ.cons e p) = ap suc (as_many p)
  as_many (Permᴰ.swap e f) = refl
  as_many (Permᴰ.trans p q) = as_many q ∙ as_many p

  pub renaming_of : {l m : List (Edge P)} → Permᴰ l m → Renaming (2 * length l)
  renaming_of Permᴰ.nil = kept
  renaming_of (Permᴰ.cons {l₁ = l} e p) = lifted (length l) (renaming_of p)
  renaming_of (Permᴰ.swap {l = l} e f) = swapped (length l)
  renaming_of (Permᴰ.trans p q) = after (renaming_of p) (renaming_of q) (ap (λ k. 2 * k) (as_many p))

  pub rename-rename : (f g h : ℕ → ℕ) → ((r : ℕ) → f (g r) ≡ h r) → (e : Event P) → rename f (rename g e) ≡ rename h e
  unfolding rename rename_link
  rename-rename f g h k e = rw (k e.partner, go e.below)
    where
      go : (o : Option ℕ) → rename_link f (rename_link g o) ≡ rename_link h o
      go None = refl
      go (Some a) = ap Some (k a)

-- ---- the loaded records

abbrev pub two : ℕ → ℕ
two r = suc (suc r)

module _ {P S : Type 0} (C : Coordinates P) (K : Store P S) where
  -- of the edges l from number 0 on, by number; blank beyond
  unfoldable pub at : List (Edge P) → ℕ → Event P
  at [] r = K.blank r
  at (e ∷ l) zero = first_end C 0 e
  at (e ∷ l) (suc zero) = second_end C 0 e
  at (e ∷ l) (suc (suc r)) = rename two (at l r)

  module _ (bl : Blanks K) where
    pub at-to : {l m : List (Edge P)} (p : Permᴰ l m) (r : ℕ) → at m ((renaming_of p).to r) ≡ rename (renaming_of p).to (at l r)
    unfolding renaming_of kept lifted lift swapped swap after at rename rename_link first_end second_end end
    at-to Permᴰ.nil r = bl.renamed (λ x. x) r
    at-to (Permᴰ.cons e p) zero = rw e
    at-to (Permᴰ.cons e p) (suc zero) = rw e
    at-to (Permᴰ.cons {l₁ = l} e p) (suc (suc r)) =
        let f = (renaming_of p).to in
        ap (rename two) (at-to p r) ∙ rename-rename two f (λ x. two (f x)) (λ x. refl) (at l r) ∙ sym (rename-rename (lift f) two (λ x. two (f x)) (λ x. refl) (at l r))
    at-to (Permᴰ.swap e f) zero = rw e
    at-to (Permᴰ.swap e f) (suc zero) = rw e
    at-to (Permᴰ.swap e f) (suc (suc zero)) = rw f
    at-to (Permᴰ.swap e f) (suc (suc (suc zero))) = rw f
    at-to (Permᴰ.swap {l = l} e f) (suc (suc (suc (suc r)))) =
        let four : ℕ → ℕ = λ x. two (two x) in
        let deep : rename two (rename two (at l r)) ≡ rename four (at l r) = rename-rename two two four (λ x. refl) (at l r) in
        deep ∙ sym (ap (rename swap) deep ∙ rename-rename swap four four (λ x. refl) (at l r))
    at-to (Permᴰ.trans {l₁ = l} p q) r =
        at-to q ((renaming_of p).to r) ∙ ap (rename (renaming_of q).to) (at-to p r)
        ∙ rename-rename (renaming_of q).to (renaming_of p).to (λ x. (renaming_of q).to ((renaming_of p).to x)) (λ x. refl) (at l r)
