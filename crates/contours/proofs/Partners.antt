-- The listed records and their partners, which 2 looks at: who is among them, and that another numbering and listing has the same ones.
use mathlib.Core.Path.{◌≡◌, refl, ap, ◌∙◌}
use mathlib.Core.Logic.{◌⊎◌, inl, inr}
use mathlib.Core.Bool.{Bool, true, false, not, cond}
use mathlib.Core.List.Memᴰ
use mathlib.Core.List.{List, [], ◌∷◌, map, Memᴰ, Permᴰ}
use Prim.Native.Nat.{ℕ, ◌<◌}
use borrow.Author.Tests.{ltb-true}
use lib.Dec.{ltb}
use Rattle.events.specs.Event.{Event}
use Rattle.events.specs.Renaming.{rename}
use Rattle.checks.specs.Checks.{outside, mate, named}
use Rattle.checks.proofs.Named.{mate-inside}
use Rattle.contours.specs.Connect.{with_contour}
use Rattle.contours.specs.Renaming.{Renumbered, Relisted}

module _ {P : Type 0} (row : ℕ → Event P) (n : ℕ) where
  own-in : (r : ℕ) (l : List ℕ) → Memᴰ r l → Memᴰ r (named row n l)
  unfolding named
  own-in r l (Memᴰ.head e) = Memᴰ.head e
  own-in r l (Memᴰ.tail {xs = xs} m) = Memᴰ.tail (Memᴰ.tail (own-in r xs m))

  pub own-named : (l : List ℕ) (r : ℕ) → Memᴰ r l → Memᴰ r (named row n l)
  own-named l r = own-in r l

  mate-in : (r : ℕ) (l : List ℕ) → Memᴰ r l → Memᴰ (mate row n r) (named row n l)
  unfolding named
  mate-in r l (Memᴰ.head e) = Memᴰ.tail (Memᴰ.head (ap (mate row n) e))
  mate-in r l (Memᴰ.tail {xs = xs} m) = Memᴰ.tail (Memᴰ.tail (mate-in r xs m))

  mate-named : (l : List ℕ) (r : ℕ) → Memᴰ r l → Memᴰ (mate row n r) (named row n l)
  mate-named l r = mate-in r l

  -- the partner of a listed record of the pool
  pub partner-named : (l : List ℕ) (r : ℕ) → r < n → Memᴰ r l → Memᴰ (row r).partner (named row n l)
  partner-named l r h m = rw (mate-inside row n r h) at (mate-named l r m)

  -- and nobody else
  pub named-all : (D : ℕ → Type 0) (l : List ℕ) → ((r : ℕ) → Memᴰ r l → (r < n) × (D r × D (row r).partner)) → (q : ℕ) → Memᴰ q (named row n l) → D q
  unfolding named
  named-all D [] h q m = absurd (Memᴰ.not-nil m)
  named-all D (r ∷ l) h q m = own (Memᴰ.cases_cons m) (h r (Memᴰ.head refl)) (named-all D l (λ x k. h x (Memᴰ.tail k)) q)
    where
      other : (q ≡ mate row n r) ⊎ Memᴰ q (named row n l) → (r < n) × (D r × D (row r).partner) → (Memᴰ q (named row n l) → D q) → D q
      other (inl e) d rest = rw (e ∙ mate-inside row n r d.0) d.1.1
      other (inr k) d rest = rest k

      own : (q ≡ r) ⊎ Memᴰ q (mate row n r ∷ named row n l) → (r < n) × (D r × D (row r).partner) → (Memᴰ q (named row n l) → D q) → D q
      own (inl e) d rest = rw e d.1.0
      own (inr k) d rest = other (Memᴰ.cases_cons k) d rest

  -- ---- another listing

  two-swapped : (a a' b b' : ℕ) (l : List ℕ) → Permᴰ (a ∷ a' ∷ b ∷ b' ∷ l) (b ∷ b' ∷ a ∷ a' ∷ l)
  two-swapped a a' b b' l =
      Permᴰ.trans (Permᴰ.cons refl (Permᴰ.swap refl refl))
      (Permᴰ.trans (Permᴰ.swap refl refl)
      (Permᴰ.trans (Permᴰ.cons refl (Permᴰ.cons refl (Permᴰ.swap refl refl))) (Permᴰ.cons refl (Permᴰ.swap refl refl))))

  named-perm : {l m : List ℕ} → Permᴰ l m → Permᴰ (named row n l) (named row n m)
  unfolding named
  named-perm Permᴰ.nil = Permᴰ.nil
  named-perm (Permᴰ.cons e p) = Permᴰ.cons e (Permᴰ.cons (ap (mate row n) e) (named-perm p))
  named-perm (Permᴰ.swap {a = a} {b = b} {l = l} e f) = rw (← e, ← f) (two-swapped a (mate row n a) b (mate row n b) (named row n l))
  named-perm (Permᴰ.trans p q) = Permᴰ.trans (named-perm p) (named-perm q)

-- ---- another numbering

module _ {P : Type 0} (ρ : ℕ → ℕ) (n : ℕ) (row row' : ℕ → Event P) (rn : Renumbered ρ n row row') where
  mate-kept : (r : ℕ) → mate row' n (ρ r) ≡ ρ (mate row n r)
  unfolding mate outside rename with_contour
  mate-kept r = rw (rn.within r) (go (ltb r n) refl)
    where
      go : (b : Bool) → ltb r n ≡ b → cond (not b) (ρ r) (row' (ρ r)).partner ≡ ρ (cond (not b) r (row r).partner)
      go true e = rw (rn.kept r (ltb-true r n e))
      go false e = refl

  named-map : (l : List ℕ) → named row' n (map ρ l) ≡ map ρ (named row n l)
  unfolding named
  named-map [] = refl
  named-map (r ∷ l) = rw (mate-kept r, named-map l)

  pub named-relisted : (list list' : List ℕ) → Relisted ρ list list' → Relisted ρ (named row n list) (named row' n list')
  named-relisted list list' p = rw (named-map list) at (named-perm row' n p)
