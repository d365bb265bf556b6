-- The place of a record in a list without repetition: there and back, and under a renaming.
use mathlib.Core.Path.{◌≡◌, refl, sym, ap}
use mathlib.Core.Logic.{◌≢◌, ◌⊎◌, inl, inr}
use mathlib.Core.Bool.{Bool, true, false, cond}
use mathlib.Core.List.Memᴰ
use mathlib.Core.List.{List, [], ◌∷◌, map, Memᴰ}
use Prim.Native.Nat.{ℕ, zero, suc, ◌<◌}
use native.Mathlib.Nat.{not-suc-le-zero, le_of_suc-le-suc}
use native.Mathlib.Omega.{arith}
use borrow.Author.Tests.{eqb-true, eqb-false, eq-eqb, ne_eqb}
use lib.ListN.{length, get_or}
use lib.Dec.{eqb}
use Rattle.contours.specs.Table.{place}
use Rattle.contours.proofs.Lists.{Pairs, all-mem, mem-get_d}

pub place_of : (s : List ℕ) (r d : ℕ) → Memᴰ r s → (place s r < length s) × (get_or s (place s r) d ≡ r)
unfolding place
place_of [] r d m = absurd (Memᴰ.not-nil m)
place_of (x ∷ s) r d m = go (eqb x r) refl (Memᴰ.cases_cons m) (place_of s r d)
  where
    go : (t : Bool) → eqb x r ≡ t → (r ≡ x) ⊎ Memᴰ r s → (Memᴰ r s → (place s r < length s) × (get_or s (place s r) d ≡ r))
        → (cond t 0 (suc (place s r)) < suc (length s)) × (get_or (x ∷ s) (cond t 0 (suc (place s r))) d ≡ r)
    go true e k i = (omega arith, eqb-true x r e)
    go false e (inl k) i = absurd (eqb-false x r e (sym k))
    go false e (inr k) i = (omega (arith, (i k).0), (i k).1)

pub place-get_d : (s : List ℕ) (i d : ℕ) → Pairs ◌≢◌ s → i < length s → place s (get_or s i d) ≡ i
unfolding place
place-get_d [] i d h l = absurd (not-suc-le-zero l)
place-get_d (x ∷ s) zero d h l = rw (eq-eqb x x refl)
place-get_d (x ∷ s) (suc i) d h l =
    rw (ne_eqb x (get_or s i d) (all-mem (λ (y : ℕ). x ≢ y) s (get_or s i d) h.0 (mem-get_d s i d (le_of_suc-le-suc l))), place-get_d s i d h.1 (le_of_suc-le-suc l))

module _ (ρ : ℕ → ℕ) (inj : (a b : ℕ) → ρ a ≡ ρ b → a ≡ b) where
  pub eqb-map : (a b : ℕ) → eqb (ρ a) (ρ b) ≡ eqb a b
  eqb-map a b = go (eqb a b) refl
    where
      go : (x : Bool) → eqb a b ≡ x → eqb (ρ a) (ρ b) ≡ x
      go true p = eq-eqb (ρ a) (ρ b) (ap ρ (eqb-true a b p))
      go false p = ne_eqb (ρ a) (ρ b) (λ q. eqb-false a b p (inj a b q))

  pub place_map : (s : List ℕ) (b : ℕ) → place (map ρ s) (ρ b) ≡ place s b
  unfolding place
  place_map [] b = refl
  place_map (a ∷ s) b = rw (eqb-map a b, place_map s b)
