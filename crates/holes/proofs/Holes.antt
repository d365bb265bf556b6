-- What is left to store from now on gives what all gives from the start, for the holes of one contour and for all contours.
use mathlib.Core.Path.{◌≡◌, refl, sym, ap, ◌∙◌}
use mathlib.Core.Bool.{Bool, true, false, cond}
use mathlib.Core.List.{List, [], ◌∷◌}
use Prim.Native.Nat.{ℕ, zero, suc, ◌+◌, ◌-◌, ◌≤◌, ◌<◌}
use native.Mathlib.Numerals.{add-one}
use native.Mathlib.Nat.{add-zero}
use native.Mathlib.Omega.{arith}
use lib.ListN.{length, get_or, set, length-append}
use lib.Seq.{sets}
use lib.Dec.{eqb}
use Rattle.checks.specs.Numbers.{numbers_from}
use Rattle.contours.specs.Result.{keep}
use Rattle.rows.proofs.Lists.{sets-append}
use Rattle.holes.specs.Holes.{nest_in, Held, holding, holes_at, contour_row, contour_rows, all_holes, held_from, hold_one, Pile, pile, piled, add_hole}

-- ---- the holes of one contour

piles : {h h' : List ℕ} {e e' : ℕ} → h ≡ h' → e ≡ e' → pile h e ≡ pile h' e'
piles a b = rw (a, b)

module _ (ns : List (List ℕ)) (c : ℕ) where
  -- with one more contour in front
  pile-more : (m j : ℕ) (hs : List ℕ) (e : ℕ) (p : Pile) → p ≡ add_hole ns c hs e j → piled p.holes p.end (holes_at ns c m (suc j)) ≡ piled hs e (holes_at ns c (suc m) j)
  unfolding add_hole piled holes_at keep numbers_from
  pile-more m j hs e p q = rw q (go (eqb (get_or (nest_in ns j) 2 0) (c + 1)))
    where
      rest : List ℕ
      rest = keep (λ i. eqb (get_or (nest_in ns i) 2 0) (c + 1)) (numbers_from (suc j) m)

      go : (b : Bool) → piled (cond b (pile (set hs e j) (e + 1)) (pile hs e)).holes (cond b (pile (set hs e j) (e + 1)) (pile hs e)).end rest ≡ piled hs e (cond b (j ∷ rest) rest)
      go true = piles (ap (λ (n : ℕ). sets (set hs e j) n rest) (add-one e)) (omega arith)
      go false = refl

  pub pile-on : (n j : ℕ) (hs hs' : List ℕ) (e e' : ℕ) (w : Pile) → j < n → piled hs e (holes_at ns c (n - j) j) ≡ w → pile hs' e' ≡ add_hole ns c hs e j → piled hs' e' (holes_at ns c (n - (j + 1)) (j + 1)) ≡ w
  pile-on n j hs hs' e e' w h v q =
      let d : n - j ≡ suc (n - (j + 1)) = omega arith in
      let u : piled hs e (holes_at ns c (suc (n - (j + 1))) j) ≡ w = rw d at v in
      ap (λ (i : ℕ). piled hs' e' (holes_at ns c (n - (j + 1)) i)) (add-one j) ∙ pile-more (n - (j + 1)) j hs e (pile hs' e') q ∙ u

  pub pile-end : (n j : ℕ) (hs : List ℕ) (e : ℕ) (w : Pile) → n ≤ j → piled hs e (holes_at ns c (n - j) j) ≡ w → pile hs e ≡ w
  unfolding piled holes_at keep numbers_from
  pile-end n j hs e w h v = let d : n - j ≡ 0 = omega arith in let u : pile hs (e + 0) ≡ w = rw d at v in rw add-zero at u

  -- one more at most
  pub add-near : (j : ℕ) (hs hs' : List ℕ) (e e' : ℕ) → pile hs' e' ≡ add_hole ns c hs e j → e' ≤ e + 1
  unfolding add_hole
  add-near j hs hs' e e' q = omega (arith, ap (λ (p : Pile). p.end) q, go (eqb (get_or (nest_in ns j) 2 0) (c + 1)))
    where
      go : (b : Bool) → (cond b (pile (set hs e j) (e + 1)) (pile hs e)).end ≤ e + 1
      go true = omega arith
      go false = omega arith

  pub holes-few : (m j : ℕ) → length (holes_at ns c m j) ≤ m
  unfolding holes_at keep numbers_from
  holes-few zero j = omega arith
  holes-few (suc m) j = go (eqb (get_or (nest_in ns j) 2 0) (c + 1)) (holes-few m (suc j))
    where
      rest : List ℕ
      rest = keep (λ i. eqb (get_or (nest_in ns i) 2 0) (c + 1)) (numbers_from (suc j) m)

      go : (b : Bool) → length rest ≤ m → length (cond b (j ∷ rest) rest) ≤ suc m
      go true h = omega arith
      go false h = omega arith

-- ---- one contour, and all

module _ (ns : List (List ℕ)) (n : ℕ) where
  pub pile-far : (c e e' : ℕ) (hs hs' : List ℕ) → pile hs' e' ≡ piled hs e (holes_at ns c n 0) → (e ≤ e') × (e' ≤ e + n)
  unfolding piled
  pile-far c e e' hs hs' q =
      let p : e' ≡ e + length (holes_at ns c n 0) = ap (λ (p : Pile). p.end) q in
      (omega arith, omega (arith, holes-few ns c n 0))

  pub hold-is : (c e e' : ℕ) (ks ks' : List (List ℕ)) (hs hs' : List ℕ) (q : List ℕ) → q ≡ nest_in ns c → pile hs' e' ≡ piled hs e (holes_at ns c n 0)
      → ks' ≡ set ks c (get_or q 0 0 ∷ get_or q 1 0 ∷ get_or q 2 0 ∷ get_or q 3 0 ∷ e ∷ (e' - e) ∷ []) → holding ks' hs' e' ≡ hold_one ns n c ks hs e
  unfolding hold_one piled contour_row
  hold-is c e e' ks ks' hs hs' q f p k =
      let x : e' ≡ e + length (holes_at ns c n 0) = ap (λ (p : Pile). p.end) p in
      let y : hs' ≡ sets hs e (holes_at ns c n 0) = ap (λ (p : Pile). p.holes) p in
      let z : e + length (holes_at ns c n 0) - e ≡ length (holes_at ns c n 0) = omega arith in
      rw (k, y, x, f, z)

  holdings : {k k' : List (List ℕ)} {h h' : List ℕ} {e e' : ℕ} → k ≡ k' → h ≡ h' → e ≡ e' → holding k h e ≡ holding k' h' e'
  holdings a b c = rw (a, b, c)

  hold-more : (k c e : ℕ) (ks : List (List ℕ)) (hs : List ℕ) → held_from ns n k (suc c) (set ks c (contour_row ns n c e)) (sets hs e (holes_at ns c n 0)) (e + length (holes_at ns c n 0)) ≡ held_from ns n (suc k) c ks hs e
  unfolding held_from contour_rows all_holes
  hold-more k c e ks hs =
      holdings refl (sym (sets-append hs e (holes_at ns c n 0) (all_holes ns n k (suc c)))) (omega (arith, length-append (holes_at ns c n 0) (all_holes ns n k (suc c))))

  pub hold-on : (c e e' : ℕ) (ks ks' : List (List ℕ)) (hs hs' : List ℕ) (w : Held) → c < n → held_from ns n (n - c) c ks hs e ≡ w → holding ks' hs' e' ≡ hold_one ns n c ks hs e
      → held_from ns n (n - (c + 1)) (c + 1) ks' hs' e' ≡ w
  unfolding hold_one
  hold-on c e e' ks ks' hs hs' w h v q =
      let d : n - c ≡ suc (n - (c + 1)) = omega arith in
      let u : held_from ns n (suc (n - (c + 1))) c ks hs e ≡ w = rw d at v in
      ap (λ (i : ℕ). held_from ns n (n - (c + 1)) i ks' hs' e') (add-one c)
      ∙ ap (λ (x : Held). held_from ns n (n - (c + 1)) (suc c) x.contours x.holes x.end) q
      ∙ hold-more (n - (c + 1)) c e ks hs
      ∙ u

  pub hold-end : (c e : ℕ) (ks : List (List ℕ)) (hs : List ℕ) (w : Held) → n ≤ c → held_from ns n (n - c) c ks hs e ≡ w → holding ks hs e ≡ w
  unfolding held_from contour_rows all_holes
  hold-end c e ks hs w h v = let d : n - c ≡ 0 = omega arith in let u : holding ks hs (e + 0) ≡ w = rw d at v in rw add-zero at u

  pub hold-near : (c e e' : ℕ) (ks ks' : List (List ℕ)) (hs hs' : List ℕ) → holding ks' hs' e' ≡ hold_one ns n c ks hs e → e' ≤ e + n
  unfolding hold_one
  hold-near c e e' ks ks' hs hs' q = omega (arith, ap (λ (x : Held). x.end) q, holes-few ns c n 0)
