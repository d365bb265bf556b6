-- A cut by its division's answer: two places more in use, or nothing moved.
use Rattle.std.proofs.Common.{Err, Ok, Result}
use Rattle.refusals.specs.Refusals.{Verdict}
use mathlib.Core.Path.{◌≡◌, refl, sym, ap, ◌∙◌}
use mathlib.Core.Bool.{Bool, true, false}
use Prim.Native.Nat.{ℕ, ◌+◌, ◌<◌}
use native.Mathlib.Omega.{arith}
use Rattle.refusals.specs.declared.Refusal.{Refusal}
use Rattle.events.specs.Coordinates.{Coordinates}
use Rattle.events.specs.Store.{Store}
use Rattle.division.specs.declared.Divided.{Divided}
use Rattle.division.specs.Division.{After, done, divide}
use Rattle.division.proofs.Outcomes.{passed, as_lent_lem}
use Rattle.neighbours.specs.Step.{Step, step, stop_of, go_on, and_then, cut, cut_unless, twice}

left-of : ℕ → Result Divided Refusal → ℕ
left-of n (Ok d) = d.left
left-of n (Err r) = n

module _ {P S : Type 0} (C : Coordinates P) (K : Store P S) (s : S) (used i : ℕ) (p : P) where
  module _ (d : Divided) (h : Ok d ≡ (divide C K s used i p).answer) where
    -- the new left end has the number after the first free one
    pub left_is : d.left ≡ used + 1
    unfolding done left-of
    left_is = ap (left-of 0) h ∙ ap (λ (x : After S). left-of 0 x.answer) (passed C K s used i p d (sym h)).is

    -- the places in use can still be counted in 32 bits
    pub counted : d.left + 1 < 4294967296
    counted = omega (arith, left_is, (passed C K s used i p d (sym h)).free)

    pub used-is : (divide C K s used i p).used ≡ used + 2
    unfolding done
    used-is = ap (λ (x : After S). x.used) (passed C K s used i p d (sym h)).is

    pub cut-done : (t : S) → t ≡ (divide C K s used i p).store → step t (d.left + 1) (Ok tt) ≡ cut C K s used i p
    unfolding cut stop_of
    cut-done t e =
        let n : d.left + 1 ≡ used + 2 = omega (arith, left_is) in
        rw (← h, used-is, e, n)

  pub cut-refused : (r : Refusal) (t : S) → Err r ≡ (divide C K s used i p).answer → t ≡ (divide C K s used i p).store → step t used (Err r) ≡ cut C K s used i p
  unfolding cut stop_of
  cut-refused r t h e = rw (← h, e, (as_lent_lem C K s used i p r (sym h)).used)

-- ---- one step after another

module _ {P S : Type 0} (C : Coordinates P) (K : Store P S) (s : S) (used i : ℕ) (p : P) where
  pub not-cut : (b : Bool) (n : ℕ) (x : Verdict) → b ≡ true → n ≡ used → x ≡ Ok tt → step s n x ≡ cut_unless C K b s used i p
  unfolding cut_unless
  not-cut b n x h e f = rw (h, e, f)

  pub is_cut : (b : Bool) (y : Step S) → b ≡ false → y ≡ cut C K s used i p → y ≡ cut_unless C K b s used i p
  unfolding cut_unless
  is_cut b y h e = rw h e

  -- the first step done, and what is left of it
  module _ (t : S) (n : ℕ) (x : Verdict) (h : step t n x ≡ cut C K s used i p) where
    pub then-on : (j : ℕ) (q : P) (y : Step S) → x ≡ Ok tt → y ≡ cut C K t n j q → y ≡ twice C K s used i p j q
    unfolding twice and_then go_on
    then-on j q y g e = rw (← h, g) e

    pub then-stopped : (j : ℕ) (q : P) (r : Refusal) → x ≡ Err r → step t n x ≡ twice C K s used i p j q
    unfolding twice and_then go_on
    then-stopped j q r g = rw (← h, g)

    -- it has put two places into use
    pub grown : x ≡ Ok tt → n ≡ used + 2
    unfolding cut stop_of
    grown g = go (divide C K s used i p).answer refl (sym g ∙ ap (λ (y : Step S). y.stop) h)
      where
        go : (a : Result Divided Refusal) → (divide C K s used i p).answer ≡ a → Ok tt ≡ stop_of a → n ≡ used + 2
        go (Ok d) e g = ap (λ (y : Step S). y.used) h ∙ used-is C K s used i p d (sym e)
        go (Err r) e g = let z : ◌≡◌ {A = ℕ} 0 1 = cc in absurd (omega arith)
