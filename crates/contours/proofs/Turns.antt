-- All contours by one induction: what holds at the start, and is kept by a turn that passes a position by and by one that makes a contour, holds
-- where the answer ends, be it at the last position or at refusal 9.
use Rattle.refusals.specs.declared.Reason.{Reason}
use Rattle.std.proofs.Common.{Option}
use mathlib.Core.Path.{◌≡◌, refl}
use Rattle.refusals.specs.declared.Reason.TheVariants as Reason
use mathlib.Core.Bool.{Bool, true, false}
use mathlib.Core.List.{List, [], ◌∷◌, ◌++◌}
use Prim.Native.Nat.{ℕ, zero, suc, ◌+◌, ◌<◌}
use native.Mathlib.Numerals.{add-one}
use native.Mathlib.Omega.{arith}
use lib.ListN.{length, get_or, replicate}
use Rattle.contours.specs.Table.{Row}
use Rattle.contours.specs.Round.{is_open}
use Rattle.contours.specs.Walk.{marks}
use Rattle.contours.specs.Contours.{Contour, contour, Answer, done, halted, Place, refuse, placed, context, turn, make, trail_at, turns, trace}
use Rattle.contours.proofs.Marks.{open-true}

-- an invariant of position, marks and contours, where the answer ends; it is stopped by refusal 9 and by no other, at a position of the table
abbrev pub Ends : ℕ → (ℕ → List ℕ → List Contour → Type 0) → Answer → Type 0
Ends n I (done ms cs) = I n ms cs
Ends n I (halted reason i ms cs) = (reason ≡ Reason.Loose) × (i < n) × I i ms cs

module _ {P : Type 0} (same : P → P → Bool) (n : ℕ) (row : ℕ → Row P) where
  -- the marks and the contours after one that starts at i
  abbrev pub marked : ℕ → List Contour → List ℕ → List ℕ
  marked i cs ms = marks same n row (length cs) ms (trail_at same n row i (length cs) ms)

  abbrev pub more : ℕ → List Contour → List ℕ → Option ℕ → ℕ → List Contour
  more i cs ms p d = cs ++ (contour (trail_at same n row i (length cs) ms) p d ∷ [])

  module _ (I : ℕ → List ℕ → List Contour → Type 0)
      (skip : (i : ℕ) (ms : List ℕ) (cs : List Contour) → i < n → I i ms cs → is_open (get_or ms i 1) ≡ false → I (suc i) ms cs)
      (start : (i : ℕ) (ms : List ℕ) (cs : List Contour) (p : Option ℕ) (d : ℕ) → i < n → I i ms cs → get_or ms i 1 ≡ 0 → context ms cs (row i).below ≡ placed p d
      → I (suc i) (marked i cs ms) (more i cs ms p d)) where
    turns-end : (k i : ℕ) (ms : List ℕ) (cs : List Contour) → i + k ≡ n → I i ms cs → Ends n I (turns same n row k i ms cs)
    unfolding turns turn make
    turns-end zero i ms cs q h = let z : i ≡ n = omega arith in rw z at h
    turns-end (suc k) i ms cs q h = go (is_open (get_or ms i 1)) refl (λ ms cs x. turns-end k (i + 1) ms cs (omega arith) (rw add-one x))
      where
        After : Type 0
        After = (ms : List ℕ) (cs : List Contour) → I (suc i) ms cs → Ends n I (turns same n row k (i + 1) ms cs)

        made : (w : Place) → context ms cs (row i).below ≡ w → get_or ms i 1 ≡ 0 → After → Ends n I (make w (halted Reason.Loose i ms cs) (λ p d. turns same n row k (i + 1) (marked i cs ms) (more i cs ms p d)))
        made refuse e o r = (refl, omega arith, h)
        made (placed p d) e o r = r (marked i cs ms) (more i cs ms p d) (start i ms cs p d (omega arith) h o e)

        go : (b : Bool) → is_open (get_or ms i 1) ≡ b → After
            → Ends n I (turn b (λ _. make (context ms cs (row i).below) (halted Reason.Loose i ms cs) (λ p d. turns same n row k (i + 1) (marked i cs ms) (more i cs ms p d)))
            (λ _. turns same n row k (i + 1) ms cs))
        go true o r = made (context ms cs (row i).below) refl (open-true (get_or ms i 1) o) r
        go false o r = r ms cs (skip i ms cs (omega arith) h o)

    pub trace-placed : I 0 (replicate n 0) [] → Ends n I (trace same n row)
    unfolding trace
    trace-placed h = turns-end n 0 (replicate n 0) [] (omega arith) h

  -- where parents and depths do not matter
  pub trace-end : (I : ℕ → List ℕ → List Contour → Type 0)
      → ((i : ℕ) (ms : List ℕ) (cs : List Contour) → i < n → I i ms cs → is_open (get_or ms i 1) ≡ false → I (suc i) ms cs)
      → ((i : ℕ) (ms : List ℕ) (cs : List Contour) (p : Option ℕ) (d : ℕ) → i < n → I i ms cs → get_or ms i 1 ≡ 0 → I (suc i) (marked i cs ms) (more i cs ms p d))
      → I 0 (replicate n 0) [] → Ends n I (trace same n row)
  trace-end I skip start = trace-placed I skip (λ i ms cs p d l h o e. start i ms cs p d l h o)

  -- with nothing asked of what was made
  pub by-nine : Ends n (λ i ms cs. Unit {0}) (trace same n row)
  by-nine = trace-end (λ i ms cs. Unit {0}) (λ i ms cs l h o. tt) (λ i ms cs p d l h o. tt) tt

  pub halted-in : (reason : Reason) (at : ℕ) (ms : List ℕ) (cs : List Contour) → trace same n row ≡ halted reason at ms cs → at < n
  halted-in reason at ms cs e =
      let h : Ends n (λ i ms cs. Unit {0}) (halted reason at ms cs) = rw e at by-nine in
      h.1
