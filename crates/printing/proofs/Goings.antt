-- Pieces are put one after the other: what is left, put from where the last piece ended, gives the whole.
use mathlib.Core.Path.{◌≡◌, refl, sym, ap, ◌∙◌}
use mathlib.Core.List.{List, [], ◌∷◌, ◌++◌, append-nil, append_assoc}
use Prim.Native.Nat.{ℕ, zero, suc, ◌+◌, ◌≤◌, ◌<◌, min}
use native.Mathlib.Decide.{dec_lt}
use native.Mathlib.Omega.{arith}
use lib.ListN.{length, get_or, take, length-append}
use lib.Seq.{sets, set_out, length-sets, take_all}
use Rattle.text.specs.Digits.{hex}
use Rattle.text.proofs.Writing.{digits-length}
use Rattle.sheet.proofs.Puts.{sets-append}
use Rattle.printing.specs.Put.{Put}

-- nothing is stored past the end
sets-past : (b : List ℕ) (i : ℕ) (d : List ℕ) → length b ≤ i → sets b i d ≡ b
sets-past b i [] h = refl
sets-past b i (x ∷ d) h = ap (λ (l : List ℕ). sets l (suc i) d) (set_out b i x h) ∙ sets-past b (suc i) d (omega arith)

-- two pieces, where the place between them is told at most as the largest
sets-on : (b : List ℕ) (at : ℕ) (c d : List ℕ) → length b ≤ 18446744073709551615 → sets (sets b at c) (min (at + length c) 18446744073709551615) d ≡ sets b at (c ++ d)
sets-on b at c d h = go (dec_lt 18446744073709551615 (at + length c))
  where
    go : Dec (18446744073709551615 < at + length c) → sets (sets b at c) (min (at + length c) 18446744073709551615) d ≡ sets b at (c ++ d)
    go (yes l) =
        let far : length (sets b at c) ≤ min (at + length c) 18446744073709551615 = omega (arith, length-sets b at c) in
        let off : length (sets b at c) ≤ at + length c = omega (arith, length-sets b at c) in
        sets-past (sets b at c) (min (at + length c) 18446744073709551615) d far ∙ sym (sets-past (sets b at c) (at + length c) d off) ∙ sym (sets-append b at c d)
    go (no l) =
        let q : min (at + length c) 18446744073709551615 ≡ at + length c = omega arith in
        rw q (sym (sets-append b at c d))

-- ---- a few pieces

pub kept : {out : List ℕ} {at : ℕ} {a out₁ : List ℕ} {p : ℕ} → Put out at a out₁ p → length out ≤ 18446744073709551615 → length out₁ ≤ 18446744073709551615
kept {out} {at} {a} k h = omega (arith, ap length k.stored, length-sets out at a)

pub then : {out : List ℕ} {at : ℕ} {a out₁ : List ℕ} {p₁ : ℕ} {b out₂ : List ℕ} {p₂ : ℕ} → length out ≤ 18446744073709551615 → Put out at a out₁ p₁ → Put out₁ p₁ b out₂ p₂ → Put out at (a ++ b) out₂ p₂
then {out} {at} {a} {out₁} {p₁} {b} {out₂} {p₂} h k l =
    record {
      stored = l.stored ∙ ap (λ (x : List ℕ). sets x p₁ b) k.stored ∙ ap (λ (n : ℕ). sets (sets out at a) n b) k.next ∙ sets-on out at a b h;
      next = let n : length (a ++ b) ≡ length a + length b = length-append a b in omega (arith, k.next, l.next);
    }

-- ---- many: a piece for each member of a list

pub record Lines {A : Type 0} (lines : List A → List ℕ) (line : A → List ℕ) : Type 0 where
  pub none : lines [] ≡ []
  pub more : (a : A) (l : List A) → lines (a ∷ l) ≡ line a ++ lines l

module _ {A : Type 0} {lines : List A → List ℕ} {line : A → List ℕ} (k : Lines lines line) where
  one-more : (l : List A) (i : ℕ) (d : A) → i < length l → lines (take (i + 1) l) ≡ lines (take i l) ++ line (get_or l i d)
  one-more [] i d h = absurd (omega arith)
  one-more (a ∷ l) zero d h = rw (k.more, k.none) (append-nil (line a))
  one-more (a ∷ l) (suc i) d h =
      let e : suc i + 1 ≡ suc (i + 1) = omega arith in
      rw (e, k.more a (take (i + 1) l), k.more a (take i l), one-more l i d (omega arith), append_assoc)

  pub begun : (l : List A) (out : List ℕ) (at : ℕ) → at ≤ 18446744073709551615 → Put out at (lines (take 0 l)) out at
  begun l out at h = rw k.none (record { stored = refl; next = omega arith })

  pub on : (l : List A) (i : ℕ) (d : A) → i < length l → {out : List ℕ} {at : ℕ} {out₁ : List ℕ} {p₁ : ℕ} {out₂ : List ℕ} {p₂ : ℕ} → length out ≤ 18446744073709551615 → Put out at (lines (take i l)) out₁ p₁ → Put out₁ p₁ (line (get_or l i d)) out₂ p₂ → Put out at (lines (take (i + 1) l)) out₂ p₂
  on l i d h room a b = rw (one-more l i d h) (then room a b)

  pub done : (l : List A) (i : ℕ) → length l ≤ i → {out : List ℕ} {at : ℕ} {out₁ : List ℕ} {p₁ : ℕ} → Put out at (lines (take i l)) out₁ p₁ → Put out at (lines l) out₁ p₁
  done l i h a = rw (take_all i l h) at a

-- ---- a word by its digits

pub sixteen : (out : List ℕ) (at w : ℕ) (out₁ : List ℕ) → out₁ ≡ sets out at (hex w) → (p : ℕ) → p ≡ min (at + 16) 18446744073709551615 → Put out at (hex w) out₁ p
sixteen out at w out₁ s p n = record { stored = s; next = n ∙ ap (λ (k : ℕ). min (at + k) 18446744073709551615) (sym (digits-length 16 16 w)) }
