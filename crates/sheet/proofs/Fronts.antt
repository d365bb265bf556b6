-- What is written in front is read, and what is read in front was written: words and numbers.
use Rattle.std.proofs.Common.{None, Option, Some}
use mathlib.Core.Path.{◌≡◌, refl, sym, ap, ◌∙◌}
use mathlib.Core.Bool.{Bool, true, false, cond, ◌&&◌}
use mathlib.Core.List.{List, [], ◌∷◌, ◌++◌, append_assoc}
use Prim.Native.Nat.{ℕ, zero, suc, ◌+◌, ◌/◌, ◌%◌, ◌^◌, ◌≤◌, ◌<◌}
use native.Mathlib.Decide.{dec_lt}
use native.Mathlib.Nat.{mod-lt}
use native.Mathlib.Omega.{arith}
use borrow.Author.Tests.{lt-ltb, le-ltb, ltb-true, ltb-false, eq-eqb, ne_eqb, eqb-true, eqb-false}
use lib.Dec.{eqb, ltb}
use lib.ListN.{length, get_or, drop, length-append}
use lib.Seq.{drop_at, drop-append_seam, take-append_seam}
use Rattle.text.specs.Words.{bytes, begins}
use Rattle.text.specs.Digits.{digit, digits, hex, places, decimal, value, hex_at, decimal_at}
use Rattle.text.proofs.Writing.{digits-length}
use Rattle.text.proofs.Back.{digit-back, back, bytes-there, decimal-back}
use Rattle.text.proofs.Forth.{forth, bytes-length, digits-there, value-small}
use Rattle.text.proofs.Leading.{places-low, places-most, decimal-forth, decimal-first}
use Rattle.sheet.specs.Sheet.{number_bytes}
use Rattle.sheet.specs.Reading.{Parsed, Got, Wrong, and_then, got, run, numeral, ring_by, ring_from, ring_of, number_of}
use Rattle.sheet.proofs.Places.{front}

-- ---- words

pub word-front : (w s : List ℕ) → begins w (w ++ s) ≡ true
unfolding begins
word-front [] s = refl
word-front (b ∷ w) s = rw (eq-eqb b b refl, word-front w s)

pub word_split : (w s : List ℕ) → begins w s ≡ true → s ≡ w ++ drop (length w) s
unfolding begins
word_split [] s e = refl
word_split (b ∷ w) [] e = let z : ◌≡◌ {A = ℕ} 0 1 = cc in absurd (omega arith)
word_split (b ∷ w) (c ∷ s) e = go (eqb c b) refl e (word_split w s)
  where
    go : (t : Bool) → eqb c b ≡ t → t && begins w s ≡ true → (begins w s ≡ true → s ≡ w ++ drop (length w) s) → c ∷ s ≡ b ∷ (w ++ drop (length w) s)
    go true h f r = rw (eqb-true c b h) (ap (λ (l : List ℕ). b ∷ l) (r f))
    go false h f r = let z : ◌≡◌ {A = ℕ} 0 1 = cc in absurd (omega arith)

-- ---- one thing after another

pub then-got : {A B : Type 0} (x : Parsed A) (next : A → List ℕ → Parsed B) (b : B) (u : List ℕ) → and_then x next ≡ Got b u → (a : A) × (s : List ℕ) × (x ≡ Got a s) × (next a s ≡ Got b u)
unfolding and_then
then-got (Got a s) next b u e = (a, s, refl, e)
then-got Wrong next b u e = let z : ◌≡◌ {A = ℕ} 0 1 = cc in absurd (omega arith)

-- ---- a number in hex

bytes-front : (d t : List ℕ) → bytes (d ++ t) 0 (length d) ≡ d
bytes-front d t = bytes-there (d ++ t) 0 (length d) (simp length-append (omega arith)) ∙ take-append_seam d t

pub number-front : (v : ℕ) (t : List ℕ) → v < 18446744073709551616 → number_of (number_bytes v ++ t) ≡ Got v t
unfolding number_of number_bytes begins got
number-front v t h =
    let long : length (hex v) ≡ 16 = digits-length 16 16 v in
    let same : bytes (hex v ++ t) 0 16 ≡ hex v = ap (bytes (hex v ++ t) 0) (sym long) ∙ bytes-front (hex v) t in
    let read : hex_at (32 ∷ (hex v ++ t)) 1 ≡ Some v = ap (value 16 0) (front (32 ∷ (hex v ++ t)) 1 16 ∙ same) ∙ back 16 (omega arith) (omega arith) 16 v h in
    rw (read, drop_at (hex v) t 16 long)

pub number-split : (s : List ℕ) (v : ℕ) (t : List ℕ) → number_of s ≡ Got v t → (s ≡ number_bytes v ++ t) × (v < 18446744073709551616)
unfolding number_of number_bytes got
number-split s v t e = go (begins (32 ∷ []) s) refl (hex_at s 1) refl e
  where
    go : (b : Bool) → begins (32 ∷ []) s ≡ b → (r : Option ℕ) → hex_at s 1 ≡ r → cond b (got r (drop 17 s)) Wrong ≡ Got v t → (s ≡ 32 ∷ (hex v ++ t)) × (v < 18446744073709551616)
    go true h (Some w) i f =
        let split : s ≡ 32 ∷ drop 1 s = word_split (32 ∷ []) s h in
        let there : drop 1 s ≡ hex w ++ drop 17 s = digits-there 16 (omega arith) (omega arith) s 1 16 w (omega (arith, ap length split)) i in
        let same : w ≡ v = cc in
        let rest : drop 17 s ≡ t = cc in
        (split ∙ ap (λ (l : List ℕ). 32 ∷ l) (there ∙ ap (λ (n : ℕ). hex n ++ drop 17 s) same ∙ ap (λ (l : List ℕ). hex v ++ l) rest), rw same at (value-small 16 (omega arith) (omega arith) s 1 16 w i))
    go true h None i f = let z : ◌≡◌ {A = ℕ} 0 1 = cc in absurd (omega arith)
    go false h r i f = let z : ◌≡◌ {A = ℕ} 0 1 = cc in absurd (omega arith)

-- ---- a number in decimal

run-digits : (k w : ℕ) (s : List ℕ) → run (digits 10 k w ++ s) ≡ k + run s
unfolding digits run
run-digits zero w s = omega arith
run-digits (suc k) w s =
    let small : w % 10 < 10 = mod-lt w (omega arith) in
    let one : run (digit (w % 10) ∷ s) ≡ suc (run s) = rw (digit-back (w % 10) (omega arith), lt-ltb (w % 10) 10 small) in
    rw (append_assoc, run-digits k (w / 10)) (omega (arith, one))

pub decimal-some : (w : ℕ) → 0 < length (decimal w)
unfolding decimal
decimal-some w = let r = places-low 10 20 w (omega arith) in omega (arith, digits-length 10 (places 10 20 w) w, r.1)

module _ (w : ℕ) (u : List ℕ) (over : run u ≡ 0) where
  pub run-decimal : run (decimal w ++ u) ≡ length (decimal w)
  unfolding decimal
  run-decimal = omega (arith, run-digits (places 10 20 w) w u, digits-length 10 (places 10 20 w) w)

  pub numeral-front : w < 10 ^ 20 → numeral (decimal w ++ u) ≡ length (decimal w)
  unfolding numeral
  numeral-front h = go (dec_lt 1 (length (decimal w)))
    where
      go : Dec (1 < length (decimal w)) → numeral (decimal w ++ u) ≡ length (decimal w)
      go (yes l) = rw (run-decimal, lt-ltb 1 (length (decimal w)) l, decimal-first w u h l)
      go (no l) = rw (run-decimal, le-ltb 1 (length (decimal w)) (omega arith))

-- a number below a power of ten has no more digits than that
pub decimal-most : (k w : ℕ) → w < 10 ^ suc k → length (decimal w) ≤ suc k
unfolding decimal
decimal-most k w h = omega (arith, digits-length 10 (places 10 20 w) w, places-most 10 k 20 w (omega arith) h)

pub decimal-front : (w : ℕ) (u : List ℕ) → w < 10 ^ 19 → decimal_at (decimal w ++ u) 0 (length (decimal w)) ≡ Some w
unfolding decimal_at
decimal-front w u h =
    rw (le-ltb 19 (length (decimal w)) (decimal-most 18 w h), bytes-front (decimal w) u) (decimal-back w (omega arith))

-- the first of several digits is another than 0
numeral-head : (s : List ℕ) (m : ℕ) → numeral s ≡ suc m → 0 < m → get_or s 0 0 ≡ 48 → ⊥
unfolding numeral begins run
numeral-head [] m e h f = absurd (omega arith)
numeral-head (b ∷ s) m e h f = go (ltb 1 (run (b ∷ s))) refl e
  where
    zero-first : eqb b 48 ≡ true
    zero-first = eq-eqb b 48 f

    go : (t : Bool) → ltb 1 (run (b ∷ s)) ≡ t → cond (t && (eqb b 48 && true)) 0 (run (b ∷ s)) ≡ suc m → ⊥
    go true i g = let z : 0 ≡ suc m = rw zero-first at g in omega arith
    go false i g = omega (arith, ltb-false 1 (run (b ∷ s)) i)

pub numeral-split : (s : List ℕ) (n w : ℕ) → numeral s ≡ n → (n ≡ 0 → ⊥) → decimal_at s 0 n ≡ Some w → s ≡ decimal w ++ drop n s
unfolding decimal_at bytes
numeral-split s zero w e z f = absurd (z refl)
numeral-split s (suc m) w e z f = go (ltb 19 (suc m)) refl f
  where
    go : (t : Bool) → ltb 19 (suc m) ≡ t → cond t None (value 10 0 (bytes s 0 (suc m))) ≡ Some w → s ≡ decimal w ++ drop (suc m) s
    go true h g = let c : ◌≡◌ {A = ℕ} 0 1 = cc in absurd (omega arith)
    go false h g =
        let long : length (bytes s (0 + 1) m) ≡ m = bytes-length 10 (omega arith) (omega arith) s (0 + 1) m in
        let first : 0 < length (bytes s (0 + 1) m) → get_or s 0 0 ≡ 48 → ⊥ = λ l. numeral-head s m e (omega arith) in
        let own : bytes s 0 (suc m) ≡ decimal w = decimal-forth (get_or s 0 0) w (bytes s (0 + 1) m) (omega (arith, ltb-false 19 (suc m) h)) first g in
        let there : s ≡ digits 10 (suc m) w ++ drop (0 + suc m) s = digits-there 10 (omega arith) (omega arith) s 0 (suc m) w (omega arith) g in
        let same : digits 10 (suc m) w ≡ bytes s 0 (suc m) = ap (λ (n : ℕ). digits 10 n w) (sym (bytes-length 10 (omega arith) (omega arith) s 0 (suc m))) ∙ (forth 10 (omega arith) (omega arith) (bytes s 0 (suc m)) 0 w g).0 in
        let sum : 0 + suc m ≡ suc m = omega arith in
        there ∙ ap (λ (l : List ℕ). l ++ drop (0 + suc m) s) (same ∙ own) ∙ ap (λ (n : ℕ). decimal w ++ drop n s) sum

-- ---- a ring

pub ring-front : (v : ℕ) (u : List ℕ) → run u ≡ 0 → v < 4294967296 → ring_of (decimal v ++ u) ≡ Got v u
unfolding ring_of ring_from ring_by
ring-front v u over h =
    rw (numeral-front v u over (omega arith), ne_eqb (length (decimal v)) 0 (λ e. omega (arith, decimal-some v)), decimal-front v u (omega arith), lt-ltb v 4294967296 h, drop-append_seam)

pub ring-split : (s : List ℕ) (v : ℕ) (t : List ℕ) → ring_of s ≡ Got v t → (s ≡ decimal v ++ t) × (v < 4294967296)
unfolding ring_of ring_from ring_by
ring-split s v t e = go (eqb (numeral s) 0) refl (decimal_at s 0 (numeral s)) refl e
  where
    within : (w : ℕ) → decimal_at s 0 (numeral s) ≡ Some w → (numeral s ≡ 0 → ⊥) → (b : Bool) → ltb w 4294967296 ≡ b → cond b (Got w (drop (numeral s) s)) Wrong ≡ Got v t → (s ≡ decimal v ++ t) × (v < 4294967296)
    within w r z true i f =
        let same : w ≡ v = cc in
        let rest : drop (numeral s) s ≡ t = cc in
        (numeral-split s (numeral s) w refl z r ∙ ap (λ (n : ℕ). decimal n ++ drop (numeral s) s) same ∙ ap (λ (l : List ℕ). decimal v ++ l) rest, omega (arith, ltb-true w 4294967296 i))
    within w r z false i f = let c : ◌≡◌ {A = ℕ} 0 1 = cc in absurd (omega arith)

    go : (b : Bool) → eqb (numeral s) 0 ≡ b → (r : Option ℕ) → decimal_at s 0 (numeral s) ≡ r → cond b Wrong (ring_by r (drop (numeral s) s)) ≡ Got v t → (s ≡ decimal v ++ t) × (v < 4294967296)
    go true h r i f = let c : ◌≡◌ {A = ℕ} 0 1 = cc in absurd (omega arith)
    go false h (Some w) i f = within w i (eqb-false (numeral s) 0 h) (ltb w 4294967296) refl f
    go false h None i f = let c : ◌≡◌ {A = ℕ} 0 1 = cc in absurd (omega arith)
