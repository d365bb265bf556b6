-- A search for a slot from the first member on: after i members, the slot is i further on than in what is left. The members are the first n places of a slice.
use mathlib.Core.Path.{◌≡◌, refl}
use borrow.Author.Rules.{rules}
use mathlib.Core.Bool.{Bool, not, true, false}
use mathlib.Core.List.{List, ◌∷◌}
use Prim.Native.Nat.{ℕ, suc, ◌+◌, ◌<◌, ◌≤◌}
use native.Mathlib.Numerals.{add-one}
use native.Mathlib.Omega.{arith}
use lib.ListN.{length, take, drop, get_or, length-take}
use lib.Seq.{drop-cons, drop-length, get_or-take}
use Rattle.std.specs.Option.{unwrap_or}
use Rattle.std.specs.List.{position, position_or_len}
use Rattle.std.proofs.lemmas.List.Recursion.{is_position_or_len}
use Rattle.std.proofs.lemmas.List.Sums.{prefix_len-le-length}
use Rattle.std.proofs.lemmas.Bool.Decides.{nat_tests}
use Rattle.lists.specs.Lists.{slot}

-- a place of a member is below n
below-count : (s : List ℕ) (n i : ℕ) → i < length (take n s) → i < n
below-count s n i h =
    let q = length-take n s in
    omega arith

unfoldable pub Standing : (ℕ → Bool) → List ℕ → ℕ → ℕ → Type 0
Standing test s n i = i + slot test (drop i (take n s)) ≡ slot test (take n s)

module _ (test : ℕ → Bool) (s : List ℕ) (n : ℕ) where
  left_over : (i : ℕ) → i < length (take n s) → drop i (take n s) ≡ get_or s i 0 ∷ drop (suc i) (take n s)
  left_over i h = rw (drop-cons (take n s) i 0 h, get_or-take n s i 0 (below-count s n i h))

  pub begun : Standing test s n 0
  unfolding Standing
  begun = omega arith

  pub found : (i : ℕ) → i < length (take n s) → Standing test s n i → {t : Bool} → t ≡ test (get_or s i 0) → t ≡ true → i ≡ slot test (take n s)
  unfolding Standing slot
  found i h w t e =
      let here : slot test (drop i (take n s)) ≡ 0 = rw (left_over i h, ← t, e) in
      omega arith

  pub passed : (i : ℕ) → i < length (take n s) → Standing test s n i → {t : Bool} → t ≡ test (get_or s i 0) → t ≡ false → Standing test s n (i + 1)
  unfolding Standing slot
  passed i h w t e =
      let further : slot test (drop i (take n s)) ≡ suc (slot test (drop (suc i) (take n s))) = rw (left_over i h, ← t, e) in
      rw add-one (omega arith)

  pub ended : (i : ℕ) → i ≡ length (take n s) → Standing test s n i → i ≡ slot test (take n s)
  unfolding Standing slot
  ended i e w =
      let nothing : slot test (drop i (take n s)) ≡ 0 = rw (e, drop-length (take n s)) in
      omega arith

-- a slot is what the library's search tells: the place of the first that passes, or how many there are
slot_is : (test : ℕ → Bool) (l : List ℕ) → slot test l ≡ position_or_len test l
unfolding slot
slot_is test l = is_position_or_len (slot test) test refl (λ x xs. search rules) l

-- it is a place of a member, or the one behind the last
pub slot-within : (test : ℕ → Bool) (l : List ℕ) → slot test l ≤ length l
slot-within test l = rw (slot_is test l) (prefix_len-le-length (λ x. not (test x)) l)

pub position_is_slot : (test : ℕ → Bool) (l : List ℕ) → unwrap_or (position test l) (length l) ≡ slot test l
position_is_slot test l =
    let within = slot-within test l in
    rw (← slot_is test l) (grind (arith, nat_tests))
