-- From a position are tried exactly the other positions at its point.
use mathlib.Core.Path.{◌≡◌, refl}
use mathlib.Core.Logic.{◌≢◌, ◌⊎◌, inl, inr}
use mathlib.Core.Bool.{Bool, true, false, not, cond, ◌&&◌}
use mathlib.Core.List.Memᴰ
use mathlib.Core.List.{List, ◌++◌, Memᴰ}
use Prim.Native.Nat.{ℕ, ◌+◌, ◌-◌, ◌≤◌, ◌<◌}
use native.Mathlib.Omega.{arith}
use native.Mathlib.Decide.{dec_lt}
use Rattle.checks.specs.Numbers.{numbers_from}
use Rattle.contours.specs.Table.{Row}
use Rattle.contours.specs.Round.{down, rights, lefts, tries}
use Rattle.contours.proofs.Lists.{keep-in, keep_out}
use Rattle.contours.proofs.Marks.{numbers-in, numbers-out, down-in, down_out}

and-out : (a b : Bool) → (a && b) ≡ true → a ≡ true
and-out true b e = refl
and-out false b e = e

three : {j : ℕ} (D : Type 0) (a b c : List ℕ) → Memᴰ j (a ++ (b ++ c)) → (Memᴰ j a → D) → (Memᴰ j b → D) → (Memᴰ j c → D) → D
three {j} D a b c m f g h = go (Memᴰ.append_cases a m)
  where
    late : Memᴰ j b ⊎ Memᴰ j c → D
    late (inl k) = g k
    late (inr k) = h k

    go : Memᴰ j a ⊎ Memᴰ j (b ++ c) → D
    go (inl k) = f k
    go (inr k) = late (Memᴰ.append_cases b k)

module _ {j : ℕ} (a b c : List ℕ) where
  in_one : Memᴰ j a → Memᴰ j (a ++ (b ++ c))
  in_one m = Memᴰ.append_left (b ++ c) m

  in_two : Memᴰ j b → Memᴰ j (a ++ (b ++ c))
  in_two m = Memᴰ.append_right a (Memᴰ.append_left c m)

  in_three : Memᴰ j c → Memᴰ j (a ++ (b ++ c))
  in_three m = Memᴰ.append_right a (Memᴰ.append_right b m)

module _ {P : Type 0} (same : P → P → Bool) (n : ℕ) (row : ℕ → Row P) where
  -- an end at p among the first n
  abbrev At : P → ℕ → Type 0
  At p j = (j < n) × (same p (row j).point ≡ true)

  rights-in : (p : P) (i k j : ℕ) → i ≤ j → j < i + k → same p (row j).point ≡ true → (row j).left ≡ false → Memᴰ j (rights same n row p i k)
  unfolding rights
  rights-in p i k j h l e f = keep-in _ (numbers_from i k) j (numbers-in i k j h l) (rw (e, f))

  lefts_in : (p : P) (i k j : ℕ) → i ≤ j → j < i + k → same p (row j).point ≡ true → (row j).left ≡ true → Memᴰ j (lefts same n row p i k)
  unfolding lefts
  lefts_in p i k j h l e f = keep-in _ (down i k) j (down-in i k j h l) (rw (e, f))

  rights-out : (p : P) (i k j : ℕ) → i + k ≤ n → Memᴰ j (rights same n row p i k) → At p j
  unfolding rights
  rights-out p i k j h m =
      let o = keep_out (λ j. same p (row j).point && not (row j).left) (numbers_from i k) j m in
      (omega (arith, numbers-out i k j o.0), and-out _ _ o.1)

  lefts-out : (p : P) (i k j : ℕ) → i + k ≤ n → Memᴰ j (lefts same n row p i k) → At p j
  unfolding lefts
  lefts-out p i k j h m =
      let o = keep_out (λ j. same p (row j).point && (row j).left) (down i k) j m in
      (omega (arith, down_out i k j o.0), and-out _ _ o.1)

  pub tries-in : (q j : ℕ) → j < n → j ≢ q → same (row q).point (row j).point ≡ true → Memᴰ j (tries same n row q)
  unfolding tries
  tries-in q j l d e = go (row q).left (row j).left refl (dec_lt j q)
    where
      p : P
      p = (row q).point

      go : (a b : Bool) → (row j).left ≡ b → Dec (j < q)
          → Memᴰ j (cond a
          (lefts same n row p 0 q ++ (rights same n row p 0 n ++ lefts same n row p (q + 1) (n - (q + 1))))
          (rights same n row p (q + 1) (n - (q + 1)) ++ (lefts same n row p 0 n ++ rights same n row p 0 q)))
      go true true f (yes h) = in_one (lefts same n row p 0 q) (rights same n row p 0 n) (lefts same n row p (q + 1) (n - (q + 1))) (lefts_in p 0 q j (omega arith) (omega arith) e f)
      go true true f (no h) = in_three (lefts same n row p 0 q) (rights same n row p 0 n) (lefts same n row p (q + 1) (n - (q + 1))) (lefts_in p (q + 1) (n - (q + 1)) j (omega arith) (omega arith) e f)
      go true false f h = in_two (lefts same n row p 0 q) (rights same n row p 0 n) (lefts same n row p (q + 1) (n - (q + 1))) (rights-in p 0 n j (omega arith) (omega arith) e f)
      go false true f h = in_two (rights same n row p (q + 1) (n - (q + 1))) (lefts same n row p 0 n) (rights same n row p 0 q) (lefts_in p 0 n j (omega arith) (omega arith) e f)
      go false false f (yes h) = in_three (rights same n row p (q + 1) (n - (q + 1))) (lefts same n row p 0 n) (rights same n row p 0 q) (rights-in p 0 q j (omega arith) (omega arith) e f)
      go false false f (no h) = in_one (rights same n row p (q + 1) (n - (q + 1))) (lefts same n row p 0 n) (rights same n row p 0 q) (rights-in p (q + 1) (n - (q + 1)) j (omega arith) (omega arith) e f)

  pub tries-out : (q j : ℕ) → q < n → Memᴰ j (tries same n row q) → At (row q).point j
  unfolding tries
  tries-out q j l m = go (row q).left m
    where
      p : P
      p = (row q).point

      go : (a : Bool) → Memᴰ j (cond a
          (lefts same n row p 0 q ++ (rights same n row p 0 n ++ lefts same n row p (q + 1) (n - (q + 1))))
          (rights same n row p (q + 1) (n - (q + 1)) ++ (lefts same n row p 0 n ++ rights same n row p 0 q)))
          → At p j
      go true m = three (At p j) _ _ _ m (lefts-out p 0 q j (omega arith)) (rights-out p 0 n j (omega arith)) (lefts-out p (q + 1) (n - (q + 1)) j (omega arith))
      go false m = three (At p j) _ _ _ m (rights-out p (q + 1) (n - (q + 1)) j (omega arith)) (lefts-out p 0 n j (omega arith)) (rights-out p 0 q j (omega arith))
