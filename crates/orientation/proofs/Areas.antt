-- Additions to pos - neg follow each other; the three cross products come to the area.
use mathlib.Core.Path.{◌≡◌, ap, ◌∙◌}
use mathlib.Core.List.{List}
use Prim.Native.Nat.{ℕ, ◌+◌, ◌*◌, ◌≤◌}
use native.Mathlib.Nat.{mul_comm, add-mul, mul-add, mul-le-mul_right}
use native.Mathlib.Omega.{arith}
use lib.IntN.{ℤ, pos, neg_ℤ, ◌+ℤ◌, ◌-ℤ◌, ◌*ℤ◌, +ℤ_assoc}
use Rattle.numbers.specs.Exact.{whole}
use Rattle.numbers.specs.declared.Coordinate.{Coordinate}
use Rattle.orientation.specs.Orientation.{sign_of, signed_area}
use Rattle.orientation.specs.Words.{value, Within, Added, cap, total, cross}
use Rattle.orientation.proofs.Differences.{same, crossed, plus, minus, times, natural, parts}
use Rattle.orientation.proofs.Terms.{total-is}

-- room for few products is room for more
at_least : {j k : ℕ} {l : List ℕ} → j ≤ k → Within j l → Within k l
at_least {j} {k} h w =
    let e : j * cap ≤ k * cap = mul-le-mul_right cap h in
    record { long = w.long; room = omega arith }

pub fewer : {j k : ℕ} {p n : List ℕ} → j ≤ k → Within j p × Within j n → Within k p × Within k n
fewer h w = (at_least h w.0, at_least h w.1)

module _ {p n p' n' : List ℕ} where
  -- room is used up by the products that are added
  pub after : {j k : ℕ} {z : ℤ} → Within j p × Within j n → Added k z p n p' n' → Within (j + k) p' × Within (j + k) n'
  after {j} {k} w a =
      let e = add-mul j k cap in (
        record { long = a.long; room = omega (arith, w.0.room) },
        record { long = a.long'; room = omega (arith, w.1.room) },
      )

  -- what is added with the two sums exchanged is taken away
  pub exchanged : {k : ℕ} {z : ℤ} → Added k z n p n' p' → Added k (neg_ℤ z) p n p' n'
  exchanged {k} {z} a =
      let e = crossed (rw a.is at (total-is n' p')) (plus (total-is n p) (parts z)) in
      record {
        long = a.long';
        long' = a.long;
        is = same (total-is p' n') (minus (total-is p n) (parts z)) (omega arith);
        least = a.least';
        least' = a.least;
      }

  -- one after the other
  pub and : {p'' n'' : List ℕ} {j k : ℕ} {y z : ℤ} → Added j y p n p' n' → Added k z p' n' p'' n'' → Added (j + k) (y +ℤ z) p n p'' n''
  and {p''} {n''} {j} {k} {y} {z} a b =
      let e = add-mul j k cap in
      record {
        long = b.long;
        long' = b.long';
        is = b.is ∙ rw a.is (+ℤ_assoc (total p n) y z);
        least = omega arith;
        least' = omega arith;
      }

-- the area by the three cross products
six : (ax ay bx by cx cy : ℤ)
    → pos 0 +ℤ ((ax *ℤ by -ℤ ay *ℤ bx) +ℤ (bx *ℤ cy -ℤ by *ℤ cx) +ℤ (cx *ℤ ay -ℤ cy *ℤ ax)) ≡ (ax -ℤ cx) *ℤ (by -ℤ cy) -ℤ (ay -ℤ cy) *ℤ (bx -ℤ cx)
six ax ay bx by cx cy =
    let a = parts ax in
    let a' = parts ay in
    let b = parts bx in
    let b' = parts by in
    let c = parts cx in
    let c' = parts cy in
    same
    (plus (natural 0) (plus (plus (minus (times a b') (times a' b)) (minus (times b c') (times b' c))) (minus (times c a') (times c' a))))
    (minus (times (minus a c) (minus b' c')) (times (minus a' c') (minus b c)))
    (simp (add-mul, mul-add, mul_comm) (omega arith))

-- their sum, added to nothing, has the sign that is asked for
pub area : (a b c : Coordinate) {p n p' n' : List ℕ} → Within 0 p × Within 0 n
    → Added 6 (cross a b +ℤ cross b c +ℤ cross c a) p n p' n' → sign_of (total p' n') ≡ signed_area a b c
unfolding total signed_area
area a b c {p} {n} w s =
    let p-zero : value p ≡ 0 = omega (arith, w.0.room) in
    let n-zero : value n ≡ 0 = omega (arith, w.1.room) in
    let e = six (whole a.x) (whole a.y) (whole b.x) (whole b.y) (whole c.x) (whole c.y) in
    ap sign_of (s.is ∙ rw (p-zero, n-zero) e)
