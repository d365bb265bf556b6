-- The members after an insertion or a removal, and the same in the lent array.
use mathlib.Core.Path.{◌≡◌}
use mathlib.Core.List.{List, [], append-nil}
use Prim.Native.Nat.{ℕ, suc, ◌-◌, ◌<◌, ◌≤◌}
use native.Mathlib.Omega.{arith}
use borrow.Author.Tests.{le-ltb, lt-leb}
use lib.ListN.{length, take, drop, length-take, length-append, length-drop, drop_of_length-le}
use lib.Seq.{take_all, take_at, length-take-le}
use Rattle.lists.specs.Lists.{insert_at, remove_at, entered, left, inserted, removed}

-- ---- the number of members

pub length-insert : (l : List ℕ) (k e : ℕ) → length (insert_at l k e) ≡ suc (length l)
unfolding insert_at
length-insert l k e = rw (length-append, length-take, length-drop) (omega arith)

pub length-remove : (l : List ℕ) (k : ℕ) → k < length l → suc (length (remove_at l k)) ≡ length l
unfolding remove_at
length-remove l k h = rw (length-append, length-take, length-drop) (omega arith)

-- where nothing stands there is nothing to take out
pub remove-past : (l : List ℕ) (k : ℕ) → length l ≤ k → remove_at l k ≡ l
unfolding remove_at
remove-past l k h =
    let past : drop (suc k) l ≡ [] = drop_of_length-le l {i = suc k} (omega arith) in
    rw (past, append-nil) (take_all k l h)

-- ---- the members in the lent array afterwards

pub members-inserted : (s : List ℕ) (n k e : ℕ) → k ≤ n → n < length s → take (suc n) (inserted s n k e) ≡ insert_at (take n s) k e
unfolding inserted entered insert_at
members-inserted s n k e h r =
    let long = length-insert (take n s) k e in
    let q = length-take-le n s (omega arith) in
    rw (le-ltb n k h, lt-leb (length s) n r) (take_at _ _ (suc n) (omega arith))

pub members-removed : (s : List ℕ) (n k : ℕ) → k < n → n ≤ length s → take (n - 1) (removed s n k) ≡ remove_at (take n s) k
unfolding removed left remove_at
members-removed s n k h r =
    let q = length-take-le n s r in
    let long = length-remove (take n s) k (omega arith) in
    rw (lt-leb n k h, le-ltb (length s) n r) (take_at _ _ (n - 1) (omega arith))
