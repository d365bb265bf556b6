-- What a move of the members by one place, up from a gap or down onto one, leaves in the whole slice.
use mathlib.Core.Path.{◌≡◌}
use mathlib.Core.List.{List, append_assoc}
use Prim.Native.Nat.{ℕ, ◌+◌, ◌-◌, ◌<◌, ◌≤◌}
use native.Mathlib.Numerals.{add-one}
use native.Mathlib.Omega.{arith}
use lib.ListN.{length, take, drop, set}
use lib.Seq.{paste, set_at, take-take, length-take-le}
use Rattle.std.proofs.lemmas.List.{take_more}
use Rattle.std.proofs.lemmas.Slice.{between_is}
use Rattle.lists.specs.Lists.{insert_at, remove_at, entered, left}

pub moved_up : (s : List ℕ) (n at v : ℕ) → at ≤ n → n < length s → set (paste s (at + 1) (drop at s) (n - at)) at v ≡ entered s n at v
unfolding entered insert_at
moved_up s n at v h k =
    let end : at + 1 + (n - at) ≡ n + 1 = omega arith in
    rw (take_more s at 0 (omega arith), between_is s at n, end, take-take at n s h)
    (simp append_assoc (set_at (take at s) _ _ v at (length-take-le at s (omega arith))))

pub moved_down : (s : List ℕ) (n at : ℕ) → at < n → n ≤ length s → paste s at (drop (at + 1) s) (n - (at + 1)) ≡ left s n at
unfolding left remove_at
moved_down s n at h k =
    let end : at + (n - (at + 1)) ≡ n - 1 = omega arith in
    rw (between_is s (at + 1) n, end, take-take at n s (omega arith), add-one)
