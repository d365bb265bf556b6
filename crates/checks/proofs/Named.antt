-- Over the records named and their partners, each is sound exactly if each record named is so with its partner.
use mathlib.Core.Path.{◌≡◌}
use mathlib.Core.List.{List, [], ◌∷◌}
use Prim.Native.Nat.{ℕ, zero, suc, ◌<◌}
use native.Mathlib.Omega.{arith}
use lib.ListN.{length, get_or}
use Rattle.events.specs.Coordinates.{Coordinates}
use Rattle.events.specs.Event.{Event}
use Rattle.checks.specs.Checks.{mate, named}
use Rattle.checks.specs.Sound.{Sound, Pair}
use Rattle.checks.proofs.Unstruck.{not-outside}
use Rattle.checks.proofs.Passed.{Each}

pub mate-inside : {P : Type 0} (row : ℕ → Event P) (n r : ℕ) → r < n → mate row n r ≡ (row r).partner
unfolding mate
mate-inside row n r h = rw (not-outside n r h)

module _ {P : Type 0} (C : Coordinates P) (row : ℕ → Event P) (n : ℕ) where
  abbrev pub EachPair : List ℕ → Type 0
  EachPair rs = (k : ℕ) → k < length rs → Pair C row n (get_or rs k 0)

  pub pairs : (rs : List ℕ) → Each C row n (named row n rs) → EachPair rs
  unfolding named
  pairs [] h k l = absurd (omega arith)
  pairs (r ∷ rs) h zero l =
      let own : Sound C row n r = h 0 (omega arith) in
      record { own = own; other = rw (mate-inside row n r own.inside) at (h 1 (omega arith)) }
  pairs (r ∷ rs) h (suc k) l = pairs rs (λ j m. h (suc (suc j)) (omega arith)) k (omega arith)

  pub each : (rs : List ℕ) → EachPair rs → Each C row n (named row n rs)
  unfolding named
  each [] h k l = absurd (omega arith)
  each (r ∷ rs) h zero l = (h 0 (omega arith)).own
  each (r ∷ rs) h (suc zero) l = rw (mate-inside row n r (h 0 (omega arith)).own.inside) (h 0 (omega arith)).other
  each (r ∷ rs) h (suc (suc k)) l = each rs (λ j m. h (suc j) (omega arith)) k (omega arith)
