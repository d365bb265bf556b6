-- Where two edges coincide each gets its type, mark 6; their other marks, and every other record, are as lent.
use mathlib.Core.Path.{◌≡◌, refl, sym, ◌∙◌}
use mathlib.Core.Logic.{◌≢◌}
use mathlib.Core.Bool.{false, true≢false}
use mathlib.Core.List.{[], ◌∷◌}
use Prim.Native.Nat.{ℕ, ◌<◌, ◌≤◌}
use native.Mathlib.Omega.{arith}
use Rattle.events.specs.declared.EdgeType.{EdgeType}
use Rattle.events.specs.declared.EdgeType.TheVariants.{NonContributing}
use Rattle.events.specs.Binary64.{at_binary64}
use Rattle.events.specs.Event.{Event}
use Rattle.events.specs.Store.{look}
use Rattle.events.specs.Pool.{Pool, stored}
use Rattle.events.specs.Lent.{among, AsLentBut}
use Rattle.events.proofs.Stored.{pool-stored}
use Rattle.events.proofs.Looks.{look_in}
use Rattle.events.proofs.Lent.{twelve, Agree, left, subject, ring, partner, there, below, transition, in_out, other_in_out, numbered, contour, lent-here, lent-away, lent-then, then-lent}
use Rattle.neighbours.specs.Neighbours.{typed, coincided}

type-alone : {P : Type 0} (e : Event P) (t : EdgeType) (k : ℕ) → k < 12 → among k (6 ∷ []) ≡ false → Agree e (typed e t) k
unfolding typed
type-alone e t = twelve (λ k. among k (6 ∷ []) ≡ false → Agree e (typed e t) k) (λ h. left refl) (λ h. subject refl) (λ h. ring refl) (λ h. partner refl) (λ h. there refl) (λ h. below refl) (λ h. absurd (true≢false h)) (λ h. transition refl) (λ h. in_out refl) (λ h. other_in_out refl) (λ h. numbered refl) (λ h. contour refl)

module _ (s : Pool) (used a b : ℕ) (few : used ≤ stored.size s) (first-in-use : a < used) (second-in-use : b < used) (apart : a ≢ b) where
  abbrev once : Pool
  once = stored.store s b (typed (look stored s used b) NonContributing)

  abbrev after : Pool
  after = coincided at_binary64 stored s used a b

  once-size : stored.size once ≡ stored.size s
  once-size = pool-stored.size-store s b (typed (look stored s used b) NonContributing)

  pub first-lent : AsLentBut (6 ∷ []) s after a
  unfolding coincided typed
  first-lent =
      lent-then (lent-away s b a (typed (look stored s used b) NonContributing) apart)
      (lent-here once a (6 ∷ []) (look stored s used a) _ (omega (arith, once-size)) (pool-stored.away s b a (typed (look stored s used b) NonContributing) apart ∙ sym (look_in stored s used a first-in-use)) refl (type-alone (look stored s used a) _))

  pub second-lent : AsLentBut (6 ∷ []) s after b
  unfolding coincided typed
  second-lent =
      then-lent (lent-here s b (6 ∷ []) (look stored s used b) (typed (look stored s used b) NonContributing) (omega arith) (sym (look_in stored s used b second-in-use)) refl (type-alone (look stored s used b) NonContributing))
      (lent-away once a b _ (λ h. apart (sym h)))

  pub others-lent : (r : ℕ) → r ≢ a → r ≢ b → AsLentBut [] s after r
  unfolding coincided
  others-lent r x y = lent-then (lent-away s b r (typed (look stored s used b) NonContributing) y) (lent-away once a r _ x)
