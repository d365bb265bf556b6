-- The point is what event order asks first: of two records that differ in it the earlier one is before the other, and not the other way round.
use mathlib.Core.Path.{◌≡◌, refl, sym, ◌∙◌}
use mathlib.Core.Bool.{Bool, true, false, cond, true≢false}
use Prim.Native.Nat.{ℕ}
use lib.Dec.{ltb}
use Rattle.numbers.specs.declared.Point.{Point}
use Rattle.events.specs.Binary64.{at_binary64}
use Rattle.events.specs.Coordinates.{same, ahead}
use Rattle.events.specs.Event.{key}
use Rattle.events.specs.Pool.{Pool, stored}
use Rattle.events.specs.Store.{look}
use Rattle.order.specs.Keys.{key_of, key_used}
use Rattle.order.specs.Order.{before_there}
use Rattle.order.proofs.AtBinary64.{laws}
use Rattle.order.proofs.Laws.{before-ahead, before-there, ahead-asym, ahead-ext, same-sym}
use Rattle.waiting.specs.Waiting.{before_used}
use Rattle.waiting.specs.Queue.{leads}

-- points of which one is ahead are not one
apart : (p q : Point) → ahead at_binary64 p q ≡ true → same at_binary64 p q ≡ false
apart p q h = go (same at_binary64 p q) refl
  where
    go : (b : Bool) → same at_binary64 p q ≡ b → b ≡ false
    go true e =
        let own : ahead at_binary64 q q ≡ true = sym (ahead-ext laws p q q e).1 ∙ h in
        absurd (true≢false (sym own ∙ ahead-asym laws q q own))
    go false e = refl

apart-turned : (p q : Point) → ahead at_binary64 p q ≡ true → same at_binary64 q p ≡ false
apart-turned p q h = go (same at_binary64 q p) refl
  where
    go : (b : Bool) → same at_binary64 q p ≡ b → b ≡ false
    go true e = absurd (true≢false (sym (same-sym laws q p e) ∙ apart p q h))
    go false e = refl

module _ (p : Pool) (used a b : ℕ) (h : ahead at_binary64 (look stored p used a).point (look stored p used b).point ≡ true) where
  is-before : before_used p used a b ≡ true
  unfolding before_used key_used key_of key
  is-before = before-ahead laws (key_used stored p used a) (key_used stored p used b) (apart _ _ h) ∙ h

  not_after : before_used p used b a ≡ false
  unfolding before_used key_used key_of key
  not_after = before-ahead laws (key_used stored p used b) (key_used stored p used a) (apart-turned _ _ h) ∙ ahead-asym laws _ _ h

  pub ahead-leads : leads (before_used p used) a b ≡ true
  unfolding leads
  ahead-leads = rw (is-before, not_after) (same-both (ltb a b))
    where
      same-both : (t : Bool) → cond t true true ≡ true
      same-both true = refl
      same-both false = refl

  pub ahead-led : leads (before_used p used) b a ≡ false
  unfolding leads
  ahead-led = rw (is-before, not_after) (same-both (ltb b a))
    where
      same-both : (t : Bool) → cond t false false ≡ false
      same-both true = refl
      same-both false = refl

-- neither is: then what is asked at one point decides
module _ (p : Pool) (used a b : ℕ) (h : ahead at_binary64 (look stored p used a).point (look stored p used b).point ≡ false)
    (k : ahead at_binary64 (look stored p used b).point (look stored p used a).point ≡ false) where
  pub one-point : before_used p used a b ≡ before_there at_binary64 (key_used stored p used a) (key_used stored p used b)
  unfolding before_used key_used key_of key
  one-point = before-there at_binary64 (key_used stored p used a) (key_used stored p used b) h k
