-- An event that lies left of another is taken first; the runs of words that tell it.
use mathlib.Core.Path.{◌≡◌}
use mathlib.Core.Bool.{true, false}
use Prim.Native.Nat.{ℕ, ◌^◌, ◌<◌}
use Rattle.numbers.specs.declared.Point.{Point}
use Rattle.events.specs.declared.points.Run.{Run}
use Rattle.events.specs.Binary64.{at_binary64}
use Rattle.events.specs.Coordinates.{ahead}
use Rattle.events.specs.Pool.{Pool, stored}
use Rattle.events.specs.Store.{look}
use Rattle.events.specs.Runs.{in_run, lower_words, higher_words}
use Rattle.events.proofs.Runs.{lower-x, higher-x}
use Rattle.waiting.specs.Waiting.{before_used}
use Rattle.waiting.specs.Queue.{leads}
use Rattle.waiting.proofs.Ahead.{ahead-leads, ahead-led}
use Rattle.sweep.specs.Sides.{SidesOf}

left-ahead : (p q : Point) → at_binary64.less_x p q ≡ true → ahead at_binary64 p q ≡ true
unfolding ahead
left-ahead p q h = rw h

pub sides : (q : Point) (left right : Run) → q.x < 2 ^ 64 → left ≡ lower_words q.x → right ≡ higher_words q.x → SidesOf q left right
sides q left right h l r =
    record { to_left = λ p k i. lower-x p q h k (rw l at i); to_right = λ p k i. higher-x p q h k (rw r at i) }

module _ (p : Pool) (used a x : ℕ) (left right : Run) (s : SidesOf (look stored p used x).point left right) (word : (look stored p used a).point.x < 2 ^ 64) where
  pub leads-left : in_run left (look stored p used a).point.x ≡ true → leads (before_used p used) a x ≡ true
  leads-left i = ahead-leads p used a x (left-ahead _ _ (s.to_left (look stored p used a).point word i))

  pub led-right : in_run right (look stored p used a).point.x ≡ true → leads (before_used p used) a x ≡ false
  led-right i = ahead-led p used x a (left-ahead _ _ (s.to_right (look stored p used a).point word i))
