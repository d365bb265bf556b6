-- The two keys read are the definition's.
use mathlib.Core.Path.{◌≡◌, ◌∙◌}
use Rattle.numbers.specs.declared.Point.{Point}
use Rattle.events.specs.Binary64.{at_binary64}
use Rattle.events.specs.Event.{Key}
use Rattle.order.specs.Order.{before_there}
use Rattle.waiting.proofs.is_before_there.Goals as goal

of-keys : {a a' b b' : Key Point} → a ≡ a' → b ≡ b' → before_there at_binary64 a b ≡ before_there at_binary64 a' b'
of-keys p q = rw (p, q)

pub returns : goal.returns
returns c = c.before_there.ensures ∙ of-keys c.key_used.ensures c.key_used-2.ensures
