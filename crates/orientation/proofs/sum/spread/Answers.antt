-- The two halves of y are shifted one after the other, and what the low one leaves above its word goes to the high one.
use Rattle.orientation.proofs.Products.{shifted_one, halves, spread-sum}
use Rattle.orientation.proofs.sum.spread.Goals as goal

pub returns-clause-c_value : goal.returns-clause-c_value
returns-clause-c_value c = rw (shifted_one c.args.r c.requires.1) (spread-sum _ _ _ (halves _ _))
