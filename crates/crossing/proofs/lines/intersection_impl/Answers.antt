-- At k the three differences and the two products are the definition's; each answer then follows the tests.
use Rattle.crossing.specs.Lines.{intersection_impl, along}
use Rattle.crossing.proofs.lines.intersection_impl.Goals as goal

pub returns-then-kross : goal.returns-then-kross
unfolding intersection_impl along
returns-then-kross c =
    rw (← c.difference-va.ensures, ← c.difference-vb.ensures, ← c.difference-e.ensures, ← c.cross_product-kross.ensures, ← c.cross_product-kross_e.ensures, c.if-kross.true, c.crossing_at.ensures, c.cross_product.ensures)

pub returns-then-kross_e : goal.returns-then-kross_e
unfolding intersection_impl along
returns-then-kross_e c =
    rw (← c.difference-va.ensures, ← c.difference-vb.ensures, ← c.difference-e.ensures, ← c.cross_product-kross.ensures, ← c.cross_product-kross_e.ensures, c.if-kross.false, c.if-kross_e.true)

pub returns : goal.returns
unfolding intersection_impl along
returns c =
    rw (← c.difference-va.ensures, ← c.difference-vb.ensures, ← c.difference-e.ensures, ← c.cross_product-kross.ensures, ← c.cross_product-kross_e.ensures, c.if-kross.false, c.if-kross_e.false, ← c.dot_product-sqr_len_a.ensures, ← c.dot_product.ensures, ← c.dot_product-2.ensures, ← c.min.ensures, ← c.max.ensures, c.shared_from.ensures)
