use Rattle.std.proofs.Common.{arith, rules, sym, ◌∙◌}
use native.Mathlib.Nat.{mod-lt}
use Rattle.text.proofs.Table.{looked-up}
use Rattle.text.proofs.Within.{none-there}
use Rattle.text.proofs.Reading.{read-begun, read-on, read_none, read-end, grow, fits, none_read}
use Rattle.text.proofs.digits.read_digits.Goals as goal

pub loop-i-preserved : goal.loop-i-preserved
loop-i-preserved c = (
  sym (read-on _ _ _ _ _ _ _ (omega arith) (looked-up _ _ c.digit_table-table.ensures (search rules)) _) ∙ c.loop-i.invariant.0,
  grow _ _ _ _ c.loop-i.invariant.1 (mod-lt _ (omega (arith, c.requires.0))),
)

-- the number so far with one digit more is a u64
pub overflow_add-v : goal.overflow_add-v
overflow_add-v c = record { fits = fits _ _ _ _ _ c.requires.2 (omega arith) c.loop-i.invariant.1 (mod-lt _ (omega (arith, c.requires.0))) }

pub returns-then-not-is_within : goal.returns-then-not-is_within
returns-then-not-is_within c = sym (none-there _ _ _ _ c.requires.0 c.requires.1 (sym c.is_within.ensures ∙ c.if-not-is_within.true))

pub loop-i-init : goal.loop-i-init
loop-i-init c = (read-begun _ _ _ _, none_read _)

pub overflow_mul-v : goal.overflow_mul-v
overflow_mul-v c = omega (arith, (overflow_add-v c).fits)

pub returns-then-all : goal.returns-then-all
returns-then-all c = sym (read-end _ _ _ _ _ _ _ (omega arith) c.if-all.true) ∙ c.loop-i.invariant.0

pub returns : goal.returns
returns c = sym (read_none _ _ _ _ _ _ _ (omega arith) c.if-all.false) ∙ c.loop-i.invariant.0
