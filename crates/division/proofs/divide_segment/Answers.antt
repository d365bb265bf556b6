-- The records read, the cut moved and the tests made are the definition's; each return is one of its four ways.
use mathlib.Core.Path.{sym, ap, ◌∙◌}
use native.Mathlib.Omega.{arith}
use Rattle.events.specs.Binary64.{at_binary64}
use Rattle.events.specs.Pool.{stored}
use Rattle.division.specs.Division.{refused, done}
use Rattle.division.proofs.Cases.{opened, by_side, by-cut, by-room, by-none, room}
use Rattle.division.proofs.divide_segment.Goals as goal

pub returns-then-not-e : goal.returns-then-not-e
unfolding refused
returns-then-not-e c =
    let all = by_side at_binary64 stored _ _ _ _ _ _ _ c.if-not-e.true ∙ opened at_binary64 stored _ _ _ _ _ _ _ c.read_used-e.ensures c.read_used-f.ensures c.moved-c.ensures in
    record { value = c.refused.ensures ∙ ap (λ a. a.answer) all; marks_after = ap (λ a. a.store) all }

pub returns-then-misses : goal.returns-then-misses
unfolding refused
returns-then-misses c =
    let missed = sym c.misses.ensures ∙ c.if-misses.true in
    let all = by-cut at_binary64 stored _ _ _ _ _ _ _ c.if-not-e.false missed ∙ opened at_binary64 stored _ _ _ _ _ _ _ c.read_used-e.ensures c.read_used-f.ensures c.moved-c.ensures in
    record { value = c.refused-then-misses.ensures ∙ ap (λ a. a.answer) all; marks_after = ap (λ a. a.store) all }

pub returns-then-is_full : goal.returns-then-is_full
unfolding refused
returns-then-is_full c =
    let hits = sym c.misses.ensures ∙ c.if-misses.false in
    let no_room = sym c.is_full.ensures ∙ c.if-is_full.true in
    let all = by-room at_binary64 stored _ _ _ _ _ _ _ c.if-not-e.false hits no_room ∙ opened at_binary64 stored _ _ _ _ _ _ _ c.read_used-e.ensures c.read_used-f.ensures c.moved-c.ensures in
    record { value = c.refused-then-is_full.ensures ∙ ap (λ a. a.answer) all; marks_after = ap (λ a. a.store) all }

pub part-requires : goal.part-requires
part-requires c =
    omega (arith, room stored _ _ (sym c.is_full.ensures ∙ c.if-is_full.false))

pub overflow_add-left : goal.overflow_add-left
overflow_add-left c =
    omega (arith, room stored _ _ (sym c.is_full.ensures ∙ c.if-is_full.false))

pub returns : goal.returns
unfolding done
returns c =
    let hits = sym c.misses.ensures ∙ c.if-misses.false in
    let free = sym c.is_full.ensures ∙ c.if-is_full.false in
    let all = by-none at_binary64 stored _ _ _ _ _ _ _ c.if-not-e.false hits free ∙ opened at_binary64 stored _ _ _ _ _ _ _ c.read_used-e.ensures c.read_used-f.ensures c.moved-c.ensures in
    record { value = rw (c.moves.ensures, c.keeps-keep.ensures) (ap (λ a. a.answer) all); marks_after = (c.part.ensures ∙ rw c.keeps-keep.ensures) ∙ ap (λ a. a.store) all }
