-- A number of digits, what follows them, its value, the limit, and the line feed.
use mathlib.Core.Path.{sym, ◌∙◌}
use Rattle.sheet.proofs.Lines.{count_none, count-wrong, count_long, count-many, count-read, count_cut}
use Rattle.sheet.proofs.layers.count_from.Goals as goal

pub returns-then-n-eq0 : goal.returns-then-n-eq0
returns-then-n-eq0 c = let args = c.args in count_none args.s.now args.at _ args.most c.if-n-eq0.true

pub returns-then-not-is_over : goal.returns-then-not-is_over
returns-then-not-is_over c =
    let args = c.args in
    count-wrong args.s.now args.at _ args.most c.if-n-eq0.false _ c.after-end.ensures (sym c.is_over.ensures ∙ c.if-not-is_over.true)

pub returns-in_default : goal.returns-in_default
returns-in_default c =
    let args = c.args in
    count_long args.s.now args.at _ args.most c.if-n-eq0.false _ c.after-end.ensures (sym c.is_over.ensures ∙ c.if-not-is_over.false)
    _ c.read_decimal.ensures c.in_default.is

pub returns-then-v-most : goal.returns-then-v-most
returns-then-v-most c =
    let args = c.args in
    count-many args.s.now args.at _ args.most c.if-n-eq0.false _ c.after-end.ensures (sym c.is_over.ensures ∙ c.if-not-is_over.false)
    _ c.read_decimal.ensures _ c.in-Some.is c.if-v-most.true

pub returns-then-has_word : goal.returns-then-has_word
returns-then-has_word c =
    let args = c.args in
    count-read args.s.now args.at _ args.most c.if-n-eq0.false _ c.after-end.ensures (sym c.is_over.ensures ∙ c.if-not-is_over.false)
    _ c.read_decimal.ensures _ c.in-Some.is c.if-v-most.false (sym c.has_word.ensures ∙ c.if-has_word.true) _ c.after.ensures

pub returns : goal.returns
returns c =
    let args = c.args in
    count_cut args.s.now args.at _ args.most c.if-n-eq0.false _ c.after-end.ensures (sym c.is_over.ensures ∙ c.if-not-is_over.false)
    _ c.read_decimal.ensures _ c.in-Some.is c.if-v-most.false (sym c.has_word.ensures ∙ c.if-has_word.false)
