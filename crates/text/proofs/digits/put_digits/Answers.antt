use Rattle.std.proofs.Common.{ℕ, ◌≡◌, ◌<◌, ◌≤◌, ◌%◌, get_or, arith, sym, ◌∙◌}
use Rattle.text.specs.Digits.{digit}
use Rattle.text.proofs.Bytes.{listed, byte_of}
use Rattle.text.proofs.Writing.{digit-on, digit-end, remainder-small}
use Rattle.text.proofs.digits.put_digits.Goals as goal

-- the byte that is looked up
found : (base v : ℕ) → 1 < base → base ≤ 16 → get_or (listed 0 16) (v % base) 0 ≡ digit (v % base)
found base v two most = byte_of (v % base) (remainder-small v base two most)

pub loop-k-preserved : goal.loop-k-preserved
unfolding listed digit
loop-k-preserved c =
    let l = c.loop-k in
    let a = c.args in
    rw (c.put_byte.ensures, found a.base l.v c.requires.0 c.requires.1) (sym (digit-on _ _ _ _ _ (omega arith)) ∙ l.invariant)

pub returns : goal.returns
returns c = sym (digit-end _ _ _ _ _ (omega arith)) ∙ c.loop-k.invariant
