-- The invariant: what is left of the word, stored further on, gives the whole store.
use mathlib.Core.Path.{◌≡◌}
use Prim.Native.Nat.{◌+◌}
use lib.ListN.{drop}
use lib.Seq.{sets}
use Rattle.text.proofs.words.put_word.Given as goal

abbrev pub invariant-loop-i : goal.invariant-loop-i
invariant-loop-i l = sets l.buf (l.at + l.i) (drop l.i l.word) ≡ sets l.initial.buf l.at l.word
