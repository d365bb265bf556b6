-- Two things compared both ways: the first is ahead, or the second, or neither and they are the same. By the first parts, then the second, a whole compares
-- so where its parts do; and to put in order what compares so forgets which was named first.
use mathlib.Core.Path.{◌≡◌, refl, sym, ap₂}
use mathlib.Core.Bool.{Bool, true, false, cond}

-- by the two tests: whether a is before b, whether b is before a
pub data Compared {A : Type 0} (a b : A) : Bool → Bool → Type 0 where
  first : Compared a b true false
  second : Compared a b false true
  neither : a ≡ b → Compared a b false false

-- of wholes that are made of a first and a second part
pub by_parts : {A B C : Type 0} (make : A → B → C) {a a' : A} {b b' : B} {f g h k : Bool} → Compared a a' f g → Compared b b' h k
    → Compared (make a b) (make a' b') (cond f true (cond g false h)) (cond g true (cond f false k))
by_parts make first r = first
by_parts make second r = second
by_parts make (neither e) first = first
by_parts make (neither e) second = second
by_parts make (neither e) (neither d) = neither (ap₂ make e d)

-- put in order, whichever is named first
pub one-order : {A B : Type 0} (make : A → A → B) {a b : A} {f g : Bool} → Compared a b f g → cond g (make b a) (make a b) ≡ cond f (make a b) (make b a)
one-order make first = refl
one-order make second = refl
one-order make (neither e) = ap₂ make e (sym e)
