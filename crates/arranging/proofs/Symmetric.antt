-- Which operations do not ask which layer is which, by the truth table: those whose value stays when a place's two layers change places.
use mathlib.Core.Path.{◌≡◌, refl, sym}
use mathlib.Core.Bool.{Bool, true, false, true≢false}
use Rattle.class.specs.declared.Operation.{Operation}
use Rattle.class.specs.declared.Operation.TheVariants.{Intersection, Difference, Union, Xor}
use Rattle.class.specs.Truth.{holds}
use Rattle.arranging.specs.Arranged.{symmetric}

pub does-not-ask : (o : Operation) → symmetric o ≡ true → (s c : Bool) → holds o s c ≡ holds o c s
unfolding symmetric holds
does-not-ask Intersection e true true = refl
does-not-ask Intersection e true false = refl
does-not-ask Intersection e false true = refl
does-not-ask Intersection e false false = refl
does-not-ask Difference e s c = absurd (true≢false (sym e))
does-not-ask Union e true true = refl
does-not-ask Union e true false = refl
does-not-ask Union e false true = refl
does-not-ask Union e false false = refl
does-not-ask Xor e true true = refl
does-not-ask Xor e true false = refl
does-not-ask Xor e false true = refl
does-not-ask Xor e false false = refl

pub asks : (o : Operation) → symmetric o ≡ false → ((s c : Bool) → holds o s c ≡ holds o c s) → ⊥
unfolding symmetric holds
asks Intersection e h = true≢false e
asks Difference e h = true≢false (h true false)
asks Union e h = true≢false e
asks Xor e h = true≢false e
