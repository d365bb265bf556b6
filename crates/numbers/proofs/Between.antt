-- What shows that a number is finite: it stands strictly between two others, or it went into a difference or a product that is finite.
use mathlib.Core.Path.{◌≡◌, refl}
use mathlib.Core.Bool.{Bool, true, false, cond, beq, true≢false, false≢true}
use lib.Dec.{eqb}
use lib.Ieee.{Float, nan, inf, fin, binary64, unlike, add, sub, mul, neg, lt}
use Rattle.numbers.specs.Binary64.{not_finite}

-- infinity is below nothing, and nothing is below minus infinity
pub not-below : (x : Float) → lt (inf false) x ≡ true → ⊥
unfolding lt
not-below nan t = false≢true t
not-below (inf r) t = false≢true t
not-below (fin s m e) t = false≢true t

pub not-above : (x : Float) → lt x (inf true) ≡ true → ⊥
unfolding lt
not-above nan t = false≢true t
not-above (inf true) t = false≢true t
not-above (inf false) t = false≢true t
not-above (fin s m e) t = false≢true t

pub strictly-between : (x y z : Float) → lt x y ≡ true → lt y z ≡ true → not_finite y ≡ false
unfolding lt not_finite
strictly-between x nan z h k = absurd (false≢true k)
strictly-between x (inf true) z h k = absurd (not-above x h)
strictly-between x (inf false) z h k = absurd (not-below z k)
strictly-between x (fin s m e) z h k = refl

-- a not-a-number or an infinity
lost : (b s : Bool) → not_finite (cond b nan (inf s)) ≡ false → ⊥
unfolding not_finite
lost true s t = true≢false t
lost false s t = true≢false t

lost-sum : (b s : Bool) → not_finite (cond b (inf s) nan) ≡ false → ⊥
unfolding not_finite
lost-sum true s t = true≢false t
lost-sum false s t = true≢false t

pub add-finite : (x y : Float) → not_finite (add binary64 x y) ≡ false → (not_finite x ≡ false) × (not_finite y ≡ false)
unfolding add not_finite
add-finite nan y t = absurd (true≢false t)
add-finite (inf s) nan t = absurd (true≢false t)
add-finite (inf s) (inf r) t = absurd (lost-sum (beq s r) s t)
add-finite (inf s) (fin r n d) t = absurd (true≢false t)
add-finite (fin s m e) nan t = absurd (true≢false t)
add-finite (fin s m e) (inf r) t = absurd (true≢false t)
add-finite (fin s m e) (fin r n d) t = (refl, refl)

neg-finite : (x : Float) → not_finite (neg x) ≡ false → not_finite x ≡ false
unfolding neg not_finite
neg-finite nan t = t
neg-finite (inf s) t = t
neg-finite (fin s m e) t = refl

pub sub-finite : (x y : Float) → not_finite (sub binary64 x y) ≡ false → (not_finite x ≡ false) × (not_finite y ≡ false)
unfolding sub
sub-finite x y t = let both = add-finite x (neg y) t in (both.0, neg-finite y both.1)

pub mul-finite : (x y : Float) → not_finite (mul binary64 x y) ≡ false → (not_finite x ≡ false) × (not_finite y ≡ false)
unfolding mul not_finite
mul-finite nan y t = absurd (true≢false t)
mul-finite (inf s) nan t = absurd (true≢false t)
mul-finite (inf s) (inf r) t = absurd (true≢false t)
mul-finite (inf s) (fin r n d) t = absurd (lost (eqb n 0) (unlike s r) t)
mul-finite (fin s m e) nan t = absurd (true≢false t)
mul-finite (fin s m e) (inf r) t = absurd (lost (eqb m 0) (unlike s r) t)
mul-finite (fin s m e) (fin r n d) t = (refl, refl)
