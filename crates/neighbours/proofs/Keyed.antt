-- Two stores over one kind of coordinate whose records at hand have equal keys: every test of a meeting sees no more than keys, so that it tells the same.
use mathlib.Core.Path.{◌≡◌, refl, ap, ap₂}
use Rattle.refusals.specs.declared.Reason.TheVariants as Reason
use mathlib.Core.Bool.{◌||◌, beq}
use Prim.Native.Nat.{ℕ, ◌+◌, ◌≤◌}
use lib.Dec.{eqb}
use Rattle.events.specs.Coordinates.{Coordinates, same, Cross, none, lost, point, overlap, Crossing}
use Rattle.events.specs.Event.{Key, key}
use Rattle.events.specs.Store.{Store, look}
use Rattle.order.specs.Order.{before}
use Rattle.order.specs.Keys.{key_of, key_used}
use Rattle.neighbours.specs.Step.{cut}
use Rattle.neighbours.specs.Neighbours.{at_end, coincided}
use Rattle.neighbours.proofs.Likeness.{Likeness, StoresAlike, NumbersAlike, PointsAlike, StepsAlike, CrossesAlike, apart, astray, across, along}
use Rattle.neighbours.proofs.Walk.{MeetingLaws}

pub record Keyed {P S S' : Type 0} (B : Likeness P S P S') (C : Coordinates P) (K : Store P S) (K' : Store P S') : Type 0 where
  pub keys : {n : ℕ} {s : S} {s' : S'} {r r' : ℕ} → StoresAlike B n s s' → NumbersAlike B n r r' → key_used K' s' n r' ≡ key_used K s n r
  pub mates : {n : ℕ} {s : S} {s' : S'} {r r' : ℕ} → StoresAlike B n s s' → NumbersAlike B n r r' → NumbersAlike B n (look K s n r).partner (look K' s' n r').partner
  pub one_number : {n : ℕ} {s : S} {s' : S'} {a b a' b' : ℕ} → StoresAlike B n s s' → NumbersAlike B n a a' → NumbersAlike B n b b' → eqb a' b' ≡ eqb a b
  -- the new left end of a division
  pub fresh : {n m : ℕ} {s : S} {s' : S'} → StoresAlike B n s s' → n + 2 ≤ m → NumbersAlike B m (n + 1) (n + 1)
  pub points : {p p' : P} → p' ≡ p → PointsAlike B p p'
  pub points-are : {p p' : P} → PointsAlike B p p' → p' ≡ p
  pub told : {n a a' : ℕ} → NumbersAlike B n a a' → B.Refusals (record { reason = Reason.Cut; place = a }) (record { reason = Reason.Cut; place = a' })
  pub cuts : {n : ℕ} {s : S} {s' : S'} {i i' : ℕ} {p p' : P} → StoresAlike B n s s' → NumbersAlike B n i i' → p' ≡ p → StepsAlike B n (n + 2) (cut C K s n i p) (cut C K' s' n i' p')
  pub coincides : {n : ℕ} {s : S} {s' : S'} {a b a' b' : ℕ} → StoresAlike B n s s' → NumbersAlike B n a a' → NumbersAlike B n b b' → StoresAlike B n (coincided C K s n a b) (coincided C K' s' n a' b')

module _ {P S S' : Type 0} {B : Likeness P S P S'} {C : Coordinates P} {K : Store P S} {K' : Store P S'} (k : Keyed B C K K') where
  crossed : {n a a' : ℕ} (x x' : Cross P) → NumbersAlike B n a a' → x' ≡ x → CrossesAlike B a a' x x'
  crossed none x' h e = rw e apart
  crossed lost x' h e = rw e (astray (k.told h))
  crossed (point p) x' h e = rw e (across (k.points refl))
  crossed (overlap p q) x' h e = rw e along

  pub keyed-meetings : (crossing : Crossing P) → MeetingLaws B C K crossing C K' crossing
  unfolding at_end key_used key_of key
  keyed-meetings crossing =
      record {
        points = λ w h. k.points (ap (λ (x : Key P). x.point) (k.keys w h));
        rights = λ w h. k.points (ap (λ (x : Key P). x.mate) (k.keys w h));
        at-end = λ w h q. ap₂ (λ (x : Key P) p. same C x.point p || same C x.mate p) (k.keys w h) (k.points-are q);
        fresh = k.fresh;
        cuts = λ w h q. k.cuts w h (k.points-are q);
        one_number = k.one_number;
        one_left = λ w h l. ap₂ (λ (x y : Key P). same C x.point y.point) (k.keys w h) (k.keys w l);
        one_right = λ w h l. ap₂ (λ (x y : Key P). same C x.mate y.mate) (k.keys w h) (k.keys w l);
        one-layer = λ w h l. ap₂ (λ (x y : Key P). beq x.subject y.subject) (k.keys w h) (k.keys w l);
        begins = λ w h l. ap₂ (before C) (k.keys w h) (k.keys w l);
        ends = λ w h l. ap₂ (before C) (k.keys w (k.mates w h)) (k.keys w (k.mates w l));
        crosses = λ w h l. crossed _ _ h (ap₂ (λ (x y : Key P). crossing x.point x.mate y.point y.mate) (k.keys w h) (k.keys w l));
        coincides = k.coincides;
      }
