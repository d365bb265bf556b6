-- What is alike in two runs, together with an invariant of the first: where each is kept, both are.
use Prim.Native.Nat.{ℕ}
use Rattle.refusals.specs.declared.Reason.TheVariants as Reason
use Rattle.events.specs.Coordinates.{Coordinates, Cross, Crossing}
use Rattle.events.specs.Store.{Store}
use Rattle.neighbours.specs.Step.{Step}
use Rattle.neighbours.proofs.Likeness.{Likeness, StoresAlike, NumbersAlike, PointsAlike, StepsAlike, went, halted, out, CrossesAlike, apart, astray, across, along}
use Rattle.neighbours.proofs.Walk.{MeetingLaws}
use Rattle.neighbours.proofs.Invariants.{Invariant, Crossed, Kept}
use Rattle.neighbours.proofs.Kept.{known, diagonal, kept-cut}

unfoldable pub both : {P S P' S' : Type 0} → Likeness P S P' S' → Invariant P S → Likeness P S P' S'
both B I =
    record {
      Stores = λ n s s'. B.Stores n s s' × I.OfStore n s;
      Numbers = λ n r r'. B.Numbers n r r' × I.OfNumber n r;
      Points = λ p p'. B.Points p p' × I.OfPoint p;
      Refusals = λ r r'. B.Refusals r r' × I.OfRefusal r;
      Departs = B.Departs;
      later = λ m n r r' l h. (B.later m n r r' l h.0, I.later m n r l h.1);
    }

module _ {P S P' S' : Type 0} (B : Likeness P S P' S') (I : Invariant P S) where
  -- each by itself, and both again
  pub stores : {n : ℕ} {s : S} {s' : S'} → StoresAlike (both B I) n s s' → StoresAlike B n s s'
  unfolding both
  stores w = record { alike = w.alike.0 }

  pub numbers : {n r r' : ℕ} → NumbersAlike (both B I) n r r' → NumbersAlike B n r r'
  unfolding both
  numbers h = record { alike = h.alike.0 }

  pub points : {p : P} {p' : P'} → PointsAlike (both B I) p p' → PointsAlike B p p'
  unfolding both
  points h = record { alike = h.alike.0 }

  pub store-known : {n : ℕ} {s : S} {s' : S'} → StoresAlike (both B I) n s s' → I.OfStore n s
  unfolding both
  store-known w = w.alike.1

  pub number-known : {n r r' : ℕ} → NumbersAlike (both B I) n r r' → I.OfNumber n r
  unfolding both
  number-known h = h.alike.1

  point-known : {p : P} {p' : P'} → PointsAlike (both B I) p p' → I.OfPoint p
  unfolding both
  point-known h = h.alike.1

  pub stores_both : {n : ℕ} {s : S} {s' : S'} → StoresAlike B n s s' → I.OfStore n s → StoresAlike (both B I) n s s'
  unfolding both
  stores_both w h = record { alike = (w.alike, h) }

  pub numbers-both : {n r r' : ℕ} → NumbersAlike B n r r' → I.OfNumber n r → NumbersAlike (both B I) n r r'
  unfolding both
  numbers-both h k = record { alike = (h.alike, k) }

  points-both : {p : P} {p' : P'} → PointsAlike B p p' → I.OfPoint p → PointsAlike (both B I) p p'
  unfolding both
  points-both q h = record { alike = (q.alike, h) }

  steps-both : {low high : ℕ} {x y : Step S} {x' : Step S'} → StepsAlike B low high x x' → StepsAlike (diagonal I) low high x y → StepsAlike (both B I) low high x x'
  unfolding both diagonal
  steps-both (went l w) (went l' w') = went l (stores_both w (known w'.alike))
  steps-both (went l w) (out o) = absurd o
  steps-both (halted l w t) (halted l' w' t') = halted l (stores_both w (known w'.alike)) (t, known t')
  steps-both (halted l w t) (out o) = absurd o
  steps-both (out o) z = out o

  crosses_both : {a a' : ℕ} {x : Cross P} {x' : Cross P'} → CrossesAlike B a a' x x' → Crossed I.OfPoint (I.OfRefusal (record { reason = Reason.Cut; place = a })) x → CrossesAlike (both B I) a a' x x'
  unfolding both
  crosses_both apart h = apart
  crosses_both (astray t) h = astray (t, h)
  crosses_both (across q) h = across (record { alike = (q.alike, h) })
  crosses_both along h = along

module _ {P S P' S' : Type 0} {B : Likeness P S P' S'} {C : Coordinates P} {K : Store P S} {crossing : Crossing P} {C' : Coordinates P'} {K' : Store P' S'} {crossing' : Crossing P'}
    (M : MeetingLaws B C K crossing C' K' crossing') (I : Invariant P S) (k : Kept I C K crossing) where
  pub meetings-both : MeetingLaws (both B I) C K crossing C' K' crossing'
  meetings-both =
      record {
        points = λ {n} {s} {r = r} w h. points-both B I (M.points (stores B I w) (numbers B I h)) (k.points n s r (store-known B I w));
        rights = λ {n} {s} w h. points-both B I (M.rights (stores B I w) (numbers B I h)) (k.points n s _ (store-known B I w));
        at-end = λ w h q. M.at-end (stores B I w) (numbers B I h) (points B I q);
        fresh = λ {n} {m} w l. numbers-both B I (M.fresh (stores B I w) l) (k.fresh n m l);
        cuts = λ {n} {s} {i = i} {p = p} w h q. steps-both B I (M.cuts (stores B I w) (numbers B I h) (points B I q)) (kept-cut I k n s i p (store-known B I w) (number-known B I h) (point-known B I q));
        one_number = λ w h l. M.one_number (stores B I w) (numbers B I h) (numbers B I l);
        one_left = λ w h l. M.one_left (stores B I w) (numbers B I h) (numbers B I l);
        one_right = λ w h l. M.one_right (stores B I w) (numbers B I h) (numbers B I l);
        one-layer = λ w h l. M.one-layer (stores B I w) (numbers B I h) (numbers B I l);
        begins = λ w h l. M.begins (stores B I w) (numbers B I h) (numbers B I l);
        ends = λ w h l. M.ends (stores B I w) (numbers B I h) (numbers B I l);
        crosses = λ {n} {s} {a = a} {b = b} w h l. crosses_both B I (M.crosses (stores B I w) (numbers B I h) (numbers B I l)) (k.crosses n s a b (store-known B I w) (number-known B I h) (number-known B I l));
        coincides = λ {n} {s} {a = a} {b = b} w h l. stores_both B I (M.coincides (stores B I w) (numbers B I h) (numbers B I l)) (k.coincides n s a b (store-known B I w) (number-known B I h) (number-known B I l));
      }
