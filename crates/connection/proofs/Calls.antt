-- The public call meets demand 3 (`specs/Demand.antt`): what is proved of connection's outcome (`contours.proofs.AtBinary64`), of what is left of the call.
use Rattle.refusals.specs.declared.Reason.{Reason}
use Rattle.refusals.specs.declared.Reason.TheVariants as Reason
use Rattle.std.proofs.Common.{Err, Ok}
use Rattle.refusals.specs.Refusals.{Verdict}
use mathlib.Core.Path.{◌≡◌, refl, sym, ap, ◌∙◌}
use mathlib.Core.List.{List, []}
use Prim.Native.Nat.{ℕ}
use native.Mathlib.Omega.{arith}
use Rattle.refusals.specs.declared.Refusal.{Refusal}
use Rattle.numbers.specs.declared.Point.{Point}
use Rattle.events.specs.Pool.{Pool, size, stored}
use Rattle.contours.specs.Outline.{Outline}
use Rattle.contours.specs.Connect.{Finished, refused, stopped, connected, given}
use Rattle.contours.specs.Connect as C
use Rattle.contours.specs.OnPool.{connect_pool}
use Rattle.contours.specs.Renaming.{RenumberedPool, Relisted, SameFinished}
use Rattle.contours.specs.Walls.{told_of}
use Rattle.contours.proofs.AtBinary64.{order, order-stopped, refusals, closing, walls, unclosed-told, enough, stopped-nine, refused-not-nine}
use Rattle.connection.specs.Connection.{Lent, room_of, left, written, told, after, connect_edges}
use Rattle.connection.specs.Demand.{Outlined, renamed_in, renamed, SameCall, SameRefusal, AnyOrder, Demand}

not-both : (o : Verdict) (x : Refusal) → o ≡ Ok tt → o ≡ Err x → ⊥
not-both o x p q = let z : ◌≡◌ {A = ℕ} 0 1 = cc in omega arith

-- ---- a call that is done

module _ (p : Pool) (list : List ℕ) (l : Lent) where
  of-finished : (f : Finished Point Pool) → connect_pool p list (room_of l) ≡ connected f → Outlined p list l (after (connected f) p l)
  unfolding after told told_of given
  of-finished f e =
      let h = enough p list (room_of l) f (ap given e) in
      record {
        outlines = f.outlines;
        answer = refl;
        arrays = refl;
        room = record { corners = h.1; contours = h.0; holes = h.2 };
        walls = walls p list (room_of l) f e;
        unclosed = unclosed-told p list (room_of l) f e;
        closing = closing p list (room_of l) f e;
      }

  outlined : (connect_edges p list l).answer.outcome ≡ Ok tt → Outlined p list l (connect_edges p list l)
  unfolding connect_edges after told
  outlined d = go (connect_pool p list (room_of l)) refl d
    where
      go : (x : C.Outcome Point Pool) → connect_pool p list (room_of l) ≡ x → (after x p l).answer.outcome ≡ Ok tt → Outlined p list l (after x p l)
      go (refused r) e d = absurd (not-both (Err r) r d refl)
      go (stopped r f) e d = absurd (not-both (Err r) r d refl)
      go (connected f) e d = of-finished f e

-- ---- another numbering and another listing

module _ (ρ : ℕ → ℕ) (n : ℕ) (p p' : Pool) (l : Lent) (f g : Finished Point Pool) (s : SameFinished stored ρ n f g) where
  done-alike : SameCall ρ n (after (connected f) p l) (after (connected g) p' l)
  unfolding after told stored renamed renamed_in
  done-alike =
      record {
        answer = ap (λ (os : List (Outline Point)). told os (Ok tt)) s.outlines;
        outlines = ap (λ (os : List (Outline Point)). written os l) s.outlines;
        pool = s.pool;
      }

  stopped_alike : (x : Refusal) → SameCall ρ n (after (stopped x f) p l) (after (stopped (record { reason = x.reason; place = ρ x.place }) g) p' l)
  unfolding after told stored renamed renamed_in
  stopped_alike x =
      record {
        answer = ap (λ (os : List (Outline Point)). told os (Err (record { reason = x.reason; place = ρ x.place }))) s.outlines;
        outlines = ap (λ (os : List (Outline Point)). written os l) s.outlines;
        pool = s.pool;
      }

-- why it was refused, if it was
reason_in : Verdict → Reason
reason_in (Ok _) = Reason.Loose
reason_in (Err r) = r.reason

refused_alike : (p p' : Pool) (l : Lent) (x y r : Refusal) → y.reason ≡ x.reason → ◌≡◌ {A = Verdict} (Err x) (Err r) → SameRefusal p p' l r (after (refused x) p l) (after (refused y) p' l)
unfolding after reason_in
refused_alike p p' l x y r e d = record { other = y; reason = e ∙ ap reason_in d; first = ap (λ (o : Verdict). left (told [] o) p l) d; second = refl }

module _ (ρ : ℕ → ℕ) (p p' : Pool) (rn : RenumberedPool ρ p p') (list list' : List ℕ) (again : Relisted ρ list list') (l : Lent) where
  any_order : AnyOrder ρ p p' list l (connect_edges p list l) (connect_edges p' list' l)
  unfolding connect_edges after told reason_in
  any_order = go (connect_pool p list (room_of l)) refl
    where
      go : (x : C.Outcome Point Pool) → connect_pool p list (room_of l) ≡ x → AnyOrder ρ p p' list l (after x p l) (after (connect_pool p' list' (room_of l)) p' l)
      go (refused x) e =
          record {
            done = λ free d. absurd (not-both (Err x) x d refl);
            by_9 = λ free r d nine. absurd (refused-not-nine p list (room_of l) x e (ap reason_in d ∙ nine));
            by_checks = λ r d no_9. let h = refusals ρ p p' rn list list' again (room_of l) x e in rw h.1 (refused_alike p p' l x h.0 r h.2 d);
          }
      go (stopped x f) e =
          record {
            done = λ free d. absurd (not-both (Err x) x d refl);
            by_9 = λ free r d nine. let h = order-stopped ρ p p' rn list list' again (room_of l) free x f e in rw h.1 (stopped_alike ρ (size p) p p' l f h.0 h.2 x);
            by_checks = λ r d no_9. absurd (no_9 (sym (ap reason_in d) ∙ stopped-nine p list (room_of l) x f e));
          }
      go (connected f) e =
          record {
            done = λ free d. let h = order ρ p p' rn list list' again (room_of l) free f e in rw h.1 (done-alike ρ (size p) p p' l f h.0 h.2);
            by_9 = λ free r d nine. absurd (not-both (Ok tt) r refl d);
            by_checks = λ r d no_9. absurd (not-both (Ok tt) r refl d);
          }

-- ---- all of it

-- Every call of connection, on every pool, list and lent arrays, is as demand 3 says.
pub demand : (p : Pool) (list : List ℕ) (l : Lent) → Demand p list l
demand p list l = record { outlined = outlined p list l; any_order = λ ρ p' list' rn again. any_order ρ p p' rn list list' again l }
