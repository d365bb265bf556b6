-- Two runs from states that are one but for names stay so, step by step, where no waiting event tied with one taken: the one taken is then strictly
-- before every other that waits, in both.
use Rattle.std.proofs.Common.{None, Option, Some}
use mathlib.Core.Path.{◌≡◌, refl, sym, ap, ◌∙◌, subst}
use mathlib.Core.Bool.{Bool, false}
use mathlib.Core.List.{List}
use Prim.Native.Nat.{ℕ, suc, ◌<◌}
use lib.ListN.{set}
use Rattle.events.specs.Coordinates.{Coordinates, Crossing}
use Rattle.events.specs.Renaming.{rename}
use Rattle.events.specs.Store.{Store, look}
use Rattle.events.proofs.Stored.{Stored}
use Rattle.events.proofs.Looks.{Blanks, look_in}
use Rattle.order.specs.Keys.{key_used}
use Rattle.order.proofs.Laws.{otherwise, trans}
use Rattle.class.specs.declared.Operation.{Operation}
use Rattle.division.proofs.Sides.{MoveLaws}
use Rattle.neighbours.proofs.Likeness.{Likeness}
use Rattle.neighbours.proofs.Invariants.{Invariant, numbers_in_use}
use Rattle.neighbours.proofs.Both.{both, stores, numbers, store-known, numbers-both}
use Rattle.waiting.specs.Waiting.{flagged}
use Rattle.waiting.proofs.First.{found}
use Rattle.sweep_events.proofs.Adapters.{events-both}
use Rattle.sweep.specs.declared.turn.Stop.{Stop}
use Rattle.sweep.specs.declared.turn.Stop.TheVariants.{Going, Refused}
use Rattle.sweep.specs.State.{State}
use Rattle.sweep.specs.Run.{is_before, next, is_tied, step_by, step, run}
use Rattle.sweep.specs.Lined.{Good}
use Rattle.sweep.proofs.Flags.{down}
use Rattle.sweep.proofs.Abreast.{lists-map, StopsAlike, going, ended, refused, Abreast, on, StatesAlike, together, gone}
use Rattle.sweep.proofs.Walk.{NextAlike, over, takes-up, TurnLaws, RunLaws, onward, alike-run}
use Rattle.sweep.proofs.Good.{sound, sound-kept}
use Rattle.sweep_order.specs.SameBut.{Renaming, rename_stop, SameBut}
use Rattle.sweep_order.proofs.Renamings.{below-to, eqb-to}
use Rattle.sweep_order.proofs.Told.{untied-at}
use Rattle.sweep_order.proofs.Scan.{Strict, strict, none-to, first_to, unrivalled-to}
use Rattle.sweep_order.proofs.Twins.{Twin, point-to, before-to}
use Rattle.sweep_order.proofs.Alike.{renamed, to_is, renames, turns-to}

-- what waits, under new names
abbrev pub Flags : (ℕ → ℕ) → List Bool → List Bool → Type 0
Flags f w w' = (r : ℕ) → flagged w' (f r) ≡ flagged w r

module _ {P S : Type 0} {C : Coordinates P} {K : Store P S} (M : MoveLaws C) (st : Stored K) (bl : Blanks K) where
  strictly : (s : State S) → Good C K s.store s.used → (e : ℕ) → next C K s ≡ Some e → is_tied C K s e ≡ false → Strict (flagged s.waits) (is_before C K s) e s.used
  unfolding next is_tied is_before key_used
  strictly s g e h u =
      strict (flagged s.waits) (is_before C K s) (λ r. r < s.used)
      (λ q r x y. otherwise M.order (key_used K s.store s.used q) (key_used K s.store s.used r))
      (λ p q r x y z. trans M.order (key_used K s.store s.used p) (key_used K s.store s.used q) (key_used K s.store s.used r) (g.sound p x).side (g.sound q y).side (g.sound r z).side)
      s.used (λ r l. l) e h u

-- ---- two runs

module _ {P S : Type 0} {C : Coordinates P} {K : Store P S} (M : MoveLaws C) (st : Stored K) (bl : Blanks K) (crossing : Crossing P) (op : Operation) {n : ℕ} (ρ : Renaming n) (past past' : P → Bool)
    (same-past : (p : P) → past' p ≡ past p) where
  abbrev I : Invariant P S
  I = sound M st bl

  abbrev A : Likeness P S P S
  A = renames K ρ

  abbrev B : Likeness P S P S
  B = both A I

  -- where the early stop is the same
  sound-turns : TurnLaws B op C K crossing past op C K crossing past'
  unfolding renames sound numbers_in_use
  sound-turns =
      let T = turns-to C st ρ crossing op past in
      record {
        events = events-both T.events I (sound-kept M st bl crossing);
        lefts = λ w h. T.lefts (stores A I w) (numbers A I h);
        lates = λ {n = m} {s} {s'} {e} w h.
            ap (λ k. past' (look K s' m k).point) (to_is (numbers A I h).alike) ∙ ap past' (point-to (stores A I w).alike e) ∙ same-past _;
        mates = λ w h l. T.mates (stores A I w) (numbers A I h) (numbers A I l);
      }

  nexts-to : (k : ℕ) {z z' : State S} → Abreast B (Flags ρ.to) z z' → z.stop ≡ Going → (run C K crossing op past (suc k) z).tied ≡ false → NextAlike B C K C K z z'
  unfolding renames sound numbers_in_use next is_tied is_before step
  nexts-to k {z} {z'} (on {n = m} {s} {s'} b v f h g y) q c = go (next C K z) refl
    where
      t : Twin K ρ s s' m
      t = (stores A I v).alike

      order-to : (a c : ℕ) → is_before C K z' (ρ.to a) (ρ.to c) ≡ is_before C K z a c
      order-to a c = before-to t C a c

      go : (o : Option ℕ) → next C K z ≡ o → NextAlike B C K C K z z'
      go None p = over p (none-to ρ _ _ (is_before C K z) (is_before C K z') f order-to m t.grown p)
      go (Some e) p =
          let here = subst (λ (o : Option ℕ). (run C K crossing op past k (step_by C K crossing op past z o)).tied ≡ false) p (sym (ap (λ (x : State S). x.tied) (onward C K crossing op past k z q)) ∙ c) in
          let untied = untied-at C K crossing op past k z e here in
          let first = strictly M st bl z (store-known A I v) e p untied in
          takes-up p (first_to ρ _ _ (is_before C K z) (is_before C K z') f order-to m t.grown e p first)
          (numbers-both A I (record { alike = renamed }) (found (flagged z.waits) (is_before C K z) m e p).below)
          (unrivalled-to ρ _ _ (is_before C K z) (is_before C K z') f order-to m t.grown e p first ∙ sym untied)

  runs_to : RunLaws B (Flags ρ.to) op C K crossing past op C K crossing past' (λ k z. (run C K crossing op past k z).tied ≡ false)
  unfolding renames step
  runs_to =
      record {
        turns = sound-turns;
        downs = λ {w = w} {w'} {e} f h. λ r.
            ap (λ k. flagged (set w' k false) (ρ.to r)) (to_is (numbers A I h).alike) ∙ down w' (ρ.to e) (ρ.to r) ∙ rw (eqb-to ρ r e, f r) (sym (down w e r));
        nexts = λ {k} a q c. nexts-to k a q c;
        calm = λ {k} {z} q c. sym (ap (λ (x : State S). x.tied) (onward C K crossing op past k z q)) ∙ c;
      }

  pub sim-run : (k : ℕ) (s s' : State S) → Abreast B (Flags ρ.to) s s' → (run C K crossing op past k s).tied ≡ false
      → StatesAlike B (Flags ρ.to) (run C K crossing op past k s) (run C K crossing op past' k s')
  sim-run k s s' m h = alike-run runs_to k s s' h (together m)

-- ---- what is told

module _ {P S : Type 0} {C : Coordinates P} {K : Store P S} (M : MoveLaws C) (st : Stored K) (bl : Blanks K) {n : ℕ} (ρ : Renaming n) where
  abbrev B' : Likeness P S P S
  B' = both (renames K ρ) (sound M st bl)

  stop-to : {x x' : Stop} → StopsAlike B' x x' → x' ≡ rename_stop ρ.to x
  unfolding both renames rename_stop
  stop-to going = refl
  stop-to ended = refl
  stop-to (refused t) = ap Refused (to_is t.0)

  pub same-but : {s s' : State S} → StatesAlike B' (Flags ρ.to) s s' → SameBut K ρ.to s s'
  unfolding both renames sound numbers_in_use
  same-but (together (on {n = m} {s} {s'} b v f h g y)) =
      let t = v.alike.0 in
      record {
        used = refl;
        records = λ r l. sym (look_in K s' m (ρ.to r) (below-to ρ m r t.grown l)) ∙ t.looks r ∙ ap (rename ρ.to) (look_in K s m r l);
        waits = f;
        status = lists-map ρ.to (λ r r' k. to_is k.alike.0) h;
        taken = lists-map ρ.to (λ r r' k. to_is k.alike.0) g;
        tied = refl;
        stop = stop-to y;
      }
  same-but (gone o) = absurd o
