-- The sweep in the front of a store. The run in the whole may make more steps, but where the one in the front has come to its end, so has the other.
use mathlib.Core.Path.{◌≡◌, sym, ap, ◌∙◌}
use mathlib.Core.Logic.{◌≢◌}
use mathlib.Core.Bool.{true, false, false≢true}
use Prim.Native.Nat.{ℕ, suc}
use native.Mathlib.Omega.{arith}
use Rattle.events.specs.Coordinates.{Coordinates, Crossing}
use Rattle.events.specs.Store.{Store}
use Rattle.events.proofs.Stored.{Stored}
use Rattle.class.specs.declared.Operation.{Operation}
use Rattle.sweep.specs.declared.turn.Stop.TheVariants.{Going}
use Rattle.sweep.specs.State.{State, start}
use Rattle.sweep.specs.Bounds.{past}
use Rattle.sweep.specs.Run.{run, subdivide}
use Rattle.sweep.proofs.Ends.{ends}
use Rattle.sweep_room.proofs.Places.{take-alike}
use Rattle.sweep_room.proofs.Fronts.{Front, Within}
use Rattle.sweep_room.proofs.Scans.{past-alike}
use Rattle.sweep_room.proofs.Runs.{stop_full, front_state, StateFits, agree, wants, fits-run, run_more}

module _ {P S : Type 0} (C : Coordinates P) {K : Store P S} (st : Stored K) {n : ℕ} (F : Front K n) (crossing : Crossing P) (op : Operation) where
  module _ (s : S) (k : ℕ) (w : Within K n s k) where
    start-front : start (F.front s) n k ≡ front_state F (start s (K.size s) k)
    unfolding start front_state
    start-front = rw (take-alike n (K.size s) true w.wide)

    past-front : past C op (K.row_at (F.front s)) k ≡ past C op (K.row_at s) k
    past-front = past-alike C (K.row_at s) (K.row_at (F.front s)) op k (λ r l. let f = w.fits in F.row-front s r w.wide (omega arith))

    -- what the run in the whole leaves after as many steps as the one in the front makes
    after : State S
    after = run C K crossing op (past C op (K.row_at s) k) (suc n) (start s (K.size s) k)

    fits_after : StateFits F after (subdivide C K crossing op (F.front s) k)
    unfolding subdivide after start
    fits_after =
        rw (F.size-front s w.wide, past-front, start-front)
        (fits-run C st F crossing op (past C op (K.row_at s) k) (suc n) (start s (K.size s) k) (record { wide = w.wide; fits = w.fits }))

    pub subdivide-front : stop_full (subdivide C K crossing op (F.front s) k).stop ≡ false → subdivide C K crossing op (F.front s) k ≡ front_state F (subdivide C K crossing op s k)
    unfolding subdivide after front_state
    subdivide-front h = go fits_after
      where
        go : StateFits F after (subdivide C K crossing op (F.front s) k) → subdivide C K crossing op (F.front s) k ≡ front_state F (subdivide C K crossing op s k)
        go (agree v e) =
            let wide = w.wide in
            let over : after.stop ≢ Going = λ g. ends C K st crossing op (F.front s) k (ap (λ (t : State S). t.stop) e ∙ g) in
            let more = run_more C K crossing op (past C op (K.row_at s) k) (suc n) (suc (K.size s)) (start s (K.size s) k) (omega arith) over in
            e ∙ ap (front_state F) (sym more)
        go (wants q) = absurd (false≢true (sym h ∙ q))
