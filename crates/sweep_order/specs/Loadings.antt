-- 01, 'Sweep': 'if all edges load and no two waiting events ever tie, loading the same edges in another order changes record numbers and nothing else.'
use Rattle.std.specs.Prelude.{◌≡◌, ◌≢◌, true, false, ◌&&◌, List, ℕ, ◌*◌, ◌<◌, length}
use Rattle.events.specs.Coordinates.{Coordinates, Crossing}
use Rattle.events.specs.Renaming.{rename}
use Rattle.events.specs.Store.{Store}
use Rattle.class.specs.declared.Operation.{Operation}
use Rattle.loading.specs.Loading.{Edge, loaded}
use Rattle.waiting.specs.Waiting.{flagged}
use Rattle.sweep.specs.declared.turn.Stop.TheVariants.{Going}
use Rattle.sweep.specs.State.{State, start}
use Rattle.sweep.specs.Bounds.{past}
use Rattle.sweep.specs.Run.{is_before, run, subdivide}
use Rattle.sweep_order.specs.SameBut.{Renaming, SameBut}

module _ {P S : Type 0} (C : Coordinates P) (K : Store P S) where
  -- ---- 'no two waiting events ever tie'

  -- an event waits where its place is in use and it has not been taken
  pub record Waits (s : State S) (r : ℕ) : Type 0 where
    pub in_use : r < s.used
    pub untaken : flagged s.waits r ≡ true

  abbrev pub NoTwoTie : State S → Type 0
  NoTwoTie s = (q r : ℕ) → Waits s q → Waits s r → q ≢ r → (is_before C K s q r && is_before C K s r q) ≡ false

  module _ (crossing : Crossing P) (op : Operation) where
    -- after k events, of a store whose first n places are in use
    unfoldable pub after : ℕ → S → ℕ → State S
    after k s n = run C K crossing op (past C op (K.row_at s) n) k (start s (K.size s) n)

    -- at each taking
    abbrev pub NeverTie : S → ℕ → Type 0
    NeverTie s n = (k : ℕ) → (after k s n).stop ≡ Going → NoTwoTie (after k s n)

    -- ---- 'changes record numbers and nothing else': of two stores, of which the first n places are in use

    pub record OnlyNumbers (n : ℕ) (s s' : S) : Type 0 where
      pub renaming : Renaming n
      pub at_first : (r : ℕ) → r < n → K.row_at s' (renaming.to r) ≡ rename renaming.to (K.row_at s r)
      pub each_step : (k : ℕ) → (after k s n).tied ≡ false → SameBut K renaming.to (after k s n) (after k s' n)
      pub at_last : SameBut K renaming.to (subdivide C K crossing op s n) (subdivide C K crossing op s' n)

    -- the edges l in stores of one size, and in another order l'
    abbrev pub OrderFree : List (Edge P) → List (Edge P) → S → S → Type 0
    OrderFree l l' s s' = OnlyNumbers (2 * length l) (loaded C K s 0 l) (loaded C K s' 0 l')
