-- The insurer's first answer, of a sheet: is every wall in exactly one outline of the printed map? A wall is a result edge of the swept sheet: a left
-- record among the events taken that is in the result; its two ends are its own point and its partner's.
use Rattle.std.specs.Prelude.{Ok}
use Rattle.std.specs.Prelude.{◌≡◌, ℕ, ◌<◌, take}
use mathlib.Core.List.{List, Memᴰ}
use Rattle.numbers.specs.declared.Point.{Point}
use Rattle.crossing.specs.Modes.{ordered}
use Rattle.events.specs.Binary64.{at_binary64}
use Rattle.events.specs.Pool.{Pool, row_at}
use Rattle.class.specs.declared.Operation.{Operation}
use Rattle.class.specs.declared.Operation.TheVariants.{Intersection, Difference, Union, Xor}
use Rattle.loading.specs.OnPool.{load}
use Rattle.loading.specs.OnPool as Loads
use Rattle.sweep.specs.OnPool.{subdivide_pool}
use Rattle.sweep.specs.OnPool as Sweeps
use Rattle.sweep_room.specs.Room.{first_places}
use Rattle.contours.specs.Outline.{Outline}
use Rattle.contours.specs.Renaming.{EvenEnds}
use Rattle.contours.specs.Walls.{told_of, OneToOne}
use Rattle.connection.specs.Demand.{AllClose}
use Rattle.sheet.specs.Sheet.{Sheet}
use Rattle.sheet.specs.Reading.{Accepted, read_sheet}
use Rattle.printing.specs.Printing.{printed}
use Rattle.overlay_work.specs.Overlay.{pool_places, none_taken, empty_pool, ends_in, labels_in}

-- ---- the run of a sheet

-- what loading its edges leaves
abbrev pub loaded_sheet : Sheet → Loads.After
loaded_sheet s = load (ends_in s) (labels_in s) (empty_pool pool_places)

-- what the sweep of the n records loaded leaves
abbrev pub swept_sheet : Sheet → ℕ → Sweeps.After
swept_sheet s n = subdivide_pool s.operation ordered (loaded_sheet s).pool n (none_taken pool_places)

-- bytes that are a sheet, whose edges all load and whose sweep comes to its end
pub record Run (bytes : List ℕ) : Type 0 where
  pub sheet : Sheet
  pub reads : read_sheet bytes ≡ Accepted sheet
  pub loaded : ℕ
  pub loads : (loaded_sheet sheet).answer ≡ Ok loaded
  pub sweeps : (swept_sheet sheet loaded).answer.outcome ≡ Ok tt

module _ {bytes : List ℕ} (r : Run bytes) where
  abbrev pub swept : Sweeps.After
  swept = swept_sheet r.sheet r.loaded

  -- the places in use
  abbrev pub swept_pool : Pool
  swept_pool = first_places swept.answer.used swept.pool

  abbrev pub events_taken : List ℕ
  events_taken = take swept.answer.taken swept.taken

-- no event lies past all that matters
unfoldable pub NeverEarly : Operation → Type 0
NeverEarly Intersection = ⊥
NeverEarly Difference = ⊥
NeverEarly Union = Unit {0}
NeverEarly Xor = Unit {0}

-- ---- the printed text of a sheet

pub record Insured (bytes text : List ℕ) : Type 0 where
  pub run : Run bytes
  pub outlines : List (Outline Point)
  -- the text shows these contours
  pub shows : text ≡ printed outlines
  -- each two neighbouring corners are the two ends of a wall, and each wall is at one place of one contour
  pub walls : OneToOne at_binary64 (row_at (swept_pool run)) (events_taken run) (told_of outlines).corners
  -- if every point ends an even number of walls, every contour closes
  pub closing : EvenEnds at_binary64 (row_at (swept_pool run)) (events_taken run) → AllClose outlines
  -- unless the sweep may end early, every place in use was taken
  pub whole : NeverEarly run.sheet.operation → (r : ℕ) → r < (swept run).answer.used → Memᴰ r (events_taken run)
