-- In an arranged sheet the first end of every edge that loads is its left end: the end that 01 calls earlier, by x, then y.
use Rattle.std.specs.Prelude.{◌≡◌, true, false, ℕ}
use mathlib.Core.List.{List, Memᴰ}
use Rattle.events.specs.Coordinates.{same, ahead}
use Rattle.events.specs.Binary64.{at_binary64, as_loaded}
use Rattle.sheet.specs.declared.edges.Edge.{Edge}
use Rattle.sheet.specs.Sheet.{Sheet}
use Rattle.sheet.specs.Reading.{Accepted, read_sheet}
use Rattle.arranging.specs.Arranged.{arranged}

-- as loading stores its ends, refusal 2 strikes neither, and 3 does not strike the edge
pub record Loads (e : Edge) : Type 0 where
  pub from : at_binary64.fit (as_loaded e.from) ≡ true
  pub to : at_binary64.fit (as_loaded e.to) ≡ true
  pub apart : same at_binary64 (as_loaded e.from) (as_loaded e.to) ≡ false

abbrev pub FirstIsLeft : Edge → Type 0
FirstIsLeft e = Loads e → ahead at_binary64 (as_loaded e.from) (as_loaded e.to) ≡ true

pub record LeftFirst : Type 0 where
  pub subject : (b : List ℕ) (s : Sheet) → read_sheet b ≡ Accepted s → (e : Edge) → Memᴰ e (arranged s).subject → FirstIsLeft e
  pub clip : (b : List ℕ) (s : Sheet) → read_sheet b ≡ Accepted s → (e : Edge) → Memᴰ e (arranged s).clip → FirstIsLeft e
