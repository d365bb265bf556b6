-- A printed map is the text of the contours in which every wall of the swept sheet is walked once: each step of the work handed on what the next one took.
use Rattle.refusals.specs.Refusals.{Verdict}
use Rattle.std.proofs.Common.{Err, Ok, Result, Option}
use Rattle.refusals.specs.declared.Reason.TheVariants as Reason
use mathlib.Core.Path.{◌≡◌, refl, sym, ◌∙◌, subst}
use mathlib.Core.Bool.{Bool, true, false, cond}
use mathlib.Core.List.{List, Memᴰ}
use Prim.Native.Nat.{ℕ, min, ◌<◌}
use native.Mathlib.Omega.{arith}
use borrow.Author.Tests.{ltb-false}
use lib.Dec.{ltb}
use lib.ListN.{length, take}
use lib.Seq.{sets}
use Rattle.lists.proofs.Fronts.{first-are}
use Rattle.refusals.specs.declared.Refusal.{Refusal}
use Rattle.numbers.specs.declared.Point.{Point}
use Rattle.crossing.specs.Modes.{ordered}
use Rattle.events.specs.Binary64.{at_binary64}
use Rattle.class.specs.declared.Operation.{Operation}
use Rattle.class.specs.declared.Operation.TheVariants.{Intersection, Difference, Union, Xor}
use Rattle.sweep.specs.Bounds.{is_past}
use Rattle.sweep.proofs.Answers.{all_listed}
use Rattle.connection.specs.Connection.{Lent, connect_edges}
use Rattle.connection.specs.Connection as Connects
use Rattle.connection.specs.Demand.{Outlined}
use Rattle.connection.proofs.Calls.{demand}
use Rattle.sheet.specs.Sheet.{Sheet}
use Rattle.sheet.specs.Reading.{Reading, Accepted, read_sheet}
use Rattle.sheet.specs.Reading as R
use Rattle.printing.specs.Printing.{printed}
use Rattle.printing.specs.Put.{most_places}
use Rattle.overlay_work.specs.Overlay.{Work, Text, Stopped, left, put, wanted, pool_places, contour_places, none_taken, empty_outlines, connected_to, after_connection, overlay_taken, swept_to, after_sweep, loaded_to, after_loading, overlay_edges_in, overlay_edges, overlay_sheet, after_reading, work, overlay}
use Rattle.overlay_work.specs.Insured.{loaded_sheet, swept_sheet, Run, swept, swept_pool, events_taken, NeverEarly, Insured}
use Rattle.overlay_work.proofs.Texts.{text-is}
use Rattle.overlay_work.proofs.Lengths.{text-short}

no_text : (r : Refusal) (t : List ℕ) → Stopped r ≡ Text t → ⊥
no_text r t e = let z : ◌≡◌ {A = ℕ} 0 1 = cc in omega arith

-- ---- the sweep

never-past : (o : Operation) → NeverEarly o → (a b : Option Point) (q : Point) → is_past at_binary64 o a b q ≡ false
unfolding is_past NeverEarly
never-past Intersection h a b q = absurd h
never-past Difference h a b q = absurd h
never-past Union h a b q = refl
never-past Xor h a b q = refl

all-taken : {bytes : List ℕ} (r : Run bytes) → NeverEarly r.sheet.operation → (i : ℕ) → i < (swept r).answer.used → Memᴰ i (events_taken r)
all-taken r e = all_listed r.sheet.operation ordered _ r.loaded _ (never-past r.sheet.operation e) r.sweeps

-- ---- connection

abbrev arrays : Lent
arrays = empty_outlines pool_places contour_places

module _ {bytes : List ℕ} (r : Run bytes) (text : List ℕ) where
  abbrev connected : Connects.After
  connected = connect_edges (swept_pool r) (events_taken r) arrays

  shown : (o : Outlined (swept_pool r) (events_taken r) arrays connected) → after_connection connected ≡ Text (printed o.outlines)
  unfolding after_connection connected_to Connects.told
  shown o = rw (o.answer, o.arrays, text-is o.outlines arrays o.room.contours o.room.corners o.room.holes)

  of-outlined : Outlined (swept_pool r) (events_taken r) arrays connected → after_connection connected ≡ Text text → Insured bytes text
  of-outlined o e =
      let z : Text text ≡ Text (printed o.outlines) = sym e ∙ shown o in
      record { run = r; outlines = o.outlines; shows = cc; walls = o.walls; closing = λ even. (o.closing even).0; whole = all-taken r }

  of-taken : overlay_taken (swept_pool r) (events_taken r) ≡ Text text → Insured bytes text
  unfolding overlay_taken after_connection connected_to
  of-taken e = go connected.answer.outcome refl e
    where
      go : (y : Verdict) → connected.answer.outcome ≡ y → connected_to y connected.answer.contours connected.outlines ≡ Text text → Insured bytes text
      go (Ok _) d q = of-outlined ((demand (swept_pool r) (events_taken r) arrays).outlined d) e
      go (Err x) d q = absurd (no_text x text q)

-- ---- the steps before it

module _ (bytes : List ℕ) (s : Sheet) (read : read_sheet bytes ≡ Accepted s) (text : List ℕ) where
  of-swept : (n : ℕ) → (loaded_sheet s).answer ≡ Ok n → after_sweep (swept_sheet s n) ≡ Text text → Insured bytes text
  unfolding after_sweep swept_to
  of-swept n l e = go (swept_sheet s n).answer.outcome refl e
    where
      go : (y : Verdict) → (swept_sheet s n).answer.outcome ≡ y → after_sweep (swept_sheet s n) ≡ Text text → Insured bytes text
      go (Ok _) d e = of-taken (record { sheet = s; reads = read; loaded = n; loads = l; sweeps = d }) text (rw d at e)
      go (Err x) d e = absurd (no_text x text (rw d at e))

  of-sheet : overlay_sheet s ≡ Text text → Insured bytes text
  unfolding overlay_sheet overlay_edges overlay_edges_in after_loading loaded_to
  of-sheet e = go (loaded_sheet s).answer refl e
    where
      go : (y : Result ℕ Refusal) → (loaded_sheet s).answer ≡ y → loaded_to s.operation (none_taken pool_places) y (loaded_sheet s).pool ≡ Text text → Insured bytes text
      go (Ok n) l e = of-swept n l e
      go (Err x) l e = absurd (no_text x text e)

insured-work : (bytes text : List ℕ) → work bytes ≡ Text text → Insured bytes text
unfolding work after_reading
insured-work bytes text e = go (read_sheet bytes) refl e
  where
    go : (y : Reading) → read_sheet bytes ≡ y → after_reading y ≡ Text text → Insured bytes text
    go (Accepted s) r e = of-sheet bytes s r text e
    go (R.Refused reason line) r e = absurd (no_text _ text e)

-- ---- the call

-- The n bytes that a call prints are the map of the sheet, as an insurer asks.
pub insured : (bytes out : List ℕ) (n : ℕ) → (overlay bytes out).answer ≡ Ok n → Insured bytes (take n (overlay bytes out).out)
unfolding overlay put wanted
insured bytes out n e = go (work bytes) refl e
  where
    go : (w : Work) → work bytes ≡ w → (put w out).answer ≡ Ok n → Insured bytes (take n (put w out).out)
    go (Text t) q e = fitted (ltb (length out) (min (length t) most_places)) refl e
      where
        fitted : (b : Bool) → ltb (length out) (min (length t) most_places) ≡ b
            → let x = cond b (left (Err (record { reason = Reason.Room; place = min (length t) most_places })) out) (left (Ok (min (length t) most_places)) (sets out 0 t)) in
            x.answer ≡ Ok n → Insured bytes (take n x.out)
        fitted true f e = let z : ◌≡◌ {A = ℕ} 1 0 = cc in absurd (omega arith)
        fitted false f e =
            let z : min (length t) most_places ≡ n = cc in
            let fits = ltb-false (length out) (min (length t) most_places) f in
            let whole : n ≡ length t = omega (arith, z, text-short bytes t q) in
            subst (Insured bytes) (sym (first-are out t n whole (omega (arith, fits, z)))) (insured-work bytes t q)
    go (Stopped x) q e = let z : ◌≡◌ {A = ℕ} 1 0 = cc in absurd (omega arith)
