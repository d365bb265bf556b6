-- What was read is in the first places of the arrays, or is refused.
use Rattle.std.proofs.Common.{Err, Ok, Result}
use mathlib.Core.Path.{◌≡◌, refl, ap, ◌∙◌}
use mathlib.Core.List.{List, map}
use Prim.Native.Nat.{ℕ, ◌+◌, ◌≤◌}
use native.Mathlib.Omega.{arith}
use lib.ListN.{length, take, length-append, length-map}
use lib.Seq.{sets, length-sets}
use Rattle.lists.proofs.Fronts.{first-are}
use Rattle.refusals.specs.declared.Refusal.{Refusal}
use Rattle.class.specs.declared.Operation.{Operation}
use Rattle.sheet.specs.declared.Counts.{Counts}
use Rattle.refusals.specs.declared.Refusal.{Refusal}
use Rattle.sheet.specs.Sheet.{Sheet, Fits, most_edges}
use Rattle.sheet.specs.Reading.{Reading, Accepted, read_sheet}
use Rattle.sheet.specs.Reading as R
use Rattle.sheet.specs.Stored.{ends_of, labels_of, leave}
use Rattle.sheet.specs.Stored as Stored
use Rattle.sheet.proofs.Sheets.{describes}
use Rattle.overlay_work.specs.Overlay.{Work, After, left, put, no_ends, no_labels, ends_in, labels_in, overlay_edges, overlay_sheet, after_reading}
use Rattle.overlay_work.specs.Told.{told_count, told_to}

-- ---- the arrays

ends-room : length no_ends ≡ most_edges
unfolding no_ends
ends-room = refl

labels-room : length no_labels ≡ most_edges
unfolding no_labels
labels-room = refl

-- ---- a sheet

module _ (s : Sheet) (f : Fits s) where
  abbrev count : ℕ
  count = length s.subject + length s.clip

  ends-are : take count (sets no_ends 0 (ends_in s)) ≡ ends_in s
  ends-are =
      let n : count ≡ length (ends_in s) = omega (arith, length-append (map ends_of s.subject) (map ends_of s.clip), length-map s.subject ends_of, length-map s.clip ends_of) in
      first-are no_ends (ends_in s) count n (omega (arith, f.few, ends-room))

  labels-are : take count (sets no_labels 0 (labels_in s)) ≡ labels_in s
  labels-are =
      let n : count ≡ length (labels_in s) = omega (arith, length-append (map (labels_of 1) s.subject) (map (labels_of 0) s.clip), length-map s.subject (labels_of 1), length-map s.clip (labels_of 0)) in
      first-are no_labels (labels_in s) count n (omega (arith, f.few, labels-room))

-- ---- what a reading leaves

-- a sheet that is read fits
abbrev pub Fitting : Reading → Type 0
Fitting (Accepted s) = Fits s
Fitting (R.Refused reason line) = Unit {0}

pub read_fits : (b : List ℕ) (r : Reading) → read_sheet b ≡ r → Fitting r
read_fits b (Accepted s) e = (describes b s e).1
read_fits b (R.Refused reason line) e = tt

abbrev left_to : Stored.After → Work
left_to x = told_to x.answer x.ends x.labels

leaves-work : (r : Reading) → Fitting r → left_to (leave r no_ends no_labels) ≡ after_reading r
unfolding leave after_reading overlay_sheet told_to
leaves-work (Accepted s) f = rw (ends-are s f, labels-are s f)
leaves-work (R.Refused reason line) f = refl

leaves-few : (r : Reading) → Fitting r → told_count (leave r no_ends no_labels).answer ≤ most_edges
unfolding leave told_count
leaves-few (Accepted s) f = f.few
leaves-few (R.Refused reason line) f = omega arith

leaves-room : (r : Reading) → (length (leave r no_ends no_labels).ends ≡ most_edges) × (length (leave r no_ends no_labels).labels ≡ most_edges)
unfolding leave
leaves-room (Accepted s) = (length-sets no_ends 0 (ends_in s) ∙ ends-room, length-sets no_labels 0 (labels_in s) ∙ labels-room)
leaves-room (R.Refused reason line) = (ends-room, labels-room)

module _ (r : Reading) (f : Fitting r) (x : Result Counts Refusal) (es ls : List (List ℕ)) (left_is : Stored.left x es ls ≡ leave r no_ends no_labels) where
  few : told_count x ≤ most_edges
  few =
      let n : told_count x ≡ told_count (leave r no_ends no_labels).answer = ap (λ (y : Stored.After). told_count y.answer) left_is in
      omega (arith, n, leaves-few r f)

  -- its edges are within the arrays
  pub within : (told_count x ≤ length es) × (told_count x ≤ length ls)
  within =
      let room = leaves-room r in
      (omega (arith, few, ap (λ (y : Stored.After). length y.ends) left_is, room.0), omega (arith, few, ap (λ (y : Stored.After). length y.labels) left_is, room.1))

  -- the work on it is that of the reading
  pub works : told_to x es ls ≡ after_reading r
  works = ap left_to left_is ∙ leaves-work r f

-- ---- which answer it was

pub counted-within : (x : Result Counts Refusal) (l : Counts) (n m : ℕ) → x ≡ Ok l → (told_count x ≤ n) × (told_count x ≤ m) → (l.subject + l.clip ≤ n) × (l.subject + l.clip ≤ m)
unfolding told_count
counted-within x l n m e h = rw e at h

module _ (x : Result Counts Refusal) (es : List (List ℕ)) (ls : List (List ℕ)) (out : List ℕ) (w : Work) (works : told_to x es ls ≡ w) where
  pub told-refused : (q : Refusal) → x ≡ Err q → left (Err q) out ≡ put w out
  unfolding told_to put
  told-refused q e = ap (λ (y : Work). put y out) (rw e at works)

  pub told-read : (l : Counts) → x ≡ Ok l → (y : After) → y ≡ put (told_to (Ok l) es ls) out → y ≡ put w out
  told-read l e y g = g ∙ ap (λ (y : Work). put y out) (rw e at works)
