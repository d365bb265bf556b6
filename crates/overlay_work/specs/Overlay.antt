-- Overlay's work (01, 'The sheet'): the sheet is read, its edges loaded into a pool of 1,024 places and swept, what was taken is connected, and the
-- contours are printed. The first refusal met is handed on. Last of all the text must fit the lent bytes, else refusal 5 tells the bytes wanted.
-- Refused bytes stay as lent.
use Rattle.refusals.specs.Refusals.{same_reason}
use Rattle.refusals.specs.Refusals.{Verdict}
use Rattle.std.specs.Prelude.{Bool, false, cond, List, ◌++◌, map, ℕ, min, eqb, ltb, length, take, replicate, Err, Ok, Result}
use Rattle.refusals.specs.declared.Reason.TheVariants as Reason
use Rattle.std.proofs.lemmas.List.Edits.{sets}
use Rattle.refusals.specs.declared.Refusal.{Refusal}
use Rattle.events.specs.Pool.{Pool, pool}
use Rattle.class.specs.declared.Operation.{Operation}
use Rattle.checks.specs.Checks.{few_events}
use Rattle.sheet.specs.Sheet.{Sheet, most_edges}
use Rattle.sheet.specs.Reading.{Reading, read_sheet}
use Rattle.sheet.specs.Stored.{ends_of, labels_of}
use Rattle.loading.specs.OnPool.{load}
use Rattle.loading.specs.OnPool as Loads
use Rattle.crossing.specs.Modes.{ordered}
use Rattle.sweep.specs.OnPool.{subdivide_pool}
use Rattle.sweep.specs.OnPool as Sweeps
use Rattle.sweep_room.specs.Room.{first_places}
use Rattle.connection.specs.Connection.{Lent, lent, connect_edges}
use Rattle.connection.specs.Connection as Connects
use Rattle.printing.specs.Printing.{refusal_line}
use Rattle.printing.specs.Arrays.{printed_arrays}
use Rattle.printing.specs.Put.{most_places}

-- ---- the arrays at the start

abbrev pub pool_places : ℕ
pool_places = 1024

-- a result edge has two ends in the pool
abbrev pub contour_places : ℕ
contour_places = 512

-- of the smaller arrays for little work
abbrev pub few_places : ℕ
few_places = few_events

abbrev pub few_contours : ℕ
few_contours = 128

unfoldable pub no_ends : List (List ℕ)
no_ends = replicate most_edges (replicate 4 0)

unfoldable pub no_labels : List (List ℕ)
no_labels = replicate most_edges (replicate 2 0)

-- n places
unfoldable pub no_points : ℕ → List (List ℕ)
no_points n = replicate n (replicate 2 0)

unfoldable pub no_marks : ℕ → List (List ℕ)
no_marks n = replicate n (replicate 12 0)

unfoldable pub none_taken : ℕ → List ℕ
none_taken n = replicate n 0

abbrev pub empty_pool : ℕ → Pool
empty_pool n = pool (no_points n) (no_marks n)

unfoldable pub no_contours : ℕ → List (List ℕ)
no_contours n = replicate n (replicate 6 0)

unfoldable pub no_holes : ℕ → List ℕ
no_holes n = replicate n 0

abbrev pub empty_outlines : (corners contours : ℕ) → Lent
empty_outlines n k = lent (no_points n) (no_contours k) (no_holes k)

-- ---- the steps, from the last to the first

pub data Work : Type 0 where
  Text : List ℕ → Work
  Stopped : Refusal → Work

unfoldable pub connected_to : Verdict → ℕ → Lent → Work
connected_to (Ok _) n l = Text (printed_arrays l.corners l.contours l.holes n)
connected_to (Err r) n l = Stopped r

unfoldable pub after_connection : Connects.After → Work
after_connection x = connected_to x.answer.outcome x.answer.contours x.outlines

unfoldable pub overlay_taken : Pool → List ℕ → Work
overlay_taken p list = after_connection (connect_edges p list (empty_outlines pool_places contour_places))

unfoldable pub swept_to : Verdict → Pool → List ℕ → Work
swept_to (Ok _) p list = overlay_taken p list
swept_to (Err r) p list = Stopped r

-- the events taken, in the places that are in use
unfoldable pub after_sweep : Sweeps.After → Work
after_sweep x = swept_to x.answer.outcome (first_places x.answer.used x.pool) (take x.answer.taken x.taken)

unfoldable pub loaded_to : Operation → List ℕ → Result ℕ Refusal → Pool → Work
loaded_to o taken (Ok n) p = after_sweep (subdivide_pool o ordered p n taken)
loaded_to o taken (Err r) p = Stopped r

unfoldable pub after_loading : Operation → List ℕ → Loads.After → Work
after_loading o taken x = loaded_to o taken x.answer x.pool

-- in a pool of n places
unfoldable pub overlay_edges_in : ℕ → Operation → List (List ℕ) → List (List ℕ) → Work
overlay_edges_in n o ends labels = after_loading o (none_taken n) (load ends labels (empty_pool n))

unfoldable pub overlay_edges : Operation → List (List ℕ) → List (List ℕ) → Work
overlay_edges o ends labels = overlay_edges_in pool_places o ends labels

-- a sheet's edges in the form that loading takes, subject first
abbrev pub ends_in : Sheet → List (List ℕ)
ends_in s = map ends_of s.subject ++ map ends_of s.clip

abbrev pub labels_in : Sheet → List (List ℕ)
labels_in s = map (labels_of 1) s.subject ++ map (labels_of 0) s.clip

unfoldable pub overlay_sheet : Sheet → Work
overlay_sheet s = overlay_edges s.operation (ends_in s) (labels_in s)

unfoldable pub after_reading : Reading → Work
after_reading (Reading.Accepted s) = overlay_sheet s
after_reading (Reading.Refused reason line) = Stopped (record { reason = reason; place = line })

-- ---- the whole

unfoldable pub work : List ℕ → Work
work bytes = after_reading (read_sheet bytes)

-- the bytes of a text, at most the largest number that can be told
unfoldable pub wanted : List ℕ → ℕ
wanted text = min (length text) most_places

pub record After : Type 0 where
  pub answer : Result ℕ Refusal
  pub out : List ℕ

abbrev pub left : Result ℕ Refusal → List ℕ → After
left answer out = record { answer = answer; out = out }

unfoldable pub put : Work → List ℕ → After
put (Text t) out = cond (ltb (length out) (wanted t)) (left (Err (record { reason = Reason.Room; place = wanted t })) out) (left (Ok (wanted t)) (sets out 0 t))
put (Stopped r) out = left (Err r) out

-- refused by 6: the pool was full
unfoldable pub is_full : Result ℕ Refusal → Bool
is_full (Ok n) = false
is_full (Err r) = same_reason r.reason Reason.Full

unfoldable pub overlay : (bytes out : List ℕ) → After
overlay bytes out = put (work bytes) out

-- ---- what the program prints: the text, or the refusal's line

pub record Answer : Type 0 where
  pub bytes : ℕ
  pub out : List ℕ

abbrev pub answered : ℕ → List ℕ → Answer
answered n out = record { bytes = n; out = out }

unfoldable pub told : Result ℕ Refusal → List ℕ → Answer
told (Ok n) out = answered n out
told (Err r) out = answered (wanted (refusal_line r)) (sets out 0 (refusal_line r))

unfoldable pub answer : (bytes out : List ℕ) → Answer
answer bytes out = told (overlay bytes out).answer (overlay bytes out).out
