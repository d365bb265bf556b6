-- What the code's answers mean: a place stands for the bytes from there on.
use Rattle.refusals.specs.declared.Reason.{Reason}
use Rattle.sheet.specs.declared.layers.Section.{Section}
use Rattle.refusals.specs.declared.Reason.TheVariants as Reason
use Rattle.sheet.specs.declared.layers.Miscount.{Miscount}
use Rattle.sheet.specs.declared.layers.Miscount.TheVariants as Miscount
use Rattle.std.specs.Prelude.{List, [], ◌≡◌, ℕ, length, drop, None, Some, Ok, Err, Option, Result}
use Rattle.numbers.specs.declared.Point.{Point}
use Rattle.class.specs.declared.Operation.{Operation}
use Rattle.sheet.specs.declared.edges.Edge.{Edge}
use Rattle.sheet.specs.declared.Counts.{Counts}
use Rattle.refusals.specs.declared.Refusal.{Refusal}
use Rattle.sheet.specs.Reading.{Parsed, Got, Wrong, Counted, Count, Many, Malformed, Layer, Whole, Broken, edges_of, Reading, Accepted, Refused}

abbrev pub shown_ring : List ℕ → Option (ℕ × ℕ) → Parsed ℕ
shown_ring b (Some (v, at)) = Got v (drop at b)
shown_ring b None = Wrong

-- a corner's length is known
abbrev pub shown_corner : List ℕ → Option Point → Parsed Point
shown_corner s (Some p) = Got p (drop 34 s)
shown_corner s None = Wrong

abbrev pub shown_edge : List ℕ → Option (Edge × ℕ) → Parsed Edge
shown_edge b (Some (e, at)) = Got e (drop at b)
shown_edge b None = Wrong

-- why a layer is refused whose count is wrong
abbrev pub reason_of : Miscount → Reason
reason_of Miscount.Many = Reason.Size
reason_of Miscount.Malformed = Reason.Malformed

abbrev pub shown_count : List ℕ → Result (ℕ × ℕ) Miscount → Counted
shown_count b (Ok (n, at)) = Count n (drop at b)
shown_count b (Err Miscount.Many) = Many
shown_count b (Err Miscount.Malformed) = Malformed

-- the edges read of a layer, also of one that breaks off
abbrev pub begun : Counted → List Edge
begun (Count n s) = (edges_of n s).list
begun Many = []
begun Malformed = []

-- a layer of which these edges were read
abbrev pub shown_layer : List Edge → List ℕ → Result Section Refusal → Layer
shown_layer l b (Ok x) = Whole l (drop x.after b)
shown_layer l b (Err r) = Broken r.reason r.place

-- a section's count is how many edges were read
abbrev pub CountedLayer : List Edge → Result Section Refusal → Type 0
CountedLayer l (Ok x) = x.count ≡ length l
CountedLayer l (Err r) = Unit {0}

abbrev pub shown_operation : List ℕ → Option (Operation × ℕ) → Parsed Operation
shown_operation b (Some (o, at)) = Got o (drop at b)
shown_operation b None = Wrong

-- the answer to a reading
abbrev pub told : Reading → Result Counts Refusal
told (Accepted s) = Ok (record { operation = s.operation; subject = length s.subject; clip = length s.clip })
told (Refused reason line) = Err (record { reason = reason; place = line })
