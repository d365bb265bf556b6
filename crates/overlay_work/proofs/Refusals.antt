-- By which numbers a step is refused: reading by 10 or 1, loading by 1, 2 or 3, the sweep by 1, 2, 4, 6 or 7, connection on its way by 9. None is 5.
use mathlib.Core.Path.{ap}
use Rattle.refusals.specs.Refusals.{number}
use Rattle.refusals.proofs.Numbers.{reason-ne}
use Rattle.std.proofs.Common.{Err, Ok}
use Rattle.refusals.specs.declared.Reason.TheVariants as Reason
use Rattle.refusals.specs.Refusals.{Verdict}
use mathlib.Core.Path.{◌≡◌}
use mathlib.Core.Logic.{◌≢◌, inl, inr}
use mathlib.Core.Bool.{Bool, true, false, not, cond, ◌||◌}
use mathlib.Core.List.{List, [], ◌∷◌}
use Prim.Native.Nat.{ℕ, zero, suc, ◌+◌, ◌-◌, ◌*◌}
use native.Mathlib.Omega.{arith}
use lib.Dec.{eqb, ltb}
use lib.ListN.{length}
use Rattle.refusals.specs.declared.Refusal.{Refusal}
use Rattle.numbers.specs.declared.Point.{Point}
use Rattle.events.specs.Coordinates.{same}
use Rattle.events.specs.Binary64.{at_binary64}
use Rattle.events.specs.Pool.{Pool}
use Rattle.class.specs.declared.Operation.{Operation}
use Rattle.checks.specs.Checks.{missized, and_then}
use Rattle.sheet.specs.declared.edges.Edge as Read
use Rattle.sheet.specs.Sheet.{subject_word, clip_word, most_edges}
use Rattle.sheet.specs.Reading.{Parsed, Got, Wrong, operation_of, Counted, Count, Many, Malformed, count_of, edges_of, Layer, Whole, Broken, whole_by, layer_by, layer_of, Reading, Accepted, Refused, after_clip, after_subject, after_operation, read_sheet}
use Rattle.loading.specs.Loading.{Edge, checked_edge, checked_edges}
use Rattle.loading.specs.OnPool.{max_edges, edges_sized, pool_sized, load}
use Rattle.loading.specs.OnPool as Loads
use Rattle.crossing.specs.Modes as Modes
use Rattle.sweep.specs.OnPool.{subdivide_pool}
use Rattle.sweep.proofs.Refusals.{Known, told-by}
use Rattle.contours.specs.Accept.{Room}
use Rattle.contours.specs.Connect.{Finished, stopped}
use Rattle.contours.specs.OnPool.{connect_pool}
use Rattle.contours.proofs.AtBinary64.{stopped-nine}

-- ---- reading

abbrev LayerBy : Layer → Type 0
LayerBy (Whole l s) = Unit {0}
LayerBy (Broken reason line) = reason ≢ Reason.Room

abbrev pub ReadBy : Reading → Type 0
ReadBy (Accepted s) = Unit {0}
ReadBy (Refused reason line) = reason ≢ Reason.Room

whole_by_lem : (line : ℕ) (l : List Read.Edge) (n : ℕ) (s : List ℕ) → LayerBy (whole_by line l n s)
unfolding whole_by
whole_by_lem line l zero s = tt
whole_by_lem line l (suc n) s = reason-ne (omega arith)

layer-by : (word : List ℕ) (most line : ℕ) (s : List ℕ) → LayerBy (layer_of word most line s)
unfolding layer_of layer_by
layer-by word most line s = go (count_of word most s)
  where
    go : (x : Counted) → LayerBy (layer_by line x)
    go (Count n t) = whole_by_lem (line + 1) (edges_of n t).list (edges_of n t).missing (edges_of n t).rest
    go Many = reason-ne (omega arith)
    go Malformed = reason-ne (omega arith)

clip-by : (o : Operation) (l : List Read.Edge) (x : Layer) → LayerBy x → ReadBy (after_clip o l x)
unfolding after_clip
clip-by o l (Whole m []) h = tt
clip-by o l (Whole m (b ∷ s)) h = reason-ne (omega arith)
clip-by o l (Broken reason line) h = h

subject-by : (o : Operation) (x : Layer) → LayerBy x → ReadBy (after_subject o x)
unfolding after_subject
subject-by o (Whole l s) h = clip-by o l _ (layer-by clip_word (most_edges - length l) (3 + length l) s)
subject-by o (Broken reason line) h = h

pub read_by : (b : List ℕ) → ReadBy (read_sheet b)
unfolding read_sheet after_operation
read_by b = go (operation_of b)
  where
    go : (x : Parsed Operation) → ReadBy (after_operation x)
    go (Got o s) = subject-by o _ (layer-by subject_word most_edges 2 s)
    go Wrong = reason-ne (omega arith)

-- ---- loading

abbrev pub CheckBy : Verdict → Type 0
CheckBy (Ok _) = Unit {0}
CheckBy (Err r) = r.reason ≢ Reason.Room

struck-by : (b : Bool) (r : Refusal) (x : Verdict) → r.reason ≢ Reason.Room → CheckBy x → CheckBy (cond b (Err r) x)
struck-by true r x h k = h
struck-by false r x h k = k

both_by : (a b : Verdict) → CheckBy a → CheckBy b → CheckBy (and_then a b)
unfolding and_then
both_by (Ok _) b h k = k
both_by (Err r) b h k = h

edge_by : (i : ℕ) (e : Edge Point) → CheckBy (checked_edge at_binary64 i e)
unfolding checked_edge
edge_by i e =
    struck-by (not (at_binary64.fit e.from) || not (at_binary64.fit e.to)) _ _ (reason-ne (omega arith)) (struck-by (same at_binary64 e.from e.to) _ (Ok tt) (reason-ne (omega arith)) tt)

edges_by : (i : ℕ) (l : List (Edge Point)) → CheckBy (checked_edges at_binary64 i l)
unfolding checked_edges
edges_by i [] = tt
edges_by i (e ∷ l) = both_by (checked_edge at_binary64 i e) _ (edge_by i e) (edges_by (suc i) l)

accept-by : (ends : List (List ℕ)) (labels : List (List ℕ)) (p : Pool) → CheckBy (Loads.accept ends labels p)
unfolding Loads.accept edges_sized pool_sized
accept-by ends labels p =
    both_by _ _ (struck-by (not (eqb (length ends) (length labels)) || ltb max_edges (length ends)) _ (Ok tt) (reason-ne (omega arith)) tt)
    (both_by _ _ (struck-by (missized (length p.points) (length p.marks) || ltb (length p.points) (2 * length ends)) _ (Ok tt) (reason-ne (omega arith)) tt) (edges_by 0 _))

pub load-by : (ends : List (List ℕ)) (labels : List (List ℕ)) (p : Pool) (r : Refusal) → (load ends labels p).answer ≡ Err r → r.reason ≢ Reason.Room
unfolding load Loads.after_checks
load-by ends labels p r = go (Loads.accept ends labels p) (accept-by ends labels p)
  where
    go : (x : Verdict) → CheckBy x → (Loads.after_checks x (Loads.edges_of ends labels) p).answer ≡ Err r → r.reason ≢ Reason.Room
    go (Ok _) h e = let z : ◌≡◌ {A = ℕ} 0 1 = cc in absurd (omega arith)
    go (Err q) h e = let z : q ≡ r = cc in rw z at h

-- ---- the sweep

known_by : (r : Refusal) → Known r → r.reason ≢ Reason.Room
known_by r (inl (inl e)) = reason-ne (omega (arith, ap number e))
known_by r (inl (inr (inl e))) = reason-ne (omega (arith, ap number e))
known_by r (inl (inr (inr e))) = reason-ne (omega (arith, ap number e))
known_by r (inr (inl e)) = reason-ne (omega (arith, ap number e))
known_by r (inr (inr e)) = reason-ne (omega (arith, ap number e))

pub sweep-by : (o : Operation) (p : Pool) (n : ℕ) (lent : List ℕ) (r : Refusal) → (subdivide_pool o Modes.ordered p n lent).answer.outcome ≡ Err r → r.reason ≢ Reason.Room
sweep-by o p n lent r e = known_by r (told-by o Modes.ordered p n lent r e)

-- ---- connection, once its checks have passed

pub stopped_by : (p : Pool) (list : List ℕ) (room : Room) (r : Refusal) (f : Finished Point Pool) → connect_pool p list room ≡ stopped r f → r.reason ≢ Reason.Room
stopped_by p list room r f e = reason-ne (omega (arith, ap number (stopped-nine p list room r f e)))
