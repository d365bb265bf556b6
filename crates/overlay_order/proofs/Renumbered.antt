-- Connection of the renamed list, in the same order, of a pool under another numbering tells the same text, or is refused by the same number: keys
-- hold no record number, so the stable sort takes the renamed records in the same order, whatever their directions.
use mathlib.Core.Path.{◌≡◌, refl, sym, ap, ap₂, ◌∙◌, subst}
use Rattle.refusals.specs.Refusals.{Verdict}
use mathlib.Core.List.{List, map}
use Prim.Native.Nat.{ℕ}
use lib.ListN.{length}
use Rattle.refusals.specs.declared.Refusal.{Refusal}
use Rattle.numbers.specs.declared.Point.{Point}
use Rattle.events.specs.Coordinates.{Coordinates, same}
use Rattle.events.specs.Event.{Event}
use Rattle.events.specs.Binary64.{at_binary64}
use Rattle.events.specs.Pool.{Pool, size, row_at, stored}
use Rattle.order.specs.Order.{before}
use Rattle.checks.specs.Sound.{Sound}
use Rattle.contours.specs.Result.{in_result, results, earlier, ordered}
use Rattle.contours.specs.Table.{Row, row_of, table}
use Rattle.contours.specs.Table as T
use Rattle.contours.specs.Contours.{Contour, Answer, done, halted, trace}
use Rattle.contours.specs.Outline.{Outline, outlines}
use Rattle.contours.specs.Accept.{accept}
use Rattle.contours.specs.Connect.{Finished, connected, stopped, refused, finished, outcome_of, traced, after_checks, connect}
use Rattle.contours.specs.OnPool.{connect_pool}
use Rattle.contours.specs.Renaming.{Renumbered, RenumberedPool}
use Rattle.contours.proofs.Lists.{All, all_of, all-perm, keep-map, map-map}
use Rattle.contours.proofs.Sort.{sort-map}
use Rattle.contours.proofs.Accepted.{Accepted, accepted}
use Rattle.contours.proofs.Good.{sorted, sound-result}
use Rattle.contours.proofs.Renamed.{key-kept, result-kept, row_kept}
use Rattle.contours.proofs.Refusals.{SameNumber, both-pass, both-refuse, accept-same}
use Rattle.connection.specs.Connection.{Lent, room_of, written, told, after, connect_edges}
use Rattle.printing.specs.Arrays.{printed_arrays}
use Rattle.overlay_work.specs.Overlay.{Text, connected_to, after_connection}
use Rattle.overlay_order.specs.Lines.{SameWork, same_text, same_number}
use Rattle.overlay_order.proofs.Edges.{same-order}

-- ---- the table

module _ {P : Type 0} (C : Coordinates P) (ρ : ℕ → ℕ) (n : ℕ) (row row' : ℕ → Event P) (rn : Renumbered ρ n row row') (list : List ℕ) (void : P) (ok : Accepted C row n list) where
  abbrev Fits : ℕ → Type 0
  Fits r = Sound C row n r

  res-fit : All Fits (results row list)
  res-fit = all_of Fits (results row list) (sound-result C row n void list ok)

  earlier-kept : (a b : ℕ) → Fits a → Fits b → earlier row' C (ρ a) (ρ b) ≡ earlier row C a b
  unfolding earlier
  earlier-kept a b l m = ap₂ (before C) (key-kept C ρ n row row' rn a l) (key-kept C ρ n row row' rn b m)

  results-kept : results row' (map ρ list) ≡ map ρ (results row list)
  unfolding results
  results-kept = keep-map ρ Fits (in_result row) (in_result row') (result-kept C ρ n row row' rn) list (all_of Fits list ok.each)

  order-kept : ordered row' C (map ρ list) ≡ map ρ (ordered row C list)
  unfolding ordered
  order-kept = rw results-kept (sort-map (earlier row C) (earlier row' C) ρ Fits earlier-kept (results row list) res-fit)

  pub table_kept : table row' C (map ρ list) ≡ table row C list
  unfolding table
  table_kept =
      ap (λ (s : List ℕ). map (row_of row' s) s) order-kept
      ∙ map-map ρ Fits (row_of row' (map ρ (ordered row C list))) (row_of row (ordered row C list)) (λ r h. row_kept C ρ n row row' rn r h (ordered row C list)) (ordered row C list)
      (all-perm Fits (sorted C row void list) res-fit)

-- ---- the call

module _ (ρ : ℕ → ℕ) (p p' : Pool) (rn : RenumberedPool ρ p p') (list : List ℕ) (l : Lent) where
  abbrev text : List (Outline Point) → List ℕ
  text os = printed_arrays (written os l).corners (written os l).contours (written os l).holes (length os)

  text-alike : (f g : Finished Point Pool) → g.outlines ≡ f.outlines → SameWork (after_connection (after (connected f) p l)) (after_connection (after (connected g) p' l))
  unfolding after_connection connected_to after told
  text-alike f g e = subst (λ (os : List (Outline Point)). SameWork (Text (text f.outlines)) (Text (text os))) (sym e) same_text

  stopped_alike : (x y : Refusal) (f g : Finished Point Pool) → y.reason ≡ x.reason → SameWork (after_connection (after (stopped x f) p l)) (after_connection (after (stopped y g) p' l))
  unfolding after_connection connected_to after told
  stopped_alike x y f g e = same_number e

  refused_alike : (x y : Refusal) → y.reason ≡ x.reason → SameWork (after_connection (after (refused x) p l)) (after_connection (after (refused y) p' l))
  unfolding after_connection connected_to after told
  refused_alike x y e = same_number e

  module _ (ok : Accepted at_binary64 (row_at p) (size p) list) where
    tables : table (row_at p') at_binary64 (map ρ list) ≡ table (row_at p) at_binary64 list
    tables = table_kept at_binary64 ρ (size p) (row_at p) (row_at p') rn.records list (stored.blank 0).point ok

    traces : traced at_binary64 stored p' (map ρ list) ≡ traced at_binary64 stored p list
    unfolding traced stored
    traces = ap (λ (t : List (Row Point)). trace (same at_binary64) (length t) (T.row_at (stored.blank 0).point t)) tables

    same-outlines : (ms : List ℕ) (cs : List Contour) → (finished at_binary64 stored p' (map ρ list) ms cs).outlines ≡ (finished at_binary64 stored p list ms cs).outlines
    unfolding finished stored
    same-outlines ms cs = ap (λ (t : List (Row Point)). outlines (same at_binary64) (length t) (T.row_at (stored.blank 0).point t) cs) tables

    alike_of : (t : Answer) → SameWork (after_connection (after (outcome_of at_binary64 stored p list t) p l)) (after_connection (after (outcome_of at_binary64 stored p' (map ρ list) t) p' l))
    unfolding outcome_of
    alike_of (done ms cs) = text-alike (finished at_binary64 stored p list ms cs) (finished at_binary64 stored p' (map ρ list) ms cs) (same-outlines ms cs)
    alike_of (halted number i ms cs) = stopped_alike _ _ _ _ refl

  one_size : size p' ≡ size p
  unfolding size
  one_size = rw (rn.points, rn.marks)

  checks-alike : (a a' : Verdict) → accept at_binary64 (row_at p) (size p) (length p.points) (length p.marks) list (room_of l) ≡ a → SameNumber a a'
      → SameWork (after_connection (after (after_checks at_binary64 stored p list a) p l)) (after_connection (after (after_checks at_binary64 stored p' (map ρ list) a') p' l))
  unfolding after_checks
  checks-alike a a' e both-pass =
      let ok = (accepted at_binary64 (row_at p) (size p) list (length p.points) (length p.marks) (room_of l) e).0 in
      rw (traces ok) (alike_of ok (traced at_binary64 stored p list))
  checks-alike a a' e (both-refuse q) = refused_alike _ _ q

  pub connected_alike : SameWork (after_connection (connect_edges p list l)) (after_connection (connect_edges p' (map ρ list) l))
  unfolding connect_edges connect_pool connect stored
  connected_alike =
      checks-alike _ _ refl
      (rw (rn.points, rn.marks, one_size) (accept-same at_binary64 ρ (size p) (row_at p) (row_at p') rn.records list (map ρ list) (same-order (map ρ list)) (length p.points) (length p.marks) (room_of l)))
