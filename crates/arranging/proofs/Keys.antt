-- What an edge is put in order by tells the edge, and so with layers.
use mathlib.Core.Path.{◌≡◌, refl, sym, ap, ◌∙◌}
use mathlib.Core.List.{List, [], ◌∷◌, cons≢nil}
use Rattle.numbers.specs.declared.Point.{Point}
use Rattle.sheet.specs.declared.edges.Edge.{Edge}
use Rattle.sheet.specs.Sheet.{CornerFits, EdgeFits, AllFit}
use Rattle.sheet.specs.Stored.{row_of, edge_of_row}
use Rattle.sheet.proofs.Stored.{edge-of-row}
use Rattle.arranging.specs.Order.{corner_key, edge_key, layer_key}
use Rattle.arranging.specs.Steps.{row_of_key}
use Rattle.sorting.specs.Rows.{joined}
use Rattle.arranging.proofs.Ranks.{word_back, rank-injective}

-- ---- corners and edges

pub corner-told : (p q : Point) → CornerFits p → CornerFits q → corner_key p ≡ corner_key q → p ≡ q
unfolding corner_key
corner-told p q h k e = rw (rank-injective p.x q.x h.x k.x cc, rank-injective p.y q.y h.y k.y cc)

-- the row of an edge, from what it is put in order by
pub row_back : (e : Edge) → EdgeFits e → row_of_key (edge_key e) ≡ row_of e
unfolding row_of_key edge_key corner_key row_of
row_back e h = rw (word_back e.from.x h.from.x, word_back e.from.y h.from.y, word_back e.to.x h.to.x, word_back e.to.y h.to.y)

pub edge-told : (e f : Edge) → EdgeFits e → EdgeFits f → edge_key e ≡ edge_key f → e ≡ f
edge-told e f h k q =
    sym (edge-of-row e) ∙ ap edge_of_row (sym (row_back e h) ∙ ap row_of_key q ∙ row_back f k) ∙ edge-of-row f

-- ---- layers

-- five numbers of the first edge, and those of the others
layer-parts : (e f : Edge) (l m : List Edge) → layer_key (e ∷ l) ≡ layer_key (f ∷ m) → (edge_key e ≡ edge_key f) × (layer_key l ≡ layer_key m)
unfolding layer_key joined edge_key corner_key
layer-parts e f l m q = (cc, cc)

pub layer-told : (l m : List Edge) → AllFit l → AllFit m → layer_key l ≡ layer_key m → l ≡ m
unfolding layer_key joined edge_key corner_key
layer-told [] [] h k q = refl
layer-told [] (f ∷ m) h k q = absurd (cons≢nil (sym q))
layer-told (e ∷ l) [] h k q = absurd (cons≢nil q)
layer-told (e ∷ l) (f ∷ m) h k q =
    let p = layer-parts e f l m q in rw (edge-told e f h.0 k.0 p.0, layer-told l m h.1 k.1 p.1)
