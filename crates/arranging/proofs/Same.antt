-- To be one drawing is an equivalence: what is the same as one thing is the same, from numbers up to sheets.
use mathlib.Core.Path.{refl, sym, ap, ◌∙◌}
use mathlib.Core.List.Permᴰ
use mathlib.Core.List.{List, [], ◌∷◌, Permᴰ}
use Rattle.numbers.specs.declared.Point.{Point}
use Rattle.sheet.specs.declared.edges.Edge.{Edge}
use Rattle.sheet.specs.Sheet.{Sheet}
use Rattle.arranging.specs.Arranged.{symmetric}
use Rattle.arranging.specs.Drawing.{SameCorner, SameEdge, one_way, other_way, SameEdges, SameLayer, SameDrawing, as_called, called_otherwise}

-- ---- corners and edges

corners : (p q r : Point) → SameCorner p r → SameCorner q r → SameCorner p q
corners p q r h k = record { x = h.x ∙ sym k.x; y = h.y ∙ sym k.y }

edge : (e f g : Edge) → SameEdge e g → SameEdge f g → SameEdge e f
edge e f g (one_way r p q) (one_way s t u) =
    one_way (r ∙ sym s) (corners e.from f.from g.from p t) (corners e.to f.to g.to q u)
edge e f g (one_way r p q) (other_way s t u) =
    other_way (r ∙ sym s) (corners e.from f.to g.from p u) (corners e.to f.from g.to q t)
edge e f g (other_way r p q) (one_way s t u) =
    other_way (r ∙ sym s) (corners e.from f.to g.to p u) (corners e.to f.from g.from q t)
edge e f g (other_way r p q) (other_way s t u) =
    one_way (r ∙ sym s) (corners e.from f.from g.to p t) (corners e.to f.to g.from q u)

itself : (e : Edge) → SameEdge e e
itself e = one_way refl (record { x = refl; y = refl }) (record { x = refl; y = refl })

-- ---- lists

edges : (l m n : List Edge) → SameEdges l n → SameEdges m n → SameEdges l m
edges [] [] n h k = tt
edges [] (f ∷ m) [] h k = absurd k
edges [] (f ∷ m) (g ∷ n) h k = absurd h
edges (e ∷ l) [] [] h k = absurd h
edges (e ∷ l) [] (g ∷ n) h k = absurd k
edges (e ∷ l) (f ∷ m) [] h k = absurd h
edges (e ∷ l) (f ∷ m) (g ∷ n) h k = (edge e f g h.0 k.0, edges l m n h.1 k.1)

all-itself : (l : List Edge) → SameEdges l l
all-itself [] = tt
all-itself (e ∷ l) = (itself e, all-itself l)

-- edges follow those that they are the same as into every order
follow : {l m : List Edge} → Permᴰ l m → (k : List Edge) → SameEdges k l → (n : List Edge) × Permᴰ k n × SameEdges n m
follow Permᴰ.nil k h = (k, Permᴰ.refl k, h)
follow (Permᴰ.cons q p) [] h = absurd h
follow (Permᴰ.cons q p) (x ∷ k) h =
    let r = follow p k h.1 in (x ∷ r.0, Permᴰ.cons refl r.1, (rw q at h.0, r.2))
follow (Permᴰ.swap q r) [] h = absurd h
follow (Permᴰ.swap q r) (x ∷ []) h = absurd h.1
follow (Permᴰ.swap q r) (x ∷ y ∷ k) h =
    (y ∷ x ∷ k, Permᴰ.swap refl refl, (rw r at h.1.0, (rw q at h.0, h.1.1)))
follow (Permᴰ.trans p q) k h =
    let r = follow p k h in
    let s = follow q r.0 r.2 in (s.0, Permᴰ.trans r.1 s.1, s.2)

-- ---- layers and sheets

layer : (l m n : List Edge) → SameLayer l n → SameLayer m n → SameLayer l m
layer l m n h k =
    let r = follow (Permᴰ.symm k.reordered) h.listed (edges h.listed k.listed n h.told k.told) in
    record { listed = r.0; reordered = Permᴰ.trans h.reordered r.1; told = r.2 }

layer-itself : (l : List Edge) → SameLayer l l
layer-itself l = record { listed = l; reordered = Permᴰ.refl l; told = all-itself l }

pub drawing-meets : (s t u : Sheet) → SameDrawing s u → SameDrawing t u → SameDrawing s t
drawing-meets s t u (as_called e p q) (as_called f v w) =
    as_called (e ∙ sym f) (layer s.subject t.subject u.subject p v) (layer s.clip t.clip u.clip q w)
drawing-meets s t u (as_called e p q) (called_otherwise f i v w) =
    called_otherwise (e ∙ sym f) (ap symmetric (e ∙ sym f) ∙ i) (layer s.subject t.clip u.subject p w) (layer s.clip t.subject u.clip q v)
drawing-meets s t u (called_otherwise e h p q) (as_called f v w) =
    called_otherwise (e ∙ sym f) h (layer s.subject t.clip u.clip p w) (layer s.clip t.subject u.subject q v)
drawing-meets s t u (called_otherwise e h p q) (called_otherwise f i v w) =
    as_called (e ∙ sym f) (layer s.subject t.subject u.clip p v) (layer s.clip t.clip u.subject q w)

pub drawing-itself : (s : Sheet) → SameDrawing s s
drawing-itself s = as_called refl (layer-itself s.subject) (layer-itself s.clip)

pub drawing-back : (s t : Sheet) → SameDrawing s t → SameDrawing t s
drawing-back s t h = drawing-meets t s t (drawing-itself t) h

pub drawing-on : (s t u : Sheet) → SameDrawing s t → SameDrawing t u → SameDrawing s u
drawing-on s t u h k = drawing-meets s u t h (drawing-back t u k)
