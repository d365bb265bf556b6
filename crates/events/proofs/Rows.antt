-- A pool whose arrays are equally long is a list of event records: a read is an element of it, a write sets one.
use Rattle.std.proofs.Common.{◌≡◌, ℕ, zero, suc, ◌<◌, List, [], ◌∷◌, length, get_or, set, refl, ap, arith, lt-ltb}
use Rattle.numbers.specs.declared.Point.{Point}
use Rattle.events.specs.Event.{Event}
use Rattle.events.specs.Pool.{Pool, event_of, point_of, marks_of, marks_over, row_at, enter, store}
use Rattle.events.proofs.Stored.{back, back-over}

zipped : List (List ℕ) → List (List ℕ) → List (Event Point)
zipped [] ms = []
zipped (q ∷ qs) [] = []
zipped (q ∷ qs) (m ∷ ms) = event_of q m ∷ zipped qs ms

pub rows : Pool → List (Event Point)
rows p = zipped p.points p.marks

-- whatever marks stand for the record
zipped-set : (qs : List (List ℕ)) (ms : List (List ℕ)) (i : ℕ) (e : Event Point) (x : List ℕ) → event_of (point_of e) x ≡ e → length ms ≡ length qs → zipped (set qs i (point_of e)) (set ms i x) ≡ set (zipped qs ms) i e
unfolding zipped
zipped-set [] ms i e x b h = refl
zipped-set (q ∷ qs) [] i e x b h = absurd (omega arith)
zipped-set (q ∷ qs) (m ∷ ms) zero e x b h = rw b
zipped-set (q ∷ qs) (m ∷ ms) (suc i) e x b h = ap (λ (l : List (Event Point)). event_of q m ∷ l) (zipped-set qs ms i e x b (omega arith))

zipped-at : (qs : List (List ℕ)) (ms : List (List ℕ)) (i : ℕ) (d : Event Point) → length ms ≡ length qs → i < length qs → get_or (zipped qs ms) i d ≡ event_of (get_or qs i []) (get_or ms i [])
unfolding zipped
zipped-at [] ms i d h k = absurd (omega arith)
zipped-at (q ∷ qs) [] i d h k = absurd (omega arith)
zipped-at (q ∷ qs) (m ∷ ms) zero d h k = refl
zipped-at (q ∷ qs) (m ∷ ms) (suc i) d h k = zipped-at qs ms i d (omega arith) (omega arith)

pub rows-enter : (p : Pool) (i : ℕ) (e : Event Point) → length p.marks ≡ length p.points → rows (enter p i e) ≡ set (rows p) i e
unfolding rows enter
rows-enter p i e h = zipped-set p.points p.marks i e (marks_of e) (back e) h

pub rows-store : (p : Pool) (i : ℕ) (e : Event Point) → length p.marks ≡ length p.points → rows (store p i e) ≡ set (rows p) i e
unfolding rows store
rows-store p i e h = zipped-set p.points p.marks i e (marks_over (get_or p.marks i []) e) (back-over (get_or p.marks i []) e) h

pub rows_at : (p : Pool) (i : ℕ) (d : Event Point) → length p.marks ≡ length p.points → i < length p.points → get_or (rows p) i d ≡ row_at p i
unfolding rows row_at
rows_at p i d h k = rw (lt-ltb i (length p.points) k, lt-ltb i (length p.marks) (omega arith)) (zipped-at p.points p.marks i d h k)
