-- What a write leaves of the lent arrays: every other record, and of one that is there already each mark that says what it said.
use Rattle.std.proofs.Common.{◌≡◌, ℕ, zero, suc, ◌<◌, false, ◌≢◌, List, [], ◌∷◌, length, get_or, sym, refl, ap, ◌∙◌, subst, arith, get_or-set_other, get_or-set_same, lt-ltb}
use Rattle.numbers.specs.declared.Point.{Point}
use Rattle.events.specs.Event.{Event}
use Rattle.events.specs.Pool.{Pool, size, flag_of, flag_number, edge_type_of, edge_type_number, transition_of, transition_number, event_of, point_of, marks_of, marks_over, row_at, enter, store, stored}
use Rattle.events.specs.Lent.{mark_at, coordinate_at, among, AsLentBut}
use Rattle.events.proofs.Over.{over-lent, there-lent, link-lent}

-- ---- the twelve marks

four : (A : ℕ → Type 0) → A 0 → A 1 → A 2 → A 3 → ((k : ℕ) → A (suc (suc (suc (suc k))))) → (k : ℕ) → A k
four A a b c d more zero = a
four A a b c d more (suc zero) = b
four A a b c d more (suc (suc zero)) = c
four A a b c d more (suc (suc (suc zero))) = d
four A a b c d more (suc (suc (suc (suc k)))) = more k

-- what holds of each holds of all
pub twelve : (A : ℕ → Type 0) → A 0 → A 1 → A 2 → A 3 → A 4 → A 5 → A 6 → A 7 → A 8 → A 9 → A 10 → A 11 → (k : ℕ) → k < 12 → A k
twelve A a b c d e f g h i j m n =
    four (λ k. k < 12 → A k) (λ _. a) (λ _. b) (λ _. c) (λ _. d)
    (four (λ k. suc (suc (suc (suc k))) < 12 → A (suc (suc (suc (suc k))))) (λ _. e) (λ _. f) (λ _. g) (λ _. h)
    (four (λ k. suc (suc (suc (suc (suc (suc (suc (suc k))))))) < 12 → A (suc (suc (suc (suc (suc (suc (suc (suc k))))))))) (λ _. i) (λ _. j) (λ _. m) (λ _. n) (λ k l. absurd (omega arith))))

-- mark k says the same of both; the two marks of a link say one thing
pub data Agree {P : Type 0} (a b : Event P) : ℕ → Type 0 where
  left : a.left ≡ b.left → Agree a b 0
  subject : a.subject ≡ b.subject → Agree a b 1
  ring : a.ring ≡ b.ring → Agree a b 2
  partner : a.partner ≡ b.partner → Agree a b 3
  there : a.below ≡ b.below → Agree a b 4
  below : a.below ≡ b.below → Agree a b 5
  edge_type : a.edge_type ≡ b.edge_type → Agree a b 6
  transition : a.transition ≡ b.transition → Agree a b 7
  in_out : a.in_out ≡ b.in_out → Agree a b 8
  other_in_out : a.other_in_out ≡ b.other_in_out → Agree a b 9
  numbered : a.contour ≡ b.contour → Agree a b 10
  contour : a.contour ≡ b.contour → Agree a b 11

pub over-kept : (q : List ℕ) (m : List ℕ) (e : Event Point) (k : ℕ) → Agree (event_of q m) e k → get_or (marks_over m e) k 0 ≡ get_or m k 0
unfolding event_of marks_over
over-kept q m e k (left h) = over-lent flag_of flag_number (get_or m 0 0) e.left h
over-kept q m e k (subject h) = over-lent flag_of flag_number (get_or m 1 0) e.subject h
over-kept q m e k (ring h) = sym h
over-kept q m e k (partner h) = sym h
over-kept q m e k (there h) = there-lent (get_or m 4 0) (get_or m 5 0) e.below h
over-kept q m e k (below h) = link-lent (get_or m 4 0) (get_or m 5 0) e.below h
over-kept q m e k (edge_type h) = over-lent edge_type_of edge_type_number (get_or m 6 0) e.edge_type h
over-kept q m e k (transition h) = over-lent transition_of transition_number (get_or m 7 0) e.transition h
over-kept q m e k (in_out h) = over-lent flag_of flag_number (get_or m 8 0) e.in_out h
over-kept q m e k (other_in_out h) = over-lent flag_of flag_number (get_or m 9 0) e.other_in_out h
over-kept q m e k (numbered h) = there-lent (get_or m 10 0) (get_or m 11 0) e.contour h
over-kept q m e k (contour h) = link-lent (get_or m 10 0) (get_or m 11 0) e.contour h

pair-kept : (c : Point) (q : List ℕ) → record { x = get_or q 0 0; y = get_or q 1 0 } ≡ c → (k : ℕ) → k < 2 → get_or (c.x ∷ c.y ∷ []) k 0 ≡ get_or q k 0
pair-kept c q h zero l = ap (λ (d : Point). d.x) (sym h)
pair-kept c q h (suc zero) l = ap (λ (d : Point). d.y) (sym h)
pair-kept c q h (suc (suc k)) l = absurd (omega arith)

-- the record that both rows are read as
read_at : (p : Pool) (i : ℕ) → i < size p → row_at p i ≡ event_of (get_or p.points i []) (get_or p.marks i [])
unfolding row_at size
read_at p i h = rw (lt-ltb i (length p.points) (omega arith), lt-ltb i (length p.marks) (omega arith))

-- ---- a record stored over f, which is read there, and agreeing with it in all but these marks

mark-here : (p : Pool) (i : ℕ) (f e : Event Point) (k : ℕ) → i < size p → event_of (get_or p.points i []) (get_or p.marks i []) ≡ f → Agree f e k → mark_at (store p i e) i k ≡ mark_at p i k
unfolding size store
mark-here p i f e k h read a =
    rw (get_or-set_same p.marks i (marks_over (get_or p.marks i []) e) [] (omega arith))
    (over-kept (get_or p.points i []) (get_or p.marks i []) e k (subst (λ (g : Event Point). Agree g e k) (sym read) a))

coordinate-here : (p : Pool) (i : ℕ) (e : Event Point) (k : ℕ) → i < size p → (event_of (get_or p.points i []) (get_or p.marks i [])).point ≡ e.point → k < 2
    → coordinate_at (store p i e) i k ≡ coordinate_at p i k
unfolding size store event_of point_of
coordinate-here p i e k h read l = rw (get_or-set_same p.points i (point_of e) [] (omega arith)) (pair-kept e.point (get_or p.points i []) read k l)

pub lent-here : (p : Pool) (i : ℕ) (ks : List ℕ) (f e : Event Point) → i < stored.size p → stored.row_at p i ≡ f → f.point ≡ e.point
    → ((k : ℕ) → k < 12 → among k ks ≡ false → Agree f e k) → AsLentBut ks p (stored.store p i e) i
unfolding stored
lent-here p i ks f e h r c a =
    let read = sym (read_at p i h) ∙ r in
    record { marks = λ k l n. mark-here p i f e k h read (a k l n); point = λ k l. coordinate-here p i e k h (ap (λ (d : Event Point). d.point) read ∙ c) l }

-- ---- every other record

module _ (p : Pool) (i j : ℕ) (e : Event Point) (d : j ≢ i) where
  pub points-away : get_or (stored.store p i e).points j [] ≡ get_or p.points j []
  unfolding stored store
  points-away = get_or-set_other p.points i j (point_of e) [] d

  pub marks-away : get_or (stored.store p i e).marks j [] ≡ get_or p.marks j []
  unfolding stored store
  marks-away = get_or-set_other p.marks i j (marks_over (get_or p.marks i []) e) [] d

  pub points-away-enter : get_or (stored.enter p i e).points j [] ≡ get_or p.points j []
  unfolding stored enter
  points-away-enter = get_or-set_other p.points i j (point_of e) [] d

  pub marks-away-enter : get_or (stored.enter p i e).marks j [] ≡ get_or p.marks j []
  unfolding stored enter
  marks-away-enter = get_or-set_other p.marks i j (marks_of e) [] d

-- both rows as lent
whole-rows : (p q : Pool) (r : ℕ) → get_or q.points r [] ≡ get_or p.points r [] → get_or q.marks r [] ≡ get_or p.marks r [] → AsLentBut [] p q r
whole-rows p q r a b = record { marks = λ k l n. ap (λ (m : List ℕ). get_or m k 0) b; point = λ k l. ap (λ (m : List ℕ). get_or m k 0) a }

module _ (p : Pool) (i j : ℕ) (e : Event Point) (d : j ≢ i) where
  pub lent-away : AsLentBut [] p (stored.store p i e) j
  lent-away = whole-rows p (stored.store p i e) j (points-away p i j e d) (marks-away p i j e d)

  pub lent-away-enter : AsLentBut [] p (stored.enter p i e) j
  lent-away-enter = whole-rows p (stored.enter p i e) j (points-away-enter p i j e d) (marks-away-enter p i j e d)

-- ---- one after the other

pub lent_same : (ks : List ℕ) (p : Pool) (r : ℕ) → AsLentBut ks p p r
lent_same ks p r = record { marks = λ k l n. refl; point = λ k l. refl }

module _ {p q s : Pool} {r : ℕ} {ks : List ℕ} where
  -- none more and then these, these and then none more
  pub lent-then : AsLentBut [] p q r → AsLentBut ks q s r → AsLentBut ks p s r
  lent-then a b = record { marks = λ k l n. b.marks k l n ∙ a.marks k l refl; point = λ k l. b.point k l ∙ a.point k l }

  pub then-lent : AsLentBut ks p q r → AsLentBut [] q s r → AsLentBut ks p s r
  then-lent a b = record { marks = λ k l n. b.marks k l refl ∙ a.marks k l n; point = λ k l. b.point k l ∙ a.point k l }
