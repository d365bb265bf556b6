-- Loading of lent edges into a lent pool, at binary64. An edge's ends are four words, x y x y; its labels are its ring, and 1 for the subject.
use Rattle.std.specs.Prelude.{not, cond, ◌||◌, List, [], ◌∷◌, ℕ, ◌*◌, length, get_or, eqb, ltb, Err, Ok, Result}
use Rattle.refusals.specs.declared.Reason.TheVariants as Reason
use Rattle.refusals.specs.declared.Refusal.{Refusal}
use Rattle.refusals.specs.Refusals.{Verdict}
use Rattle.numbers.specs.declared.Point.{Point}
use Rattle.events.specs.Binary64.{at_binary64, as_loaded}
use Rattle.events.specs.Pool.{Pool, stored}
use Rattle.checks.specs.Checks.{and_then, missized, size_refusal}
use Rattle.loading.specs.declared.edge.Edge as D
use Rattle.loading.specs.Loading.{Edge, loaded, checked_edges}

-- ---- the lent edges

unfoldable pub end_of : List ℕ → ℕ → ℕ → Point
end_of ends i j = as_loaded (record { x = get_or ends i 0; y = get_or ends j 0 })

unfoldable pub edge_of : List ℕ → List ℕ → Edge Point
edge_of ends labels =
    record { subject = eqb (get_or labels 1 0) 1; ring = get_or labels 0 0; from = end_of ends 0 1; to = end_of ends 2 3 }

unfoldable pub edges_of : List (List ℕ) → List (List ℕ) → List (Edge Point)
edges_of [] labels = []
edges_of (e ∷ ends) [] = []
edges_of (e ∷ ends) (l ∷ labels) = edge_of e l ∷ edges_of ends labels

-- the edge at a place, and the code's struct of one
unfoldable pub edge_at : List (List ℕ) → List (List ℕ) → ℕ → Edge Point
edge_at ends labels i = edge_of (get_or ends i []) (get_or labels i [])

abbrev pub shown_edge : D.Edge → Edge Point
shown_edge e = record { subject = e.subject; ring = e.ring; from = e.from; to = e.to }

-- ---- refusal 1: the edges, at place 0, then the pool, at place 1

-- the most edges
abbrev pub max_edges : ℕ
max_edges = 2048

unfoldable pub edges_sized : (ends labels : ℕ) → Verdict
edges_sized ends labels = cond (not (eqb ends labels) || ltb max_edges ends) (Err (record { reason = Reason.Size; place = 0 })) (Ok tt)

-- two places for each edge
unfoldable pub pool_sized : (points marks edges : ℕ) → Verdict
pool_sized points marks edges = cond (missized points marks || ltb points (2 * edges)) (Err size_refusal) (Ok tt)

unfoldable pub accept : List (List ℕ) → List (List ℕ) → Pool → Verdict
accept ends labels p =
    and_then (edges_sized (length ends) (length labels))
    (and_then (pool_sized (length p.points) (length p.marks) (length ends)) (checked_edges at_binary64 0 (edges_of ends labels)))

-- ---- the answer, with the places in use, and the pool; a refused call leaves it as lent

pub record After : Type 0 where
  pub answer : Result ℕ Refusal
  pub pool : Pool

abbrev pub after : Result ℕ Refusal → Pool → After
after a p = record { answer = a; pool = p }

unfoldable pub after_checks : Verdict → List (Edge Point) → Pool → After
after_checks (Ok _) edges p = record { answer = Ok (2 * length edges); pool = loaded at_binary64 stored p 0 edges }
after_checks (Err r) edges p = record { answer = Err r; pool = p }

unfoldable pub load : List (List ℕ) → List (List ℕ) → Pool → After
load ends labels p = after_checks (accept ends labels p) (edges_of ends labels) p
