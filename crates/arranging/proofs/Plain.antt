-- An edge told plainly: edges that are the same are told alike, and what is told is the same edge in as many bytes.
use mathlib.Core.Path.{◌≡◌, refl, sym, ap, ◌∙◌}
use mathlib.Core.Bool.{Bool, true, false, cond, true≢false}
use Prim.Native.Nat.{ℕ, ◌+◌}
use native.Mathlib.Omega.{arith}
use lib.ListN.{length, length-append}
use Rattle.numbers.specs.declared.Point.{Point}
use Rattle.events.specs.Binary64.{as_loaded}
use Rattle.text.specs.Digits.{decimal}
use Rattle.sheet.specs.declared.edges.Edge.{Edge}
use Rattle.sheet.specs.Sheet.{CornerFits, EdgeFits, corner_bytes, edge_line}
use Rattle.sheet.proofs.Lengths.{number-long}
use Rattle.sorting.specs.Rows.{at_most}
use Rattle.sorting.proofs.Order.{total, antisymmetric}
use Rattle.arranging.specs.Order.{corner_key}
use Rattle.arranging.specs.Arranged.{edge, from_earlier, plain}
use Rattle.arranging.specs.Drawing.{SameCorner, SameEdge, one_way, other_way}
use Rattle.arranging.proofs.Ranks.{unsigned_small, unsigned-twice}
use Rattle.arranging.proofs.Keys.{corner-told}

-- ---- corners

pub loaded-fits : (p : Point) → CornerFits p → CornerFits (as_loaded p)
unfolding as_loaded
loaded-fits p h = record { x = unsigned_small p.x h.x; y = unsigned_small p.y h.y }

corner-alike : (p q : Point) → SameCorner p q → as_loaded p ≡ as_loaded q
unfolding as_loaded
corner-alike p q h = rw (h.x, h.y)

corner-same : (p : Point) → SameCorner p (as_loaded p)
unfolding as_loaded
corner-same p = record { x = sym (unsigned-twice p.x); y = sym (unsigned-twice p.y) }

-- ---- edges

-- what holds both ways round
round : (P : Edge → Type 0) (ring : ℕ) (p q : Point) → P (edge ring p q) → P (edge ring q p) → P (from_earlier ring p q)
unfolding from_earlier
round P ring p q h k = go (at_most (corner_key p) (corner_key q))
  where
    go : (b : Bool) → P (cond b (edge ring p q) (edge ring q p))
    go true = h
    go false = k

pub plain_fits : (e : Edge) → EdgeFits e → EdgeFits (plain e)
unfolding plain
plain_fits e h =
    let p = loaded-fits e.from h.from in
    let q = loaded-fits e.to h.to in
    round EdgeFits e.ring (as_loaded e.from) (as_loaded e.to) (record { ring = h.ring; from = p; to = q }) (record { ring = h.ring; from = q; to = p })

pub edge_same : (e : Edge) → SameEdge e (plain e)
unfolding plain
edge_same e =
    let p = corner-same e.from in
    let q = corner-same e.to in
    round (SameEdge e) e.ring (as_loaded e.from) (as_loaded e.to) (one_way refl p q) (other_way refl p q)

-- from the earlier end, whichever was told first
either_first : (ring : ℕ) (p q : Point) → CornerFits p → CornerFits q → from_earlier ring p q ≡ from_earlier ring q p
unfolding from_earlier
either_first ring p q h k = go (at_most (corner_key p) (corner_key q)) (at_most (corner_key q) (corner_key p)) refl refl
  where
    go : (a b : Bool) → at_most (corner_key p) (corner_key q) ≡ a → at_most (corner_key q) (corner_key p) ≡ b → cond a (edge ring p q) (edge ring q p) ≡ cond b (edge ring q p) (edge ring p q)
    go true true c d = rw (corner-told p q h k (antisymmetric (corner_key p) (corner_key q) c d))
    go true false c d = refl
    go false true c d = refl
    go false false c d = absurd (true≢false (sym (total (corner_key p) (corner_key q) c) ∙ d))

pub edge-alike : (e f : Edge) → EdgeFits e → EdgeFits f → SameEdge e f → plain e ≡ plain f
unfolding plain
edge-alike e f h k (one_way r p q) = rw (r, corner-alike e.from f.from p, corner-alike e.to f.to q)
edge-alike e f h k (other_way r p q) =
    let turn = either_first f.ring (as_loaded f.to) (as_loaded f.from) (loaded-fits f.to k.to) (loaded-fits f.from k.from) in
    rw (r, corner-alike e.from f.to p, corner-alike e.to f.from q) turn

-- ---- its line

edge-long : (e : Edge) → length (edge_line e) ≡ length (decimal e.ring) + 69
unfolding edge_line corner_bytes
edge-long e =
    simp length-append (omega (arith, number-long e.from.x, number-long e.from.y, number-long e.to.x, number-long e.to.y))

plain-ring : (e : Edge) → (plain e).ring ≡ e.ring
unfolding plain
plain-ring e = round (λ x. x.ring ≡ e.ring) e.ring (as_loaded e.from) (as_loaded e.to) refl refl

pub plain-long : (e : Edge) → length (edge_line (plain e)) ≡ length (edge_line e)
plain-long e = edge-long (plain e) ∙ ap (λ (r : ℕ). length (decimal r) + 69) (plain-ring e) ∙ sym (edge-long e)
