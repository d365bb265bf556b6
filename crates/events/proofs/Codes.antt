-- Every flag, link, edge type and transition is read back from its numbers.
use Rattle.std.proofs.Common.{◌≡◌, ℕ, Bool, true, false, List, [], ◌∷◌, refl, None, Option, Some}
use Rattle.events.specs.declared.EdgeType.{EdgeType}
use Rattle.events.specs.declared.EdgeType.TheVariants.{Normal, NonContributing, SameTransition, DifferentTransition}
use Rattle.events.specs.declared.ResultTransition.{ResultTransition}
use Rattle.events.specs.declared.ResultTransition.TheVariants.{None as NoTransition, InOut, OutIn}
use Rattle.events.specs.Pool.{flag_of, flag_number, link_of, there_number, link_number, edge_type_of, edge_type_number, transition_of, transition_number}

pub flag : (b : Bool) → flag_of (flag_number b) ≡ b
unfolding flag_number
flag true = refl
flag false = refl

pub link : (l : Option ℕ) → link_of (there_number l) (link_number l) ≡ l
unfolding link_of there_number link_number
link None = refl
link (Some n) = refl

pub edge_type : (t : EdgeType) → edge_type_of (edge_type_number t) ≡ t
unfolding edge_type_of edge_type_number
edge_type Normal = refl
edge_type NonContributing = refl
edge_type SameTransition = refl
edge_type DifferentTransition = refl

pub transition : (t : ResultTransition) → transition_of (transition_number t) ≡ t
unfolding transition_of transition_number
transition NoTransition = refl
transition InOut = refl
transition OutIn = refl

-- a row of marks is one where each of its numbers is, ring and partner being written as they stand
pub marks-alike : {left subject there below type transition in_out other_in_out numbered contour left' subject' there' below' type' transition' in-out' other-in-out' numbered' contour' ring partner : ℕ}
    → left ≡ left'
    → subject ≡ subject'
    → there ≡ there'
    → below ≡ below'
    → type ≡ type'
    → transition ≡ transition'
    → in_out ≡ in-out'
    → other_in_out ≡ other-in-out'
    → numbered ≡ numbered'
    → contour ≡ contour'
    → ◌≡◌ {A = List ℕ} (left ∷ subject ∷ ring ∷ partner ∷ there ∷ below ∷ type ∷ transition ∷ in_out ∷ other_in_out ∷ numbered ∷ contour ∷ [])
    (left' ∷ subject' ∷ ring ∷ partner ∷ there' ∷ below' ∷ type' ∷ transition' ∷ in-out' ∷ other-in-out' ∷ numbered' ∷ contour' ∷ [])
marks-alike l s t b y r i o n k = rw (l, s, t, b, y, r, i, o, n, k)
