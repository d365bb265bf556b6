-- What `read_rows` told and left: the sheet's rows in the first places, or why there is none; and what is then arranged.
use Rattle.std.proofs.Common.{Err, Ok, Result}
use mathlib.Core.Path.{◌≡◌, refl, sym, ap, ◌∙◌}
use mathlib.Core.List.{List, map, append-nil}
use Prim.Native.Nat.{ℕ, ◌≤◌, ◌<◌}
use native.Mathlib.Omega.{arith}
use lib.ListN.{length, take, length-map, drop_of_length-le}
use lib.Seq.{sets, length-sets, length-take-le}
use Rattle.lists.proofs.Fronts.{sets-front, first-are}
use Rattle.refusals.specs.declared.Refusal.{Refusal}
use Rattle.class.specs.declared.Operation.{Operation}
use Rattle.sheet.specs.declared.Counts.{Counts}
use Rattle.refusals.specs.declared.Refusal.{Refusal}
use Rattle.sheet.specs.Sheet.{Sheet, written}
use Rattle.sheet.specs.Reading.{Reading, Accepted, read_sheet}
use Rattle.sheet.specs.Reading as R
use Rattle.sheet.specs.Stored.{row_of, left_rows, leave_rows, AfterRows}
use Rattle.sheet.specs.Stored as Stored
use Rattle.sheet.specs.Shown.{told}
use Rattle.sheet.proofs.Sheets.{describes}
use Rattle.sheet.proofs.Copies.{Was, was-refused, was}
use Rattle.arranging.specs.Arranged.{arranged}
use Rattle.arranging.specs.Arrange.{left, leave, arrange, arranged_reading}
use Rattle.arranging.specs.Steps.{sheet_in_order, stored_in_order}
use Rattle.arranging.proofs.Sheets.{same_length}
use Rattle.arranging.proofs.Chosen.{sheet-in-order, stored-in-order}

module _ (b : List ℕ) (x : Result Counts Refusal) (s s₀ k k₀ : List (List ℕ)) (h : left_rows x s k ≡ leave_rows (read_sheet b) s₀ k₀) where
  answered : (r : Reading) → (leave_rows r s₀ k₀).answer ≡ told r
  unfolding leave_rows
  answered (Accepted t) = refl
  answered (R.Refused reason line) = refl

  told_is : x ≡ told (read_sheet b)
  told_is = ap (λ (y : AfterRows). y.answer) h ∙ answered (read_sheet b)

  pub not-arranged : (q : Refusal) → x ≡ Err q → left (Err q) b ≡ arrange b
  unfolding arrange leave
  not-arranged q e = rw (was-refused b x told_is q e)

  pub not-read : (q : Refusal) → x ≡ Err q → (ends labels : List (List ℕ)) → Stored.left (Err q) ends labels ≡ Stored.leave (arranged_reading (read_sheet b)) ends labels
  unfolding arranged_reading Stored.leave
  not-read q e ends labels = rw (was-refused b x told_is q e)

  module _ (o : Operation) (a c : ℕ) (e : x ≡ Ok (record { operation = o; subject = a; clip = c })) (m : length s₀ ≡ 256) (n : length k₀ ≡ 256) where
    -- what was read
    it : Was b o a c
    it = was b x told_is o a c e

    abbrev t : Sheet
    t = it.sheet

    left_is : left_rows x s k ≡ leave_rows (Accepted t) s₀ k₀
    left_is = h ∙ ap (λ (r : Reading). leave_rows r s₀ k₀) it.accepted

    few : (a ≤ 256) × (c ≤ 256)
    few = (omega (arith, it.fits.few, it.subject), omega (arith, it.fits.few, it.clip))

    subject-in : s ≡ sets s₀ 0 (map row_of t.subject)
    unfolding leave_rows
    subject-in = ap (λ (y : AfterRows). y.subject) left_is

    clip-in : k ≡ sets k₀ 0 (map row_of t.clip)
    unfolding leave_rows
    clip-in = ap (λ (y : AfterRows). y.clip) left_is

    subject-is : take a s ≡ map row_of t.subject
    subject-is = ap (take a) subject-in ∙ first-are s₀ (map row_of t.subject) a (it.subject ∙ sym (length-map t.subject row_of)) (omega (arith, few.0, m))

    clip-is : take c k ≡ map row_of t.clip
    clip-is = ap (take c) clip-in ∙ first-are k₀ (map row_of t.clip) c (it.clip ∙ sym (length-map t.clip row_of)) (omega (arith, few.1, n))

    pub subject-within : a ≤ length s
    subject-within = omega (arith, few.0, ap length subject-in, length-sets s₀ 0 (map row_of t.subject), m)

    pub clip-within : c ≤ length k
    clip-within = omega (arith, few.1, ap length clip-in, length-sets k₀ 0 (map row_of t.clip), n)

    pub few-enough : (length (take a s) < 4294967296) × (length (take c k) < 4294967296)
    few-enough = (omega (arith, few.0, length-take-le a s subject-within), omega (arith, few.1, length-take-le c k clip-within))

    -- as many bytes as there were, so that none of them is left
    whole : sets b 0 (written (arranged t)) ≡ written (arranged t)
    whole =
        let n : length (written (arranged t)) ≡ length b = same_length t ∙ ap length (sym (describes b t it.accepted).0) in
        sets-front b (written (arranged t)) (omega arith) ∙ rw (drop_of_length-le b {i = length (written (arranged t))} (omega arith), append-nil)

    -- what is made of the rows is made of the sheet
    made : {B : Type 0} (make : Operation → List (List ℕ) → List (List ℕ) → B) → make o (take a s) (take c k) ≡ make t.operation (map row_of t.subject) (map row_of t.clip)
    made make =
        ap (λ (p : Operation). make p (take a s) (take c k)) it.operation
        ∙ ap (λ (l : List (List ℕ)). make t.operation l (take c k)) subject-is
        ∙ ap (make t.operation (map row_of t.subject)) clip-is

    pub is-arranged : (out : List ℕ) → out ≡ sets b 0 (written (sheet_in_order o (take a s) (take c k))) → left (Ok tt) out ≡ arrange b
    unfolding arrange leave
    is-arranged out g =
        let z : sheet_in_order o (take a s) (take c k) ≡ arranged t = made sheet_in_order ∙ sheet-in-order t.operation t.subject t.clip it.fits.subject it.fits.clip in
        let y : out ≡ written (arranged t) = g ∙ ap (λ (u : Sheet). sets b 0 (written u)) z ∙ whole in
        rw (it.accepted, y)

    pub is_read : (ends labels : List (List ℕ)) (y : Stored.After) → y ≡ stored_in_order o (take a s) (take c k) ends labels → y ≡ Stored.leave (arranged_reading (read_sheet b)) ends labels
    unfolding arranged_reading
    is_read ends labels y g =
        rw it.accepted (g ∙ made (λ p l m. stored_in_order p l m ends labels) ∙ stored-in-order t.operation t.subject t.clip it.fits.subject it.fits.clip ends labels)
