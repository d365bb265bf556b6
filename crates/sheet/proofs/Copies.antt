-- What the lent arrays hold in the end: a refused sheet changes nothing, and the rows of an accepted one are copied, or stored in another form.
use Rattle.std.proofs.Common.{Ok, Err, Result}
use mathlib.Core.Path.{◌≡◌, refl, sym, ap, ◌∙◌}
use mathlib.Core.List.{List, [], ◌∷◌, ◌++◌, map}
use Prim.Native.Nat.{ℕ, suc, ◌+◌, ◌-◌, ◌≤◌, min}
use native.Mathlib.Omega.{arith}
use lib.ListN.{length, set, take, drop, length-map, length-append}
use Rattle.std.proofs.lemmas.List.{take_min, drop_min}
use lib.Seq.{sets, take-take, take-add, take_at, drop_at}
use Rattle.class.specs.declared.Operation.{Operation}
use Rattle.refusals.specs.declared.Refusal.{Refusal}
use Rattle.lists.proofs.Fronts.{first-are}
use Rattle.sheet.specs.declared.edges.Edge.{Edge}
use Rattle.sheet.specs.declared.Counts.{Counts}
use Rattle.refusals.specs.declared.Refusal.{Refusal}
use Rattle.sheet.specs.Sheet.{Sheet, Fits}
use Rattle.sheet.specs.Reading.{Reading, Accepted, Refused, read_sheet}
use Rattle.sheet.specs.Shown.{told}
use Rattle.sheet.specs.Stored.{row_of, rows_in, left_rows, leave_rows, ends_of, labels_of, ends_of_row, labels_of_row, left, leave}
use Rattle.sheet.proofs.Puts.{put_both}
use Rattle.sheet.proofs.Sheets.{describes}
use Rattle.sheet.proofs.Stored.{ends-of-rows, labels-of-rows}

-- ---- rows copied to the first places, as far as there are any

module _ {A : Type 0} where
  sets-none : (i : ℕ) (l : List A) → sets [] i l ≡ []
  sets-none i [] = refl
  sets-none i (v ∷ l) = sets-none (suc i) l

  sets-behind : (a : A) (b : List A) (i : ℕ) (l : List A) → sets (a ∷ b) (suc i) l ≡ a ∷ sets b i l
  sets-behind a b i [] = refl
  sets-behind a b i (v ∷ l) = sets-behind a (set b i v) (suc i) l

  copied-front : (b l : List A) → take (length b) l ++ drop (length l) b ≡ sets b 0 l
  copied-front [] [] = refl
  copied-front [] (v ∷ l) = sym (sets-none 1 l)
  copied-front (a ∷ b) [] = refl
  copied-front (a ∷ b) (v ∷ l) = rw (sets-behind v b 0 l) (ap (λ (m : List A). v ∷ m) (copied-front b l))

  pub copied : (b l c : List A) (n : ℕ) → n ≡ min (length b) (length l) → c ≡ take n l → c ++ drop n b ≡ sets b 0 l
  copied b l c n e f =
      let m : min (length b) (length l) ≡ min (length l) (length b) = omega arith in
      rw (f, ap (λ (k : ℕ). drop k b) (e ∙ m), drop_min, ap (λ (k : ℕ). take k l) e, take_min) (copied-front b l)

-- ---- the answer decides

-- a sheet that was accepted, and how many edges each layer has
pub record Was (b : List ℕ) (o : Operation) (n m : ℕ) : Type 0 where
  pub sheet : Sheet
  pub accepted : read_sheet b ≡ Accepted sheet
  pub operation : o ≡ sheet.operation
  pub subject : n ≡ length sheet.subject
  pub clip : m ≡ length sheet.clip
  pub fits : Fits sheet

module _ (b : List ℕ) (x : Result Counts Refusal) (h : x ≡ told (read_sheet b)) where
  pub was-refused : (q : Refusal) → x ≡ Err q → read_sheet b ≡ Refused q.reason q.place
  was-refused q e = go (read_sheet b) (sym e ∙ h)
    where
      go : (r : Reading) → Err q ≡ told r → r ≡ Refused q.reason q.place
      go (Accepted s) f = let z : ◌≡◌ {A = ℕ} 0 1 = cc in absurd (omega arith)
      go (Refused reason line) f =
          let g : q ≡ record { reason = reason; place = line } = cc in rw g

  pub rows-refused : (q : Refusal) → x ≡ Err q → (subject clip : List (List ℕ)) → left_rows (Err q) subject clip ≡ leave_rows (read_sheet b) subject clip
  unfolding leave_rows
  rows-refused q e subject clip = rw (was-refused q e)

  pub left-refused : (q : Refusal) → x ≡ Err q → (ends labels : List (List ℕ)) → left (Err q) ends labels ≡ leave (read_sheet b) ends labels
  unfolding leave
  left-refused q e ends labels = rw (was-refused q e)

  module _ (o : Operation) (n m : ℕ) (e : x ≡ Ok (record { operation = o; subject = n; clip = m })) where
    pub was : Was b o n m
    was = go (read_sheet b) refl (sym e ∙ h)
      where
        go : (r : Reading) → read_sheet b ≡ r → Ok (record { operation = o; subject = n; clip = m }) ≡ told r → Was b o n m
        go (Accepted s) k f =
            let g : record { operation = o; subject = n; clip = m } ≡ record { operation = s.operation; subject = length s.subject; clip = length s.clip } = cc in
            record {
              sheet = s;
              accepted = k;
              operation = ap (λ (x : Counts). x.operation) g;
              subject = ap (λ (x : Counts). x.subject) g;
              clip = ap (λ (x : Counts). x.clip) g;
              fits = (describes b s k).1;
            }
        go (Refused reason line) k f = let z : ◌≡◌ {A = ℕ} 0 1 = cc in absurd (omega arith)

    pub read-within : (none own : ℕ) → none ≡ 256 → own ≡ none → n + m ≤ own
    read-within none own len kept = omega (arith, was.fits.few, was.subject, was.clip)

    pub subject-within : (none own : ℕ) → none ≡ 256 → own ≡ none → n ≤ own
    subject-within none own len kept = omega (arith, read-within none own len kept)

    -- what was read stands in the first places of the rows of reading's own
    module _ (none own : List (List ℕ)) (len : length none ≡ 256) (ho : (s : Sheet) → read_sheet b ≡ Accepted s → own ≡ sets none 0 (rows_in s)) where
      both_read : take (n + m) own ≡ rows_in was.sheet
      both_read =
          let l : n + m ≡ length (rows_in was.sheet) = simp (length-append, length-map) (omega (arith, was.subject, was.clip)) in
          ap (take (n + m)) (ho was.sheet was.accepted) ∙ first-are none (rows_in was.sheet) (n + m) l (read-within _ _ len refl)

      subject-read : take n own ≡ map row_of was.sheet.subject
      subject-read =
          sym (take-take n (n + m) own (omega arith))
          ∙ ap (take n) both_read
          ∙ take_at (map row_of was.sheet.subject) (map row_of was.sheet.clip) n (length-map was.sheet.subject row_of ∙ sym was.subject)

      clip-read : take (n + m - n) (drop n own) ≡ map row_of was.sheet.clip
      clip-read =
          let less : n + m - n ≡ m = omega arith in
          let long : length (map row_of was.sheet.subject) ≡ n = length-map was.sheet.subject row_of ∙ sym was.subject in
          rw less (
          sym (drop_at (take n own) (take m (drop n own)) n (ap length subject-read ∙ long))
          ∙ ap (drop n) (sym (take-add n m own) ∙ both_read)
          ∙ drop_at (map row_of was.sheet.subject) (map row_of was.sheet.clip) n long
          )

      pub rows-read : (subject subject' clip clip' : List (List ℕ)) → subject' ≡ sets subject 0 (take n own) → clip' ≡ sets clip 0 (take (n + m - n) (drop n own)) → left_rows (Ok (record { operation = o; subject = n; clip = m })) subject' clip' ≡ leave_rows (read_sheet b) subject clip
      unfolding leave_rows
      rows-read subject subject' clip clip' g k = rw (was.accepted, g, k, subject-read, clip-read, ← was.operation, ← was.subject, ← was.clip)

      -- each layer's rows stored in another form
      stored : {A : Type 0} (f g : List ℕ → A) (u v : Edge → A) (lent some all : List A) → map f (map row_of was.sheet.subject) ≡ map u was.sheet.subject → map g (map row_of was.sheet.clip) ≡ map v was.sheet.clip → some ≡ sets lent 0 (map f (take n own)) → all ≡ sets some n (map g (take (n + m - n) (drop n own))) → all ≡ sets lent 0 (map u was.sheet.subject ++ map v was.sheet.clip)
      stored f g u v lent some all p q c d = put_both u v lent some all was.sheet.subject was.sheet.clip n was.subject (rw (subject-read, p) at c) (rw (clip-read, q) at d)

      module _ (ends ends1 ends2 labels labels1 labels2 : List (List ℕ)) where
        pub sheet-read : ends1 ≡ sets ends 0 (map ends_of_row (take n own)) → ends2 ≡ sets ends1 n (map ends_of_row (take (n + m - n) (drop n own))) → labels1 ≡ sets labels 0 (map (labels_of_row 1) (take n own)) → labels2 ≡ sets labels1 n (map (labels_of_row 0) (take (n + m - n) (drop n own))) → left (Ok (record { operation = o; subject = n; clip = m })) ends2 labels2 ≡ leave (read_sheet b) ends labels
        unfolding leave
        sheet-read ea eb la lb =
            let s = was.sheet in
            let e : ends2 ≡ sets ends 0 (map ends_of s.subject ++ map ends_of s.clip) = stored ends_of_row ends_of_row ends_of ends_of ends ends1 ends2 (ends-of-rows s.subject) (ends-of-rows s.clip) ea eb in
            let l : labels2 ≡ sets labels 0 (map (labels_of 1) s.subject ++ map (labels_of 0) s.clip) = stored (labels_of_row 1) (labels_of_row 0) (labels_of 1) (labels_of 0) labels labels1 labels2 (labels-of-rows 1 s.subject was.fits.subject) (labels-of-rows 0 s.clip was.fits.clip) la lb in
            rw (was.accepted, e, l, ← was.operation, ← was.subject, ← was.clip)
