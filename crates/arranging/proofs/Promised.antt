-- What is promised of arranging.
use Rattle.refusals.specs.declared.Reason.{Reason}
use Rattle.std.proofs.Common.{Err}
use mathlib.Core.Path.{◌≡◌, refl, sym, ap, ◌∙◌}
use mathlib.Core.List.{List}
use Prim.Native.Nat.{ℕ}
use native.Mathlib.Omega.{arith}
use lib.ListN.{length}
use Rattle.refusals.specs.declared.Refusal.{Refusal}
use Rattle.sheet.specs.Sheet.{Sheet, written}
use Rattle.sheet.specs.Reading.{Reading, Accepted, Refused, read_sheet}
use Rattle.sheet.proofs.Sheets.{accepts, describes}
use Rattle.arranging.specs.Arranged.{arranged}
use Rattle.arranging.specs.Arrange.{After, left, leave, arrange, arranged_reading, Arranges}
use Rattle.arranging.specs.Drawing.{SameDrawing}
use Rattle.arranging.proofs.InOrder.{in-order-is}
use Rattle.arranging.proofs.Sheets.{arranged-fits, arranged-same, arranged-drawing, same-arranged, same_length}

-- what an arranged sheet reads as
reads-arranged : (b : List ℕ) (s : Sheet) → read_sheet b ≡ Accepted s → read_sheet (written (arranged s)) ≡ Accepted (arranged s)
reads-arranged b s e = accepts (arranged s) (arranged-fits s (describes b s e).1)

one_text : (b c : List ℕ) (s t : Sheet) → read_sheet b ≡ Accepted s → read_sheet c ≡ Accepted t → SameDrawing s t → arrange b ≡ arrange c
unfolding arrange leave
one_text b c s t e f d = rw (e, f, arranged-same s t (describes b s e).1 (describes c t f).1 d)

-- the two texts are read back
one_drawing : (b c : List ℕ) (s t : Sheet) → read_sheet b ≡ Accepted s → read_sheet c ≡ Accepted t → arrange b ≡ arrange c → SameDrawing s t
unfolding arrange leave
one_drawing b c s t e f q =
    let p : leave (Accepted s) b ≡ leave (Accepted t) c = rw (e, f) at q in
    let r : Accepted (arranged s) ≡ Accepted (arranged t) = sym (reads-arranged b s e) ∙ ap (λ (a : After). read_sheet a.bytes) p ∙ reads-arranged c t f in
    same-arranged s t cc

reads : (b : List ℕ) → read_sheet (arrange b).bytes ≡ arranged_reading (read_sheet b)
unfolding arrange leave arranged_reading
reads b = go (read_sheet b) refl
  where
    go : (r : Reading) → read_sheet b ≡ r → read_sheet (leave r b).bytes ≡ arranged_reading r
    go (Accepted s) e = reads-arranged b s e
    go (Refused reason line) e = e

twice : (b : List ℕ) → arrange (arrange b).bytes ≡ arrange b
unfolding arrange leave
twice b = go (read_sheet b) refl
  where
    go : (r : Reading) → read_sheet b ≡ r → arrange (leave r b).bytes ≡ leave r b
    go (Accepted s) e =
        let t = one_text b (written (arranged s)) s (arranged s) e (reads-arranged b s e) (arranged-drawing s) in rw e at (sym t)
    go (Refused reason line) e = rw e

-- in place: as many bytes
as_many : (b : List ℕ) → length (arrange b).bytes ≡ length b
unfolding arrange leave
as_many b = go (read_sheet b) refl
  where
    go : (r : Reading) → read_sheet b ≡ r → length (leave r b).bytes ≡ length b
    go (Accepted s) e = same_length s ∙ ap length (sym (describes b s e).0)
    go (Refused reason line) e = refl

refused : (b : List ℕ) (reason : Reason) (line : ℕ) → read_sheet b ≡ Refused reason line → arrange b ≡ left (Err (record { reason = reason; place = line })) b
unfolding arrange leave
refused b reason line e = rw e

only_so : (b : List ℕ) (r : Refusal) → (arrange b).answer ≡ Err r → read_sheet b ≡ Refused r.reason r.place
unfolding arrange leave
only_so b r e = go (read_sheet b) e
  where
    go : (x : Reading) → (leave x b).answer ≡ Err r → x ≡ Refused r.reason r.place
    go (Accepted s) f = let z : ◌≡◌ {A = ℕ} 0 1 = cc in absurd (omega arith)
    go (Refused reason line) f = let g : record { reason = reason; place = line } ≡ r = cc in rw (← g)

pub arranges : Arranges
arranges =
    record {
      one_text = one_text;
      one_drawing = one_drawing;
      reads = reads;
      as_many = as_many;
      drawing = arranged-drawing;
      edges = in-order-is;
      twice = twice;
      refused = refused;
      only_so = only_so;
    }
