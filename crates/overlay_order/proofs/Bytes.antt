-- From bytes to bytes: the edge lines of a sheet in another order within their sections are a sheet, and if all edges load and no taking met a tie, the
-- same bytes come out, or it is refused by the same number. (Edges that do not load may be refused by 2 in one order and by 3 in another.)
use mathlib.Core.Path.{◌≡◌, refl, sym, ap, ◌∙◌, subst}
use mathlib.Core.List.{List, Permᴰ}
use Prim.Native.Nat.{ℕ}
use native.Mathlib.Omega.{arith}
use Rattle.refusals.specs.declared.Refusal.{Refusal}
use Rattle.class.specs.declared.Operation.{Operation}
use Rattle.contours.proofs.Lists.{length-perm}
use Rattle.sheet.specs.declared.edges.Edge.{Edge}
use Rattle.sheet.specs.Sheet.{Sheet, EdgeFits, AllFit, Fits, written}
use Rattle.sheet.proofs.Sheets.{accepts}
use Rattle.overlay_work.specs.Overlay.{Work, Text, Stopped, ends_in, labels_in, overlay_edges, overlay_sheet, after_reading, work, put, overlay}
use Rattle.overlay_order.specs.Lines.{Permuted, SameWork, same_text, same_number, Untied}
use Rattle.overlay_order.proofs.Edges.{reordered}
use Rattle.overlay_order.proofs.Swept.{loaded-alike}

-- ---- the other order is a sheet

all_fit : {l m : List Edge} → Permᴰ l m → AllFit l → AllFit m
all_fit Permᴰ.nil f = tt
all_fit (Permᴰ.cons e p) f = (subst EdgeFits e f.0, all_fit p f.1)
all_fit (Permᴰ.swap e g) f = (subst EdgeFits g f.1.0, (subst EdgeFits e f.0, f.1.1))
all_fit (Permᴰ.trans p q) f = all_fit q (all_fit p f)

pub fits-too : (s s' : Sheet) → Permuted s s' → Fits s → Fits s'
fits-too s s' h f =
    record {
      subject = all_fit h.subject f.subject;
      clip = all_fit h.clip f.clip;
      few = omega (arith, f.few, length-perm h.subject, length-perm h.clip);
    }

-- ---- what comes out

sheet-work : (s : Sheet) → Fits s → work (written s) ≡ overlay_sheet s
unfolding work after_reading
sheet-work s f = ap after_reading (accepts s f)

module _ (s s' : Sheet) (h : Permuted s s') (f : Fits s) (u : Untied s) where
  sheets-alike : SameWork (overlay_sheet s) (overlay_sheet s')
  unfolding overlay_sheet
  sheets-alike =
      subst (λ (o : Operation). SameWork (overlay_edges s.operation (ends_in s) (labels_in s)) (overlay_edges o (ends_in s') (labels_in s'))) (sym h.operation)
      (loaded-alike s.operation (ends_in s) (labels_in s) (ends_in s') (labels_in s') (reordered s s' h) u.n u.loads u.untied)

  pub same-work : SameWork (work (written s)) (work (written s'))
  same-work = rw (sheet-work s f, sheet-work s' (fits-too s s' h f)) sheets-alike

  text-only : {v w : Work} → SameWork v w → (t : List ℕ) → v ≡ Text t → w ≡ v
  text-only same_text t e = refl
  text-only (same_number q) t e = absurd (let z : ◌≡◌ {A = ℕ} 0 1 = cc in omega arith)

  -- the same bytes, and the same answer where they are too few
  pub same_bytes : (t out : List ℕ) → work (written s) ≡ Text t → overlay (written s') out ≡ overlay (written s) out
  unfolding overlay
  same_bytes t out e = ap (λ (w : Work). put w out) (text-only same-work t e)

  number-only : {v w : Work} → SameWork v w → (x : Refusal) → v ≡ Stopped x → (y : Refusal) × (w ≡ Stopped y) × (y.reason ≡ x.reason)
  number-only same_text x e = absurd (let z : ◌≡◌ {A = ℕ} 0 1 = cc in omega arith)
  number-only (same_number {x = a} {y = b} q) x e = let z : a ≡ x = cc in (b, refl, q ∙ ap (λ (r : Refusal). r.reason) z)

  -- refused by the same number
  pub same-refusal : (x : Refusal) → work (written s) ≡ Stopped x → (y : Refusal) × (work (written s') ≡ Stopped y) × (y.reason ≡ x.reason)
  same-refusal x e = number-only same-work x e
