-- A queue with one more member, or with one less, is the queue of one more waiting event, or of one less.
use mathlib.Core.Path.{◌≡◌, refl, sym, ap, ◌∙◌}
use mathlib.Core.Bool.{Bool, true, false, not, ◌&&◌, ◌||◌, and-true, and-false, or-true, or-false}
use mathlib.Core.List.{List}
use Prim.Native.Nat.{ℕ, ◌<◌, ◌≤◌}
use native.Mathlib.Omega.{arith}
use lib.Dec.{eqb, ltb}
use lib.ListN.{length}
use borrow.Author.Tests.{ltb-true, lt-ltb, eqb-true, eqb-false}
use Rattle.lists.specs.Lists.{insert_at}
use Rattle.lists.proofs.Members.{length-insert}
use Rattle.waiting.specs.Queue.{has, Queued, place, put, without}
use Rattle.waiting.proofs.Leading.{Orders, self}
use Rattle.waiting.proofs.Withouts.{without_other, without_gone, without-ordered}
use Rattle.waiting.proofs.Places.{has-insert, place-ordered}
use Rattle.waiting.proofs.Queues.{is_below_lem, few}

-- the same waiting events below n
pub queued-alike : {waits waits' : ℕ → Bool} {before : ℕ → ℕ → Bool} {n : ℕ} {l : List ℕ}
    → ((r : ℕ) → r < n → waits r ≡ waits' r) → Queued waits before n l → Queued waits' before n l
queued-alike {waits} {waits'} {before} {n} {l} same Q = record { members = λ r. Q.members r ∙ go r (ltb r n) refl; ordered = Q.ordered }
  where
    go : (r : ℕ) (t : Bool) → ltb r n ≡ t → (t && waits r) ≡ (t && waits' r)
    go r true e = same r (ltb-true r n e)
    go r false e = refl

module _ {waits : ℕ → Bool} {before : ℕ → ℕ → Bool} {n : ℕ} {l : List ℕ} (O : Orders before n) (Q : Queued waits before n l) where
  module _ (x : ℕ) (x_below : x < n) (new : waits x ≡ false) where
    absent : has l x ≡ false
    absent = Q.members x ∙ rw new (and-false (ltb x n))

    inserted : Queued (λ r. waits r || eqb x r) before n (insert_at l (place before l x) x)
    inserted = record { members = there; ordered = place-ordered before O l x Q.ordered (is_below_lem Q) x_below absent }
      where
        there : (r : ℕ) → has (insert_at l (place before l x) x) r ≡ (ltb r n && (waits r || eqb x r))
        there r = has-insert l (place before l x) x r ∙ ap (λ (t : Bool). t || eqb x r) (Q.members r) ∙ go (eqb x r) refl
          where
            go : (t : Bool) → eqb x r ≡ t → ((ltb r n && waits r) || t) ≡ (ltb r n && (waits r || t))
            go true e =
                let i : x ≡ r = eqb-true x r e in
                rw (← i, lt-ltb x n x_below) (or-true (waits x) ∙ sym (or-true (waits x)))
            go false e = or-false (ltb r n && waits r) ∙ ap (λ (t : Bool). ltb r n && t) (sym (or-false (waits r)))

    pub put_is : (room : ℕ) → n ≤ room → Queued (λ r. waits r || eqb x r) before n (put before room l x)
    unfolding put
    put_is room h =
        let k = few inserted O in
        let longer = length-insert l (place before l x) x in
        let fits : length l < room = omega arith in
        rw (lt-ltb (length l) room fits) inserted

  pub without_is : (o : ℕ) → Queued (λ r. waits r && not (eqb o r)) before n (without l o)
  without_is o = record { members = there; ordered = without-ordered before l o Q.ordered }
    where
      there : (r : ℕ) → has (without l o) r ≡ (ltb r n && (waits r && not (eqb o r)))
      there r = go (eqb o r) refl
        where
          go : (t : Bool) → eqb o r ≡ t → has (without l o) r ≡ (ltb r n && (waits r && not t))
          go true e =
              let i : o ≡ r = eqb-true o r e in
              let off : has (without l o) o ≡ false = without_gone before l o Q.ordered (λ h. self before O o (is_below_lem Q o h)) in
              rw (← i, and-false (waits o), and-false (ltb o n)) off
          go false e = without_other l o r (λ i. eqb-false o r e (sym i)) ∙ Q.members r ∙ ap (λ (t : Bool). ltb r n && t) (sym (and-true (waits r)))
