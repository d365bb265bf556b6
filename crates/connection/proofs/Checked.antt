-- The checks decide: refused at once, or as connection of a list that has passed them.
use Rattle.std.proofs.Common.{Err, Ok}
use Rattle.refusals.specs.Refusals.{Verdict}
use mathlib.Core.Path.{◌≡◌, sym, ap, ◌∙◌}
use mathlib.Core.List.{List, []}
use Prim.Native.Nat.{ℕ}
use lib.ListN.{length}
use Rattle.refusals.specs.declared.Refusal.{Refusal}
use Rattle.numbers.specs.declared.Point.{Point}
use Rattle.events.specs.Binary64.{at_binary64}
use Rattle.events.specs.Pool.{Pool, size, row_at, stored}
use Rattle.contours.specs.Connect.{after_checks}
use Rattle.contours.specs.Connect as C
use Rattle.contours.proofs.Accepted.{accepted}
use Rattle.acceptance.specs.OnPool.{room, accept_pool}
use Rattle.acceptance.proofs.Connecting.{checks-first}
use Rattle.connection.specs.declared.Connected.{Connected}
use Rattle.connection.specs.Connection.{Lent, lent, After, left, told, after, connect_edges}
use Rattle.connection.specs.Steps.{Small, connect_accepted}

-- what passing says of the sizes
pub passed-small : (p : Pool) (list : List ℕ) (corners contours holes : ℕ) (k : Verdict) → k ≡ accept_pool p list corners contours holes → k ≡ Ok tt → Small p list
unfolding accept_pool
passed-small p list corners contours holes k e f =
    let fits = (accepted at_binary64 (row_at p) (size p) list (length p.points) (length p.marks) (room corners contours holes) (sym e ∙ f)).1 in
    record { list_is = fits.short; pool_is = fits.sizes.few }

module _ (p : Pool) (list : List ℕ) (cs : List (List ℕ)) (ks : List (List ℕ)) (hs : List ℕ) where
  abbrev l : Lent
  l = lent cs ks hs

  abbrev checks : Verdict
  checks = accept_pool p list (length cs) (length ks) (length hs)

  abbrev decided : Verdict → After
  decided k = after (after_checks at_binary64 stored p list k) p l

  checks-decide : decided checks ≡ connect_edges p list l
  unfolding connect_edges room
  checks-decide = ap (λ (x : C.Outcome Point Pool). after x p l) (sym (checks-first p list (length cs) (length ks) (length hs)))

  module _ (k : Verdict) (e : k ≡ checks) where
    decides : (k' : Verdict) → k ≡ k' → decided k' ≡ connect_edges p list l
    decides k' f = ap decided (sym f ∙ e) ∙ checks-decide

    pub passed_is : k ≡ Ok tt → (x : After) → x ≡ connect_accepted p list l → x ≡ connect_edges p list l
    unfolding connect_accepted after_checks
    passed_is f x g = g ∙ decides (Ok tt) f

    pub refused-is : (r : Refusal) → k ≡ Err r → (x : Connected) → x ≡ told [] (Err r) → left x p l ≡ connect_edges p list l
    unfolding after_checks after
    refused-is r f x g = ap (λ (y : Connected). left y p l) g ∙ decides (Err r) f
