-- The count of open contours is a count of what is told: of the contours whose first and last corners differ.
use mathlib.Core.Path.{◌≡◌, refl, ap}
use mathlib.Core.Bool.{Bool, true, false, not, cond}
use mathlib.Core.List.{List, [], ◌∷◌, map}
use Prim.Native.Nat.{ℕ, suc}
use lib.ListN.{length}
use Rattle.events.specs.Coordinates.{Coordinates, same}
use Rattle.events.specs.Store.{Store}
use Rattle.contours.specs.Result.{keep}
use Rattle.contours.specs.Table.{Row}
use Rattle.contours.specs.Contours.{Contour}
use Rattle.contours.specs.Outline.{Outline, closes, outline, outlines_from, outlines, open_count}
use Rattle.contours.specs.Accept.{Room}
use Rattle.contours.specs.Connect.{Finished, connected, connect, rows, rows_at}
use Rattle.contours.specs.Walls.{told_of, unclosed_among}
use Rattle.contours.proofs.Demand.{connected-is}

module _ {P : Type 0} (same : P → P → Bool) (n : ℕ) (row : ℕ → Row P) (all : List Contour) where
  counted : (l : List Contour) (c : ℕ) → open_count (outlines_from same n row all c l) ≡ unclosed_among same (map (λ o. o.corners) (outlines_from same n row all c l))
  unfolding open_count unclosed_among outlines_from outline keep
  counted [] c = refl
  counted (k ∷ l) c = go (outline same n row all c k).unclosed (outlines_from same n row all (suc c) l) (counted l (suc c))
    where
      go : (b : Bool) (os : List (Outline P)) → open_count os ≡ unclosed_among same (map (λ o. o.corners) os)
          → length (cond b (outline same n row all c k ∷ keep (λ o. o.unclosed) os) (keep (λ o. o.unclosed) os))
          ≡ length (cond b ((outline same n row all c k).corners ∷ keep (λ q. not (closes same q)) (map (λ o. o.corners) os)) (keep (λ q. not (closes same q)) (map (λ o. o.corners) os)))
      go true os h = ap suc h
      go false os h = h

pub unclosed-told : {P S : Type 0} (C : Coordinates P) (K : Store P S) (s : S) (points marks : ℕ) (list : List ℕ) (room : Room) (f : Finished P S)
    → connect C K s points marks list room ≡ connected f → (told_of f.outlines).unclosed ≡ unclosed_among (same C) (told_of f.outlines).corners
unfolding told_of outlines
unclosed-told C K s points marks list room f e =
    let t = connected-is C K s points marks list room f e in
    rw t.shown (counted (same C) (length (rows C K s list)) (rows_at C K s list) t.contours t.contours 0)
