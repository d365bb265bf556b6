-- How many places the arrays have at the start.
use mathlib.Core.Path.{◌≡◌}
use Prim.Native.Nat.{ℕ}
use lib.ListN.{length, replicate, length-replicate}
use Rattle.overlay_work.specs.Overlay.{no_points, no_marks, none_taken, no_contours, no_holes}

module _ (n : ℕ) where
  pub points-room : length (no_points n) ≡ n
  unfolding no_points
  points-room = length-replicate n (replicate 2 0)

  pub marks-room : length (no_marks n) ≡ n
  unfolding no_marks
  marks-room = length-replicate n (replicate {A = ℕ} 12 0)

  pub taken-room : length (none_taken n) ≡ n
  unfolding none_taken
  taken-room = length-replicate {A = ℕ} n 0

  pub contours-room : length (no_contours n) ≡ n
  unfolding no_contours
  contours-room = length-replicate n (replicate {A = ℕ} 6 0)

  pub holes_room : length (no_holes n) ≡ n
  unfolding no_holes
  holes_room = length-replicate {A = ℕ} n 0
