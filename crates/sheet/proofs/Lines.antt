-- The answers of the code that reads within one line, each by what was found before it.
use Rattle.std.proofs.Common.{None, Option, Some}
use mathlib.Core.Path.{◌≡◌, sym, ap, ◌∙◌}
use mathlib.Core.Bool.{true, false}
use mathlib.Core.List.{List, [], ◌∷◌}
use Prim.Native.Nat.{ℕ, ◌+◌, ◌≤◌, ◌<◌, min}
use native.Mathlib.Omega.{arith}
use borrow.Author.Tests.{lt-ltb, le-ltb, eq-eqb, ne_eqb}
use lib.ListN.{length, drop, drop_of_length-le, length-drop}
use lib.Seq.{drop-drop}
use Rattle.numbers.specs.declared.Point.{Point}
use Rattle.class.specs.declared.Operation.TheVariants.{Intersection, Difference, Union, Xor}
use Rattle.text.specs.Quoted.{quoted}
use Rattle.text.specs.Words.{begins}
use Rattle.text.specs.Digits.{hex_at, decimal_at}
use Rattle.sheet.specs.Sheet.{operation_line, operation_word}
use Rattle.sheet.specs.Reading.{Got, Wrong, and_then, got, ended, numeral, ring_by, ring_from, ring_of, number_of, corner_of, edge_of, Count, Many, Malformed, over, count_with, count_by, count_from, count_of, line_of, operation_of}
use Rattle.sheet.specs.Shown.{shown_ring, shown_corner}
use Rattle.sheet.proofs.Places.{further, decimal-front, hex-front}

-- ---- the operation

module _ (s : List ℕ) (p : ℕ) where
  pub intersection-line : begins (operation_line Intersection) s ≡ true → p ≡ min 23 (length s) → Got Intersection (drop p s) ≡ operation_of s
  unfolding operation_of line_of operation_line operation_word quoted
  intersection-line h e = rw (h, e) (ap (Got Intersection) (further s 0 23))

  module _ (i : begins (operation_line Intersection) s ≡ false) where
    pub union-line : begins (operation_line Union) s ≡ true → p ≡ min 16 (length s) → Got Union (drop p s) ≡ operation_of s
    unfolding operation_of line_of operation_line operation_word quoted
    union-line h e = rw (i, h, e) (ap (Got Union) (further s 0 16))

    module _ (u : begins (operation_line Union) s ≡ false) where
      pub difference-line : begins (operation_line Difference) s ≡ true → p ≡ min 21 (length s) → Got Difference (drop p s) ≡ operation_of s
      unfolding operation_of line_of operation_line operation_word quoted
      difference-line h e = rw (i, u, h, e) (ap (Got Difference) (further s 0 21))

      module _ (d : begins (operation_line Difference) s ≡ false) where
        pub xor-line : begins (operation_line Xor) s ≡ true → p ≡ min 14 (length s) → Got Xor (drop p s) ≡ operation_of s
        unfolding operation_of line_of operation_line operation_word quoted
        xor-line h e = rw (i, u, d, h, e) (ap (Got Xor) (further s 0 14))

        pub no-operation : begins (operation_line Xor) s ≡ false → Wrong ≡ operation_of s
        unfolding operation_of line_of
        no-operation h = rw (i, u, d, h)

-- ---- a ring

module _ (b : List ℕ) (at n : ℕ) (h : n ≡ numeral (drop at b)) where
  pub ring-none : n ≡ 0 → Wrong ≡ ring_of (drop at b)
  unfolding ring_of ring_from
  ring-none e = rw (← h, eq-eqb n 0 e)

  module _ (z : n ≡ 0 → ⊥) (r : Option ℕ) (g : r ≡ decimal_at b at n) where
    begun : ring_by r (drop n (drop at b)) ≡ ring_of (drop at b)
    unfolding ring_of ring_from
    begun = rw (← h, ne_eqb n 0 z, g, decimal-front b at n)

    pub ring_long : r ≡ None → Wrong ≡ ring_of (drop at b)
    unfolding ring_by
    ring_long e = rw e at begun

    pub ring-above : (v : ℕ) → r ≡ Some v → 4294967295 < v → Wrong ≡ ring_of (drop at b)
    unfolding ring_by
    ring-above v e l = rw (e, le-ltb v 4294967296 (omega arith)) at begun

    pub ring-read : (v p : ℕ) → r ≡ Some v → v ≤ 4294967295 → p ≡ min (at + n) (length b) → Got v (drop p b) ≡ ring_of (drop at b)
    unfolding ring_by
    ring-read v p e l q = rw (q, further b at n) (rw (e, lt-ltb v 4294967296 (omega arith)) at begun)

-- ---- a number after a space, and a corner

module _ (b : List ℕ) (at : ℕ) where
  pub number-none : begins (32 ∷ []) (drop at b) ≡ false → got None (drop 17 (drop at b)) ≡ number_of (drop at b)
  unfolding number_of got
  number-none h = rw h

  pub number_read : (p : ℕ) (r : Option ℕ) → begins (32 ∷ []) (drop at b) ≡ true → p ≡ min (at + 1) (length b) → r ≡ hex_at b p → got r (drop 17 (drop at b)) ≡ number_of (drop at b)
  unfolding number_of
  number_read p r h e f = rw (h, f, e, hex-front b at)

  module _ (r : Option ℕ) (h : got r (drop 17 (drop at b)) ≡ number_of (drop at b)) where
    pub corner-first : r ≡ None → Wrong ≡ corner_of (drop at b)
    unfolding corner_of got and_then
    corner-first e = rw (← h, e)

    module _ (x : ℕ) (e : r ≡ Some x) (p : ℕ) (o : p ≡ min (at + 17) (length b)) (q : Option ℕ) (k : got q (drop 17 (drop p b)) ≡ number_of (drop p b)) where
      second : got q (drop 17 (drop 17 (drop at b))) ≡ number_of (drop 17 (drop at b))
      second = rw (o, further b at 17) at k

      pub corner-second : q ≡ None → Wrong ≡ corner_of (drop at b)
      unfolding corner_of got and_then
      corner-second f = rw (← h, e, ← second, f)

      pub corner-read : (y : ℕ) → q ≡ Some y → Got (record { x = x; y = y }) (drop 34 (drop at b)) ≡ corner_of (drop at b)
      unfolding corner_of got and_then
      corner-read y f = rw (← h, e, ← second, f, drop-drop 17 17 (drop at b))

-- ---- an edge's line

module _ (b : List ℕ) (at : ℕ) (r : Option (ℕ × ℕ)) (hr : shown_ring b r ≡ ring_of (drop at b)) where
  pub edge-ring : r ≡ None → Wrong ≡ edge_of (drop at b)
  unfolding edge_of and_then
  edge-ring e = rw (← hr, e)

  module _ (v p : ℕ) (er : r ≡ Some (v, p)) (f : Option Point) (hf : shown_corner (drop p b) f ≡ corner_of (drop p b)) where
    pub edge-from : f ≡ None → Wrong ≡ edge_of (drop at b)
    unfolding edge_of and_then
    edge-from e = rw (← hr, er, ← hf, e)

    module _ (from : Point) (ef : f ≡ Some from) (q : ℕ) (hq : q ≡ min (p + 34) (length b)) (t : Option Point) (ht : shown_corner (drop q b) t ≡ corner_of (drop q b)) where
      to-there : shown_corner (drop q b) t ≡ corner_of (drop 34 (drop p b))
      to-there = ht ∙ ap corner_of (ap (λ (n : ℕ). drop n b) hq ∙ further b p 34)

      pub edge_to : t ≡ None → Wrong ≡ edge_of (drop at b)
      unfolding edge_of and_then
      edge_to e = rw (← hr, er, ← hf, ef, ← to-there, e)

      module _ (to : Point) (et : t ≡ Some to) (n : ℕ) (hn : n ≡ min (q + 34) (length b)) where
        there : drop 34 (drop q b) ≡ drop n b
        there = sym (ap (λ (k : ℕ). drop k b) hn ∙ further b q 34)

        pub edge-end : begins (10 ∷ []) (drop n b) ≡ false → Wrong ≡ edge_of (drop at b)
        unfolding edge_of and_then ended
        edge-end e = rw (← hr, er, ← hf, ef, ← to-there, et, there, e)

        pub edge-read : begins (10 ∷ []) (drop n b) ≡ true → (m : ℕ) → m ≡ min (n + 1) (length b) → Got (record { ring = v; from = from; to = to }) (drop m b) ≡ edge_of (drop at b)
        unfolding edge_of and_then ended
        edge-read e m hm = rw (← hr, er, ← hf, ef, ← to-there, et, there, e, hm, further b n 1)

-- ---- a count's line

module _ (b : List ℕ) (at n most : ℕ) where
  pub count_none : n ≡ 0 → Malformed ≡ count_from most n (drop at b)
  unfolding count_from
  count_none e = rw (eq-eqb n 0 e)

  module _ (z : n ≡ 0 → ⊥) (q : ℕ) (hq : q ≡ min (at + n) (length b)) where
    digits-over : drop n (drop at b) ≡ drop q b
    digits-over = sym (ap (λ (k : ℕ). drop k b) hq ∙ further b at n)

    -- a wrong byte
    pub count-wrong : over (drop q b) ≡ false → Malformed ≡ count_from most n (drop at b)
    unfolding count_from
    count-wrong e = rw (ne_eqb n 0 z, digits-over, e)

    module _ (l : over (drop q b) ≡ true) (r : Option ℕ) (hr : r ≡ decimal_at b at n) where
      by_number_lem : count_by most r (drop q b) ≡ count_from most n (drop at b)
      unfolding count_from
      by_number_lem = rw (hr, decimal-front b at n, ne_eqb n 0 z, digits-over, l)

      pub count_long : r ≡ None → Many ≡ count_from most n (drop at b)
      unfolding count_by
      count_long e = rw e at by_number_lem

      module _ (v : ℕ) (e : r ≡ Some v) where
        pub count-many : most < v → Many ≡ count_from most n (drop at b)
        unfolding count_by
        count-many m = rw (e, lt-ltb most v m) at by_number_lem

        module _ (k : v ≤ most) where
          pub count-read : begins (10 ∷ []) (drop q b) ≡ true → (m : ℕ) → m ≡ min (q + 1) (length b) → Count v (drop m b) ≡ count_from most n (drop at b)
          unfolding count_by count_with
          count-read f m hm = rw (hm, further b q 1) (rw (e, le-ltb most v k, f) at by_number_lem)

          -- the bytes end
          pub count_cut : begins (10 ∷ []) (drop q b) ≡ false → Malformed ≡ count_from most n (drop at b)
          unfolding count_by count_with
          count_cut f = rw (e, le-ltb most v k, f) at by_number_lem

module _ (b word : List ℕ) (at most : ℕ) where
  pub count_word : begins word (drop at b) ≡ false → Malformed ≡ count_of word most (drop at b)
  unfolding count_of
  count_word h = rw h

  pub counting : begins word (drop at b) ≡ true → (p : ℕ) → p ≡ min (at + length word) (length b) → (n : ℕ) → n ≡ numeral (drop p b)
      → count_from most n (drop p b) ≡ count_of word most (drop at b)
  unfolding count_of
  counting h p hp n hn = rw (h, ← further b at (length word), ← hp, ← hn)
