-- Lists: what holds of all members and of every two, under a permutation, a filter, a renaming.
use mathlib.Core.Path.{◌≡◌, refl, sym, ap, subst, ◌∙◌}
use mathlib.Core.Logic.{◌≢◌, ◌⊎◌, inl, inr}
use mathlib.Core.Bool.{Bool, true, false, cond, true≢false}
use mathlib.Core.List.Memᴰ
use mathlib.Core.List.Permᴰ
use mathlib.Core.List.{List, [], ◌∷◌, map, Memᴰ, Permᴰ}
use Prim.Native.Nat.{ℕ, zero, suc, ◌≤◌, ◌<◌}
use native.Mathlib.Nat.{not-suc-le-zero, le_of_suc-le-suc}
use native.Mathlib.Omega.{arith}
use lib.ListN.{length, get_or}
use Rattle.contours.specs.Result.{keep}

-- every member has a property; every two have a relation, the earlier first
abbrev pub All : {A : Type 0} (D : A → Type 0) → List A → Type 0
All D [] = Unit {0}
All D (a ∷ l) = D a × All D l

abbrev pub Pairs : {A : Type 0} (R : A → A → Type 0) → List A → Type 0
Pairs R [] = Unit {0}
Pairs R (a ∷ l) = All (R a) l × Pairs R l

-- ---- all and each

module _ {A : Type 0} (D : A → Type 0) where
  pub all_of : (l : List A) → ((a : A) → Memᴰ a l → D a) → All D l
  all_of [] h = tt
  all_of (a ∷ l) h = (h a (Memᴰ.head refl), all_of l (λ b m. h b (Memᴰ.tail m)))

  at-mem : (a : A) (l : List A) → All D l → Memᴰ a l → D a
  at-mem a l h (Memᴰ.head e) = rw e h.0
  at-mem a l h (Memᴰ.tail {xs = xs} m) = at-mem a xs h.1 m

  pub all-mem : (l : List A) (a : A) → All D l → Memᴰ a l → D a
  all-mem l a = at-mem a l

  pub all-perm : {l m : List A} → Permᴰ l m → All D l → All D m
  all-perm Permᴰ.nil h = tt
  all-perm (Permᴰ.cons e p) h = (rw e at h.0, all-perm p h.1)
  all-perm (Permᴰ.swap e f) h = (rw f at h.1.0, (rw e at h.0, h.1.1))
  all-perm (Permᴰ.trans p q) h = all-perm q (all-perm p h)

module _ {A : Type 0} (R : A → A → Type 0) where
  pub pairs-perm : ((a b : A) → R a b → R b a) → {l m : List A} → Permᴰ l m → Pairs R l → Pairs R m
  pairs-perm s Permᴰ.nil h = tt
  pairs-perm s (Permᴰ.cons {b = b} e p) h = (all-perm (R b) p (rw e at h.0), pairs-perm s p h.1)
  pairs-perm s (Permᴰ.swap {a = a} {b = b} {b' = b'} {l = l} e f) h =
      subst (λ (x : A). (R x b' × All (R x) l) × (All (R b') l × Pairs R l)) f (subst (λ (y : A). (R b y × All (R b) l) × (All (R y) l × Pairs R l)) e ((s a b h.0.0, h.1.0), (h.0.1, h.1.1)))
  pairs-perm s (Permᴰ.trans p q) h = pairs-perm s q (pairs-perm s p h)

  -- of different members
  pub pairs_of : (l : List A) → Pairs ◌≢◌ l → ((a b : A) → Memᴰ a l → Memᴰ b l → a ≢ b → R a b) → Pairs R l
  pairs_of [] d h = tt
  pairs_of (a ∷ l) d h =
      (all_of (R a) l (λ b m. h a b (Memᴰ.head refl) (Memᴰ.tail m) (all-mem (λ c. a ≢ c) l b d.0 m)), pairs_of l d.1 (λ b c m n. h b c (Memᴰ.tail m) (Memᴰ.tail n)))

-- ---- members

pub mem-perm : {A : Type 0} {a : A} {l m : List A} → Permᴰ l m → Memᴰ a l → Memᴰ a m
mem-perm Permᴰ.nil h = h
mem-perm {A} {a} (Permᴰ.cons {a = x} {b = b} {l₁ = l} {l₂ = m} e p) h = go (Memᴰ.cases_cons h) (mem-perm p)
  where
    go : (a ≡ x) ⊎ Memᴰ a l → (Memᴰ a l → Memᴰ a m) → Memᴰ a (b ∷ m)
    go (inl q) r = Memᴰ.head (q ∙ e)
    go (inr k) r = Memᴰ.tail (r k)
mem-perm {A} {a} (Permᴰ.swap {a = x} {b = y} {a' = x'} {b' = y'} {l = l} e f) h = go (Memᴰ.cases_cons h)
  where
    two : (a ≡ y) ⊎ Memᴰ a l → Memᴰ a (x' ∷ y' ∷ l)
    two (inl q) = Memᴰ.head (q ∙ f)
    two (inr k) = Memᴰ.tail (Memᴰ.tail k)

    go : (a ≡ x) ⊎ Memᴰ a (y ∷ l) → Memᴰ a (x' ∷ y' ∷ l)
    go (inl q) = Memᴰ.tail (Memᴰ.head (q ∙ e))
    go (inr k) = two (Memᴰ.cases_cons k)
mem-perm (Permᴰ.trans p q) h = mem-perm q (mem-perm p h)

pub mem-map : {A B : Type 0} (f : A → B) (l : List A) (b : B) → Memᴰ b (map f l) → (a : A) × Memᴰ a l × (b ≡ f a)
mem-map f [] b m = absurd (Memᴰ.not-nil m)
mem-map {A} f (x ∷ l) b m = go (Memᴰ.cases_cons m) (mem-map f l b)
  where
    go : (b ≡ f x) ⊎ Memᴰ b (map f l) → (Memᴰ b (map f l) → (a : A) × Memᴰ a l × (b ≡ f a)) → (a : A) × Memᴰ a (x ∷ l) × (b ≡ f a)
    go (inl e) r = (x, Memᴰ.head refl, e)
    go (inr k) r = let h : (a : A) × Memᴰ a l × (b ≡ f a) = r k in (h.0, Memᴰ.tail h.1, h.2)

mem-image : {A B : Type 0} (f : A → B) (a : A) (l : List A) → Memᴰ a l → Memᴰ (f a) (map f l)
mem-image f a l (Memᴰ.head e) = Memᴰ.head (ap f e)
mem-image f a l (Memᴰ.tail {xs = xs} m) = Memᴰ.tail (mem-image f a xs m)

pub map-mem : {A B : Type 0} (f : A → B) (l : List A) (a : A) → Memᴰ a l → Memᴰ (f a) (map f l)
map-mem f l a = mem-image f a l

pub mem-get_d : {A : Type 0} (s : List A) (i : ℕ) (d : A) → i < length s → Memᴰ (get_or s i d) s
mem-get_d [] i d l = absurd (not-suc-le-zero l)
mem-get_d (x ∷ s) zero d l = Memᴰ.head refl
mem-get_d (x ∷ s) (suc i) d l = Memᴰ.tail (mem-get_d s i d (le_of_suc-le-suc l))

-- ---- a filter

module _ {A : Type 0} (f : A → Bool) where
  pub keep-in : (l : List A) (a : A) → Memᴰ a l → f a ≡ true → Memᴰ a (keep f l)
  unfolding keep
  keep-in [] a m e = m
  keep-in (b ∷ l) a m e = go (f b) refl (Memᴰ.cases_cons m) (λ k. keep-in l a k e)
    where
      go : (t : Bool) → f b ≡ t → (a ≡ b) ⊎ Memᴰ a l → (Memᴰ a l → Memᴰ a (keep f l)) → Memᴰ a (cond t (b ∷ keep f l) (keep f l))
      go true q (inl s) r = Memᴰ.head s
      go true q (inr k) r = Memᴰ.tail (r k)
      go false q (inl s) r = absurd (true≢false (sym e ∙ ap f s ∙ q))
      go false q (inr k) r = r k

  pub keep_out : (l : List A) (a : A) → Memᴰ a (keep f l) → Memᴰ a l × (f a ≡ true)
  unfolding keep
  keep_out [] a m = absurd (Memᴰ.not-nil m)
  keep_out (b ∷ l) a m = go (f b) refl m (keep_out l a)
    where
      go : (t : Bool) → f b ≡ t → Memᴰ a (cond t (b ∷ keep f l) (keep f l)) → (Memᴰ a (keep f l) → Memᴰ a l × (f a ≡ true)) → Memᴰ a (b ∷ l) × (f a ≡ true)
      go true q m r = head (Memᴰ.cases_cons m)
        where
          head : (a ≡ b) ⊎ Memᴰ a (keep f l) → Memᴰ a (b ∷ l) × (f a ≡ true)
          head (inl s) = (Memᴰ.head s, ap f s ∙ q)
          head (inr k) = (Memᴰ.tail (r k).0, (r k).1)
      go false q m r = (Memᴰ.tail (r m).0, (r m).1)

  pub keep-few : (l : List A) → length (keep f l) ≤ length l
  unfolding keep
  keep-few [] = omega arith
  keep-few (a ∷ l) = go (f a) (keep-few l)
    where
      go : (t : Bool) → length (keep f l) ≤ length l → length (cond t (a ∷ keep f l) (keep f l)) ≤ suc (length l)
      go true i = omega arith
      go false i = omega arith

  pub keep-perm : {l m : List A} → Permᴰ l m → Permᴰ (keep f l) (keep f m)
  unfolding keep
  keep-perm Permᴰ.nil = Permᴰ.nil
  keep-perm (Permᴰ.cons {a = a} {l₁ = l₁} {l₂ = l₂} e p) = rw (← e) (go (f a) (keep-perm p))
    where
      go : (b : Bool) → Permᴰ (keep f l₁) (keep f l₂) → Permᴰ (cond b (a ∷ keep f l₁) (keep f l₁)) (cond b (a ∷ keep f l₂) (keep f l₂))
      go true i = Permᴰ.cons refl i
      go false i = i
  keep-perm (Permᴰ.swap {a = a} {b = b} {l = l} e q) = rw (← e, ← q) (go (f a) (f b))
    where
      go : (x y : Bool) → Permᴰ (cond x (a ∷ cond y (b ∷ keep f l) (keep f l)) (cond y (b ∷ keep f l) (keep f l))) (cond y (b ∷ cond x (a ∷ keep f l) (keep f l)) (cond x (a ∷ keep f l) (keep f l)))
      go true true = Permᴰ.swap refl refl
      go true false = Permᴰ.refl (a ∷ keep f l)
      go false true = Permᴰ.refl (b ∷ keep f l)
      go false false = Permᴰ.refl (keep f l)
  keep-perm (Permᴰ.trans p q) = Permᴰ.trans (keep-perm p) (keep-perm q)

  pub all_keep : (D : A → Type 0) (l : List A) → All D l → All D (keep f l)
  unfolding keep
  all_keep D [] h = tt
  all_keep D (a ∷ l) h = go (f a) (all_keep D l h.1)
    where
      go : (b : Bool) → All D (keep f l) → All D (cond b (a ∷ keep f l) (keep f l))
      go true i = (h.0, i)
      go false i = i

  pub pairs-keep : (R : A → A → Type 0) (l : List A) → Pairs R l → Pairs R (keep f l)
  unfolding keep
  pairs-keep R [] h = tt
  pairs-keep R (a ∷ l) h = go (f a) (pairs-keep R l h.1)
    where
      go : (b : Bool) → Pairs R (keep f l) → Pairs R (cond b (a ∷ keep f l) (keep f l))
      go true i = (all_keep (R a) l h.0, i)
      go false i = i

-- ---- a renaming

module _ {A B : Type 0} (ρ : A → B) (D : A → Type 0) where
  pub keep-map : (f : A → Bool) (f' : B → Bool) → ((a : A) → D a → f' (ρ a) ≡ f a) → (l : List A) → All D l → keep f' (map ρ l) ≡ map ρ (keep f l)
  unfolding keep
  keep-map f f' k [] h = refl
  keep-map f f' k (a ∷ l) h = rw (k a h.0) (go (f a) (keep-map f f' k l h.1))
    where
      go : (b : Bool) → keep f' (map ρ l) ≡ map ρ (keep f l) → cond b (ρ a ∷ keep f' (map ρ l)) (keep f' (map ρ l)) ≡ map ρ (cond b (a ∷ keep f l) (keep f l))
      go true i = ap (λ (m : List B). ρ a ∷ m) i
      go false i = i

  pub all_map : (E : B → Type 0) → ((a : A) → D a → E (ρ a)) → (l : List A) → All D l → All E (map ρ l)
  all_map E k [] h = tt
  all_map E k (a ∷ l) h = (k a h.0, all_map E k l h.1)

  pub map-map : {C : Type 0} (g : B → C) (f : A → C) → ((a : A) → D a → g (ρ a) ≡ f a) → (l : List A) → All D l → map g (map ρ l) ≡ map f l
  map-map g f k [] h = refl
  map-map g f k (a ∷ l) h = rw (k a h.0, map-map g f k l h.1)

-- the length of a permutation
pub length-perm : {A : Type 0} {l m : List A} → Permᴰ l m → length l ≡ length m
length-perm Permᴰ.nil = refl
length-perm (Permᴰ.cons e p) = ap suc (length-perm p)
length-perm (Permᴰ.swap e f) = refl
length-perm (Permᴰ.trans p q) = length-perm p ∙ length-perm q

pub get_d_map : {A B : Type 0} (f : A → B) (l : List A) (i : ℕ) (d : B) (e : A) → i < length l → get_or (map f l) i d ≡ f (get_or l i e)
get_d_map f [] i d e h = absurd (not-suc-le-zero h)
get_d_map f (x ∷ l) zero d e h = refl
get_d_map f (x ∷ l) (suc i) d e h = get_d_map f l i d e (le_of_suc-le-suc h)
