-- Facts that hold of every entry of a list: made from a test that computes, carried through the functions on lists, and read at a
-- place or at a member. Assumes nothing.
use mathlib.Core.Path.{◌≡◌, refl, sym, ap, subst}
use mathlib.Core.Logic.{inl, inr}
use mathlib.Core.Bool.{Bool, true, false, cond, ◌&&◌, ◌||◌}
use mathlib.Core.List.{List, [], ◌∷◌, ◌++◌, map}
use Prim.Native.Nat.{ℕ, zero, suc, ◌*◌, ◌≤◌, ◌<◌}
use native.Mathlib.Omega.{arith}
use lib.Dec.{T, eqb, eqb→eq, eqb_refl}
use lib.ListN.{length, get_or, length-append}
use Rattle.lists.specs.Lists.{cons_if, keep, any, all, each, is_in}
use Rattle.lists.proofs.Member.{or_cases, or_left, or_right, and_left, and_right, any_append}

abbrev pub All : {A : Type 0} → (A → Type 0) → List A → Type 0
All P [] = Unit {0}
All P (x ∷ xs) = P x × All P xs

pub all_append : {A : Type 0} (P : A → Type 0) (l m : List A) → All P l → All P m → All P (l ++ m)
all_append P [] m h g = g
all_append P (x ∷ xs) m h g = (h.0, all_append P xs m h.1 g)

module _ {A : Type 0} where
  -- from a test
  pub all_test : (p : A → Bool) (l : List A) → T (all p l) → All (λ x. T (p x)) l
  all_test p [] t = tt
  all_test p (x ∷ xs) t = (and_left (p x) (all p xs) t, all_test p xs (and_right (p x) (all p xs) t))

  pub all_weak : (P Q : A → Type 0) → ((x : A) → P x → Q x) → (l : List A) → All P l → All Q l
  all_weak P Q f [] h = tt
  all_weak P Q f (x ∷ xs) h = (f x h.0, all_weak P Q f xs h.1)

  -- at a place
  pub all_at : (P : A → Type 0) (l : List A) (d : A) → All P l → (i : ℕ) → i < length l → P (get_or l i d)
  all_at P [] d h i g = absurd (omega arith)
  all_at P (x ∷ xs) d h zero g = h.0
  all_at P (x ∷ xs) d h (suc i) g = all_at P xs d h.1 i (omega arith)

  -- at any place, where it holds of the default too
  pub all_get_d : (P : A → Type 0) (l : List A) (d : A) → P d → All P l → (i : ℕ) → P (get_or l i d)
  all_get_d P [] d g h i = g
  all_get_d P (x ∷ xs) d g h zero = h.0
  all_get_d P (x ∷ xs) d g h (suc i) = all_get_d P xs d g h.1 i

  pub all_map : {B : Type 0} (P : B → Type 0) (f : A → B) (l : List A) → All (λ x. P (f x)) l → All P (map f l)
  all_map P f [] h = tt
  all_map P f (x ∷ xs) h = (h.0, all_map P f xs h.1)

  pub all_each : {B : Type 0} (P : B → Type 0) (f : A → List B) (l : List A) → All (λ x. All P (f x)) l → All P (each f l)
  all_each P f [] h = tt
  all_each P f (x ∷ xs) h = all_append P (f x) (each f xs) h.0 (all_each P f xs h.1)

  pub all_keep : (P : A → Type 0) (p : A → Bool) (l : List A) → All (λ x. T (p x) → P x) l → All P (keep p l)
  all_keep P p [] h = tt
  all_keep P p (x ∷ xs) h = go (p x) h.0 (all_keep P p xs h.1)
    where
      go : (b : Bool) → (T b → P x) → All P (keep p xs) → All P (cons_if b x (keep p xs))
      go true f g = (f tt, g)
      go false f g = g

  -- lists made beside one another: each of the first may use that its part of the second is in the whole
  pub each_sub : {B : Type 0} (P : B → Type 0) (M : List ℕ) (f : A → List B) (g : A → List ℕ)
      → ((x : A) → ((k : ℕ) → T (is_in (g x) k) → T (is_in M k)) → All P (f x))
      → (l : List A) → ((k : ℕ) → T (is_in (each g l) k) → T (is_in M k)) → All P (each f l)
  each_sub P M f g h [] s = tt
  each_sub P M f g h (x ∷ xs) s =
      all_append P (f x) (each f xs)
      (h x (λ k t. s k (subst T (sym (any_append (eqb k) (g x) (each g xs))) (or_left (is_in (g x) k) (is_in (each g xs) k) t))))
      (each_sub P M f g h xs
      (λ k t. s k (subst T (sym (any_append (eqb k) (g x) (each g xs))) (or_right (is_in (g x) k) (is_in (each g xs) k) t))))

  -- an entry that passes, at its place among those that pass
  pub pick_in : (f : A → ℕ) (q : A → Bool) (l : List A) (d : A) (j : ℕ)
      → T (get_or (map q l) j false) → T (is_in (map f (keep q l)) (f (get_or l j d)))
  pick_in f q [] d j t = absurd t
  pick_in f q (x ∷ xs) d zero t = go (q x) t
    where
      go : (b : Bool) → T b → T (is_in (map f (cons_if b x (keep q xs))) (f x))
      go true t = or_left (eqb (f x) (f x)) (is_in (map f (keep q xs)) (f x)) (eqb_refl (f x))
      go false t = absurd t
  pick_in f q (x ∷ xs) d (suc j) t = go (q x) (pick_in f q xs d j t)
    where
      go : (b : Bool) → T (is_in (map f (keep q xs)) (f (get_or xs j d))) → T (is_in (map f (cons_if b x (keep q xs))) (f (get_or xs j d)))
      go true t = or_right (eqb (f (get_or xs j d)) (f x)) (is_in (map f (keep q xs)) (f (get_or xs j d))) t
      go false t = t

  -- how long joined lists are, where each part is at most m, or exactly m
  pub each_le : {B : Type 0} (f : A → List B) (m : ℕ) → ((x : A) → length (f x) ≤ m) → (l : List A) → length (each f l) ≤ m * length l
  each_le f m h [] = omega arith
  each_le f m h (x ∷ xs) = omega (arith, length-append (f x) (each f xs), h x, each_le f m h xs)

  pub each_length : {B : Type 0} (f : A → List B) (m : ℕ) → ((x : A) → length (f x) ≡ m) → (l : List A) → length (each f l) ≡ m * length l
  each_length f m h [] = omega arith
  each_length f m h (x ∷ xs) = omega (arith, length-append (f x) (each f xs), h x, each_length f m h xs)

  -- something in the list passes: with what holds of each; at a place, and back
  pub any_with : (P : A → Type 0) (p : A → Bool) (l : List A) → All P l → T (any p l) → (a : A) × P a × T (p a)
  any_with P p [] h t = absurd t
  any_with P p (x ∷ xs) h t =
      elim (or_cases (p x) (any p xs) t) [ inl g ↦ (x, h.0, g) | inr r ↦ any_with P p xs h.1 r ]

  pub any_at : (p : A → Bool) (l : List A) (d : A) → T (any p l) → (i : ℕ) × (i < length l) × T (p (get_or l i d))
  any_at p [] d t = absurd t
  any_at p (x ∷ xs) d t =
      elim (or_cases (p x) (any p xs) t)
      [ inl h ↦ (zero, omega arith, h) | inr r ↦ (let w = any_at p xs d r in (suc w.0, omega (arith, w.1), w.2)) ]

  pub at_any : (p : A → Bool) (l : List A) (d : A) (i : ℕ) → i < length l → T (p (get_or l i d)) → T (any p l)
  at_any p [] d i h t = absurd (omega arith)
  at_any p (x ∷ xs) d zero h t = or_left (p x) (any p xs) t
  at_any p (x ∷ xs) d (suc i) h t = or_right (p x) (any p xs) (at_any p xs d i (omega arith) t)

-- at a member
pub all_in : (P : ℕ → Type 0) (l : List ℕ) → All P l → (k : ℕ) → T (is_in l k) → P k
all_in P [] h k t = absurd t
all_in P (x ∷ xs) h k t =
    elim (or_cases (eqb k x) (is_in xs k) t)
    [ inl e ↦ subst P (sym (eqb→eq k x e)) h.0 | inr r ↦ all_in P xs h.1 k r ]

-- from each member
pub in_all : (P : ℕ → Type 0) (l : List ℕ) → ((k : ℕ) → T (is_in l k) → P k) → All P l
in_all P [] h = tt
in_all P (x ∷ xs) h =
    (h x (or_left (eqb x x) (is_in xs x) (eqb_refl x)), in_all P xs (λ k t. h k (or_right (eqb k x) (is_in xs k) t)))

-- ── what is made element by element ──

pub any_same : {A : Type 0} (p q : A → Bool) → ((x : A) → p x ≡ q x) → (l : List A) → any p l ≡ any q l
any_same p q h [] = refl
any_same p q h (x ∷ xs) = λ i. h x i || any_same p q h xs i

module _ {A B : Type 0} where
  pub each_same : (f g : A → List B) (l : List A) → All (λ x. f x ≡ g x) l → each f l ≡ each g l
  each_same f g [] h = refl
  each_same f g (x ∷ xs) h = λ i. h.0 i ++ each_same f g xs h.1 i

  pub map_same : (f g : A → B) → ((x : A) → f x ≡ g x) → (l : List A) → map f l ≡ map g l
  map_same f g h [] = refl
  map_same f g h (x ∷ xs) = λ i. h x i ∷ map_same f g h xs i

  pub map_same_in : (f g : A → B) (l : List A) → All (λ x. f x ≡ g x) l → map f l ≡ map g l
  map_same_in f g [] h = refl
  map_same_in f g (x ∷ xs) h = λ i. h.0 i ∷ map_same_in f g xs h.1 i

  pub each_map : {C : Type 0} (f : B → List C) (g : A → B) (l : List A) → each f (map g l) ≡ each (λ x. f (g x)) l
  each_map f g [] = refl
  each_map f g (x ∷ xs) = ap (λ (l : List _). f (g x) ++ l) (each_map f g xs)

  -- a test of what passed
  pub any_map : (p : B → Bool) (f : A → B) (l : List A) → any p (map f l) ≡ any (λ x. p (f x)) l
  any_map p f [] = refl
  any_map p f (x ∷ xs) = ap (λ (b : Bool). p (f x) || b) (any_map p f xs)

  pub any_map_keep : (p : B → Bool) (f : A → B) (q : A → Bool) (l : List A) → any p (map f (keep q l)) ≡ any (λ x. q x && p (f x)) l
  any_map_keep p f q [] = refl
  any_map_keep p f q (x ∷ xs) = go (q x) (any_map_keep p f q xs)
    where
      go : (b : Bool) → any p (map f (keep q xs)) ≡ any (λ x. q x && p (f x)) xs
          → any p (map f (cons_if b x (keep q xs))) ≡ ((b && p (f x)) || any (λ x. q x && p (f x)) xs)
      go true e = ap (λ (c : Bool). p (f x) || c) e
      go false e = e

  -- what is made of those that pass
  pub each_keep : (f : A → List B) (p : A → Bool) (l : List A) → each f (keep p l) ≡ each (λ x. cond (p x) (f x) []) l
  each_keep f p [] = refl
  each_keep f p (x ∷ xs) = go (p x) (each_keep f p xs)
    where
      go : (b : Bool) → each f (keep p xs) ≡ each (λ x. cond (p x) (f x) []) xs
          → each f (cons_if b x (keep p xs)) ≡ cond b (f x) [] ++ each (λ x. cond (p x) (f x) []) xs
      go true e = ap (λ (l : List B). f x ++ l) e
      go false e = e
