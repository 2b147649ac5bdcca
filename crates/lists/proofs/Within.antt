-- Membership as a fact, `In a l`: of the lists that the definitions make, and what holds of each member. Assumes nothing.
use mathlib.Core.Path.{◌≡◌, refl, sym, ap, ◌∙◌, subst}
use mathlib.Core.Bool.{Bool, true, false, ◌&&◌, ◌||◌, and_assoc}
use mathlib.Core.List.Memᴰ.{head as here}
use mathlib.Core.List.Memᴰ.{tail as there}
use mathlib.Core.List.{List, [], ◌∷◌, ◌++◌, map, Memᴰ as In}
use mathlib.Core.List.Memᴰ
use mathlib.Core.List.{map-append}
use mathlib.Core.Logic.{◌⊎◌, inl, inr}
use Prim.Native.Nat.{ℕ, zero, suc, ◌<◌}
use native.Mathlib.Omega.{arith}
use lib.Dec.{T, eqb, eqb→eq, eqb_refl}
use lib.ListN.{length, get_or}
use Rattle.lists.specs.Lists.{range, cons_if, keep, any, all, each, is_in}
use Rattle.lists.proofs.Member.{t_to_eq, eq_to_t, or_left, or_right, and_both, and_left, and_right, and3, both3, in_range, range_in}
use Rattle.lists.proofs.Every.{All, any_with}
use Rattle.lists.proofs.Runs.{each_append}

pub t_to_false : (b : Bool) → (T b → ⊥) → b ≡ false
t_to_false true h = absurd (h tt)
t_to_false false h = refl

pub eqb_of : {a b : ℕ} → a ≡ b → T (eqb a b)
eqb_of {a} e = subst (λ (k : ℕ). T (eqb a k)) e (eqb_refl a)

-- three numbers at once
pub same3 : (a b c x y z : ℕ) → T (eqb a x && eqb b y && eqb c z) → (a ≡ x) × (b ≡ y) × (c ≡ z)
same3 a b c x y z t = let e = and3 (eqb a x) (eqb b y) (eqb c z) t in (eqb→eq a x e.0, eqb→eq b y e.1, eqb→eq c z e.2)

pub of_same3 : {a b c x y z : ℕ} → a ≡ x → b ≡ y → c ≡ z → T (eqb a x && eqb b y && eqb c z)
of_same3 {a} {b} {c} {x} {y} {z} p q r = both3 (eqb a x) (eqb b y) (eqb c z) (eqb_of p) (eqb_of q) (eqb_of r)

-- one of a list of tests that all pass
pub holds : (l : List Bool) → T (all (λ b. b) l) → (i : ℕ) → T (get_or l i true)
holds [] t i = tt
holds (b ∷ l) t zero = and_left b (all (λ c. c) l) t
holds (b ∷ l) t (suc i) = holds l (and_right b (all (λ c. c) l) t) i

module _ {A : Type 0} where
  pub all_append : (p : A → Bool) (l m : List A) → all p (l ++ m) ≡ (all p l && all p m)
  all_append p [] m = refl
  all_append p (x ∷ l) m = ap (λ (b : Bool). p x && b) (all_append p l m) ∙ sym (and_assoc (p x) (all p l) (all p m))

  pub all_in : (p : A → Bool) {a : A} {l : List A} → T (all p l) → In a l → T (p a)
  all_in p {a = a} {l = []} t x5 = elim x5 [ ]
  all_in p {l = x ∷ l} t (here e) = subst (λ (k : A). T (p k)) (sym e) (and_left (p x) (all p l) t)
  all_in p {l = x ∷ l} t (there i) = all_in p (and_right (p x) (all p l) t) i

  pub in_all_test : (p : A → Bool) (l : List A) → ((a : A) → In a l → T (p a)) → T (all p l)
  in_all_test p [] f = tt
  in_all_test p (x ∷ l) f = and_both (p x) (all p l) (f x (here refl)) (in_all_test p l (λ a i. f a (there i)))

  -- what holds of each member
  pub members : {P : A → Type 0} (l : List A) → ((a : A) → In a l → P a) → All P l
  members [] h = tt
  members (x ∷ l) h = (h x (here refl), members l (λ a i. h a (there i)))

  pub of_all : (P : A → Type 0) {a : A} {l : List A} → All P l → In a l → P a
  of_all P {l = []} h i = elim i [ ]
  of_all P {l = x ∷ l} h (here e) = subst P (sym e) h.0
  of_all P {l = x ∷ l} h (there i) = of_all P {l = l} h.1 i

  pub nth_in : (l : List A) (i : ℕ) (d : A) → i < length l → In (get_or l i d) l
  nth_in [] i d h = absurd (omega arith)
  nth_in (x ∷ l) zero d h = here refl
  nth_in (x ∷ l) (suc i) d h = there (nth_in l i d (omega arith))

  pub keep_in : (p : A → Bool) (l : List A) {a : A} → In a (keep p l) → In a l × T (p a)
  keep_in p [] i = elim i [ ]
  keep_in p (x ∷ l) {a} i = go (p x) refl i (λ j. keep_in p l j)
    where
      go : (b : Bool) → p x ≡ b → In a (cons_if b x (keep p l)) → (In a (keep p l) → In a l × T (p a)) → In a (x ∷ l) × T (p a)
      go true q (here e) r = (here e, eq_to_t (ap p e ∙ q))
      go true q (there j) r = let m : In a l × T (p a) = r j in (there m.0, m.1)
      go false q j r = let m : In a l × T (p a) = r j in (there m.0, m.1)

  pub in_keep : (p : A → Bool) {a : A} {l : List A} → In a l → T (p a) → In a (keep p l)
  in_keep p {a = a} {l = []} x5 t = elim x5 [ ]
  in_keep p {a = a} {l = x ∷ l} (here e) t =
      subst (λ (b : Bool). In a (cons_if b x (keep p l))) (sym (t_to_eq (p x) (subst (λ k. T (p k)) e t))) (here e)
  in_keep p {a = a} {l = x ∷ l} (there i) t = go (p x) (in_keep p i t)
    where
      go : (b : Bool) → In a (keep p l) → In a (cons_if b x (keep p l))
      go true j = there j
      go false j = j

  pub member_any : (p : A → Bool) {a : A} {l : List A} → In a l → T (p a) → T (any p l)
  member_any p {a = a} {l = []} x5 t = elim x5 [ ]
  member_any p {l = x ∷ l} (here e) t = or_left (p x) (any p l) (subst (λ k. T (p k)) e t)
  member_any p {l = x ∷ l} (there i) t = or_right (p x) (any p l) (member_any p i t)

  pub any_member : (p : A → Bool) (l : List A) → T (any p l) → (a : A) × In a l × T (p a)
  any_member p l t = any_with (λ a. In a l) p l (members l (λ a i. i)) t

  -- tests that agree on the list
  pub any_agree : (p q : A → Bool) (l : List A) → ((a : A) → In a l → p a ≡ q a) → any p l ≡ any q l
  any_agree p q [] f = refl
  any_agree p q (x ∷ l) f = λ i. f x (here refl) i || any_agree p q l (λ a j. f a (there j)) i

pub list_in : {k : ℕ} {l : List ℕ} → In k l → T (is_in l k)
list_in {k} i = member_any (eqb k) i (eqb_refl k)

pub in_list : (k : ℕ) (l : List ℕ) → T (is_in l k) → In k l
in_list k l t = let m = any_member (eqb k) l t in Memᴰ.cast (eqb→eq k m.0 m.2) m.1

-- a number of a run from 0
pub below : (n i : ℕ) → In i (range 0 n) → i < n
below n i m = omega (arith, range_in 0 n i (list_in m))

pub in_run : (n i : ℕ) → i < n → In i (range 0 n)
in_run n i h = in_list i (range 0 n) (in_range 0 n i (omega arith) (omega arith))

module _ {A B : Type 0} where
  pub each_in : (f : A → List B) (l : List A) {b : B} → In b (each f l) → (a : A) × In a l × In b (f a)
  each_in f [] i = elim i [ ]
  each_in f (x ∷ l) {b} i = go (Memᴰ.append_cases (f x) i) (λ j. each_in f l j)
    where
      go : In b (f x) ⊎ In b (each f l) → (In b (each f l) → (a : A) × In a l × In b (f a)) → (a : A) × In a (x ∷ l) × In b (f a)
      go (inl j) r = (x, here refl, j)
      go (inr j) r = let m : (a : A) × In a l × In b (f a) = r j in (m.0, there m.1, m.2)

  pub in_each : (f : A → List B) {a : A} {b : B} {l : List A} → In a l → In b (f a) → In b (each f l)
  in_each f {a = a} {b = b} {l = []} x5 j = elim x5 [ ]
  in_each f {b = b} {l = x ∷ l} (here e) j = Memᴰ.append_left (each f l) (subst (λ k. In b (f k)) e j)
  in_each f {l = x ∷ l} (there i) j = Memᴰ.append_right (f x) (in_each f i j)

  pub all_map : (p : B → Bool) (f : A → B) (l : List A) → all p (map f l) ≡ all (λ a. p (f a)) l
  all_map p f [] = refl
  all_map p f (x ∷ l) = ap (λ (b : Bool). p (f x) && b) (all_map p f l)

  pub all_each : (p : B → Bool) (f : A → List B) (l : List A) → T (all (λ a. all p (f a)) l) → T (all p (each f l))
  all_each p f [] t = tt
  all_each p f (x ∷ l) t =
      subst T (sym (all_append p (f x) (each f l)))
      (and_both (all p (f x)) (all p (each f l)) (and_left (all p (f x)) (all (λ a. all p (f a)) l) t)
      (all_each p f l (and_right (all p (f x)) (all (λ a. all p (f a)) l) t)))

  pub map_in : (f : A → B) (l : List A) (b : B) → In b (map f l) → (a : A) × In a l × (b ≡ f a)
  map_in f l b i = let r = Memᴰ.of_map f l i in (r.0, r.1, sym r.2)

module _ {A B C : Type 0} where
  pub map_each : (f : B → C) (g : A → List B) (l : List A) → map f (each g l) ≡ each (λ a. map f (g a)) l
  map_each f g [] = refl
  map_each f g (x ∷ l) = map-append f (g x) (each g l) ∙ ap (λ m. map f (g x) ++ m) (map_each f g l)

  pub each_each : (f : B → List C) (g : A → List B) (l : List A) → each f (each g l) ≡ each (λ a. each f (g a)) l
  each_each f g [] = refl
  each_each f g (x ∷ l) = each_append f (g x) (each g l) ∙ ap (λ m. each f (g x) ++ m) (each_each f g l)
