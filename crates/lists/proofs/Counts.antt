-- Counting by a test, sums over lists, lists without a repeat, and two lists whose things match. Assumes nothing.
use mathlib.Core.Path.{◌≡◌, refl, sym, ap, ◌∙◌, subst}
use mathlib.Core.Bool.{Bool, true, false, cond}
use mathlib.Core.List.Memᴰ
use mathlib.Core.List.Memᴰ.{head as here}
use mathlib.Core.List.Memᴰ.{tail as there}
use mathlib.Core.List.{List, [], ◌∷◌, ◌++◌, map, Memᴰ as In}
use Prim.Native.Nat.{ℕ, zero, suc, ◌+◌, ◌≤◌, ◌<◌}
use native.Mathlib.Omega.{arith}
use native.Mathlib.Decide.{ℕ_discrete, dec_lt}
use lib.Dec.{T, eqb, eqb→eq, eqb_refl}
use lib.ListN.{length, get_or, length-append}
use Rattle.lists.specs.Lists.{range, cons_if, keep, count, any, all, each}
use Rattle.lists.proofs.Member.{eq_to_t, range_in}
use Rattle.lists.proofs.Rising.{Rising}
use Rattle.lists.proofs.Runs.{keep_append, rising_ge, along_list}
use Rattle.lists.proofs.Closure.{bool_same}
use Rattle.lists.proofs.Within.{t_to_false, eqb_of, member_any, any_member, list_in, all_in, in_all_test, below, in_run, map_in}

-- ── sums ──

module _ {A : Type 0} where
  abbrev pub sum : (A → ℕ) → List A → ℕ
  sum f [] = 0
  sum f (x ∷ l) = f x + sum f l

  sum_same : (f g : A → ℕ) (l : List A) → ((a : A) → f a ≡ g a) → sum f l ≡ sum g l
  sum_same f g [] h = refl
  sum_same f g (x ∷ l) h = λ i. h x i + sum_same f g l h i

  sum_add : (f g : A → ℕ) (l : List A) → sum (λ a. f a + g a) l ≡ sum f l + sum g l
  sum_add f g [] = refl
  sum_add f g (x ∷ l) = omega (arith, sum_add f g l)

  sum_zero : (l : List A) → sum (λ a. 0) l ≡ 0
  sum_zero [] = refl
  sum_zero (x ∷ l) = omega (arith, sum_zero l)

  sum_ones : (f : A → ℕ) (l : List A) → ((a : A) → In a l → f a ≡ 1) → sum f l ≡ length l
  sum_ones f [] h = refl
  sum_ones f (x ∷ l) h = omega (arith, h x (here refl), sum_ones f l (λ a i. h a (there i)))

  sum_few : (f : A → ℕ) (l : List A) → ((a : A) → In a l → f a ≤ 1) → sum f l ≤ length l
  sum_few f [] h = omega arith
  sum_few f (x ∷ l) h = omega (arith, h x (here refl), sum_few f l (λ a i. h a (there i)))

  -- a sum of at most ones that is as large as can be
  sum_full : (f : A → ℕ) {a : A} {l : List A} → ((a : A) → In a l → f a ≤ 1) → sum f l ≡ length l → In a l → f a ≡ 1
  sum_full f {l = []} h e i = elim i [ ]
  sum_full f {l = x ∷ l} h e (here q) = ap f q ∙ omega (arith, h x (here refl), sum_few f l (λ a i. h a (there i)))
  sum_full f {l = x ∷ l} h e (there i) =
      sum_full f {l = l} (λ a j. h a (there j)) (omega (arith, h x (here refl), sum_few f l (λ a j. h a (there j)))) i

  sum_le : (f g : A → ℕ) (l : List A) → ((a : A) → f a ≤ g a) → sum f l ≤ sum g l
  sum_le f g [] h = omega arith
  sum_le f g (x ∷ l) h = omega (arith, h x, sum_le f g l h)

  pub sum_none : (f : A → ℕ) (l : List A) → ((a : A) → In a l → (f a ≡ 0 → ⊥) → ⊥) → sum f l ≡ 0
  sum_none f [] h = refl
  sum_none f (x ∷ l) h = go (f x) refl (sum_none f l (λ a i. h a (there i)))
    where
      go : (n : ℕ) → f x ≡ n → sum f l ≡ 0 → f x + sum f l ≡ 0
      go zero e r = omega arith
      go (suc n) e r = absurd (h x (here refl) (λ z. omega arith))

  pub sum_some : (f : A → ℕ) (l : List A) → (sum f l ≡ 0 → ⊥) → (a : A) × In a l × (f a ≡ 0 → ⊥)
  sum_some f [] n = absurd (n refl)
  sum_some f (x ∷ l) n = go (f x) refl (sum_some f l)
    where
      go : (k : ℕ) → f x ≡ k → ((sum f l ≡ 0 → ⊥) → (a : A) × In a l × (f a ≡ 0 → ⊥)) → (a : A) × In a (x ∷ l) × (f a ≡ 0 → ⊥)
      go zero e r = let t : (a : A) × In a l × (f a ≡ 0 → ⊥) = r (λ z. n (omega arith)) in (t.0, there t.1, t.2)
      go (suc k) e r = (x, here refl, λ z. omega arith)

  -- a part of a sum
  pub part_le : (f : A → ℕ) {a : A} {l : List A} → In a l → f a ≤ sum f l
  part_le f {a = a} {l = []} x'' = elim x'' [ ]
  part_le f {l = x ∷ l} (here e) = omega (arith, ap f e)
  part_le f {l = x ∷ l} (there i) = omega (arith, part_le f i)

  -- two members that contribute to a sum of 1 are one
  pub one_member : (f : A → ℕ) {a b : A} {l : List A} → sum f l ≤ 1 → In a l → In b l → (f a ≡ 0 → ⊥) → (f b ≡ 0 → ⊥) → a ≡ b
  one_member f h (here e) (here q) p r = e ∙ sym q
  one_member f h (here e) (there j) p r = absurd (omega (arith, ap f e, part_le f j, p, r))
  one_member f h (there i) (here q) p r = absurd (omega (arith, ap f q, part_le f i, p, r))
  one_member f {l = x ∷ l} h (there i) (there j) p r = one_member f {l = l} (omega arith) i j p r

pub sum_map : {A B : Type 0} (f : B → ℕ) (g : A → B) (l : List A) → sum f (map g l) ≡ sum (λ a. f (g a)) l
sum_map f g [] = refl
sum_map f g (x ∷ l) = ap (λ (n : ℕ). f (g x) + n) (sum_map f g l)

-- ── counts ──

one_if : Bool → ℕ
one_if b = cond b 1 0

one_at : (b : Bool) → T b → one_if b ≡ 1
unfolding one_if
one_at true t = refl
one_at false t = absurd t

at_one : (b : Bool) → (one_if b ≡ 0 → ⊥) → T b
unfolding one_if
at_one true h = tt
at_one false h = h refl

module _ {A : Type 0} where
  length_cons_if : (b : Bool) (x : A) (l : List A) → length (cons_if b x l) ≡ cond b (suc (length l)) (length l)
  length_cons_if true x l = refl
  length_cons_if false x l = refl

  pub count_step : (p : A → Bool) (x : A) (l : List A) → count p (x ∷ l) ≡ cond (p x) (suc (count p l)) (count p l)
  count_step p x l = length_cons_if (p x) x (keep p l)

  count_more : (p : A → Bool) (x : A) (l : List A) → count p (x ∷ l) ≡ one_if (p x) + count p l
  unfolding one_if
  count_more p x l = count_step p x l ∙ go (p x)
    where
      go : (b : Bool) → cond b (suc (count p l)) (count p l) ≡ cond b 1 0 + count p l
      go true = omega arith
      go false = omega arith

  -- a count is a sum
  count_sum : (p : A → Bool) (l : List A) → count p l ≡ sum (λ a. one_if (p a)) l
  count_sum p [] = refl
  count_sum p (x ∷ l) = count_more p x l ∙ ap (λ (n : ℕ). one_if (p x) + n) (count_sum p l)

  pub count_append : (p : A → Bool) (l m : List A) → count p (l ++ m) ≡ count p l + count p m
  count_append p l m = ap length (keep_append p l m) ∙ length-append (keep p l) (keep p m)

  -- something that is counted
  pub pick : (p : A → Bool) (l : List A) → (count p l ≡ 0 → ⊥) → (a : A) × In a l × T (p a)
  pick p l n = let w = sum_some (λ a. one_if (p a)) l (λ z. n (count_sum p l ∙ z)) in (w.0, w.1, at_one (p w.0) w.2)

  -- something that passes is counted
  pub count_some : (p : A → Bool) {l : List A} {a : A} → In a l → T (p a) → 0 < count p l
  count_some p {l} {a} i t = omega (arith, count_sum p l, part_le (λ a. one_if (p a)) i, one_at (p a) t)

  -- two that pass are one, where at most one passes
  pub count_one : (p : A → Bool) {l : List A} {a b : A} → count p l ≤ 1 → In a l → In b l → T (p a) → T (p b) → a ≡ b
  count_one p {l} {a} {b} h i j s t =
      one_member (λ a. one_if (p a)) (omega (arith, count_sum p l)) i j
      (λ z. omega (arith, one_at (p a) s)) (λ z. omega (arith, one_at (p b) t))

  -- those that pass, where each of them adds to a sum
  pub count_le_sum : (p : A → Bool) (f : A → ℕ) (l : List A) → ((a : A) → T (p a) → 0 < f a) → count p l ≤ sum f l
  unfolding one_if
  count_le_sum p f l h = omega (arith, count_sum p l, sum_le (λ a. one_if (p a)) f l (λ a. go a (p a) (h a)))
    where
      go : (a : A) (b : Bool) → (T b → 0 < f a) → cond b 1 0 ≤ f a
      go a true g = omega (arith, g tt)
      go a false g = omega arith

  -- tests that agree on the list
  pub count_same : (p q : A → Bool) (l : List A) → ((a : A) → In a l → p a ≡ q a) → count p l ≡ count q l
  count_same p q [] f = refl
  count_same p q (x ∷ l) f =
      count_more p x l
      ∙ ((λ i. one_if (f x (here refl) i) + count_same p q l (λ a j. f a (there j)) i) ∙ sym (count_more q x l))

  pub count_keep : (p q : A → Bool) (l : List A) → ((a : A) → In a l → T (p a) → T (q a)) → count p (keep q l) ≡ count p l
  count_keep p q [] f = refl
  count_keep p q (x ∷ l) f = go (q x) refl (count_keep p q l (λ a i. f a (there i))) ∙ sym (count_step p x l)
    where
      go : (b : Bool) → q x ≡ b → count p (keep q l) ≡ count p l
          → count p (cons_if b x (keep q l)) ≡ cond (p x) (suc (count p l)) (count p l)
      go true e r = count_step p x (keep q l) ∙ ap (λ (n : ℕ). cond (p x) (suc n) n) r
      go false e r = r ∙ ap (λ (b : Bool). cond b (suc (count p l)) (count p l)) (sym (t_to_false (p x) (λ t. subst T e (f x (here refl) t))))

module _ {A B : Type 0} where
  pub count_each : (p : B → Bool) (f : A → List B) (l : List A) → count p (each f l) ≡ sum (λ a. count p (f a)) l
  count_each p f [] = refl
  count_each p f (x ∷ l) = count_append p (f x) (each f l) ∙ ap (λ (n : ℕ). count p (f x) + n) (count_each p f l)

  pub count_map : (p : B → Bool) (f : A → B) (l : List A) → count p (map f l) ≡ count (λ a. p (f a)) l
  count_map p f [] = refl
  count_map p f (x ∷ l) =
      count_more p (f x) (map f l) ∙ (ap (λ (n : ℕ). one_if (p (f x)) + n) (count_map p f l) ∙ sym (count_more (λ a. p (f a)) x l))

-- two places whose members pass are one, where at most one member passes
pub one_place : {A : Type 0} (p : A → Bool) (l : List A) (d : A) (i j : ℕ) → count p l ≤ 1
    → i < length l → j < length l → T (p (get_or l i d)) → T (p (get_or l j d)) → i ≡ j
one_place p l d i j h a b s t =
    count_one (λ k. p (get_or l k d))
    (omega (arith, count_map p (λ k. get_or l k d) (range 0 (length l)), ap (count p) (along_list l d)))
    (in_run (length l) i a) (in_run (length l) j b) s t

-- ── without a repeat ──

module _ {A : Type 0} where
  pub data Unique : List A → Type 0 where
    none : Unique []
    more : {x : A} {l : List A} → (In x l → ⊥) → Unique l → Unique (x ∷ l)

  -- a sum to which one member only contributes
  pub sum_one : (f : A → ℕ) {l : List A} → Unique l → (c : A) → In c l → ((a : A) → In a l → (f a ≡ 0 → ⊥) → a ≡ c) → sum f l ≡ f c
  sum_one f {l = []} u c i h = elim i [ ]
  sum_one f {l = x ∷ l} (more n u) c (here e) h =
      let r : sum f l ≡ 0 = sum_none f l (λ a i k. n (Memᴰ.cast (sym (h a (there i) k ∙ e)) i)) in
      let q : f x ≡ f c = ap f (sym e) in
      omega arith
  sum_one f {l = x ∷ l} (more n u) c (there i) h =
      let r : sum f l ≡ f c = sum_one f u c i (λ a j. h a (there j)) in
      go (f x) refl r
    where
      go : (k : ℕ) → f x ≡ k → sum f l ≡ f c → f x + sum f l ≡ f c
      go zero e r = omega arith
      go (suc k) e r = absurd (n (Memᴰ.cast (h x (here refl) (λ z. omega arith)) i))

  -- at most one is counted, where no two different ones pass
  pub few : (p : A → Bool) {l : List A} → Unique l → ((a b : A) → In a l → In b l → T (p a) → T (p b) → a ≡ b) → count p l ≤ 1
  unfolding one_if
  few p none h = omega arith
  few p {l = x ∷ l} (more n u) h = go (p x) refl (few p u (λ a b i j. h a b (there i) (there j))) (count_more p x l)
    where
      zero_or : (k : ℕ) → count p l ≡ k → T (p x) → count p l ≡ 0
      zero_or zero e t = e
      zero_or (suc k) e t =
          let w = pick p l (λ q. omega arith) in
          absurd (n (Memᴰ.cast (h x w.0 (here refl) (there w.1) t w.2) w.1))

      go : (b : Bool) → p x ≡ b → count p l ≤ 1 → count p (x ∷ l) ≡ cond b 1 0 + count p l → count p (x ∷ l) ≤ 1
      go true e r q = omega (arith, zero_or (count p l) refl (eq_to_t e))
      go false e r q = omega arith

pub map_unique : {A B : Type 0} (f : A → B) {l : List A} → ((a b : A) → In a l → In b l → f a ≡ f b → a ≡ b) → Unique l → Unique (map f l)
map_unique f j none = none
map_unique f {l = x ∷ l} j (more n u) =
    more (λ i. n (back (map_in f l (f x) i))) (map_unique f (λ a b i k. j a b (there i) (there k)) u)
  where
    back : (a : _) × In a l × (f x ≡ f a) → In x l
    back r = Memᴰ.cast (j x r.0 (here refl) (there r.1) r.2) r.1

-- numbers that rise, and what is counted of numbers without a repeat
pub rising_unique : (b : ℕ) (l : List ℕ) → Rising b l → Unique l
rising_unique b [] r = none
rising_unique b (x ∷ l) r = more (λ (i : In x l). omega (arith, rising_ge l (suc x) x r.1 (list_in i))) (rising_unique (suc x) l r.1)

pub range_unique : (i n : ℕ) → Unique (range i n)
range_unique i zero = none
range_unique i (suc n) = more (λ (m : In i (range (suc i) n)). omega (arith, range_in (suc i) n i (list_in m))) (range_unique (suc i) n)

pub count_unique : {e : ℕ} {l : List ℕ} → Unique l → In e l → count (eqb e) l ≡ 1
count_unique {e} u i =
    omega (arith, count_some (eqb e) i (eqb_refl e), few (eqb e) u (λ a b j k s t. sym (eqb→eq e a s) ∙ eqb→eq e b t))

-- ── along a run ──

-- two numbers that are alike are one, where none is alike to an earlier one
pub by_order : (P : ℕ → ℕ → Type 0) → ((i j : ℕ) → j < i → P i j → ⊥) → ((i j : ℕ) → P i j → P j i) → (i j : ℕ) → P i j → i ≡ j
by_order P h turn i j p =
    elim (ℕ_discrete i j) [
      | yes e ↦ e
      | no n ↦ elim (dec_lt i j) [ yes l ↦ absurd (h j i l (turn i j p)) | no l ↦ absurd (h i j (omega arith) p) ]
    ]

-- at most one of a run passes, where none does after another
pub few_along : (p : ℕ → Bool) (n : ℕ) → ((i j : ℕ) → i < n → j < i → T (p i) → T (p j) → ⊥) → count p (range 0 n) ≤ 1
few_along p n h =
    few p (range_unique 0 n)
    (λ i j a b s t.
    by_order (λ i j. (i < n) × (j < n) × T (p i) × T (p j))
    (λ i j l q. h i j q.0 l q.2 q.3) (λ i j q. (q.1, q.0, q.3, q.2)) i j
    (below n i a, below n j b, s, t))

-- what a run makes has no repeat, where nothing is made again
pub along_unique : {A : Type 0} (f : ℕ → A) (n : ℕ) → ((i j : ℕ) → i < n → j < i → f j ≡ f i → ⊥) → Unique (map f (range 0 n))
along_unique f n h =
    map_unique f
    (λ i j a b e.
    by_order (λ i j. (i < n) × (j < n) × (f i ≡ f j)) (λ i j l q. h i j q.0 l (sym q.2)) (λ i j q. (q.1, q.0, sym q.2)) i j
    (below n i a, below n j b, e)) (range_unique 0 n)

-- ── two lists that match ──

-- counting by either list
exchange : {A B : Type 0} (rel : A → B → Bool) (l : List A) (us : List B)
    → sum (λ a. count (rel a) us) l ≡ sum (λ u. count (λ a. rel a u) l) us
exchange rel [] us = sym (sum_zero us)
exchange rel (x ∷ l) us =
    (λ i. count_sum (rel x) us i + exchange rel l us i)
    ∙ (sym (sum_add (λ u. one_if (rel x u)) (λ u. count (λ a. rel a u) l) us)
    ∙ sum_same (λ u. one_if (rel x u) + count (λ a. rel a u) l) (λ u. count (λ a. rel a u) (x ∷ l)) us
    (λ u. sym (count_more (λ a. rel a u) x l)))

-- where each of the first matches one of the second, and no two of the first the same, the lists are equally long exactly when
-- each of the second is matched
module _ {A B : Type 0} (rel : A → B → Bool) (l : List A) (us : List B) (one : (a : A) → In a l → count (rel a) us ≡ 1)
    (once : (u : B) → In u us → count (λ a. rel a u) l ≤ 1) where
  both_ways : length l ≡ sum (λ u. count (λ a. rel a u) l) us
  both_ways = sym (sum_ones (λ a. count (rel a) us) l one) ∙ exchange rel l us

  abbrev met : B → Bool
  met u = any (λ a. rel a u) l

  pub matched : eqb (length l) (length us) ≡ all met us
  matched =
      bool_same (eqb (length l) (length us)) (all met us)
      (λ t.
      in_all_test met us
      (λ u i.
      let c = sum_full (λ u. count (λ a. rel a u) l) once (sym both_ways ∙ eqb→eq (length l) (length us) t) i in
      let v = pick (λ a. rel a u) l (λ q. omega arith) in
      member_any (λ a. rel a u) v.1 v.2))
      (λ t.
      eqb_of
      (both_ways
      ∙ sum_ones (λ u. count (λ a. rel a u) l) us
      (λ u i.
      let v = any_member (λ a. rel a u) l (all_in met t i) in
      omega (arith, once u i, count_some (λ a. rel a u) v.1 v.2))))
