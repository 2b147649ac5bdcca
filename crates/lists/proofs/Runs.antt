-- What a loop over rising numbers makes: runs, those kept, the first, ranks. Assumes nothing.
use mathlib.Core.Path.{◌≡◌, refl, sym, ap, subst, ◌∙◌}
use mathlib.Core.Logic.{◌⊎◌, inl, inr}
use mathlib.Core.Bool.{Bool, true, false, cond, ◌||◌, or-false}
use mathlib.Core.List.{List, [], ◌∷◌, ◌++◌, map, append_assoc, append-nil, map-append}
use Prim.Native.Nat.{ℕ, zero, suc, ◌+◌, ◌-◌, ◌*◌, ◌≤◌, ◌<◌}
use native.Mathlib.Omega.{arith}
use native.Mathlib.Nat.{add-zero, zero-add}
use native.Mathlib.Numerals.{add-one}
use lib.Dec.{T, eqb, ltb, eqb→eq}
use lib.ListN.{length, get_or, drop, length-append, get_or-append}
use lib.Seq.{ext_get_or}
use lib.Arith.{lt_of_le-ne}
use borrow.Author.Tests.{lt-ltb, le-ltb, eqb-true, eqb-false}
use Rattle.lists.specs.Lists.{range, cons_if, keep, any, each, is_in, first, rank, over}
use Rattle.lists.proofs.Member.{or_cases, any_append}
use Rattle.lists.proofs.Rising.{Rising, keep_rising}

range_snoc : (i n : ℕ) → range i (suc n) ≡ range i n ++ ((i + n) ∷ [])
range_snoc i zero = ap (λ (k : ℕ). k ∷ []) (sym (add-zero i))
range_snoc i (suc n) = ap (λ (l : List ℕ). i ∷ l) (range_snoc (suc i) n ∙ ap (λ (k : ℕ). range (suc i) n ++ k ∷ []) (omega arith))

pub range_more : (n : ℕ) → range 0 (suc n) ≡ range 0 n ++ (n ∷ [])
range_more n = range_snoc 0 n ∙ ap (λ (k : ℕ). range 0 n ++ k ∷ []) (zero-add n)

pub range_join : (a m n : ℕ) → range a (m + n) ≡ range a m ++ range (a + m) n
range_join a zero n = (λ i. range (sym (add-zero a) i) (zero-add n i))
range_join a (suc m) n =
    let e : suc m + n ≡ suc (m + n) = omega arith in
    let f : suc a + m ≡ a + suc m = omega arith in
    ap (range a) e ∙ ap (λ (l : List ℕ). a ∷ l) (range_join (suc a) m n ∙ ap (λ (b : ℕ). range (suc a) m ++ range b n) f)

-- n runs of w numbers, from run i on
pub range_rows : (w i n : ℕ) → range (w * i) (w * n) ≡ each (λ k. range (w * k) w) (range i n)
range_rows w i zero = let e : w * 0 ≡ 0 = omega arith in ap (range (w * i)) e
range_rows w i (suc n) =
    let e : w * suc n ≡ w + w * n = omega arith in
    let q : w * i + w ≡ w * suc i = omega arith in
    ap (range (w * i)) e
    ∙ (range_join (w * i) w (w * n)
    ∙ ap (λ (l : List ℕ). range (w * i) w ++ l) (ap (λ (a : ℕ). range a (w * n)) q ∙ range_rows w (suc i) n))

module _ {A : Type 0} (p : A → Bool) where
  pub keep_append : (l m : List A) → keep p (l ++ m) ≡ keep p l ++ keep p m
  keep_append [] m = refl
  keep_append (x ∷ xs) m = go (p x) (keep_append xs m)
    where
      go : (b : Bool) → keep p (xs ++ m) ≡ keep p xs ++ keep p m → cons_if b x (keep p (xs ++ m)) ≡ cons_if b x (keep p xs) ++ keep p m
      go true e = ap (λ (l : List A). x ∷ l) e
      go false e = e

-- one number more
-- where none passes, nothing is kept
pub keep_none : {A : Type 0} (p : A → Bool) (l : List A) → any p l ≡ false → keep p l ≡ []
keep_none p [] e = refl
keep_none p (x ∷ l) e = go (p x) e (λ q. keep_none p l q)
  where
    go : (b : Bool) → (b || any p l) ≡ false → (any p l ≡ false → keep p l ≡ []) → cons_if b x (keep p l) ≡ []
    go true e r = absurd (subst T e tt)
    go false e r = r e

pub keep_snoc : (p : ℕ → Bool) (n : ℕ) → keep p (range 0 (suc n)) ≡ keep p (range 0 n) ++ cons_if (p n) n []
keep_snoc p n = ap (keep p) (range_more n) ∙ keep_append p (range 0 n) (n ∷ [])

pub any_snoc : (p : ℕ → Bool) (n : ℕ) → any p (range 0 (suc n)) ≡ (any p (range 0 n) || p n)
any_snoc p n =
    ap (any p) (range_more n) ∙ (any_append p (range 0 n) (n ∷ []) ∙ ap (λ (b : Bool). any p (range 0 n) || b) (or-false (p n)))

module _ {A B : Type 0} (f : A → List B) where
  pub each_append : (l m : List A) → each f (l ++ m) ≡ each f l ++ each f m
  each_append [] m = refl
  each_append (x ∷ xs) m = ap (λ (l : List B). f x ++ l) (each_append xs m) ∙ sym (append_assoc (f x) (each f xs) (each f m))

-- one more of a run
pub keep_each : {A B : Type 0} (p : B → Bool) (f : A → List B) (l : List A) → keep p (each f l) ≡ each (λ x. keep p (f x)) l
keep_each p f [] = refl
keep_each p f (x ∷ xs) = keep_append p (f x) (each f xs) ∙ ap (λ (m : List _). keep p (f x) ++ m) (keep_each p f xs)

pub each_more : {A : Type 0} (f : ℕ → List A) (k : ℕ) → each f (range 0 (k + 1)) ≡ each f (range 0 k) ++ f k
each_more f k =
    ap (λ (n : ℕ). each f (range 0 n)) (add-one k)
    ∙ (ap (each f) (range_more k)
    ∙ (each_append f (range 0 k) (k ∷ []) ∙ ap (λ (l : List _). each f (range 0 k) ++ l) (append-nil (f k))))

-- a longer run makes no less
pub each_prefix : {A : Type 0} (f : ℕ → List A) (m n : ℕ) → m ≤ n → length (each f (range 0 m)) ≤ length (each f (range 0 n))
each_prefix f m n h =
    let r = range 0 m in
    let s = range (0 + m) (n - m) in
    let e : m + (n - m) ≡ n = omega arith in
    omega (
      arith,
      ap (λ (k : ℕ). length (each f (range 0 k))) e,
      ap (λ (l : List ℕ). length (each f l)) (range_join 0 m (n - m)),
      ap length (each_append f r s),
      length-append (each f r) (each f s),
    )

-- the first that passes
pub first_none : (p : ℕ → Bool) (d i n : ℕ) → ((k : ℕ) → i ≤ k → k < i + n → p k ≡ false) → first p d (range i n) ≡ d
first_none p d i zero h = refl
first_none p d i (suc n) h =
    ap (λ (b : Bool). cond b i (first p d (range (suc i) n))) (h i (omega arith) (omega arith))
    ∙ first_none p d (suc i) n (λ k a b. h k (omega arith) (omega arith))

pub first_at : (p : ℕ → Bool) (d i n m : ℕ) → i ≤ m → m < i + n
    → ((k : ℕ) → i ≤ k → k < m → p k ≡ false) → p m ≡ true → first p d (range i n) ≡ m
first_at p d i zero m a b h t = absurd (omega arith)
first_at p d i (suc n) m a b h t =
    go (eqb m i) refl (λ g. first_at p d (suc i) n m g (omega arith) (λ k a' b'. h k (omega arith) b') t)
  where
    go : (c : Bool) → eqb m i ≡ c → (suc i ≤ m → first p d (range (suc i) n) ≡ m) → cond (p i) i (first p d (range (suc i) n)) ≡ m
    go true e f =
        ap (λ (b : Bool). cond b i (first p d (range (suc i) n))) (ap p (sym (eqb-true m i e)) ∙ t) ∙ sym (eqb-true m i e)
    go false e f =
        let l : i < m = lt_of_le-ne a (λ q. eqb-false m i e (sym q)) in
        ap (λ (b : Bool). cond b i (first p d (range (suc i) n))) (h i (omega arith) l) ∙ f l

-- it lies below what the run and the default lie below
pub first_lt : (p : ℕ → Bool) (d i n m : ℕ) → d < m → i + n ≤ m → first p d (range i n) < m
first_lt p d i zero m h g = h
first_lt p d i (suc n) m h g = go (p i) (first_lt p d (suc i) n m h (omega arith))
  where
    go : (b : Bool) → first p d (range (suc i) n) < m → cond b i (first p d (range (suc i) n)) < m
    go true f = omega arith
    go false f = f

-- ranks: of what is kept of the numbers below n, the number of those below e is what is kept of the numbers below e
none_below : (l : List ℕ) (b e : ℕ) → e ≤ b → Rising b l → keep (λ k. ltb k e) l ≡ []
none_below [] b e h r = refl
none_below (x ∷ xs) b e h r =
    ap (λ (c : Bool). cons_if c x (keep (λ k. ltb k e) xs)) (le-ltb x e (omega arith)) ∙ none_below xs (suc x) e (omega arith) r.1

keep_upto : (p : ℕ → Bool) (i n m : ℕ) → m ≤ n → keep (λ k. ltb k (i + m)) (keep p (range i n)) ≡ keep p (range i m)
keep_upto p i n zero h = none_below (keep p (range i n)) i (i + zero) (omega arith) (keep_rising p i n)
keep_upto p i zero (suc m) h = absurd (omega arith)
keep_upto p i (suc n) (suc m) h =
    go (p i) (ap (λ (e : ℕ). keep (λ k. ltb k e) (keep p (range (suc i) n))) (omega arith) ∙ keep_upto p (suc i) n m (omega arith))
  where
    go : (b : Bool) → keep (λ k. ltb k (i + suc m)) (keep p (range (suc i) n)) ≡ keep p (range (suc i) m)
        → keep (λ k. ltb k (i + suc m)) (cons_if b i (keep p (range (suc i) n))) ≡ cons_if b i (keep p (range (suc i) m))
    go true e =
        ap (λ (c : Bool). cons_if c i (keep (λ k. ltb k (i + suc m)) (keep p (range (suc i) n)))) (lt-ltb i (i + suc m) (omega arith))
        ∙ ap (λ (l : List ℕ). i ∷ l) e
    go false e = e

pub rank_kept : (p : ℕ → Bool) (n e : ℕ) → e ≤ n → rank (keep p (range 0 n)) e ≡ length (keep p (range 0 e))
rank_kept p n e h =
    ap length (ap (λ (k : ℕ). keep (λ m. ltb m k) (keep p (range 0 n))) (sym (zero-add e)) ∙ keep_upto p 0 n e h)

-- a function along a run
module _ {A : Type 0} (f : ℕ → A) where
  pub length_along : (i n : ℕ) → length (map f (range i n)) ≡ n
  length_along i zero = refl
  length_along i (suc n) = ap suc (length_along (suc i) n)

  at_from : (d : A) (i n j : ℕ) → j < n → get_or (map f (range i n)) j d ≡ f (i + j)
  at_from d i zero j h = absurd (omega arith)
  at_from d i (suc n) zero h = ap f (sym (add-zero i))
  at_from d i (suc n) (suc j) h = at_from d (suc i) n j (omega arith) ∙ ap f (omega arith)

  pub at_along : (d : A) (n j : ℕ) → j < n → get_or (map f (range 0 n)) j d ≡ f j
  at_along d n j h = at_from d 0 n j h ∙ ap f (zero-add j)

  pub along_snoc : (n : ℕ) → map f (range 0 (suc n)) ≡ map f (range 0 n) ++ (f n ∷ [])
  along_snoc n = ap (map f) (range_more n) ∙ map-append f (range 0 n) (n ∷ [])

  -- written over the front of a list
  pub over_along : (d : A) (n : ℕ) (old : List A) (j : ℕ) → j < n → get_or (over (map f (range 0 n)) old) j d ≡ f j
  over_along d n old j h =
      get_or-append (map f (range 0 n)) (drop (length (map f (range 0 n))) old) d j (omega (arith, length_along 0 n)) ∙ at_along d n j h

-- a list along its places
pub along_list : {A : Type 0} (l : List A) (d : A) → map (λ i. get_or l i d) (range 0 (length l)) ≡ l
along_list l d =
    ext_get_or d (map (λ i. get_or l i d) (range 0 (length l))) l (length_along (λ i. get_or l i d) 0 (length l))
    (λ i h. at_along (λ i. get_or l i d) d (length l) i (omega (arith, length_along (λ i. get_or l i d) 0 (length l))))

-- in a rising list, a number's rank is its place
pub rising_ge : (l : List ℕ) (b e : ℕ) → Rising b l → T (is_in l e) → b ≤ e
rising_ge [] b e r t = absurd t
rising_ge (x ∷ xs) b e r t =
    elim (or_cases (eqb e x) (is_in xs e) t)
    [ inl q ↦ omega (arith, eqb→eq e x q, r.0) | inr q ↦ omega (arith, r.0, rising_ge xs (suc x) e r.1 q) ]

pub rank_place : (l : List ℕ) (b d e : ℕ) → Rising b l → T (is_in l e) → get_or l (rank l e) d ≡ e
rank_place [] b d e r t = absurd t
rank_place (x ∷ xs) b d e r t = go (or_cases (eqb e x) (is_in xs e) t) (λ q. rank_place xs (suc x) d e r.1 q)
  where
    at_head : (c : Bool) → ltb x e ≡ c → get_or (x ∷ xs) (length (cons_if (ltb x e) x (keep (λ m. ltb m e) xs))) d
        ≡ get_or (x ∷ xs) (length (cons_if c x (keep (λ m. ltb m e) xs))) d
    at_head c q = ap (λ (b' : Bool). get_or (x ∷ xs) (length (cons_if b' x (keep (λ m. ltb m e) xs))) d) q

    go : T (eqb e x) ⊎ T (is_in xs e) → (T (is_in xs e) → get_or xs (rank xs e) d ≡ e) → get_or (x ∷ xs) (rank (x ∷ xs) e) d ≡ e
    go (inl q) f =
        at_head false (le-ltb x e (omega (arith, eqb→eq e x q)))
        ∙ (ap (λ (l : List ℕ). get_or (x ∷ xs) (length l) d) (none_below xs (suc x) e (omega (arith, eqb→eq e x q)) r.1)
        ∙ sym (eqb→eq e x q))
    go (inr q) f = at_head true (lt-ltb x e (rising_ge xs (suc x) e r.1 q)) ∙ f q

-- a function along a list, at a place of it
pub get_d_map_lt : {A B : Type 0} (f : A → B) (l : List A) (j : ℕ) (d : B) (e : A) → j < length l → get_or (map f l) j d ≡ f (get_or l j e)
get_d_map_lt f [] j d e h = absurd (omega arith)
get_d_map_lt f (x ∷ xs) zero d e h = refl
get_d_map_lt f (x ∷ xs) (suc j) d e h = get_d_map_lt f xs j d e (omega arith)

-- something passes where the first that passes is one of the run
pub any_first : (p : ℕ → Bool) (n : ℕ) → any p (range 0 n) ≡ ltb (first p n (range 0 n)) n
any_first p n = go 0 n (omega arith)
  where
    go : (i m : ℕ) → i + m ≡ n → any p (range i m) ≡ ltb (first p n (range i m)) n
    go i zero e = sym (le-ltb n n (omega arith))
    go i (suc m) e = by (p i) (go (suc i) m (omega arith))
      where
        by : (b : Bool) → any p (range (suc i) m) ≡ ltb (first p n (range (suc i) m)) n
            → (b || any p (range (suc i) m)) ≡ ltb (cond b i (first p n (range (suc i) m))) n
        by true q = sym (lt-ltb i n (omega arith))
        by false q = q
