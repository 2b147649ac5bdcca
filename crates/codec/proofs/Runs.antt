-- What loops make that store numbers of one width one after another, or read them, and that each undoes the other. Assumes nothing.
use mathlib.Core.Path.{◌≡◌, sym, ap, ◌∙◌}
use mathlib.Core.List.{List, [], ◌∷◌, ◌++◌, map, append_assoc, append-nil}
use Prim.Native.Nat.{ℕ, zero, suc, ◌+◌, ◌*◌, ◌<◌, ◌≤◌}
use native.Mathlib.Omega.{arith}
use native.Mathlib.Numerals.{add-one}
use lib.ListN.{length, get_or, take, drop, set}
use borrow.Rule.Slice.PartMut.{put_mid}
use lib.Seq.{sets, sets-eq, drop-length, take-length, take-suc, length-take-le, take-add, take_at, drop_at, drop-drop, drop-append-add, ext_get_or}
use Rattle.lists.specs.Lists.{range, each}
use Rattle.lists.specs.Bytes.{unle, field}
use Rattle.lists.proofs.Every.{each_length}
use Rattle.lists.proofs.Runs.{each_append, length_along, at_along, along_snoc}
use Rattle.lists.proofs.Stores.{sets_join, sets_front}

-- what a part of a list holds that is written over by b
pub put_sets : {A : Type 0} (at k : ℕ) (l b c : List A) → c ≡ b → k ≡ length b → at + length b ≤ length l → put_mid at k l c ≡ sets l at b
put_sets at k l b c p e h = rw (p, e, drop-drop, sets-eq b l at h, append_assoc)

-- one thing more is read
pub get_more : {A : Type 0} (v : List A) (h : ℕ → A) (j : ℕ)
    → set (sets v 0 (map h (range 0 j))) j (h j) ≡ sets v 0 (map h (range 0 (j + 1)))
get_more v h j =
    let e : 0 + length (map h (range 0 j)) ≡ j = omega (arith, length_along h 0 j) in
    let m : map h (range 0 (j + 1)) ≡ map h (range 0 j) ++ (h j ∷ []) = ap (λ (k : ℕ). map h (range 0 k)) (add-one j) ∙ along_snoc h j in
    rw m (ap (λ (k : ℕ). set (sets v 0 (map h (range 0 j))) k (h j)) (sym e) ∙ sets_join v (map h (range 0 j)) (h j ∷ []) 0)

-- all are read
pub get_whole : {A : Type 0} (v : List A) (h : ℕ → A) (j : ℕ) → j ≡ length v → sets v 0 (map h (range 0 j)) ≡ map h (range 0 (length v))
get_whole v h j e =
    let n : length (map h (range 0 j)) ≡ length v = length_along h 0 j ∙ e in
    sets_front v (map h (range 0 j)) (omega arith)
    ∙ (rw (n, drop-length v, append-nil) (ap (λ (k : ℕ). map h (range 0 k)) e))

-- all are written
pub put_whole : {A : Type 0} (f : A → List ℕ) (out : List ℕ) (at : ℕ) (v : List A) (j : ℕ) → j ≡ length v
    → sets out at (each f (take j v)) ≡ sets out at (each f v)
put_whole f out at v j e = rw (e, take-length v)

-- the thing that the k bytes give which stand i widths after a place
abbrev pub word_at : {A : Type 0} → (ℕ → A) → ℕ → List ℕ → ℕ → ℕ → A
word_at g k bs at i = g (field k bs (at + k * i))

module _ {A : Type 0} (f : A → List ℕ) (k : ℕ) (wide : (a : A) → length (f a) ≡ k) where
  -- one thing more is written
  pub put_more : (out : List ℕ) (at : ℕ) (v : List A) (d : A) (j : ℕ) → j < length v
      → sets (sets out at (each f (take j v))) (at + k * j) (f (get_or v j d)) ≡ sets out at (each f (take (j + 1) v))
  put_more out at v d j h =
      let n : length (take j v) ≡ j = length-take-le j v (omega arith) in
      let e : k * j ≡ length (each f (take j v)) = ap (λ (i : ℕ). k * i) (sym n) ∙ sym (each_length f k wide (take j v)) in
      let m : each f (take (j + 1) v) ≡ each f (take j v) ++ f (get_or v j d) = rw (add-one, take-suc v j d, each_append, append-nil) in
      rw (e, sets_join, m)

  pub put_next : {l₁ l₂ : List ℕ} (out : List ℕ) (at : ℕ) (v : List A) (j : ℕ) (x : A) → j < length v → x ≡ get_or v j x
      → l₁ ≡ sets out at (each f (take j v)) → l₂ ≡ sets l₁ (at + k * j) (f x) → l₂ ≡ sets out at (each f (take (j + 1) v))
  put_next out at v j x h e p q =
      q ∙ rw p (ap (λ (y : A). sets (sets out at (each f (take j v))) (at + k * j) (f y)) e ∙ put_more out at v x j h)

  -- the bytes of the thing at i
  pub each_at : (xs : List A) (q : List ℕ) (d : A) (i : ℕ) → i < length xs → take k (drop (k * i) (each f xs ++ q)) ≡ f (get_or xs i d)
  each_at [] q d i h = absurd (omega arith)
  each_at (x ∷ xs) q d zero h =
      let e : k * 0 ≡ 0 = omega arith in
      rw (e, append_assoc) (take_at (f x) (each f xs ++ q) k (wide x))
  each_at (x ∷ xs) q d (suc i) h =
      let e : k * suc i ≡ k + k * i = omega arith in
      rw (e, append_assoc, ← drop-drop, drop_at (f x) (each f xs ++ q) k (wide x)) (each_at xs q d i (omega arith))

  -- things that their bytes give back are read where they were written
  pub read_back : (g : ℕ → A) (d : A) (xs : List A) (p q : List ℕ)
      → ((i : ℕ) → i < length xs → g (unle (f (get_or xs i d))) ≡ get_or xs i d)
      → map (word_at g k (p ++ (each f xs ++ q)) (length p)) (range 0 (length xs)) ≡ xs
  unfolding field
  read_back g d xs p q back =
      let h = word_at g k (p ++ (each f xs ++ q)) (length p) in
      ext_get_or d (map h (range 0 (length xs))) xs (length_along h 0 (length xs))
      (λ i l.
      let less : i < length xs = omega (arith, length_along h 0 (length xs)) in
      at_along h d (length xs) i less
      ∙ (ap (λ (l : List ℕ). g (unle (take k l))) (drop-append-add p (each f xs ++ q) (k * i))
      ∙ (ap (λ (l : List ℕ). g (unle l)) (each_at xs q d i less) ∙ back i less)))

module _ {A : Type 0} (f : A → List ℕ) (k : ℕ) (h : ℕ → A) (bs : List ℕ) (at : ℕ) where
  -- things whose bytes are the parts of a list, one after another
  pub each_parts : (n : ℕ) → ((i : ℕ) → i < n → f (h i) ≡ take k (drop (at + k * i) bs))
      → each f (map h (range 0 n)) ≡ take (k * n) (drop at bs)
  each_parts zero same =
      let e : k * 0 ≡ 0 = omega arith in
      rw e
  each_parts (suc n) same =
      let e : k * suc n ≡ k * n + k = omega arith in
      let m : map h (range 0 (suc n)) ≡ map h (range 0 n) ++ (h n ∷ []) = along_snoc h n in
      ap (each f) m
      ∙ rw (each_append, append-nil, each_parts n (λ i l. same i (omega arith)), same n (omega arith), e, take-add, drop-drop)
