-- How rows of samples are made: by parts, and row by row. Assumes nothing.
use mathlib.Core.Path.{◌≡◌, refl, sym, ap, ap₂, ◌∙◌}
use mathlib.Core.Bool.{Bool, true, false}
use mathlib.Core.List.{List, ◌∷◌, ◌++◌, map}
use Prim.Native.Nat.{ℕ, suc, ◌+◌, ◌-◌, ◌*◌, ◌/◌, ◌%◌, ◌^◌, ◌≤◌, ◌<◌}
use native.Mathlib.Omega.{arith}
use native.Mathlib.Nat.{lt_of_lt_of_le, add-zero, mul-add, mul-le-mul_left}
use native.Mathlib.Numerals.{add-one}
use lib.IntN.{ℤ, pos, negsuc}
use lib.ListN.{length, get_or, set, drop}
use lib.Arith.{digits_lt}
use lib.Pow.{pow_mono}
use lib.Seq.{drop-cons, set_at, append_snoc, get_or-append-add, get_or-drop}
use Rattle.lists.specs.Lists.{range, over}
use Rattle.lists.proofs.Runs.{length_along, along_snoc}
use Rattle.lists.proofs.Member.{eq_to_t}
use Rattle.paper.specs.declared.Sizes.{Sizes}
use Rattle.paper.specs.Lattice.{air, is_fill}
use Rattle.paper.specs.Sheet.{weight}
use Rattle.bits.specs.Words.{word}
use Rattle.bits.proofs.Bits.{word_lt, word_ext, word_join}
use Rattle.rows.specs.Rows.{pass_from, sides_from, fills_from, codes_from, quad_at}

-- ── one row ──

-- the samples that pass a test
module _ (t : ℤ → Bool) (s : List ℤ) where
  pub pass_lt : (i n : ℕ) → pass_from t s i n < 2 ^ n
  unfolding pass_from
  pass_lt i n = word_lt _ n

  pass_none : (i : ℕ) → pass_from t s i 0 ≡ 0
  unfolding pass_from word
  pass_none i = refl

  pass_one : (i : ℕ) → weight (t (get_or s i (pos 0))) 1 ≡ pass_from t s i 1
  unfolding pass_from word
  pass_one i = ap (λ (k : ℕ). weight (t (get_or s k (pos 0))) 1) (sym (add-zero i)) ∙ omega arith

  -- the first m samples, and the n behind them
  pass_join : (i m n : ℕ) → pass_from t s i (m + n) ≡ pass_from t s i m + 2 ^ m * pass_from t s (i + m) n
  unfolding pass_from
  pass_join i m n =
      word_join (λ x. t (get_or s (i + x) (pos 0))) m n
      ∙ ap (λ (w : ℕ). word (λ x. t (get_or s (i + x) (pos 0))) m + 2 ^ m * w)
      (word_ext (λ x. t (get_or s (i + (m + x)) (pos 0))) (λ x. t (get_or s (i + m + x) (pos 0))) n
      (λ x l. ap (λ (k : ℕ). t (get_or s k (pos 0))) (omega arith)))

  pass_four : (i : ℕ)
      → pass_from t s i 4 ≡ pass_from t s i 1 + 2 * pass_from t s (i + 1) 1 + 4 * pass_from t s (i + 2) 1 + 8 * pass_from t s (i + 3) 1
  pass_four i =
      let a : i + 1 + 1 ≡ i + 2 = omega arith in
      let b : i + 2 + 1 ≡ i + 3 = omega arith in
      omega (
        arith,
        pass_join i 1 3,
        pass_join (i + 1) 1 2,
        ap (λ (k : ℕ). pass_from t s k 2) a,
        pass_join (i + 2) 1 1,
        ap (λ (k : ℕ). pass_from t s k 1) b,
      )

  -- a row of n is made from its end: w has those from k on
  pub record From (i n k w : ℕ) : Type 0 where
    pub upto : k ≤ n
    pub is : w ≡ pass_from t s (i + k) (n - k)

  pub row_none : (i n : ℕ) → From i n n 0
  row_none i n = record {
    upto = omega arith;
    is = let e : 0 ≡ n - n = omega arith in sym (pass_none (i + n)) ∙ ap (pass_from t s (i + n)) e;
  }

  pub row_all : (i n k w : ℕ) → From i n k w → k ≡ 0 → w ≡ pass_from t s i n
  row_all i n k w f e =
      let a : i + k ≡ i = omega arith in
      let b : n - k ≡ n = omega arith in
      f.is ∙ (λ j. pass_from t s (a j) (b j))

  module _ (i n k w : ℕ) (f : From i n k w) where
    row_is : (j m r : ℕ) → j + m ≡ k → r ≡ pass_from t s (i + j) m → 2 ^ m * w + r ≡ pass_from t s (i + j) (n - j)
    row_is j m r q h =
        let a : n - j ≡ m + (n - k) = omega (arith, f.upto) in
        let b : i + j + m ≡ i + k = omega arith in
        let p : 2 ^ m * w ≡ 2 ^ m * pass_from t s (i + j + m) (n - k) = ap (λ (v : ℕ). 2 ^ m * v)
        (f.is ∙ ap (λ (v : ℕ). pass_from t s v (n - k)) (sym b)) in
        sym (ap (pass_from t s (i + j)) a ∙ (pass_join (i + j) m (n - k) ∙ omega arith))

    -- with the m samples before
    pub row_more : (j m r : ℕ) → j + m ≡ k → r ≡ pass_from t s (i + j) m → From i n j (2 ^ m * w + r)
    row_more j m r q h = record { upto = omega (arith, f.upto); is = row_is j m r q h }

    -- so far it has at most as many bits as are left
    pub row_fits : (m : ℕ) → n - k ≤ m → w < 2 ^ m
    row_fits m h = lt_of_lt_of_le (omega (arith, f.is, pass_lt (i + k) (n - k))) (pow_mono h)

-- air is not the fill
pub air_no_fill : (v : ℤ) → air v ≡ true → is_fill v ≡ false
unfolding air is_fill
air_no_fill (pos n) e = refl
air_no_fill (negsuc n) e = absurd (eq_to_t e)

-- both tests: sides in the low byte, the fill in the next
module _ (s : List ℤ) (i : ℕ) where
  pub codes_one : weight (air (get_or s i (pos 0))) 1 + 256 * weight (is_fill (get_or s i (pos 0))) 1 ≡ codes_from s i 1
  unfolding codes_from
  codes_one = ap₂ (λ (a b : ℕ). a + 256 * b) (pass_one air s i) (pass_one is_fill s i)

  pub codes_four : codes_from s i 4 ≡ codes_from s i 1 + 2 * codes_from s (i + 1) 1 + 4 * codes_from s (i + 2) 1 + 8 * codes_from s (i + 3) 1
  unfolding codes_from
  codes_four = omega (arith, pass_four air s i, pass_four is_fill s i)

  pub codes_eight : codes_from s i 8 ≡ codes_from s i 4 + 16 * codes_from s (i + 4) 4
  unfolding codes_from
  codes_eight = omega (arith, pass_join air s i 4 4, pass_join is_fill s i 4 4)

  -- of at most eight samples
  pub codes_low : (m : ℕ) → m ≤ 8 → codes_from s i m % 256 ≡ sides_from s i m
  unfolding codes_from
  codes_low m h = let l : sides_from s i m < 256 = lt_of_lt_of_le (pass_lt air s i m) (pow_mono h) in omega arith

  pub codes_high : (m : ℕ) → m ≤ 8 → codes_from s i m / 256 ≡ fills_from s i m
  unfolding codes_from
  codes_high m h = let l : sides_from s i m < 256 = lt_of_lt_of_le (pass_lt air s i m) (pow_mono h) in omega arith

-- ── all rows ──

-- the first n of a list's entries are f's
abbrev pub front : (ℕ → ℕ) → ℕ → List ℕ → List ℕ
front f n l = map f (range 0 n) ++ drop n l

-- n rows are made, of which r stand
pub record Standing (f : ℕ → ℕ) (n r : ℕ) (rows₀ rows : List ℕ) : Type 0 where
  pub upto : r ≤ n
  pub same_length : length rows ≡ length rows₀
  pub made : rows ≡ front f r rows₀

pub front_more : (f : ℕ → ℕ) (n v : ℕ) (l : List ℕ) → n < length l → v ≡ f n → set (front f n l) n v ≡ front f (n + 1) l
front_more f n v l h e =
    let p = map f (range 0 n) in
    ap (λ (m : List ℕ). set (p ++ m) n v) (drop-cons l n 0 h)
    ∙ (set_at p (get_or l n 0) (drop (suc n) l) v n (length_along f 0 n)
    ∙ (ap (λ (v : ℕ). p ++ v ∷ drop (suc n) l) e
    ∙ (sym (append_snoc p (f n) (drop (suc n) l))
    ∙ ((λ i. sym (along_snoc f n) i ++ drop (suc n) l) ∙ ap (λ (k : ℕ). front f k l) (sym (add-one n))))))

pub front_all : (f : ℕ → ℕ) (n k : ℕ) (l : List ℕ) → k ≡ n → front f k l ≡ over (map f (range 0 n)) l
front_all f n k l e =
    ap (λ (k : ℕ). front f k l) e ∙ ap (λ (k : ℕ). map f (range 0 n) ++ drop k l) (sym (length_along f 0 n))

-- what stands past it is as it was
pub front_rest : (f : ℕ → ℕ) (n j : ℕ) (l : List ℕ) → n ≤ j → get_or (front f n l) j 0 ≡ get_or l j 0
front_rest f n j l h =
    let p = map f (range 0 n) in
    let e : j ≡ length p + (j - n) = omega (arith, length_along f 0 n) in
    let d : n + (j - n) ≡ j = omega arith in
    ap (λ (k : ℕ). get_or (front f n l) k 0) e
    ∙ get_or-append-add p (drop n l) (j - n) 0
    ∙ get_or-drop n l (j - n) 0
    ∙ ap (λ (k : ℕ). get_or l k 0) d

pub quad_rest : (f : ℕ → ℕ) (n ny : ℕ) (l : List ℕ) → quad_at (front f n l) ny n ≡ quad_at l ny n
unfolding quad_at
quad_rest f n ny l =
    let a = front_rest f n n l (omega arith) in
    let b = front_rest f n (n + 1) l (omega arith) in
    let c = front_rest f n (n + ny) l (omega arith) in
    let d = front_rest f n (n + ny + 1) l (omega arith) in
    λ i. record { a = a i; b = b i; c = c i; d = d i }

-- row r of a lattice is within its samples
pub row_within : (w n r : ℕ) → r < n → w * r + w ≤ w * n
row_within w n r h = omega (arith, mul-le-mul_left w h, mul-add w r 1)

-- the row at y and z is one of ny · nz
pub row_lt : (z : Sizes) → (y w : ℕ) → y < z.ny → w < z.nz → y + z.ny * w < z.ny * z.nz
row_lt z y w hy hw = omega (arith, digits_lt hw hy)
