-- The steps of a pattern, one behind the other, and where the table has them. Assumes nothing.
use mathlib.Core.Path.{◌≡◌, refl, sym, ap, subst, ◌∙◌}
use mathlib.Core.List.{List, [], ◌∷◌, ◌++◌, map, map-map}
use Prim.Native.Nat.{ℕ, zero, suc, ◌+◌, ◌-◌, ◌*◌, ◌/◌, ◌%◌, ◌≤◌, ◌<◌}
use native.Mathlib.Omega.{arith}
use native.Mathlib.Nat.{zero-add}
use native.Mathlib.Decide.{dec_lt}
use native.Mathlib.Numerals.{add-one}
use lib.ListN.{length, get_or, set, length-set, length-append}
use lib.Seq.{sets, length-sets, get_or-set_same, get_or-set_other}
use Rattle.lists.specs.Lists.{range, each}
use Rattle.lists.proofs.Every.{All, all_map, all_each, each_length, each_same, in_all}
use Rattle.lists.proofs.Member.{range_in}
use Rattle.lists.proofs.Runs.{along_list, along_snoc, length_along, each_more}
use Rattle.lists.proofs.Within.{each_each, map_each}
use Rattle.paper.specs.declared.Sizes.{Sizes}
use Rattle.paper.specs.Lattice.{Lattice, sample_no, cube_at}
use Rattle.paper.specs.Within.{Sized}
use Rattle.paper.specs.Tables.{Tri, tri, rows}
use Rattle.paper.specs.Sheet.{cube_triangles, corners3}
use Rattle.tetra.specs.declared.Cut.{Cut}
use Rattle.tetra.specs.Cut.{tet_step, row_by, row_count, row_edge, row_steps, row_triangles, triangles_by}
use Rattle.tetra.proofs.Tables.{count_le, edge_six}
use Rattle.tetra.proofs.Laws.{row_step_at, tet_step_small, cube_triangles_by}
use Rattle.sides.specs.Pattern.{bit_of, pattern_at}
use Rattle.patterns.specs.Table.{steps_from, pattern_from, steps_by, Small, Tabled}

-- ── the steps of a row ──

pub from_length : (s : List ℕ) (t r : ℕ) → length (steps_from s t r) ≡ 3 * row_count r
unfolding steps_from
from_length s t r = length_along (λ i. get_or s (96 * t + (6 * r + i)) 0) 0 (3 * row_count r)

pub from_le : (s : List ℕ) (t r : ℕ) → length (steps_from s t r) ≤ 6
from_le s t r = omega (arith, from_length s t r, count_le r)

-- the first i of them, and one more
pub steps_upto : List ℕ → ℕ → ℕ → ℕ → List ℕ
steps_upto s t r i = map (λ i. get_or s (96 * t + (6 * r + i)) 0) (range 0 i)

pub upto_length : (s : List ℕ) (t r i : ℕ) → length (steps_upto s t r i) ≡ i
unfolding steps_upto
upto_length s t r i = length_along (λ i. get_or s (96 * t + (6 * r + i)) 0) 0 i

pub upto_none : (s : List ℕ) (t r : ℕ) → [] ≡ steps_upto s t r 0
unfolding steps_upto
upto_none s t r = refl

pub upto_more : (s : List ℕ) (t r i : ℕ) → steps_upto s t r i ++ (get_or s (96 * t + (6 * r + i)) 0 ∷ []) ≡ steps_upto s t r (i + 1)
unfolding steps_upto
upto_more s t r i =
    let f : ℕ → ℕ = λ i. get_or s (96 * t + (6 * r + i)) 0 in sym (ap (λ (k : ℕ). map f (range 0 k)) (add-one i) ∙ along_snoc f i)

pub upto_all : (s : List ℕ) (t r i : ℕ) → i ≡ 3 * row_count r → steps_upto s t r i ≡ steps_from s t r
unfolding steps_upto steps_from
upto_all s t r i e = ap (λ (k : ℕ). map (λ i. get_or s (96 * t + (6 * r + i)) 0) (range 0 k)) e

-- i of them are stored
pub record Storing (s : List ℕ) (t r at n i : ℕ) (table₀ table : List ℕ) : Type 0 where
  pub upto : i ≤ n
  pub stored : table ≡ sets table₀ at (steps_upto s t r i)

-- ── the steps of a pattern ──

module _ (s : List ℕ) (m : ℕ) where
  -- those of the first t tetrahedra
  pub steps_to : ℕ → List ℕ
  steps_to t = each (λ t. steps_from s t (row_by m t)) (range 0 t)

  pub to_none : [] ≡ steps_to 0
  unfolding steps_to
  to_none = refl

  pub to_more : (t : ℕ) → steps_to t ++ steps_from s t (row_by m t) ≡ steps_to (t + 1)
  unfolding steps_to
  to_more t = sym (each_more (λ t. steps_from s t (row_by m t)) t)

  pub to_all : steps_to 6 ≡ pattern_from s m
  unfolding steps_to pattern_from
  to_all = refl

  pub to_le : (t : ℕ) → length (steps_to t) ≤ 6 * t
  to_le zero = omega (arith, ap length to_none)
  to_le (suc t) =
      let e : suc t ≡ t + 1 = omega arith in
      omega (
        arith,
        to_le t,
        ap (λ (k : ℕ). length (steps_to k)) e,
        ap length (to_more t),
        length-append (steps_to t) (steps_from s t (row_by m t)),
        from_le s t (row_by m t),
      )

-- a pattern's steps are stored up to tetrahedron t
pub record Written (s : List ℕ) (m at t next : ℕ) (table₀ table : List ℕ) : Type 0 where
  pub upto : t ≤ 6
  pub written : table ≡ sets table₀ at (steps_to s m t)
  pub next_is : next ≡ at + length (steps_to s m t)

-- ── what they are ──

-- entries that agree
pub along_same : (f g : ℕ → ℕ) (i n : ℕ) → ((k : ℕ) → k < i + n → f k ≡ g k) → map f (range i n) ≡ map g (range i n)
along_same f g i zero h = refl
along_same f g i (suc n) h = λ j. h i (omega arith) j ∷ along_same f g (suc i) n (λ k l. h k (omega arith)) j

corners_map : (s : ℕ → ℕ) (l : List Tri)
    → map (λ e. s (e - 1)) (each corners3 l) ≡ each corners3 (map (λ g. tri (0 + s (g.a - 1)) (0 + s (g.b - 1)) (0 + s (g.c - 1))) l)
corners_map s [] = refl
corners_map s (g ∷ l) =
    λ i. sym (zero-add (s (g.a - 1))) i ∷ sym (zero-add (s (g.b - 1))) i ∷ sym (zero-add (s (g.c - 1))) i ∷ corners_map s l i

row_is : (z : Sizes) (t r : ℕ) → t < 6 → r < 16 → steps_from (row_steps z) t r ≡ each corners3 (row_triangles z 0 t r)
unfolding steps_from row_triangles row_edge row_count
row_is z t r ht hr =
    let l = each corners3 (get_or rows r []) in
    let f : ℕ → ℕ = λ e. tet_step z t (e - 1) in
    let n : length l ≡ 3 * length (get_or rows r []) = each_length corners3 3 (λ t. refl) (get_or rows r []) in
    along_same (λ i. get_or (row_steps z) (96 * t + (6 * r + i)) 0) (λ i. f (get_or l i 0)) 0 (3 * row_count r)
    (λ i h. row_step_at z t r i ht hr (omega (arith, count_le r)))
    ∙ (ap (λ (k : ℕ). map (λ i. f (get_or l i 0)) (range 0 k)) (sym n)
    ∙ (sym (map-map f (λ i. get_or l i 0) (range 0 (length l))) ∙ (ap (map f) (along_list l 0) ∙ corners_map (tet_step z t) (get_or rows r []))))

row_small : (m t : ℕ) → row_by m t < 16
unfolding row_by bit_of
row_small m t = omega arith

pub pattern_is : (z : Sizes) (m : ℕ) → pattern_from (row_steps z) m ≡ steps_by z m
unfolding pattern_from steps_by triangles_by
pattern_is z m =
    each_same (λ t. steps_from (row_steps z) t (row_by m t)) (λ t. each corners3 (row_triangles z 0 t (row_by m t))) (range 0 6)
    (in_all _ (range 0 6) (λ t i. row_is z t (row_by m t) (omega (arith, range_in 0 6 t i)) (row_small m t)))
    ∙ sym (each_each corners3 (λ t. row_triangles z 0 t (row_by m t)) (range 0 6))

pub pattern_le : (s : List ℕ) (m : ℕ) → length (pattern_from s m) ≤ 36
pattern_le s m = omega (arith, ap length (to_all s m), to_le s m 6)

pub steps_few : (z : Sizes) (m : ℕ) → length (steps_by z m) ≤ 36
steps_few z m = omega (arith, ap length (pattern_is z m), pattern_le (row_steps z) m)

-- what holds of the steps of all tetrahedra's edges holds of a pattern's
module _ (z : Sizes) (P : ℕ → Type 0) (h : (t j : ℕ) → t < 6 → j < 6 → P (tet_step z t j)) where
  row_all : (t r : ℕ) → t < 6 → r < 16 → All P (steps_from (row_steps z) t r)
  unfolding steps_from
  row_all t r ht hr =
      all_map P (λ i. get_or (row_steps z) (96 * t + (6 * r + i)) 0) (range 0 (3 * row_count r))
      (in_all _ (range 0 (3 * row_count r))
      (λ i k.
      let six : i < 6 = omega (arith, range_in 0 (3 * row_count r) i k, count_le r) in
      subst P (sym (row_step_at z t r i ht hr six)) (h t (row_edge r i) ht (edge_six r i hr six))))

  pub steps_all : (m : ℕ) → All P (steps_by z m)
  unfolding pattern_from
  steps_all m =
      subst (All P) (pattern_is z m)
      (all_each P (λ t. steps_from (row_steps z) t (row_by m t)) (range 0 6)
      (in_all _ (range 0 6) (λ t i. row_all t (row_by m t) (omega (arith, range_in 0 6 t i)) (row_small m t))))

-- and they are small
pub steps_small : (z : Sizes) → Sized z → Small (row_steps z)
steps_small z s = record {
  below = λ i h.
      let t = i / 96 in
      let r = i % 96 / 6 in
      let j = i % 6 in
      let e : 96 * t + (6 * r + j) ≡ i = omega arith in
      let hr : r < 16 = omega arith in
      let q = row_step_at z t r j (omega arith) hr (omega arith) in
      omega (
        arith,
        ap (λ (k : ℕ). get_or (row_steps z) k 0) e,
        q,
        tet_step_small z s t (row_edge r j) (omega arith)
            (edge_six r j hr (omega arith)),
      );
}

pub cut_small : (c : Cut) → Small c.steps
cut_small c = subst Small (sym c.stepped) (steps_small c.sizes c.sized)

-- ── entries that are stored, and others ──

sets_low : (xs l : List ℕ) (at j : ℕ) → j < at → get_or (sets l at xs) j 0 ≡ get_or l j 0
sets_low [] l at j h = refl
sets_low (x ∷ xs) l at j h =
    sets_low xs (set l at x) (suc at) j (omega arith) ∙ get_or-set_other l at j x 0 (λ e. absurd (omega arith))

sets_in : (xs l : List ℕ) (at i : ℕ) → i < length xs → at + length xs ≤ length l → get_or (sets l at xs) (at + i) 0 ≡ get_or xs i 0
sets_in [] l at i h g = absurd (omega arith)
sets_in (x ∷ xs) l at zero h g =
    let e : at + 0 ≡ at = omega arith in
    ap (λ (k : ℕ). get_or (sets (set l at x) (suc at) xs) k 0) e
    ∙ (sets_low xs (set l at x) (suc at) at (omega arith) ∙ get_or-set_same l at x 0 (omega arith))
sets_in (x ∷ xs) l at (suc i) h g =
    let e : at + suc i ≡ suc at + i = omega arith in
    ap (λ (k : ℕ). get_or (sets (set l at x) (suc at) xs) k 0) e
    ∙ sets_in xs (set l at x) (suc at) i (omega arith) (omega (arith, length-set l at x))

-- one more pattern
module _ (f : ℕ → List ℕ) (le : (m : ℕ) → length (f m) ≤ 36) (m : ℕ) (table counts : List ℕ) (T : Tabled f m table counts)
    (h : m < 256) where
  fits : 36 * m + length (f m) ≤ length table
  fits = omega (arith, le m, T.table_fit)

  pub tabled_more : (end : ℕ) → end ≡ 36 * m + length (f m) → Tabled f (m + 1) (sets table (36 * m) (f m)) (set counts m (end - 36 * m))
  tabled_more end e = record {
    table_fit = omega (arith, length-sets table (36 * m) (f m), T.table_fit);
    counts_fit = omega (arith, length-set counts m (end - 36 * m), T.counts_fit);
    count = λ k l. count_at k l (dec_lt k m);
    at = λ k i l g. entry_at k i l g (dec_lt k m);
  }
    where
      count_at : (k : ℕ) → k < m + 1 → Dec (k < m) → get_or (set counts m (end - 36 * m)) k 0 ≡ length (f k)
      count_at k l (yes b) = get_or-set_other counts m k (end - 36 * m) 0 (λ q. absurd (omega arith)) ∙ T.count k b
      count_at k l (no b) =
          let q : k ≡ m = omega arith in
          ap (λ (j : ℕ). get_or (set counts m (end - 36 * m)) j 0) q
          ∙ (get_or-set_same counts m (end - 36 * m) 0 (omega (arith, T.counts_fit)) ∙ (omega arith ∙ ap (λ (j : ℕ). length (f j)) (sym q)))

      entry_at : (k i : ℕ) → k < m + 1 → i < length (f k) → Dec (k < m) → get_or (sets table (36 * m) (f m)) (36 * k + i) 0 ≡ get_or (f k) i 0
      entry_at k i l g (yes b) = sets_low (f m) table (36 * m) (36 * k + i) (omega (arith, le k)) ∙ T.at k i b g
      entry_at k i l g (no b) =
          let q : k ≡ m = omega arith in
          ap (λ (j : ℕ). get_or (sets table (36 * m) (f m)) (36 * j + i) 0) q
          ∙ (sets_in (f m) table (36 * m) i (omega (arith, ap (λ (j : ℕ). length (f j)) q)) fits ∙ ap (λ (j : ℕ). get_or (f j) i 0) (sym q))

-- m patterns stand in the table
pub record Filling (s : List ℕ) (m : ℕ) (table counts : List ℕ) : Type 0 where
  pub upto : m ≤ 256
  pub tabled : Tabled (pattern_from s) m table counts

pub filling_none : (s table counts : List ℕ) → 9216 ≤ length table → 256 ≤ length counts → Filling s 0 table counts
filling_none s table counts a b = record {
  upto = omega arith;
  tabled = record { table_fit = a; counts_fit = b; count = λ k l. absurd (omega arith); at = λ k i l g. absurd (omega arith) };
}

pub filling_more : (s : List ℕ) (m end : ℕ) (table counts : List ℕ) → Filling s m table counts → m < 256
    → end ≡ 36 * m + length (pattern_from s m)
    → Filling s (m + 1) (sets table (36 * m) (pattern_from s m)) (set counts m (end - 36 * m))
filling_more s m end table counts F h e = record {
  upto = omega arith;
  tabled = tabled_more (pattern_from s) (pattern_le s) m table counts F.tabled h end e;
}

-- ── a cube of the lattice ──

corners_shift : (s : ℕ → ℕ) (base : ℕ) (l : List Tri)
    → each corners3 (map (λ g. tri (base + s (g.a - 1)) (base + s (g.b - 1)) (base + s (g.c - 1))) l)
    ≡ map (λ e. base + e) (each corners3 (map (λ g. tri (0 + s (g.a - 1)) (0 + s (g.b - 1)) (0 + s (g.c - 1))) l))
corners_shift s base [] = refl
corners_shift s base (g ∷ l) =
    let e : (n : ℕ) → base + n ≡ base + (0 + n) = λ n. omega arith in
    λ i. e (s (g.a - 1)) i ∷ e (s (g.b - 1)) i ∷ e (s (g.c - 1)) i ∷ corners_shift s base l i

-- the steps lead from 7 × the number of a cube's lowest sample to the edges of its triangles
steps_lead : (z : Sizes) (base m : ℕ) → each corners3 (triangles_by z base m) ≡ map (λ e. base + e) (steps_by z m)
unfolding triangles_by steps_by row_triangles
steps_lead z base m =
    let r : ℕ → ℕ → List Tri = λ b t. row_triangles z b t (row_by m t) in
    let ts = range 0 6 in
    each_each corners3 (r base) ts
    ∙ (each_same (λ t. each corners3 (r base t)) (λ t. map (λ e. base + e) (each corners3 (r 0 t))) ts
    (in_all _ ts (λ t i. corners_shift (tet_step z t) base (get_or rows (row_by m t) [])))
    ∙ (sym (map_each (λ e. base + e) (λ t. each corners3 (r 0 t)) ts) ∙ ap (map (λ e. base + e)) (sym (each_each corners3 (r 0) ts))))

-- so the table has the triangles of each cube of the lattice, by its pattern
pub cube_steps : (L : Lattice) (k : ℕ)
    → let p = cube_at L.size k in
    map (λ e. 7 * sample_no L.size p + e) (steps_by L.size (pattern_at L p)) ≡ each corners3 (cube_triangles L k)
cube_steps L k =
    let p = cube_at L.size k in
    sym (steps_lead L.size (7 * sample_no L.size p) (pattern_at L p)) ∙ ap (each corners3) (cube_triangles_by L k)
