-- The numbers of triangles one behind the other: of a cube, of a row, of a layer. Assumes nothing.
use mathlib.Core.Path.{◌≡◌, refl, sym, ap, subst, ◌∙◌}
use mathlib.Core.Bool.{Bool, true, false, cond}
use mathlib.Core.List.{List, [], ◌∷◌, ◌++◌, map}
use Prim.Native.Nat.{ℕ, zero, suc, ◌+◌, ◌-◌, ◌*◌, ◌≤◌, ◌<◌}
use native.Mathlib.Omega.{arith}
use native.Mathlib.Numerals.{add-one}
use lib.ListN.{length, get_or, length-append}
use lib.Seq.{sets, length-sets}
use Rattle.lists.specs.Lists.{range, each}
use Rattle.lists.proofs.Every.{all_at}
use Rattle.lists.proofs.Runs.{along_snoc, length_along, each_more, each_prefix}
use Rattle.lists.proofs.Stores.{sets_next}
use Rattle.paper.specs.declared.Sizes.{Sizes}
use Rattle.paper.specs.declared.Place.{Place}
use Rattle.paper.specs.Lattice.{place, samples, sample_no, corner}
use Rattle.paper.specs.Tables.{low}
use Rattle.paper.specs.Within.{CubeIn}
use Rattle.paper.proofs.Numbers.{sample_lt, corner_inside}
use Rattle.paper.proofs.Tables.{kind_lt}
use Rattle.lattice.proofs.Laws.{corner_no}
use Rattle.tetra.specs.Cut.{tet_ends, edge_step, tet_step}
use Rattle.tetra.proofs.Tables.{low_lt}
use Rattle.patterns.specs.Table.{steps_by, Tabled}
use Rattle.patterns.proofs.Laws.{steps_few, steps_all}
use Rattle.bits.specs.Words.{bit}
use Rattle.bits.proofs.Bits.{bit_of_0, side_le}
use Rattle.rows.specs.declared.Quad.{Quad}
use Rattle.rows.specs.Rows.{pairs, pattern_in}
use Rattle.tiles.specs.Tiles.{Source, size_of, edge_in, tile_of, tile_at, row_tiles, Reaching, RowReaching}

-- ── a cube ──

module _ (S : Source) (m base : ℕ) where
  -- the first i numbers
  pub tile_upto : ℕ → List ℕ
  tile_upto i = map (λ i. get_or S.slots (edge_in S m base i) 0) (range 0 i)

  pub upto_length : (i : ℕ) → length (tile_upto i) ≡ i
  unfolding tile_upto
  upto_length i = length_along (λ i. get_or S.slots (edge_in S m base i) 0) 0 i

  pub upto_none : [] ≡ tile_upto 0
  unfolding tile_upto
  upto_none = refl

  pub upto_more : (i : ℕ) → tile_upto i ++ (get_or S.slots (edge_in S m base i) 0 ∷ []) ≡ tile_upto (i + 1)
  unfolding tile_upto
  upto_more i =
      let f : ℕ → ℕ = λ i. get_or S.slots (edge_in S m base i) 0 in sym (ap (λ (k : ℕ). map f (range 0 k)) (add-one i) ∙ along_snoc f i)

  pub upto_all : tile_upto (size_of S m) ≡ tile_of S m base
  unfolding tile_upto tile_of
  upto_all = refl

  pub tile_length : length (tile_of S m base) ≡ size_of S m
  tile_length = ap length (sym upto_all) ∙ upto_length (size_of S m)

-- i numbers are stored
pub record Storing (S : Source) (m base at n i : ℕ) (out₀ out : List ℕ) : Type 0 where
  pub upto : i ≤ n
  pub stored : out ≡ sets out₀ at (tile_upto S m base i)

-- ── a place of a row ──

pub place_on : (S : Source) (q : Quad) (v base x : ℕ) → bit v x ≡ true → tile_at S q v base x ≡ tile_of S (pattern_in q x) (base + 7 * x)
unfolding tile_at
place_on S q v base x e = ap (λ (b : Bool). cond b (tile_of S (pattern_in q x) (base + 7 * x)) []) e

pub place_off : (S : Source) (q : Quad) (v base x : ℕ) → bit v x ≡ false → tile_at S q v base x ≡ []
unfolding tile_at
place_off S q v base x e = ap (λ (b : Bool). cond b (tile_of S (pattern_in q x) (base + 7 * x)) []) e

-- ── things one behind the other ──

-- f 0 to f (k - 1), of n such things, are stored from `at` on, and next is the next place
pub record Laid (f : ℕ → List ℕ) (at n k next : ℕ) (out₀ out : List ℕ) : Type 0 where
  pub upto : k ≤ n
  pub written : out ≡ sets out₀ at (each f (range 0 k))
  pub next_is : next ≡ at + length (each f (range 0 k))

pub laid_none : (f : ℕ → List ℕ) (at n : ℕ) (out : List ℕ) → Laid f at n 0 at out out
laid_none f at n out = record { upto = omega arith; written = refl; next_is = omega arith }

module _ (f : ℕ → List ℕ) (at n k next : ℕ) (out₀ out : List ℕ) (l : Laid f at n k next out₀ out) where
  pub laid_long : length out ≡ length out₀
  laid_long = ap length l.written ∙ length-sets out₀ at (each f (range 0 k))

  -- the next fits where all do
  pub laid_fit : k < n → at + length (each f (range 0 n)) ≤ length out₀ → next + length (f k) ≤ length out
  laid_fit h room =
      omega (
        arith,
        l.next_is,
        laid_long,
        ap length (each_more f k),
        length-append (each f (range 0 k)) (f k),
        each_prefix f (k + 1) n (omega arith),
      )

  pub laid_more : (next' : ℕ) (out' : List ℕ) → k < n → out' ≡ sets out next (f k) → next' ≡ next + length (f k)
      → Laid f at n (k + 1) next' out₀ out'
  laid_more next' out' h e g = record {
    upto = omega arith;
    written =
        sets_next out₀ at next (each f (range 0 k)) (f k) (sym l.next_is) l.written e ∙ ap (sets out₀ at) (sym (each_more f k));
    next_is = omega (arith, l.next_is, ap length (each_more f k), length-append (each f (range 0 k)) (f k));
  }

  pub laid_all : n ≤ k → (out ≡ sets out₀ at (each f (range 0 n))) × (next ≡ at + length (each f (range 0 n)))
  laid_all h =
      let q : k ≡ n = omega (arith, l.upto) in
      let e = ap (λ (k : ℕ). each f (range 0 k)) q in
      (l.written ∙ ap (sets out₀ at) e, l.next_is ∙ ap (λ (ts : List ℕ). at + length ts) e)

-- ── a row ──

-- a row without a cube has no numbers
pub row_empty : (S : Source) (q : Quad) (v base n : ℕ) → v ≡ 0 → row_tiles S q v base n ≡ []
unfolding row_tiles
row_empty S q v base n e = go 0 n
  where
    go : (i n : ℕ) → each (tile_at S q v base) (range i n) ≡ []
    go i zero = refl
    go i (suc n) =
        ap (λ (l : List ℕ). l ++ each (tile_at S q v base) (range (suc i) n))
        (place_off S q v base i (ap (λ (v : ℕ). bit v i) e ∙ bit_of_0 i))
        ∙ go (suc i) n

-- ── the edges of a cube of the lattice have slots ──

-- the pattern of a cube of any row
pub pattern_lt : (q : Quad) (x : ℕ) → pattern_in q x < 256
unfolding pattern_in pairs
pattern_lt q x =
    omega (
      arith,
      side_le (bit q.a x),
      side_le (bit q.a (x + 1)),
      side_le (bit q.b x),
      side_le (bit q.b (x + 1)),
      side_le (bit q.c x),
      side_le (bit q.c (x + 1)),
      side_le (bit q.d x),
      side_le (bit q.d (x + 1)),
    )

step_lt : (z : Sizes) (p : Place) → CubeIn z p → (t j : ℕ) → t < 6 → j < 6 → 7 * sample_no z p + tet_step z t j < 7 * samples z
unfolding tet_step edge_step
step_lt z p h t j ht hj =
    let c = low (tet_ends t j) in
    omega (
      arith,
      corner_no z p c,
      sample_lt z (corner p c) (corner_inside z p h c (low_lt t j ht hj)),
      kind_lt (tet_ends t j),
    )

module _ (z : Sizes) (S : Source) (T : Tabled (steps_by z) 256 S.table S.counts) (long : ℕ) (room : 7 * samples z ≤ long) where
  cube_reaching : (p : Place) → CubeIn z p → (m : ℕ) → m < 256 → Reaching S long m (7 * sample_no z p)
  cube_reaching p h m l = record {
    few = omega (arith, T.count m l, steps_few z m);
    below = λ i k.
        let g : i < length (steps_by z m) = omega (arith, T.count m l) in
        omega (
          arith,
          T.at m i l g,
          all_at (λ e. 7 * sample_no z p + e < 7 * samples z) (steps_by z m) 0
              (steps_all z (λ e. 7 * sample_no z p + e < 7 * samples z) (step_lt z p h) m) i g,
        );
  }

  -- so have those of a row
  pub row_reaching : (q : Quad) (v y w : ℕ) → y + 1 < z.ny → w + 1 < z.nz
      → RowReaching S q v (7 * (z.nx * (y + z.ny * w))) (z.nx - 1) long
  unfolding sample_no
  row_reaching q v y w hy hw = record {
    cube = λ x l t.
        let e : 7 * (x + z.nx * (y + z.ny * w)) ≡ 7 * (z.nx * (y + z.ny * w)) + 7 * x = omega arith in
        subst (Reaching S long (pattern_in q x)) e
        (cube_reaching (place x y w) (record { x = omega arith; y = hy; z = hw }) (pattern_in q x) (pattern_lt q x));
  }
