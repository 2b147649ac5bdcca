-- The edges found by rows are those of the sheet, and they change sides. Assumes nothing.
use mathlib.Core.Path.{◌≡◌, refl, sym, ap, subst, ◌∙◌}
use mathlib.Core.Bool.{Bool, true, false, cond, xor}
use mathlib.Core.List.{List, [], ◌∷◌, ◌++◌}
use Prim.Native.Nat.{ℕ, zero, suc, ◌+◌, ◌*◌, ◌≤◌, ◌<◌}
use native.Mathlib.Omega.{arith}
use native.Mathlib.Nat.{zero-add, mul-add, mul_assoc}
use lib.Dec.{T, eqb}
use lib.ListN.{length, get_or}
use Rattle.lists.specs.Lists.{range, cons_if, keep, each, is_in, rank, over, cleared, Beyond}
use Rattle.lists.proofs.Member.{t_to_eq, any_each, any_in}
use Rattle.lists.proofs.Every.{All, all_in, all_weak}
use Rattle.lists.proofs.Rising.{Rising}
use Rattle.lists.proofs.Runs.{range_join, keep_append, each_more}
use Rattle.paper.specs.declared.Place.{Place}
use Rattle.paper.specs.declared.Rule.{Rule}
use Rattle.paper.specs.Lattice.{Lattice, samples, sample_no, air_at, cubes, visited}
use Rattle.paper.specs.Sheet.{tetrahedra, anchor_of, kind_in, first_end, second_end, split}
use Rattle.paper.specs.Sheet.{cube_edges, vertex_edges, vertex_record, sheet_of, vertex_words}
use Rattle.paper.specs.Room.{needed_slots}
use Rattle.paper.specs.Within.{Sized, SampleIn}
use Rattle.paper.proofs.Edges.{Joined, cube_edges_join}
use Rattle.paper.proofs.Listing.{parts, tetrahedra_sound, edges_exactly, edges_rising, edges_lt, sheet_edges_lt, visits_lt, vertex_words_law}
use Rattle.crossing.specs.Vertex.{Crosses}
use Rattle.bits.specs.Words.{bit, word}
use Rattle.bits.proofs.Bits.{bit_word}
use Rattle.rows.specs.Rows.{HasRows, HasCubes}
use Rattle.kinds.specs.Kinds.{is_edge, sides_around, cubes_around, kinds_by}
use Rattle.kinds.proofs.KindRows.{sides_around_law, cubes_around_law}
use Rattle.kinds.proofs.Vertices.{row_edge_law}
use Rattle.dots.specs.Dots.{edge_at, edges_at, anchor_edges, row_edges, edges_of, layer_edges, edges_by, numbered, Crossed}
use Rattle.dots.specs.Slots.{slots_of}
use Rattle.dots.proofs.Slots.{numbered_at, numbered_beyond, numbered_slots}

-- ── what is kept of a run, part by part ──

-- n parts of w numbers each, from b on
run_kept : (p : ℕ → Bool) (f : ℕ → List ℕ) (b w n : ℕ) → ((x : ℕ) → x < n → f x ≡ keep p (range (b + w * x) w))
    → each f (range 0 n) ≡ keep p (range b (w * n))
run_kept p f b w zero h = let e : 0 ≡ w * 0 = omega arith in ap (λ (k : ℕ). keep p (range b k)) e
run_kept p f b w (suc n) h =
    let s : suc n ≡ n + 1 = omega arith in
    let e : w * n + w ≡ w * suc n = omega arith in
    let r : each f (range 0 n) ≡ keep p (range b (w * n)) = run_kept p f b w n (λ x l. h x (omega arith)) in
    let l : f n ≡ keep p (range (b + w * n) w) = h n (omega arith) in
    ap (λ (k : ℕ). each f (range 0 k)) s
    ∙ (each_more f n
    ∙ ((λ i. r i ++ l i)
    ∙ (sym (keep_append p (range b (w * n)) (range (b + w * n) w))
    ∙ (ap (keep p) (sym (range_join b (w * n) w)) ∙ ap (λ (k : ℕ). keep p (range b k)) e))))

-- the edges of an anchor are those of its seven that pass
anchor_kept : (p : ℕ → Bool) (ks base : ℕ) → ((j : ℕ) → j < 7 → bit ks j ≡ p (base + j)) → edges_at ks base 7 ≡ keep p (range base 7)
unfolding edges_at edge_at
anchor_kept p ks base h = run_kept p (edge_at ks base) base 1 7 one
  where
    go : (c : Bool) (e : ℕ) → cond c (e ∷ []) [] ≡ cons_if c e []
    go true e = refl
    go false e = refl

    one : (x : ℕ) → x < 7 → cond (bit ks x) ((base + x) ∷ []) [] ≡ keep p (range (base + 1 * x) 1)
    one x l =
        let e : base + x ≡ base + 1 * x = omega arith in
        go (bit ks x) (base + x) ∙ ((λ i. cons_if (h x l i) (base + x) []) ∙ ap (λ (n : ℕ). cons_if (p n) n []) e)

-- ── the edges of a lattice ──

module _ (L : Lattice) (s : Sized L.size) (start : ℕ) (rows vis : List ℕ) (sides : HasRows L rows)
    (visits : HasCubes L.size (visited L start) vis) where
  abbrev nx : ℕ
  nx = L.size.nx

  abbrev ny : ℕ
  ny = L.size.ny

  abbrev nz : ℕ
  nz = L.size.nz

  abbrev marked : ℕ → Bool
  marked = is_in (each (cube_edges L) (visited L start))

  -- of a row
  row_kept : (y z : ℕ) → y < ny → z < nz → edges_of L.size rows vis y z ≡ keep marked (range (7 * (nx * (y + ny * z))) (7 * nx))
  unfolding edges_of row_edges anchor_edges kinds_by sample_no
  row_kept y z hy hz =
      let f = sides_around L.size rows y z in
      let v = cubes_around L.size vis y z in
      let k = kinds_by L.size rows vis y z in
      let row = 7 * (nx * (y + ny * z)) in
      run_kept marked (anchor_edges k row) row 7 nx
      (λ x hx.
      anchor_kept marked (word (λ j. is_edge k (7 * x + j)) 7) (row + 7 * x)
      (λ j hj.
      let e : 7 * (0 + nx * (y + ny * z)) + (7 * x + j) ≡ row + 7 * x + j = omega arith in
      bit_word (λ j. is_edge k (7 * x + j)) 7 j hj
      ∙ (row_edge_law L s (visited L start) (visits_lt L start) y z hy hz f v (sides_around_law L rows y z sides hy hz)
      (cubes_around_law L.size (visited L start) vis y z visits hy hz) (7 * x + j) (omega arith)
      ∙ ap marked e)))

  -- of a layer
  layer_kept : (z : ℕ) → z < nz → layer_edges L.size rows vis z ≡ keep marked (range (7 * (nx * (ny * z))) (7 * nx * ny))
  unfolding layer_edges
  layer_kept z hz =
      run_kept marked (λ y. edges_of L.size rows vis y z) (7 * (nx * (ny * z))) (7 * nx) ny
      (λ y hy.
      let e : 7 * (nx * (y + ny * z)) ≡ 7 * (nx * (ny * z)) + 7 * nx * y = omega (arith, mul-add nx y (ny * z), mul_assoc 7 nx y) in
      row_kept y z hy hz ∙ ap (λ (b : ℕ). keep marked (range b (7 * nx))) e)

  all_kept : edges_by L.size rows vis ≡ keep marked (range 0 (7 * samples L.size))
  unfolding edges_by samples
  all_kept =
      let e : 7 * nx * ny * nz ≡ 7 * (nx * (ny * nz)) = mul_assoc (7 * nx) ny nz ∙ mul_assoc 7 nx (ny * nz) in
      run_kept marked (layer_edges L.size rows vis) 0 (7 * nx * ny) nz
      (λ z hz.
      let e : 7 * (nx * (ny * z)) ≡ 0 + 7 * nx * ny * z = omega (arith, mul_assoc (7 * nx) ny z, mul_assoc 7 nx (ny * z)) in
      layer_kept z hz ∙ ap (λ (b : ℕ). keep marked (range b (7 * nx * ny))) e)
      ∙ ap (λ (n : ℕ). keep marked (range 0 n)) e

  -- they are those of the visited cubes, and so the sheet's
  edges_listed : edges_by L.size rows vis ≡ vertex_edges tetrahedra L (visited L start)
  unfolding vertex_edges
  edges_listed = all_kept

  pub edges_by_law : (rule : Rule) → edges_by L.size rows vis ≡ (sheet_of rule L start).edges
  edges_by_law rule = edges_listed ∙ sym (parts rule L start).edges

  -- ── each changes sides ──

  crosses_at : (n : ℕ) (u v : Place) → Joined L.size n u v → SampleIn L.size u → SampleIn L.size v
      → T (xor (air_at L u) (air_at L v)) → Crosses L (anchor_of L.size n) (kind_in n)
  unfolding first_end second_end split
  crosses_at n u v j hu hv x = record {
    kind = omega arith;
    first = subst (SampleIn L.size) (sym j.first) hu;
    second = subst (SampleIn L.size) (sym j.second) hv;
    sides = (λ i. xor (air_at L (j.first i)) (air_at L (j.second i))) ∙ t_to_eq (xor (air_at L u) (air_at L v)) x;
  }

  pub edges_crossed : Crossed L (edges_by L.size rows vis)
  edges_crossed = record {
    at = λ e t.
        let vs = visited L start in
        let u : T (marked e) =
        subst T (ap (λ (es : List ℕ). is_in es e) edges_listed
        ∙ edges_exactly tetrahedra L tetrahedra_sound s (visited L start) (visits_lt L start) e) t in
        let a = any_in (λ c. is_in (cube_edges L c) e) vs (subst T (any_each (eqb e) (cube_edges L) vs) u) in
        let c = a.0 in
        let hc = all_in (λ k. k < cubes L.size) vs (visits_lt L start) c a.1.0 in
        all_in (λ n. Crosses L (anchor_of L.size n) (kind_in n)) (cube_edges L c)
        (cube_edges_join L s c hc (λ n. Crosses L (anchor_of L.size n) (kind_in n)) crosses_at) e a.1.1;
  }

  -- ── what is drawn of them ──

  -- their records are the sheet's vertices
  pub records_are : (rule : Rule) → each (vertex_record rule L) (edges_by L.size rows vis) ≡ vertex_words (sheet_of rule L start)
  records_are rule = ap (each (vertex_record rule L)) (edges_by_law rule) ∙ sym (vertex_words_law rule L start)

  rising : (rule : Rule) → Rising 0 (sheet_of rule L start).edges
  rising rule = subst (Rising 0) (sym (parts rule L start).edges) (edges_rising tetrahedra L (visited L start))

  -- the slots of their edges, numbered from 0, have their ranks
  pub slots_rank : (rule : Rule) (slots : List ℕ) → needed_slots L.size ≤ length slots → (e : ℕ)
      → T (is_in (sheet_of rule L start).edges e)
      → get_or (numbered 0 (edges_by L.size rows vis) slots) e 0 ≡ rank (sheet_of rule L start).edges e
  slots_rank rule slots h e t =
      let es = (sheet_of rule L start).edges in
      ap (λ (es : List ℕ). get_or (numbered 0 es slots) e 0) (edges_by_law rule)
      ∙ (numbered_at 0 0 es slots e (rising rule)
      (all_weak (λ e. e < needed_slots L.size) (λ e. e < length slots) (λ e l. omega arith) es (sheet_edges_lt rule L start)) t
      ∙ zero-add (rank es e))

  -- cleared and then numbered from 1 on, they have one more
  pub slots_used : (rule : Rule) (slots : List ℕ) → needed_slots L.size ≤ length slots
      → numbered 1 (edges_by L.size rows vis) (cleared (needed_slots L.size) slots)
      ≡ over (slots_of L.size (sheet_of rule L start).edges) slots
  slots_used rule slots h =
      ap (λ (es : List ℕ). numbered 1 es (cleared (needed_slots L.size) slots)) (edges_by_law rule)
      ∙ numbered_slots L.size (sheet_of rule L start).edges slots (rising rule) (sheet_edges_lt rule L start) h

  -- past the needed ones nothing changes
  pub slots_beyond : (at : ℕ) (slots : List ℕ) → Beyond (needed_slots L.size) slots (numbered at (edges_by L.size rows vis) slots)
  slots_beyond at slots =
      numbered_beyond (needed_slots L.size) at (edges_by L.size rows vis) slots
      (subst (All (λ e. e < needed_slots L.size)) (sym edges_listed) (edges_lt tetrahedra L (visited L start)))
