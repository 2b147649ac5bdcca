-- The edges of the anchors of a row: where there is none, where they stand, that they change sides. Assumes nothing.
use mathlib.Core.Path.{◌≡◌, refl, sym, ap, subst, ◌∙◌}
use mathlib.Core.Bool.{Bool, true, false, cond, xor, ◌&&◌, ◌||◌, and-false}
use mathlib.Core.List.{List, [], ◌∷◌, ◌++◌}
use Prim.Native.Nat.{ℕ, zero, suc, ◌+◌, ◌*◌, ◌/◌, ◌%◌, ◌≤◌, ◌<◌}
use native.Mathlib.Omega.{arith}
use lib.Bits.{bit_or}
use Rattle.std.specs.List.{fold}
use lib.Dec.{T, eqb, eqb_refl}
use lib.ListN.{length, get_or}
use Rattle.lists.specs.Lists.{range, any, each, is_in}
use Rattle.lists.proofs.Member.{t_to_eq, or_left, any_each, in_any, in_range, range_in}
use Rattle.lists.proofs.Every.{All, in_all, each_le}
use Rattle.lists.proofs.Closure.{length_range}
use Rattle.paper.specs.declared.Sizes.{Sizes}
use Rattle.paper.specs.declared.Place.{Place}
use Rattle.paper.specs.Lattice.{Lattice, sample_no, sample_at}
use Rattle.paper.specs.Sheet.{anchor_of, kind_in, ends_of}
use Rattle.paper.specs.Room.{needed_slots}
use Rattle.paper.specs.Within.{Sized, SampleIn}
use Rattle.paper.proofs.Numbers.{sample_lt, sample_place}
use Rattle.crossing.specs.Vertex.{Crosses}
use Rattle.bits.specs.Words.{bit, word, lowered}
use Rattle.bits.proofs.Bits.{bit_of_0, word_ext}
use Rattle.rows.specs.declared.Quad.{Quad}
use Rattle.rows.specs.Rows.{four, either_of, corner_bit}
use Rattle.kinds.specs.declared.KindWords.{KindWords}
use Rattle.kinds.specs.Kinds.{anchors, cube_bit, kind_bit, kinds_of, seven, any_of, is_edge, sides_around, cubes_around, kinds_by}
use Rattle.kinds.proofs.Anchors.{edge_in, both_off}
use Rattle.kinds.proofs.Vertices.{edge_bit}
use Rattle.dots.specs.Dots.{edge_at, edges_at, anchor_edges, row_edges, edges_of, layer_edges, edges_by, Crossing, Crossed, Roomy}
use Rattle.dots.proofs.Laws.{kind_on}

-- ── anchors without a vertex ──

pub edges_none : (base : ℕ) → [] ≡ edges_at 0 base 7
unfolding edges_at edge_at bit
edges_none base = refl

-- a word without kinds
pub anchor_empty : (k : KindWords) (row x : ℕ) → word (λ j. is_edge k (7 * x + j)) 7 ≡ 0 → [] ≡ anchor_edges k row x
unfolding anchor_edges
anchor_empty k row x e = edges_none (row + 7 * x) ∙ ap (λ (ks : ℕ). edges_at ks (row + 7 * x) 7) (sym e)

-- a word that joins words has no place that they have not
joined_off : (l : List ℕ) (a x : ℕ) → bit (fold bit_or a l) x ≡ false → (bit a x ≡ false) × ((j : ℕ) → bit (get_or l j 0) x ≡ false)
joined_off [] a x e = (e, λ j. bit_of_0 x)
joined_off (w ∷ l) a x e =
    let h = joined_off l (bit_or a w) x e in
    let b = both_off a w x h.0 in
    (b.0, at b.1 h.1)
  where
    at : bit w x ≡ false → ((j : ℕ) → bit (get_or l j 0) x ≡ false) → (j : ℕ) → bit (get_or (w ∷ l) j 0) x ≡ false
    at f h zero = f
    at f h (suc j) = h j

no_kinds : word (λ j. false) 7 ≡ 0
unfolding word
no_kinds = refl

-- none of the seven words has the place
pub any_none : (k : KindWords) (row x : ℕ) → bit (any_of k) x ≡ false → [] ≡ anchor_edges k row x
any_none k row x e =
    anchor_empty k row x
    (word_ext (λ j. is_edge k (7 * x + j)) (λ j. false) 7 (λ j h. edge_in k x j h ∙ (joined_off (seven k) 0 x e).1 j) ∙ no_kinds)

-- ── an anchor of a row ──

module _ (k : KindWords) (row x ks : ℕ) (e : ks ≡ word (λ j. is_edge k (7 * x + j)) 7) where
  pub anchor_is : edges_at ks (row + 7 * x) 7 ≡ anchor_edges k row x
  unfolding anchor_edges
  anchor_is = ap (λ (ks : ℕ). edges_at ks (row + 7 * x) 7) e

  pub anchor_room : (first at needed fewer v s : ℕ) → fewer ≤ needed → Roomy (anchor_edges k row x) first at needed v s
      → Roomy (edges_at ks (row + 7 * x) 7) first at fewer v s
  anchor_room first at needed fewer v s h r =
      subst (λ (es : List ℕ). Roomy es first at fewer v s) (sym anchor_is)
      (record { since = r.since; room = r.room; enough = omega (arith, r.enough); small = r.small })

edge_in_law : (ks base j : ℕ) → j < 7 → T (bit ks j) → T (is_in (edges_at ks base 7) (base + j))
unfolding edges_at
edge_in_law ks base j h t =
    subst T (sym (any_each (eqb (base + j)) (edge_at ks base) (range 0 7)))
    (in_any (λ k. is_in (edge_at ks base k) (base + j)) (range 0 7) j (in_range 0 7 j (omega arith) (omega arith))
    (subst (λ (es : List ℕ). T (is_in es (base + j))) (kind_on ks base j (t_to_eq (bit ks j) t))
    (or_left (eqb (base + j) (base + j)) false (eqb_refl (base + j)))))

-- where it stands
module _ (z : Sizes) (p : Place) (h : SampleIn z p) (row : ℕ) (r : row ≡ 7 * (z.nx * (p.y + z.ny * p.z))) where
  pub anchor_base : row + 7 * p.x ≡ 7 * sample_no z p
  unfolding sample_no
  anchor_base = omega arith

  pub anchor_within : row + 7 * p.x + 7 ≤ needed_slots z
  anchor_within = omega (arith, anchor_base, sample_lt z p h)

  edge_place : (j : ℕ) → j < 7 → anchor_of z (row + 7 * p.x + j) ≡ p
  unfolding anchor_of
  edge_place j l =
      let d : (row + 7 * p.x + j) / 7 ≡ sample_no z p = omega (arith, anchor_base) in
      ap (sample_at z) d ∙ sample_place z p h.x h.y

  edge_kind : (j : ℕ) → j < 7 → kind_in (row + 7 * p.x + j) ≡ j
  edge_kind j l = omega (arith, anchor_base)

pub anchor_crossing : (L : Lattice) (p : Place) → SampleIn L.size p → (k : KindWords) (row ks : ℕ)
    → row ≡ 7 * (L.size.nx * (p.y + L.size.ny * p.z)) → ks ≡ word (λ j. is_edge k (7 * p.x + j)) 7
    → Crossed L (anchor_edges k row p.x) → Crossing L p ks
anchor_crossing L p h k row ks r e c = record {
  at = λ j l t.
      let n = row + 7 * p.x + j in
      let w = c.at n (subst (λ (es : List ℕ). T (is_in es n)) (anchor_is k row p.x ks e) (edge_in_law ks (row + 7 * p.x) j l t)) in
      subst (λ (i : ℕ). Crosses L p i) (edge_kind L.size p h row r j l)
      (subst (λ (q : Place). Crosses L q (kind_in n)) (edge_place L.size p h row r j l) w);
}

-- ── a row without cubes ──

any_off : (p : ℕ → Bool) → ((x : ℕ) → p x ≡ false) → (l : List ℕ) → any p l ≡ false
any_off p h [] = refl
any_off p h (x ∷ l) = (λ i. h x i || any p l) ∙ any_off p h l

each_none : (f : ℕ → List ℕ) (l : List ℕ) → All (λ x. [] ≡ f x) l → [] ≡ each f l
each_none f [] h = refl
each_none f (x ∷ l) h = λ i. h.0 i ++ each_none f l h.1 i

module _ (f v : Quad) (e : either_of v ≡ 0) where
  words_off : (r x : ℕ) → bit (get_or (four v) r 0) x ≡ false
  words_off r x = go r
    where
      off : (bit (bit_or (bit_or v.a v.b) v.c) x ≡ false) × (bit v.d x ≡ false)
      off = both_off _ v.d x (ap (λ (w : ℕ). bit w x) e ∙ bit_of_0 x)

      low : (bit (bit_or v.a v.b) x ≡ false) × (bit v.c x ≡ false)
      low = both_off _ v.c x off.0

      go : (r : ℕ) → bit (get_or (four v) r 0) x ≡ false
      go zero = (both_off v.a v.b x low.0).0
      go (suc zero) = (both_off v.a v.b x low.0).1
      go (suc (suc zero)) = low.1
      go (suc (suc (suc zero))) = off.1
      go (suc (suc (suc (suc r)))) = bit_of_0 x

  lowered_off : (r d x : ℕ) → lowered (get_or (four v) r 0) d x ≡ false
  lowered_off r zero x = words_off r x
  lowered_off r (suc d) zero = refl
  lowered_off r (suc d) (suc x) = words_off r x

  kind_none : (j x : ℕ) → kind_bit f v j x ≡ false
  unfolding kind_bit cube_bit
  kind_none j x =
      let s = xor (corner_bit f x (ends_of j).a) (corner_bit f x (ends_of j).b) in
      ap (λ (b : Bool). s && b) (any_off (cube_bit v x) (λ o. lowered_off (o / 2) (o % 2) x) (get_or anchors j [])) ∙ and-false s

  pub row_empty : (row n : ℕ) → n ≤ 64 → [] ≡ row_edges (kinds_of f v) row n
  unfolding row_edges
  row_empty row n h =
      each_none (anchor_edges (kinds_of f v) row) (range 0 n)
      (in_all (λ x. [] ≡ anchor_edges (kinds_of f v) row x) (range 0 n)
      (λ x t.
      let l : x < n = omega (arith, range_in 0 n x t) in
      anchor_empty (kinds_of f v) row x
      (word_ext (λ j. is_edge (kinds_of f v) (7 * x + j)) (λ j. false) 7
      (λ j g. edge_bit f v (7 * x + j) (omega arith) ∙ kind_none ((7 * x + j) % 7) ((7 * x + j) / 7)) ∙ no_kinds)))

-- ── the row at y and z ──

module _ (n : Sizes) (rows vis : List ℕ) (y z : ℕ) where
  pub edges_are : (f v : Quad) (k : KindWords) → f ≡ sides_around n rows y z → v ≡ cubes_around n vis y z → k ≡ kinds_of f v
      → row_edges k (7 * (n.nx * (y + n.ny * z))) n.nx ≡ edges_of n rows vis y z
  unfolding edges_of kinds_by
  edges_are f v k sides cubes e =
      ap (λ (k : KindWords). row_edges k (7 * (n.nx * (y + n.ny * z))) n.nx) (e ∙ (λ i. kinds_of (sides i) (cubes i)))

  pub no_edges : (v : Quad) → v ≡ cubes_around n vis y z → either_of v ≡ 0 → n.nx ≤ 64 → [] ≡ edges_of n rows vis y z
  no_edges v cubes e h =
      let f = sides_around n rows y z in
      row_empty f v e (7 * (n.nx * (y + n.ny * z))) n.nx h ∙ edges_are f v (kinds_of f v) refl cubes refl

-- ── how many ──

-- where each of a run makes at most m
run_few : (f : ℕ → List ℕ) (m : ℕ) → ((x : ℕ) → length (f x) ≤ m) → (n : ℕ) → length (each f (range 0 n)) ≤ m * n
run_few f m h n = omega (arith, each_le f m h (range 0 n), ap (λ (k : ℕ). m * k) (length_range 0 n))

edge_few : (ks base kind : ℕ) → length (edge_at ks base kind) ≤ 1
unfolding edge_at
edge_few ks base kind = go (bit ks kind)
  where
    go : (b : Bool) → length (cond b ((base + kind) ∷ []) []) ≤ 1
    go true = omega arith
    go false = omega arith

anchor_few : (k : KindWords) (row x : ℕ) → length (anchor_edges k row x) ≤ 7
unfolding anchor_edges edges_at
anchor_few k row x = run_few (edge_at (word (λ j. is_edge k (7 * x + j)) 7) (row + 7 * x)) 1 (edge_few _ (row + 7 * x)) 7

module _ (n : Sizes) (s : Sized n) (rows vis : List ℕ) where
  pub row_few : (y z : ℕ) → length (edges_of n rows vis y z) ≤ 448
  unfolding edges_of row_edges
  row_few y z =
      let row = 7 * (n.nx * (y + n.ny * z)) in
      omega (arith, s.x_high, run_few (anchor_edges (kinds_by n rows vis y z) row) 7 (anchor_few (kinds_by n rows vis y z) row) n.nx)

  pub layer_few : (z : ℕ) → length (layer_edges n rows vis z) ≤ 28672
  unfolding layer_edges
  layer_few z = omega (arith, s.y_high, run_few (λ y. edges_of n rows vis y z) 448 (λ y. row_few y z) n.ny)

  pub all_few : length (edges_by n rows vis) ≤ 1835008
  unfolding edges_by
  all_few = omega (arith, s.z_high, run_few (layer_edges n rows vis) 28672 layer_few n.nz)
