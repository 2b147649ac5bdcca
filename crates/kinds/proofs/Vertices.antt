-- The vertices counted in a row of anchors are those of the lattice's edges. Assumes nothing.
use mathlib.Core.Path.{◌≡◌, refl, sym, ap, ap₂, ◌∙◌}
use mathlib.Core.Bool.{Bool, false}
use mathlib.Core.List.{List}
use Prim.Native.Nat.{ℕ, zero, suc, ◌+◌, ◌-◌, ◌*◌, ◌/◌, ◌%◌, ◌<◌}
use native.Mathlib.Omega.{arith}
use lib.ListN.{get_or}
use Rattle.lists.specs.Lists.{range, each, is_in, count}
use Rattle.lists.proofs.Every.{All}
use Rattle.paper.specs.Lattice.{Lattice, place, sample_no, cubes}
use Rattle.paper.specs.Sheet.{weight, edge_from, cube_edges}
use Rattle.paper.specs.Within.{Sized}
use Rattle.bits.specs.Words.{bit, word}
use Rattle.bits.proofs.Bits.{bit_word}
use Rattle.rows.specs.declared.Quad.{Quad}
use Rattle.kinds.specs.Kinds.{kind_bit, kinds_of, seven, is_edge, SidesAt, VisitsAt}
use Rattle.kinds.proofs.KindRows.{kind_edge, kind_high}
use Rattle.kinds.proofs.KindCounts.{count_cons, count_join}

-- tests that agree, from another number on
count_shift : (p q : ℕ → Bool) (i a n : ℕ) → ((k : ℕ) → k < n → p (i + k) ≡ q (a + k)) → count p (range i n) ≡ count q (range a n)
count_shift p q i a zero h = refl
count_shift p q i a (suc n) h =
    let e : p i ≡ q a = let x : i ≡ i + 0 = omega arith in let y : a + 0 ≡ a = omega arith in ap p x ∙ (h 0 (omega arith) ∙ ap q y) in
    let r = count_shift p q (suc i) (suc a) n
    (λ k l. let x : suc i + k ≡ i + suc k = omega arith in let y : a + suc k ≡ suc a + k = omega arith in ap p x
    ∙ (h (suc k) (omega arith) ∙ ap q y)) in
    count_cons p i (range (suc i) n) ∙ (ap₂ (λ (b : Bool) (m : ℕ). weight b 1 + m) e r ∙ sym (count_cons q a (range (suc a) n)))

count_none : (p : ℕ → Bool) (i n : ℕ) → ((k : ℕ) → k < n → p (i + k) ≡ false) → count p (range i n) ≡ 0
count_none p i n h = count_shift p (λ k. false) i 0 n h ∙ go 0 n
  where
    go : (i n : ℕ) → count (λ k. false) (range i n) ≡ 0
    go i zero = refl
    go i (suc n) = go (suc i) n

-- word j of the seven
word_of : (f v : Quad) (j : ℕ) → j < 7 → get_or (seven (kinds_of f v)) j 0 ≡ word (kind_bit f v j) 64
unfolding kinds_of
word_of f v zero h = refl
word_of f v (suc zero) h = refl
word_of f v (suc (suc zero)) h = refl
word_of f v (suc (suc (suc zero))) h = refl
word_of f v (suc (suc (suc (suc zero)))) h = refl
word_of f v (suc (suc (suc (suc (suc zero))))) h = refl
word_of f v (suc (suc (suc (suc (suc (suc zero)))))) h = refl
word_of f v (suc (suc (suc (suc (suc (suc (suc j))))))) h = absurd (omega arith)

pub edge_bit : (f v : Quad) (i : ℕ) → i < 448 → is_edge (kinds_of f v) i ≡ kind_bit f v (i % 7) (i / 7)
unfolding is_edge
edge_bit f v i h =
    ap (λ (w : ℕ). bit w (i / 7)) (word_of f v (i % 7) (omega arith)) ∙ bit_word (kind_bit f v (i % 7)) 64 (i / 7) (omega arith)

module _ (L : Lattice) (s : Sized L.size) (vs : List ℕ) (within : All (λ k. k < cubes L.size) vs) (y z : ℕ)
    (hy : y < L.size.ny) (hz : z < L.size.nz) (f v : Quad) (sides : SidesAt L y z f) (visits : VisitsAt L.size vs y z v) where
  -- the number of the row's first edge
  abbrev base : ℕ
  base = 7 * sample_no L.size (place 0 y z)

  -- edge i of the row has a vertex exactly where document 01 gives it one
  pub row_edge_law : (i : ℕ) → i < 7 * L.size.nx → is_edge (kinds_of f v) i ≡ is_in (each (cube_edges L) vs) (base + i)
  unfolding sample_no
  row_edge_law i h =
      let x = i / 7 in
      let p = place x y z in
      let hx : x < L.size.nx = omega arith in
      let e : edge_from (x + L.size.nx * (y + L.size.ny * z)) (i % 7) ≡ base + i = omega arith in
      edge_bit f v i (omega (arith, s.x_high))
      ∙ (kind_edge L vs p f v (record { x = hx; y = hy; z = hz }) sides visits s within (i % 7) (omega arith)
      ∙ ap (is_in (each (cube_edges L) vs)) e)

  pub row_vertices : count (is_edge (kinds_of f v)) (range 0 448) ≡ count (is_in (each (cube_edges L) vs)) (range base (7 * L.size.nx))
  row_vertices =
      let n = 7 * L.size.nx in
      let e : 448 ≡ n + (448 - n) = omega (arith, s.x_high) in
      let front = count_shift (is_edge (kinds_of f v)) (is_in (each (cube_edges L) vs)) 0 base n
      (λ k l. let x : 0 + k ≡ k = omega arith in ap (is_edge (kinds_of f v)) x ∙ row_edge_law k l) in
      let rest = count_none (is_edge (kinds_of f v)) (0 + n) (448 - n)
      (λ k l. edge_bit f v (0 + n + k) (omega arith)
      ∙ kind_high L.size vs (place ((0 + n + k) / 7) y z) v visits f ((0 + n + k) % 7) (omega arith) (omega arith)) in
      omega (
        arith,
        ap (λ (m : ℕ). count (is_edge (kinds_of f v)) (range 0 m)) e,
        count_join (is_edge (kinds_of f v)) 0 n
            (448 - n),
        front,
        rest,
      )
