-- Rows around which there is no cube have no vertex and no triangle. Assumes nothing.
use mathlib.Core.Path.{◌≡◌, refl, ap, subst}
use mathlib.Core.Bool.{Bool, true, false, xor, ◌&&◌}
use mathlib.Core.List.{List, []}
use Prim.Native.Nat.{ℕ, zero, suc, ◌+◌, ◌*◌, ◌/◌, ◌%◌}
use native.Mathlib.Omega.{arith}
use lib.Bits.{bit_or}
use lib.Dec.{T, ltb}
use lib.ListN.{length, get_or}
use Rattle.lists.specs.Lists.{range, any, count}
use Rattle.lists.proofs.Member.{and_right, any_in, range_in}
use Rattle.lists.proofs.Within.{t_to_false}
use Rattle.lists.proofs.Runs.{keep_none}
use Rattle.paper.specs.declared.Sizes.{Sizes}
use Rattle.paper.specs.Tables.{tets}
use Rattle.paper.specs.Sheet.{weight, ends_of}
use Rattle.bits.specs.Words.{bit, On, lowered}
use Rattle.bits.proofs.Bits.{bit_of_0}
use Rattle.bits.proofs.Places.{on_or_left, on_or_right, on_zero}
use Rattle.rows.specs.declared.Quad.{Quad}
use Rattle.rows.specs.Rows.{four, either_of, corner_bit, quad_at}
use Rattle.kinds.specs.Kinds.{anchors, cube_bit, kind_bit, kinds_of, is_edge}
use Rattle.kinds.specs.Triangles.{row_total, sum_of, tet_in}
use Rattle.kinds.proofs.Vertices.{edge_bit}
use Rattle.tally.specs.Tally.{triangles_of}
use Rattle.tally.proofs.Totals.{total_zero}

lowered_none : (w : ℕ) → ((x : ℕ) → On w x → ⊥) → (d x : ℕ) → T (lowered w d x) → ⊥
lowered_none w h zero x t = h x t
lowered_none w h (suc d) zero t = t
lowered_none w h (suc d) (suc x) t = h x t

module _ (v : Quad) (e : either_of v ≡ 0) where
  none_on : (x : ℕ) → On (either_of v) x → ⊥
  none_on x t = on_zero x (subst (λ (w : ℕ). On w x) e t)

  word_none : (r x : ℕ) → On (get_or (four v) r 0) x → ⊥
  word_none zero x t =
      none_on x
      (on_or_left (bit_or (bit_or v.a v.b) v.c) v.d x (on_or_left (bit_or v.a v.b) v.c x (on_or_left v.a v.b x t)))
  word_none (suc zero) x t =
      none_on x
      (on_or_left (bit_or (bit_or v.a v.b) v.c) v.d x (on_or_left (bit_or v.a v.b) v.c x (on_or_right v.a v.b x t)))
  word_none (suc (suc zero)) x t =
      none_on x (on_or_left (bit_or (bit_or v.a v.b) v.c) v.d x (on_or_right (bit_or v.a v.b) v.c x t))
  word_none (suc (suc (suc zero))) x t = none_on x (on_or_right (bit_or (bit_or v.a v.b) v.c) v.d x t)
  word_none (suc (suc (suc (suc r)))) x t = on_zero x t

  kind_none : (f : Quad) (j x : ℕ) → T (kind_bit f v j x) → ⊥
  unfolding kind_bit cube_bit
  kind_none f j x t =
      let k = xor (corner_bit f x (ends_of j).a) (corner_bit f x (ends_of j).b) in
      let os = get_or anchors j [] in
      let w = any_in (cube_bit v x) os (and_right k (any (cube_bit v x) os) t) in
      let o = w.0 in
      lowered_none (get_or (four v) (o / 2) 0) (word_none (o / 2)) (o % 2) x w.1.1

  -- no vertex
  pub no_vertices : (f : Quad) → count (is_edge (kinds_of f v)) (range 0 448) ≡ 0
  no_vertices f =
      let p = is_edge (kinds_of f v) in
      ap length
      (keep_none p (range 0 448)
      (t_to_false (any p (range 0 448))
      (λ t.
      let w = any_in p (range 0 448) t in
      let i = w.0 in
      kind_none f (i % 7) (i / 7) (subst T (edge_bit f v i (omega (arith, range_in 0 448 i w.1.0))) w.1.1))))

weight_zero : (b : Bool) (m : ℕ) → m ≡ 0 → weight b m ≡ 0
weight_zero true m e = e
weight_zero false m e = refl

row_none : (f : Quad) → row_total f 0 ≡ 0
unfolding row_total
row_none f =
    total_zero (λ x. weight (bit 0 x) (sum_of (tet_in f x) tets)) 64
    (λ x l. ap (λ (b : Bool). weight b (sum_of (tet_in f x) tets)) (bit_of_0 x))

-- no triangle
pub no_triangles : (n : Sizes) (rows : List ℕ) (z y : ℕ) → triangles_of n rows 0 z y ≡ 0
unfolding triangles_of
no_triangles n rows z y =
    weight_zero (ltb (y + 1) n.ny && ltb (z + 1) n.nz) (row_total (quad_at rows n.ny (y + n.ny * z)) 0)
    (row_none (quad_at rows n.ny (y + n.ny * z)))
