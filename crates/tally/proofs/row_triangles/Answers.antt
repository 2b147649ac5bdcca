-- By the three tests. Assumes nothing.
use mathlib.Core.Path.{◌≡◌, ap, sym, ◌∙◌}
use Prim.Native.Nat.{ℕ, ◌+◌, ◌<◌}
use native.Mathlib.Omega.{arith}
use Rattle.rows.specs.declared.Quad.{Quad}
use Rattle.kinds.specs.Triangles.{row_total}
use Rattle.tally.specs.Tally.{triangles_of}
use Rattle.tally.proofs.Empty.{no_triangles}
use Rattle.tally.proofs.Sheets.{none_past_y, none_past_z, row_of_cubes}
use Rattle.tally.proofs.row_triangles.Goals as goal
use Rattle.tally.proofs.row_triangles.Goals.{then-v-eq0-via-then-v-eq0, then-v-eq0-via-else-v-eq0+then-sizes-y, then-v-eq0-via-else-v-eq0+else-sizes-y+then-sizes-z}

pub returns-then-v-eq0 : goal.returns-then-v-eq0
returns-then-v-eq0 c =
    let a = c.args in
    let n = a.rows.now.sizes in
    let ws = a.rows.now.sides.now in
    let none : triangles_of n ws a.v a.z a.y ≡ 0 = elim c.then-v-eq0.branch [
      | then-v-eq0-via-then-v-eq0 w ↦ ap (λ (v : ℕ). triangles_of n ws v a.z a.y) w.if-v-eq0.true ∙ no_triangles n ws a.z a.y
      | then-v-eq0-via-else-v-eq0+then-sizes-y w ↦ none_past_y n ws a.v a.z a.y w.if-sizes-y.true
      | then-v-eq0-via-else-v-eq0+else-sizes-y+then-sizes-z w ↦ none_past_z n ws a.v a.z a.y w.if-sizes-z.true
    ] in
    (sym none, omega arith)

pub returns : goal.returns
returns c =
    let a = c.args in
    let n = a.rows.now.sizes in
    let hy : a.y + 1 < n.ny = omega (arith, c.if-sizes-y.false) in
    let hz : a.z + 1 < n.nz = omega (arith, c.if-sizes-z.false) in (
      c.count_row.ensures.0
          ∙ (ap (λ (q : Quad). row_total q a.v) c.quad.ensures ∙ sym (row_of_cubes n a.rows.now.sides.now a.v a.z a.y hy hz)),
      c.count_row.ensures.1,
    )
