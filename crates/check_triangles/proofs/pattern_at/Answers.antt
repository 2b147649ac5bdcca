-- The pattern where the cube is visited, and none elsewhere. Assumes nothing.
use mathlib.Core.Path.{sym, ap, ◌∙◌}
use Prim.Native.Nat.{ℕ, ◌+◌}
use Rattle.rows.specs.declared.Quad.{Quad}
use Rattle.rows.specs.Rows.{pattern_in}
use Rattle.rows.proofs.Cubes.{quad_within}
use Rattle.check_triangles.specs.Words.{word_by}
use Rattle.check_triangles.proofs.pattern_at.Goals as goal

pub quad-requires : goal.quad-requires
quad-requires c =
    let n = c.args.rows.now.sizes in quad_within n.ny n.nz c.args.p.y c.args.p.z c.requires.y c.requires.z

pub returns-then-has_bit : goal.returns-then-has_bit
unfolding word_by
returns-then-has_bit c = (
  rw (sym c.has_bit.ensures ∙ c.if-has_bit.true)
      (sym (ap (λ (m : ℕ). 256 + m) (c.pattern.ensures.0 ∙ ap (λ (q : Quad). pattern_in q c.args.p.x) c.quad.ensures))),
  c.pattern.ensures.1,
)

pub returns-else-has_bit : goal.returns-else-has_bit
unfolding word_by
returns-else-has_bit c = rw (sym c.has_bit.ensures ∙ c.if-has_bit.false)
