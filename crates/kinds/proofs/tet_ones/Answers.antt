-- One where the corners are mixed, one more where two are air. Assumes nothing.
use mathlib.Core.Path.{ap₂, ◌∙◌}
use Prim.Native.Nat.{ℕ, ◌+◌}
use Rattle.kinds.proofs.Triangles.{tet_ones}
use borrow.Author.Rules.{rules}
use Rattle.kinds.proofs.tet_ones.Goals as goal

pub returns : goal.returns
returns c =
    let a = c.args in (
      ap₂ (λ (m n : ℕ). m + n) c.ones.ensures.0 c.ones-2.ensures.0
          ∙ tet_ones a.p a.q a.r a.u a.v c.ranges.p.fits c.ranges.q.fits c.ranges.r.fits c.ranges.u.fits
          c.ranges.v.fits,
      search rules,
    )
