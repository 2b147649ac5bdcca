-- The machine reads the sample back from its bits. Assumes nothing.
use mathlib.Core.Path.{ap, ◌∙◌}
use Prim.Native.Nat.{◌+◌, ◌*◌}
use borrow.Author.Rules.{rules}
use mir.Facts.{to_z-of_z}
use mir.Syntax.{w16}
use lib.IntN.{ℤ, pos}
use lib.ListN.{get_or}
use Rattle.paper.specs.Lattice.{air, is_fill}
use Rattle.paper.specs.Sheet.{weight}
use Rattle.rows.proofs.Making.{codes_one}
use Rattle.sampling.proofs.code_at.Goals as goal

pub returns : goal.returns
returns c =
    let a = c.args in (
      c.code.ensures.0
          ∙ ap (λ (v : ℤ). weight (air v) 1 + 256 * weight (is_fill v) 1)
          (to_z-of_z {w = w16} {z = get_or a.samples.now a.i (pos 0)} (record { sfits = search rules }))
          ∙ codes_one a.samples.now a.i,
      c.code.ensures.1,
    )
