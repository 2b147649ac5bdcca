-- The machine reads the sample back from its bits. Assumes nothing.
use mathlib.Core.Path.{ap, ◌∙◌}
use Prim.Native.Nat.{ℕ}
use mir.Facts.{to_z-of_z}
use mir.Syntax.{w16}
use lib.IntN.{pos}
use lib.ListN.{get_or}
use Rattle.paper.specs.Lattice.{value_at}
use Rattle.lattice.proofs.Volume.value.Goals as goal

pub returns : goal.returns
unfolding value_at
returns c =
    let a = c.args in
    to_z-of_z {w = w16} {z = get_or a.self.now.samples.now c.sample_no.result (pos 0)} (record { sfits = c.result-1.given })
    ∙ ap (λ (i : ℕ). get_or a.self.now.samples.now i (pos 0)) c.sample_no.ensures.0
