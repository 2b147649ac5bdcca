-- One quotient, of a little more. Assumes nothing.
use mathlib.Core.Path.{ap, ◌∙◌}
use Prim.Native.Nat.{ℕ, ◌+◌, ◌/◌}
use Rattle.crossing.proofs.Rounding.{one_quotient}
use Rattle.crossing.proofs.rounded_by.Goals as goal

-- src/lib.rt:38:1
pub returns : goal.returns
returns c =
    let a = c.args in
    ap (λ (m : ℕ). (a.n + m) / a.d) c.more_by.ensures.0 ∙ one_quotient a.rule a.n a.d c.requires.1
