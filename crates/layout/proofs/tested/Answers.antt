-- `layout::tested`: what passed test 14 is laid out so. Assumes nothing.
use Rattle.std.proofs.Common.{sym, ◌∙◌}
use Rattle.layout.proofs.Trailer.{ranged}
use Rattle.layout.proofs.tested.Goals as goal

pub new-requires : goal.new-requires
new-requires c = ranged _ (sym c.laid_out.ensures ∙ c.if-not-laid_out.false)
