-- `lister::get_samples` meets its contract. Assumes nothing.
use mathlib.Core.Path.{◌∙◌}
use native.Mathlib.Omega.{arith}
use mir.Syntax.{w16}
use mir.Facts.{to_z-of_z}
use Rattle.lists.specs.Bytes.{signed}
use Rattle.codec.proofs.Runs.{word_at, get_more, get_whole}
use Rattle.lister.proofs.get_samples.Goals as goal

pub loop-i-preserved : goal.loop-i-preserved
loop-i-preserved c =
    let r = to_z-of_z {w = w16} {z = c.get.result} (record { sfits = c.get.type_inv }) ∙ c.get.ensures in
    rw (r, c.loop-i.invariant) (get_more c.args.samples.now (word_at (signed 32768) 2 c.args.input.now 6) c.loop-i.i)

pub returns : goal.returns
returns c =
    rw c.loop-i.invariant (get_whole c.args.samples.now (word_at (signed 32768) 2 c.args.input.now 6) c.loop-i.i (omega arith))
