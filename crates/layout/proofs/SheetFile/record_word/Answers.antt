-- Number i of the records stands at byte 4 i. Assumes nothing.
use mathlib.Core.Path.{sym, ◌∙◌}
use native.Mathlib.Omega.{arith}
use mir.Syntax.{w32}
use mir.Facts.{to_z-of_z}
use Rattle.layout.proofs.Trailer.{vertex_at}
use Rattle.layout.proofs.SheetFile.record_word.Goals as goal

pub returns : goal.returns
returns c =
    let a = c.args in
    to_z-of_z {w = w32} (record { sfits = c.get.type_inv })
    ∙ (c.get.ensures ∙ sym (vertex_at a.self.now.bytes.now a.i (omega (arith, a.self.now.counted_v))))
