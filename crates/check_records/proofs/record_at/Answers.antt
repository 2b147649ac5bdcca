-- The four numbers, one after the other. Assumes nothing.
use mathlib.Core.Path.{sym, ◌∙◌}
use mathlib.Core.List.{[], ◌∷◌}
use native.Mathlib.Omega.{arith}
use mir.Syntax.{w32}
use mir.Facts.{to_z-of_z}
use Rattle.paper.specs.File.{file_vertices}
use Rattle.layout.proofs.Trailer.{vertices_length}
use Rattle.check_records.proofs.Numbers.{four}
use Rattle.check_records.proofs.record_at.Goals as goal

pub returns : goal.returns
returns c =
    let f = c.args.file.now in
    let a = c.record_word in
    let b = c.record_word-2 in
    let d = c.record_word-3 in
    let e = c.record_word-4 in
    let h = vertices_length f.bytes.now in
    (λ i.
    (to_z-of_z {w = w32} (record { sfits = a.type_inv }) ∙ a.ensures) i
    ∷ (to_z-of_z {w = w32} (record { sfits = b.type_inv }) ∙ b.ensures) i
    ∷ (to_z-of_z {w = w32} (record { sfits = d.type_inv }) ∙ d.ensures) i
    ∷ (to_z-of_z {w = w32} (record { sfits = e.type_inv }) ∙ e.ensures) i
    ∷ [])
    ∙ sym (four (file_vertices f.bytes.now) c.args.i (omega arith))
