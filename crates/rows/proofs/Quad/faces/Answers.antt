-- The two words that hold the face. Assumes nothing.
use mathlib.Core.Path.{◌≡◌, sym, ap, ◌∙◌}
use native.Mathlib.Omega.{arith}
use Rattle.rows.specs.Rows.{face_rows, face_row}
use Rattle.rows.proofs.Quad.faces.Goals as goal

pub returns-in-2 : goal.returns-in-2
unfolding face_row face_rows
returns-in-2 c = c.mixed.ensures ∙ sym (ap (face_row c.args.self) c.in-2.is)

pub returns-in-3 : goal.returns-in-3
unfolding face_row face_rows
returns-in-3 c = c.mixed-in-3.ensures ∙ sym (ap (face_row c.args.self) c.in-3.is)

pub returns-in-4 : goal.returns-in-4
unfolding face_row face_rows
returns-in-4 c = c.mixed-in-4.ensures ∙ sym (ap (face_row c.args.self) c.in-4.is)

pub returns-in_default : goal.returns-in_default
unfolding face_row face_rows
returns-in_default c =
    let e : c.args.i ≡ 5 = omega (arith, c.requires, c.in_default) in
    c.mixed-in_default.ensures ∙ sym (ap (face_row c.args.self) e)
