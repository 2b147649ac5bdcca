-- `stl_writer::Triangles::corner`: the numbers as they were read are those that the vertex is within. Assumes nothing.
use Rattle.std.proofs.Common.{◌≡◌, ℕ, ℤ, rules}
use mir.Syntax.{w32}
use mir.Val.{to_z, of_z}
use Rattle.stl.specs.Stl.{number_of}
use Rattle.stl.proofs.Laws.{vertex_bounded}
use Rattle.stl_writer.proofs.Triangles.corner.Goals as goal

pub at-requires : goal.at-requires
at-requires c =
    let n : ℕ → ℤ = λ k. number_of c.args.self.now.vertices.now c.args.v k in
    let x : to_z w32 (of_z w32 (n 1)) ≡ n 1 = search rules in
    let y : to_z w32 (of_z w32 (n 2)) ≡ n 2 = search rules in
    let z : to_z w32 (of_z w32 (n 3)) ≡ n 3 = search rules in
    rw (x, y, z) (vertex_bounded _ _ c.requires.1)
