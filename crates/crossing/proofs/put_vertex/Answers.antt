-- Four stores one behind the other. Assumes nothing.
use mir.Facts.{to_z-of_z}
use mir.Syntax.{w32}
use Prim.Native.Nat.{◌*◌}
use native.Mathlib.Omega.{arith}
use lib.ListN.{length-set}
use Rattle.lists.proofs.Stores.{sets4}
use Rattle.crossing.proofs.put_vertex.Goals as goal

pub bounds-vertices-at-2 : goal.bounds-vertices-at-2
bounds-vertices-at-2 c = simp length-set (omega arith)

pub bounds-vertices-at-3 : goal.bounds-vertices-at-3
bounds-vertices-at-3 c = simp length-set (omega arith)

pub bounds-vertices-at-4 : goal.bounds-vertices-at-4
bounds-vertices-at-4 c = simp length-set (omega arith)

pub returns : goal.returns
returns c =
    let a = c.args in
    let t = c.struct_told-1.given in
    rw (
      to_z-of_z {w = w32} {z = a.v.edge} (record { sfits = t.0.1 }),
      to_z-of_z {w = w32} {z = a.v.x} (record { sfits = t.1.0.1 }),
      to_z-of_z {w = w32} {z = a.v.y} (record { sfits = t.1.1.0.1 }),
      to_z-of_z {w = w32} {z = a.v.z} (record { sfits = t.1.1.1.0.1 }),
    )
    (sets4 a.vertices.now (4 * a.k) _ _ _ _)
