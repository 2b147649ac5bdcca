-- The index names a record, and the record's edge is among n. Assumes nothing.
use mathlib.Core.List.{List}
use mathlib.Core.Path.{◌≡◌, sym, ap, subst, ◌∙◌}
use Prim.Native.Nat.{ℕ, ◌<◌}
use native.Mathlib.Omega.{arith}
use lib.Dec.{T}
use lib.IntN.{ℤ, nat_abs}
use lib.Signed.{non_neg}
use mir.Syntax.{w32, w64}
use mir.Val.{Fits, to_z, of_z}
use mir.Facts.{to_z-of_z, Fits-nat_abs}
use Rattle.paper.specs.File.{file_vertices}
use Rattle.paper.specs.Check.{edge_of, corner_of}
use Rattle.check_records.specs.Records.{edge_in}
use Rattle.check_triangles.proofs.Laws.{named_is, named_positive}
use Rattle.check_triangles.proofs.Naming.edge.Goals as goal
use Rattle.check_triangles.proofs.Naming.edge.Goals.{After-record_word}

module _ (c : goal.After-record_word) where
  abbrev vs : List ℤ
  vs = file_vertices c.args.self.now.file.bytes.now

  -- the machine's number is the record's edge
  is : to_z w32 (of_z w32 c.record_word.result) ≡ edge_of vs c.triangle_word-v.result
  unfolding edge_of
  is = to_z-of_z {w = w32} (record { sfits = c.record_word.type_inv }) ∙ c.record_word.ensures

  -- which is among those that are named
  named : let n = c.args.self.now.edges in edge_in (edge_of vs c.triangle_word-v.result) n < n
  named =
      let s = c.args.self.now in
      s.named.below c.triangle_word-v.result (omega (arith, c.triangle_word-v.ensures, s.laid.below c.args.j c.requires))

pub overflow_cast-result : goal.overflow_cast-result
overflow_cast-result c =
    let g = (goal.at.overflow_cast-result c).After-record_word in
    let z = c.record_word.result in (
      subst (λ (z : ℤ). T (non_neg z)) (sym (is g)) (named_positive _ _ (named g)),
      subst (λ (z : ℤ). Fits w64 (nat_abs z)) (sym (to_z-of_z {w = w32} {z = z} (record { sfits = c.record_word.type_inv })))
          (Fits-nat_abs {w = w32} {z = z} tt (record { sfits = c.record_word.type_inv })),
    )

pub returns : goal.returns
unfolding corner_of
returns c =
    let g = (goal.at.returns c).After-record_word in
    let n = c.args.self.now.edges in
    let e = edge_of (vs g) c.triangle_word-v.result in (
      ap nat_abs (is g) ∙ ap (λ (k : ℕ). nat_abs (edge_of (vs g) k)) c.triangle_word-v.ensures,
      subst (λ (k : ℕ). k < n) (named_is e n (named g) ∙ sym (ap nat_abs (is g))) (named g),
    )
