-- The edge is one of the row's, the row has it, and the record is its vertex's. Assumes nothing.
use Rattle.std.proofs.Common.{◌≡◌, ℕ, ◌+◌, ◌*◌, ◌/◌, ◌%◌, List, get_or, ℤ, pos, sym, ap, ◌∙◌, arith, to_z-of_z, w32}
use Rattle.lists.proofs.Member.{eq_to_t}
use Rattle.paper.specs.declared.Sizes.{Sizes}
use Rattle.paper.specs.Lattice.{Lattice, lattice}
use Rattle.paper.specs.Sheet.{vertex_record}
use Rattle.paper.specs.File.{file_vertices}
use Rattle.check_entries.proofs.Vertices.{record_edge, all_four}
use Rattle.check_entries.proofs.Lines.edge_of.Goals as goal

pub returns-then-same_vertex : goal.returns-then-same_vertex
returns-then-same_vertex c =
    let a = c.args in
    let e = c.in_ok-e.e in
    let w = c.record_word-word in
    let row = 7 * a.self.now.here in
    let fs : List ℤ = file_vertices a.file.now.bytes.now in
    let L : Lattice = lattice a.volume.now.sizes a.volume.now.samples.now in
    let n : 7 * (a.self.now.here + e / 7) + e % 7 ≡ row + e = omega arith in
    let vs = vertex_record a.rule L (row + e) in
    let b = c.in_ok-e.ensures in
    let first : get_or fs (4 * a.i) (pos 0) ≡ get_or vs 0 (pos 0) =
    sym w.ensures ∙ (sym (to_z-of_z {w = w32} (record { sfits = w.type_inv })) ∙ (b.1 ∙ sym (record_edge a.rule L (row + e)))) in
    let rest = c.same_vertex.ensures c.if-same_vertex.true in (
      omega (arith, b.0, ap (λ (n : Sizes). n.nx) c.requires.sizes),
      record {
        has = eq_to_t (sym c.has_bit.ensures ∙ c.if-has_bit.true);
        rises = b.2;
        numbers =
            all_four fs vs (4 * a.i) first
            (λ j k l. rest j k l ∙ ap (λ (m : ℕ). get_or (vertex_record a.rule L m) j (pos 0)) n);
      },
    )
