-- With the lines of the row. Assumes nothing.
use mathlib.Core.Path.{refl, sym, ap, subst, ◌∙◌}
use mathlib.Core.List.{List}
use Prim.Native.Nat.{ℕ, ◌+◌, ◌*◌}
use native.Mathlib.Omega.{arith}
use lib.IntN.{ℤ}
use lib.ListN.{length, length-map}
use Rattle.lists.specs.Lists.{each}
use Rattle.lists.proofs.Every.{each_map}
use Rattle.paper.specs.Lattice.{Lattice, lattice}
use Rattle.paper.specs.Sheet.{vertex_record}
use Rattle.paper.specs.File.{file_vertices}
use Rattle.kinds.specs.Kinds.{seven}
use Rattle.dots.specs.Dots.{numbered}
use Rattle.check_ordered.specs.Ordered.{Follows, kept, Entered}
use Rattle.check_ordered_records.proofs.RowEdges.{row_kept, row_crosses}
use Rattle.check_ordered_records.proofs.same_row.Goals as goal
use Rattle.check_ordered_records.proofs.same_row.Goals.{Start}

abbrev L : goal.Start → Lattice
L s = lattice s.args.volume.now.sizes s.args.volume.now.samples.now

abbrev here : goal.Start → ℕ
here s = let n = s.args.volume.now.sizes in n.nx * (s.args.y + n.ny * s.args.z)

pub same_records-requires-clause-row_crosses : goal.same_records-requires-clause-row_crosses
same_records-requires-clause-row_crosses c =
    let s = (goal.at.same_records-requires-clause-row_crosses c).Start in
    (row_crosses (L s) c.args.k.now c.args.y c.args.z (here s) c.requires.within.0 refl c.requires.crossed)

pub returns : goal.returns
returns c =
    let a = c.args in
    let s = (goal.at.returns c).Start in
    let r = c.same_records.ensures in
    let wide = 7 * a.volume.now.sizes.nx in
    let ks = seven a.k.now in
    let fs : List ℤ = file_vertices a.file.now.bytes.now in
    let es = kept ks wide in
    let q = row_kept a.k.now (7 * here s) a.volume.now.sizes.nx in
    let v : ℕ → List ℤ = vertex_record a.rule (L s) in (
      (λ e.
          let E : Entered a.rule (L s) ks fs (7 * here s) wide a.at a.n a.slots.now c.same_records.new.slots = r.0 e c.requires.room.2 in
          record {
            follows =
                subst (λ (l : List ℤ). Follows fs (4 * a.at) l (4 * (a.at + a.n))) (sym (ap (each v) q ∙ each_map v (λ e. 7 * here s + e) es)) E.follows;
            numbers = record {
              slots = E.slots ∙ ap (λ (l : List ℕ). numbered a.at l a.slots.now) (sym q);
              next_is = omega (arith, E.count, ap length q, length-map es (λ e. 7 * here s + e));
            };
          }),
      r.1,
    )
