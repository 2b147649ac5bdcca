-- No edge, an idle slot, another record, or the edge. Assumes nothing.
use mathlib.Core.Path.{◌≡◌, sym, ap, subst, ◌∙◌}
use mathlib.Core.Bool.{not}
use mathlib.Core.List.{List}
use Prim.Native.Nat.{ℕ, ◌+◌, ◌*◌, ◌/◌, ◌%◌, ◌<◌}
use native.Mathlib.Omega.{arith}
use lib.IntN.{ℤ}
use lib.Dec.{T}
use mir.Syntax.{w32}
use mir.Val.{to_z, of_z}
use mir.Facts.{to_z-of_z}
use lib.ListN.{get_or}
use borrow.Author.Tests.{ne_eqb}
use Rattle.lists.proofs.Member.{eq_to_t}
use Rattle.paper.specs.declared.Place.{Place}
use Rattle.paper.specs.Lattice.{Lattice, lattice, sample_no}
use Rattle.paper.specs.Sheet.{vertex_record}
use Rattle.paper.specs.Room.{needed_slots}
use Rattle.paper.specs.File.{file_vertices}
use Rattle.paper.specs.Check.{same_numbers, record_of}
use Rattle.paper.proofs.Numbers.{sample_back}
use Rattle.crossing.specs.Vertex.{Crosses}
use Rattle.dots.specs.Slots.{used}
use Rattle.layout.proofs.Trailer.{vertices_length}
use Rattle.check_records.specs.Records.{edge_in, edge_at}
use Rattle.check_records.proofs.Laws.{edge_out, edge_idle, edge_wrong, edge_right}
use Rattle.check_records.proofs.Numbers.{edge_is}
use Rattle.check_records.proofs.good_edge.Goals as goal
use Rattle.check_records.proofs.good_edge.Goals.{After-same_vertex, After-sample_count, In_ok-e, Else-slots-e-eq0, After-anchor_of-p, Start}

abbrev L : goal.Start → Lattice
L s = let v = s.args.volume.now in lattice v.sizes v.samples.now

abbrev vs : goal.Start → List ℤ
vs s = file_vertices s.args.file.now.bytes.now

-- the code's number of slots and edge are the definitions'
all : (c : goal.After-sample_count) → 7 * c.sample_count.result ≡ needed_slots c.args.volume.now.sizes
all c = ap (λ (n : ℕ). 7 * n) c.sample_count.ensures.0

edge : (c : goal.After-sample_count) → let s = (goal.at.After-sample_count c).Start in
    edge_in (to_z w32 (of_z w32 c.record_at-v.result.edge)) (7 * c.sample_count.result) ≡ edge_at (L s) (vs s) c.args.i
unfolding edge_at
edge c =
    let v = c.record_at-v in
    let f = c.args.file.now in
    let e =
    to_z-of_z {w = w32} (record { sfits = c.type_inv.v.0.1 })
    ∙ edge_is v.result (file_vertices f.bytes.now) c.args.i (omega (arith, vertices_length f.bytes.now, f.counted_v)) v.ensures in
    λ j. edge_in (e j) (all c j)

-- where it is one of the lattice's
found : (c : goal.In_ok-e) → let s = (goal.at.In_ok-e c).Start in c.in_ok-e.e ≡ edge_at (L s) (vs s) c.args.i
found c = c.in_ok-e.ensures.is ∙ edge (goal.at.In_ok-e c).After-sample_count

below : (c : goal.In_ok-e) → c.in_ok-e.e < needed_slots c.args.volume.now.sizes
below c = omega (arith, c.in_ok-e.ensures.below, all (goal.at.In_ok-e c).After-sample_count)

-- its slot is used
in_use : (c : goal.Else-slots-e-eq0) → T (used c.args.slots.now c.in_ok-e.e)
unfolding used
in_use c = eq_to_t (ap not (ne_eqb _ _ c.if-slots-e-eq0.false))

-- the anchor and the kind give the edge back
back : (c : goal.After-anchor_of-p) → let e = c.in_ok-e.e in 7 * sample_no c.args.volume.now.sizes c.anchor_of-p.result + e % 7 ≡ e
back c =
    let volume = c.args.volume.now in
    let z = volume.sizes in
    let e = c.in_ok-e.e in
    let h = below (goal.at.After-anchor_of-p c).In_ok-e in
    let q : sample_no z c.anchor_of-p.result ≡ e / 7 =
    ap (sample_no z) c.anchor_of-p.ensures.0 ∙ sample_back z volume.full.sized (e / 7) (omega arith) in
    omega arith

-- the record is compared with the vertex's
compared : (c : goal.After-same_vertex) → let s = (goal.at.After-same_vertex c).Start in
    let i = c.args.i in
    c.same_vertex.result ≡ same_numbers (record_of (vs s) i) (vertex_record c.args.rule (L s) (edge_at (L s) (vs s) i))
compared c =
    let s = (goal.at.After-same_vertex c).Start in
    let v = c.record_at-v in
    let w = c.vertex_on-w in
    let e = back (goal.at.After-same_vertex c).After-anchor_of-p ∙ found (goal.at.After-same_vertex c).In_ok-e in
    c.same_vertex.ensures
    ∙ (λ j. same_numbers (v.ensures j) ((w.ensures ∙ ap (vertex_record c.args.rule (L s)) e) j))

pub returns-in_err-e-clause-is : goal.returns-in_err-e-clause-is
returns-in_err-e-clause-is c =
    let s = (goal.at.returns-in_err-e-clause-is c).Start in
    let g = (goal.at.returns-in_err-e-clause-is c).After-sample_count in
    rw c.from_residual.ensures
    (edge_out c.args.rule (L s) (vs s) c.args.slots.now c.args.i (sym (edge g) ∙ (sym c.in_err-e.ensures.is ∙ all g)))

pub returns-then-slots-e-eq0-clause-is : goal.returns-then-slots-e-eq0-clause-is
returns-then-slots-e-eq0-clause-is c =
    let s = (goal.at.returns-then-slots-e-eq0-clause-is c).Start in
    let e = found (goal.at.returns-then-slots-e-eq0-clause-is c).In_ok-e in
    edge_idle c.args.rule (L s) (vs s) c.args.slots.now c.args.i
    (ap (λ (e : ℕ). get_or c.args.slots.now e 0) (sym e) ∙ c.if-slots-e-eq0.true)

pub vertex_on-w-requires : goal.vertex_on-w-requires
vertex_on-w-requires c =
    let e = c.in_ok-e.e in
    let s = (goal.at.vertex_on-w-requires c).Start in (
      c.anchor_of-p.ensures.1,
      subst (λ (p : Place). Crosses (L s) p (e % 7)) (sym c.anchor_of-p.ensures.0)
          (c.requires.all_cross.0.at e (below (goal.at.vertex_on-w-requires c).In_ok-e)
          (in_use (goal.at.vertex_on-w-requires c).Else-slots-e-eq0)),
    )

pub returns-then-same_vertex-clause-is : goal.returns-then-same_vertex-clause-is
returns-then-same_vertex-clause-is c =
    let s = (goal.at.returns-then-same_vertex-clause-is c).Start in
    let q = found (goal.at.returns-then-same_vertex-clause-is c).In_ok-e in
    let size = c.args.volume.now.sizes in
    q
    ∙ edge_right c.args.rule (L s) (vs s) c.args.slots.now c.args.i
    (subst (λ (e : ℕ). e < needed_slots size) q (below (goal.at.returns-then-same_vertex-clause-is c).In_ok-e))
    (λ u. c.if-slots-e-eq0.false (ap (λ (e : ℕ). get_or c.args.slots.now e 0) q ∙ u))
    (sym (compared (goal.at.returns-then-same_vertex-clause-is c).After-same_vertex) ∙ c.if-same_vertex.true)

pub returns-else-same_vertex-clause-is : goal.returns-else-same_vertex-clause-is
returns-else-same_vertex-clause-is c =
    let s = (goal.at.returns-else-same_vertex-clause-is c).Start in
    edge_wrong c.args.rule (L s) (vs s) c.args.slots.now c.args.i
    (sym (compared (goal.at.returns-else-same_vertex-clause-is c).After-same_vertex) ∙ c.if-same_vertex.false)
