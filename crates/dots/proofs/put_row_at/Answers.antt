-- By whether there are cubes around the row. Assumes nothing.
use mathlib.Core.Path.{◌≡◌, sym, subst, ◌∙◌}
use mathlib.Core.List.{List}
use Prim.Native.Nat.{ℕ, ◌+◌, ◌*◌}
use lib.ListN.{length}
use Rattle.paper.specs.Lattice.{Lattice, lattice}
use Rattle.paper.specs.Room.{needed_slots}
use Rattle.dots.specs.Dots.{row_edges, edges_of, Drawn, drawn, Crossed, Roomy}
use Rattle.dots.proofs.Laws.{draws_same, draws_empty}
use Rattle.dots.proofs.Rows.{edges_are, no_edges}
use Rattle.dots.proofs.put_row_at.Goals as goal
use Rattle.dots.proofs.put_row_at.Goals.{After-new-k, Start}

abbrev lent : goal.Start → Drawn
lent s = drawn s.args.vertices.now s.args.slots.now

abbrev space : goal.Start → Lattice
space s = lattice s.args.surface.now.rows.sizes s.args.surface.now.samples.now

abbrev edges : goal.Start → List ℕ
edges s = let r = s.args.surface.now.rows in edges_of r.sizes r.sides.now r.cubes.now s.args.y s.args.z

-- the row's edges are those of its kinds
row_is : (c : goal.After-new-k) → let n = c.args.surface.now.rows.sizes in
    row_edges c.new-k.result (7 * (n.nx * (c.args.y + n.ny * c.args.z))) n.nx ≡ edges (goal.at.After-new-k c).Start
row_is c =
    let r = c.args.surface.now.rows in
    edges_are r.sizes r.sides.now r.cubes.now c.args.y c.args.z c.sides_around.result c.cubes_around-v.result
    c.new-k.result c.sides_around.ensures c.cubes_around-v.ensures c.new-k.ensures

pub returns-then-either-eq0 : goal.returns-then-either-eq0
returns-then-either-eq0 c =
    let a = c.args in
    let r = a.surface.now.rows in
    let s = (goal.at.returns-then-either-eq0 c).Start in
    draws_empty a.rule (space s) a.first a.at (lent s) (edges s)
    (no_edges r.sizes r.sides.now r.cubes.now a.y a.z c.cubes_around-v.result c.cubes_around-v.ensures
    (sym c.either.ensures ∙ c.if-either-eq0.true) r.sized.x_high)

pub put_row-requires-clause-crossed : goal.put_row-requires-clause-crossed
put_row-requires-clause-crossed c =
    subst (Crossed (space (goal.at.put_row-requires-clause-crossed c).Start)) (sym (row_is (goal.at.put_row-requires-clause-crossed c).After-new-k)) c.requires.crossed

pub put_row-requires-clause-roomy : goal.put_row-requires-clause-roomy
put_row-requires-clause-roomy c =
    let a = c.args in
    subst (λ (es : List ℕ). Roomy es a.first a.at (needed_slots a.surface.now.rows.sizes) (length a.vertices.now) (length a.slots.now))
    (sym (row_is (goal.at.put_row-requires-clause-roomy c).After-new-k)) c.requires.roomy

pub returns : goal.returns
returns c =
    let a = c.args in
    let s = (goal.at.returns c).Start in
    draws_same a.rule (space s) a.first a.at (lent s) c.put_row.result _ _ _ (row_is (goal.at.returns c).After-new-k) c.put_row.ensures
