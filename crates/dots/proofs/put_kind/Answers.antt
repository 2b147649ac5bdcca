-- By whether the word has the kind. Assumes nothing.
use mathlib.Core.Path.{◌≡◌, sym, ap, ◌∙◌}
use mathlib.Core.Bool.{true}
use Prim.Native.Nat.{ℕ, ◌+◌}
use native.Mathlib.Omega.{arith}
use lib.ListN.{length}
use Rattle.paper.specs.Lattice.{lattice}
use Rattle.paper.specs.Sheet.{vertex_record}
use Rattle.bits.specs.Words.{bit}
use Rattle.dots.specs.Dots.{edge_at, drawn}
use Rattle.dots.proofs.Laws.{kind_on, kind_off, draws_kind, draws_empty}
use Rattle.dots.proofs.put_kind.Goals as goal
use Rattle.dots.proofs.put_kind.Goals.{Then-has_bit}

-- the word has the kind
on : (c : goal.Then-has_bit) → bit c.args.ks c.args.kind ≡ true
on c = sym c.has_bit.ensures ∙ c.if-has_bit.true

pub put_vertex-requires : goal.put_vertex-requires
put_vertex-requires c =
    omega (arith, c.requires.roomy.since, c.requires.roomy.room, ap length (kind_on c.args.ks c.args.base c.args.kind (on (goal.at.put_vertex-requires c).Then-has_bit)))

pub returns-then-has_bit : goal.returns-then-has_bit
returns-then-has_bit c =
    let a = c.args in
    let L = lattice a.volume.now.sizes a.volume.now.samples.now in
    draws_kind a.rule L a.first a.at a.ks a.base a.kind (drawn a.vertices.now a.slots.now) _ _
    c.put_vertex.ensures
    (c.vertex_on-v.ensures ∙ ap (λ (b : ℕ). vertex_record a.rule L (b + a.kind)) (sym c.requires.within.1)) (on (goal.at.returns-then-has_bit c).Then-has_bit)

pub returns : goal.returns
returns c =
    let a = c.args in
    draws_empty a.rule (lattice a.volume.now.sizes a.volume.now.samples.now) a.first a.at (drawn a.vertices.now a.slots.now)
    (edge_at a.ks a.base a.kind) (kind_off a.ks a.base a.kind (sym c.has_bit.ensures ∙ c.if-has_bit.false))
