-- By whether the row has a vertex there. Assumes nothing.
use mathlib.Core.Path.{◌≡◌, sym, ap, ◌∙◌}
use mathlib.Core.Bool.{false}
use Prim.Native.Nat.{ℕ}
use Rattle.paper.specs.Lattice.{lattice}
use Rattle.bits.specs.Words.{bit}
use Rattle.dots.specs.Dots.{anchor_edges, drawn}
use Rattle.dots.proofs.Laws.{draws_same, draws_empty}
use Rattle.dots.proofs.Rows.{any_none, anchor_is, anchor_room, anchor_base, anchor_within, anchor_crossing}
use Rattle.dots.proofs.put_place.Goals as goal

pub put_anchor-requires-clause-within : goal.put_anchor-requires-clause-within
put_anchor-requires-clause-within c =
    let h = c.requires.fact in
    (h.0, anchor_base c.args.volume.now.sizes c.args.p h.0 c.args.row h.2)

pub put_anchor-requires-clause-crossing : goal.put_anchor-requires-clause-crossing
put_anchor-requires-clause-crossing c =
    let a = c.args in
    let L = lattice a.volume.now.sizes a.volume.now.samples.now in
    let h = c.requires.fact in
    anchor_crossing L a.p h.0 a.k.now a.row c.at-ks.result h.2 c.at-ks.ensures.0 c.requires.crossed

pub put_anchor-requires-clause-roomy : goal.put_anchor-requires-clause-roomy
put_anchor-requires-clause-roomy c =
    let a = c.args in
    let h = c.requires.fact in
    anchor_room a.k.now a.row a.p.x c.at-ks.result c.at-ks.ensures.0 _ _ _ _ _ _ (anchor_within a.volume.now.sizes a.p h.0 a.row h.2) c.requires.roomy

pub returns-then-has_bit : goal.returns-then-has_bit
returns-then-has_bit c =
    let a = c.args in
    draws_same a.rule (lattice a.volume.now.sizes a.volume.now.samples.now) a.first a.at (drawn a.vertices.now a.slots.now)
    c.put_anchor.result _ _ _
    (anchor_is a.k.now a.row a.p.x c.at-ks.result c.at-ks.ensures.0) c.put_anchor.ensures

pub returns : goal.returns
returns c =
    let a = c.args in
    let off : bit a.any a.p.x ≡ false = sym c.has_bit.ensures ∙ c.if-has_bit.false in
    draws_empty a.rule (lattice a.volume.now.sizes a.volume.now.samples.now) a.first a.at (drawn a.vertices.now a.slots.now)
    (anchor_edges a.k.now a.row a.p.x)
    (any_none a.k.now a.row a.p.x (ap (λ (w : ℕ). bit w a.p.x) (sym c.requires.fact.1) ∙ off))
