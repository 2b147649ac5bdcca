-- After i numbers the first i are stored. Assumes nothing.
use mathlib.Core.Path.{◌≡◌, refl, sym, ap, ◌∙◌}
use mathlib.Core.List.{[], ◌∷◌}
use Prim.Native.Nat.{ℕ, ◌+◌}
use native.Mathlib.Omega.{arith}
use lib.ListN.{get_or}
use lib.Seq.{sets}
use Rattle.lists.proofs.Stores.{sets_next}
use Rattle.tiles.specs.Tiles.{Source, source, edge_in}
use Rattle.tiles.proofs.Laws.{tile_upto, upto_length, upto_none, upto_more, upto_all, tile_length}
use Rattle.tiles.proofs.put_cube.Goals as goal
use Rattle.tiles.proofs.put_cube.Goals.{Start}

abbrev from : goal.Start → Source
from s = source s.args.table.now s.args.counts.now s.args.slots.now

pub loop-i-init : goal.loop-i-init
loop-i-init c =
    let a = c.args in
    record { upto = omega arith; stored = ap (sets a.out.now a.at) (upto_none (from (goal.at.loop-i-init c).Start) a.m a.base) }

pub loop-i-preserved : goal.loop-i-preserved
loop-i-preserved c =
    let a = c.args in
    let S = from (goal.at.loop-i-preserved c).Start in
    let i = c.loop-i.i in
    let v = get_or a.slots.now (edge_in S a.m a.base i) 0 in
    record {
      upto = omega arith;
      stored =
          sets_next a.out.now a.at (a.at + i) (tile_upto S a.m a.base i) (v ∷ [])
          (ap (λ (n : ℕ). a.at + n) (upto_length S a.m a.base i))
          c.loop-i.invariant.stored refl
          ∙ ap (sets a.out.now a.at) (upto_more S a.m a.base i);
    }

pub returns : goal.returns
returns c =
    let a = c.args in
    let S = from (goal.at.returns c).Start in
    let q : c.loop-i.i ≡ get_or a.counts.now a.m 0 = omega arith in
    let e = ap (tile_upto S a.m a.base) q ∙ upto_all S a.m a.base in
    (c.loop-i.invariant.stored ∙ ap (sets a.out.now a.at) e, ap (λ (n : ℕ). a.at + n) (sym (tile_length S a.m a.base)))
