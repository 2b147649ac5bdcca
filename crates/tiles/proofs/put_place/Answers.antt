-- By whether the row has the cube. Assumes nothing.
use mathlib.Core.Path.{◌≡◌, sym, ap, subst, ◌∙◌}
use mathlib.Core.List.{List}
use Prim.Native.Nat.{ℕ, ◌+◌, ◌*◌}
use native.Mathlib.Omega.{arith}
use lib.ListN.{length}
use lib.Seq.{sets}
use Rattle.lists.proofs.Member.{eq_to_t}
use Rattle.tiles.specs.Tiles.{Source, source, tile_of, tile_at, Reaching}
use Rattle.tiles.proofs.Laws.{tile_length, place_on, place_off}
use Rattle.tiles.proofs.put_place.Goals as goal
use Rattle.tiles.proofs.put_place.Goals.{After-pattern, Start}

abbrev from : goal.Start → Source
from s = source s.args.table.now s.args.counts.now s.args.slots.now

-- the cube's own pattern
same : (c : goal.After-pattern) → let S = from (goal.at.After-pattern c).Start in
    let a = c.args in
    tile_of S c.pattern.result (a.base + 7 * a.x) ≡ tile_at S a.q a.v a.base a.x
same c =
    let a = c.args in
    let S = from (goal.at.After-pattern c).Start in
    ap (λ (m : ℕ). tile_of S m (a.base + 7 * a.x)) c.pattern.ensures.0
    ∙ sym (place_on S a.q a.v a.base a.x (sym c.has_bit.ensures ∙ c.if-has_bit.true))

pub put_cube-requires-clause-fact : goal.put_cube-requires-clause-fact
put_cube-requires-clause-fact c =
    let a = c.args in
    let S = from (goal.at.put_cube-requires-clause-fact c).Start in
    let b = a.base + 7 * a.x in
    let on = eq_to_t (sym c.has_bit.ensures ∙ c.if-has_bit.true) in
    let m = c.pattern in (
      subst (λ (k : ℕ). Reaching S (length a.slots.now) k b) (sym m.ensures.0) (c.requires.fact.0.cube a.x (omega arith) on),
      omega (
        arith,
        c.requires.fact.1,
        ap length (same (goal.at.put_cube-requires-clause-fact c).After-pattern),
        tile_length S m.result b,
      ),
    )

pub returns-then-has_bit : goal.returns-then-has_bit
returns-then-has_bit c =
    let a = c.args in
    let e = same (goal.at.returns-then-has_bit c).After-pattern in
    (c.put_cube.ensures.0 ∙ ap (sets a.out.now a.at) e, c.put_cube.ensures.1 ∙ ap (λ (l : List ℕ). a.at + length l) e)

pub returns : goal.returns
returns c =
    let a = c.args in
    let e = place_off (from (goal.at.returns c).Start) a.q a.v a.base a.x (sym c.has_bit.ensures ∙ c.if-has_bit.false) in
    (sym (ap (sets a.out.now a.at) e), omega (arith, ap length e))
