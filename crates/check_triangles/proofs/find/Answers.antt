-- Near the last triangle, or by its own cube. Assumes nothing.
use mathlib.Core.Path.{sym, ap, ◌∙◌}
use Prim.Native.Nat.{◌+◌}
use native.Mathlib.Omega.{arith}
use Rattle.paper.specs.declared.Sizes.{Sizes}
use Rattle.tetra.specs.Cut.{tri_of}
use Rattle.check_triangles.specs.Words.{words_by}
use Rattle.check_triangles.specs.Triples.{place_from, Based}
use Rattle.check_triangles.proofs.Laws.{base_few, spot_found}
use Rattle.check_triangles.proofs.find.Goals as goal
use Rattle.check_triangles.proofs.find.Goals.{In-Some}

-- the last triangle's spot
based : (c : goal.In-Some) → let w = c.args.rows.now in Based w.sizes (words_by w.sizes w.sides.now w.cubes.now) c.in-Some.at
based c = rw c.in-Some.is at c.requires.words.1

pub place_from-requires : goal.place_from-requires
place_from-requires c =
    let w = c.args.rows.now in
    let b = based (goal.at.place_from-requires c).In-Some in
    (omega (arith, b.base, base_few w.sizes w.sized c.in-Some.at.cube b.cube), omega (arith, b.place))

pub returns-in-Some-place_from : goal.returns-in-Some-place_from
returns-in-Some-place_from c =
    let w = c.args.rows.now in
    let at = c.in-Some.at in
    let t = tri_of c.args.t in
    let p = c.in-Some-place_from.ensures in
    spot_found w.sizes (words_by w.sizes w.sides.now w.cubes.now) t at (at.place + 1) c.in-Some-place_from.place c.requires.words.0
    (based (goal.at.returns-in-Some-place_from c).In-Some)
    (ap (λ (z : Sizes). place_from z at.base at.pattern t (at.place + 1)) (sym c.requires.sized.0) ∙ p.0) p.1
