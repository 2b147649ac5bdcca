-- `floats::convert` meets its contract: a refusal stores nothing, and what passes the tests is converted whole. Assumes nothing.
use mathlib.Core.Path.{refl, sym, subst, ap, ◌∙◌}
use mathlib.Core.List.{map}
use native.Mathlib.Omega.{arith}
use Rattle.std.proofs.lemmas.Result.{err_from_is_err_and}
use lib.Ieee.{Float}
use Rattle.lists.specs.Lists.{over}
use Rattle.greys.specs.Sample.{sample_of}
use Rattle.greys.specs.Within.{Fine}
use Rattle.paper.proofs.Refusals.{some_number}
use Rattle.greys.proofs.Converting.{refused, fine, done}
use Rattle.floats.proofs.convert.Goals as goal

pub returns-in_err-convertible : goal.returns-in_err-convertible
returns-in_err-convertible c =
    let a = c.args in
    let p = err_from_is_err_and c.from_residual.result c.from_residual.ensures.1 in
    rw (p.1, p.2) (refused a.level a.scale a.voxels.now a.samples.now _ c.in_err-convertible.ensures (λ q. omega (arith, some_number)))

pub put_samples-requires : goal.put_samples-requires
put_samples-requires c =
    let a = c.args in
    let f = fine a.level a.scale a.voxels.now a.samples.now _ c.in_ok-convertible.ensures refl in
    (subst (λ (g : Float). Fine g a.scale a.voxels.now) (sym c.level_of-g.ensures) f.0, omega (arith, f.1))

pub returns : goal.returns
returns c =
    let a = c.args in
    done a.level a.scale a.voxels.now a.samples.now _ c.in_ok-convertible.ensures refl _
    (c.put_samples.ensures
    ∙ ap (λ (g : Float). over (map (sample_of g a.scale) a.voxels.now) a.samples.now) c.level_of-g.ensures)
