-- `lister::list` meets its contract: a refusal stores nothing, and bytes that pass are read whole and meshed. Assumes nothing.
use mathlib.Core.Path.{◌≡◌, sym, ap, ◌∙◌}
use Prim.Native.Nat.{◌≤◌}
use native.Mathlib.Omega.{arith}
use lib.IntN.{pos}
use lib.ListN.{length, take, replicate, length-replicate}
use lib.Seq.{length-take-le}
use Rattle.std.proofs.lemmas.Result.{err_from_is_err_and}
use Rattle.paper.specs.Lattice.{samples}
use Rattle.lister.specs.Listing.{listed_sizes}
use Rattle.lister.proofs.Passing.{readable_ok}
use Rattle.lister.proofs.Answers.{samples_listed, list_err, list_ok}
use borrow.Author.Rules.{rules}
use Rattle.lister.proofs.list.Goals as goal
use Rattle.lister.proofs.list.Goals.{After-sample_count-n}

-- as many samples as the sizes say, which the room holds
count : (c : goal.After-sample_count-n) → c.sample_count-n.result ≡ samples (listed_sizes c.args.input.now)
count c = c.sample_count-n.ensures.0 ∙ ap samples c.sizes_of-sizes.ensures

pub returns-in_err-tested : goal.returns-in_err-tested
returns-in_err-tested c =
    let a = c.args in
    let p = err_from_is_err_and c.from_residual.result c.from_residual.ensures.1 in
    rw (p.1, p.2) (list_err a.input.now a.vertices.now a.triangles.now _ c.in_err-tested.ensures)

pub sizes_of-sizes-requires : goal.sizes_of-sizes-requires
sizes_of-sizes-requires c = omega (arith, (readable_ok _ c.in_ok-tested.ensures).long)

pub sample_count-n-requires : goal.sample_count-n-requires
sample_count-n-requires c = rw c.sizes_of-sizes.ensures (readable_ok _ c.in_ok-tested.ensures).sized

fits : (c : goal.After-sample_count-n) → c.sample_count-n.result ≤ 512
fits c = omega (arith, count c, (readable_ok _ c.in_ok-tested.ensures).few)

-- the front of the room, which is all 0 before
front : (c : goal.After-sample_count-n) → length (take c.sample_count-n.result (replicate 512 (pos 0))) ≡ c.sample_count-n.result
front c = length-take-le c.sample_count-n.result (replicate 512 (pos 0)) (omega (arith, fits c, length-replicate 512 (pos 0)))

pub slice_bounds-room-end : goal.slice_bounds-room-end
slice_bounds-room-end c = fits (goal.at.slice_bounds-room-end c).After-sample_count-n

pub slice_bounds-samples-end : goal.slice_bounds-samples-end
slice_bounds-samples-end c = sym (front (goal.at.slice_bounds-samples-end c).After-sample_count-n)

pub get_samples-requires : goal.get_samples-requires
get_samples-requires c =
    let at = (goal.at.get_samples-requires c).After-sample_count-n in
    omega (arith, front at, count at, (readable_ok _ c.in_ok-tested.ensures).long)

pub returns : goal.returns
returns c =
    let a = c.args in
    let at = (goal.at.returns c).After-sample_count-n in
    list_ok a.input.now a.vertices.now a.triangles.now (search rules) (search rules) c.in_ok-tested.ensures
    _ c.sizes_of-sizes.ensures _ (c.get_samples.ensures ∙ samples_listed a.input.now _ (front at ∙ count at))
    _ c.mesh.ensures.0 _ c.mesh.ensures.1 _ c.mesh.ensures.2
