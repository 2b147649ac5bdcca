-- `printer::listing` is safe and ends: a sheet that is not refused lies within its room. Assumes nothing.
use Rattle.std.proofs.Common.{sym, ap, subst, arith}
use Rattle.paper.specs.declared.Built.{Built}
use Rattle.paper.specs.Refused.{built_with}
use Rattle.lister.proofs.Fits.{Fits, listing_fits}
use Rattle.printer.proofs.listing.Given as given
use Rattle.printer.proofs.listing.Goals as goal
use Rattle.printer.proofs.listing.Goals.{In-Ok}

fits : (g : given.Over) (c : In-Ok g) → Fits (built_with 0 c.in-Ok.counts) 4000 6000
fits g c =
    let e = c.in-Ok.ensures.answer in
    subst (λ (r : Built). Fits r 4000 6000) (sym e) (listing_fits _ (ap (λ (r : Built). r.number) (sym e)))

pub vertices-requires : goal.vertices-requires
vertices-requires g c = omega (arith, (fits g (goal.at.vertices-requires g c).In-Ok).vertices)

pub triangles-requires : goal.triangles-requires
triangles-requires g c = omega (arith, (fits g (goal.at.triangles-requires g c).In-Ok).triangles)
