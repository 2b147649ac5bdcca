-- The visited cubes, the counts, tests 6 and 7, the sheet, and a clear. Assumes nothing.
use mathlib.Core.Path.{◌≡◌, sym, ap, subst, ◌∙◌}
use mathlib.Core.List.{List}
use Prim.Native.Nat.{ℕ}
use Rattle.paper.specs.declared.Built.{Built}
use Rattle.paper.specs.Lattice.{Lattice, lattice}
use Rattle.paper.proofs.Visits.{crossed_visitable}
use Rattle.spread.proofs.Joining.{fresh}
use Rattle.build_output.specs.Output.{Output, output, Puts}
use Rattle.build_output.proofs.Output.{build_fits, build_done}
use Rattle.build_past.proofs.build_from.Goals as goal
use Rattle.build_past.proofs.build_from.Goals.{Start}

abbrev L : goal.Start → Lattice
L s = lattice s.args.surface.now.rows.sizes s.args.surface.now.samples.now

pub visit-cubes-requires-clause-empty : goal.visit-cubes-requires-clause-empty
visit-cubes-requires-clause-empty c =
    let r = c.args.surface.now.rows in
    (fresh r.sizes r.sized, c.requires.3.waiting)

pub put_sheet-requires-clause-standing : goal.put_sheet-requires-clause-standing
put_sheet-requires-clause-standing c =
    let p = c.requires in
    let t = crossed_visitable (L (goal.at.put_sheet-requires-clause-standing c).Start) c.args.k p.2 in
    record { start = c.args.k; stands = c.visit-cubes.ensures.stands _ p.0 t }

pub put_sheet-requires-clause-fits : goal.put_sheet-requires-clause-fits
put_sheet-requires-clause-fits c z =
    let n = c.counts_of-counts.result in
    build_fits (L (goal.at.put_sheet-requires-clause-fits c).Start) _ _ (record { vertices = n.vertices; triangles = n.triangles; cubes = c.visit-cubes.result })
    c.counts_of-counts.ensures _ _ (sym (ap (λ (b : Built). b.number) c.with_room-built.ensures) ∙ z)

-- what is written, by an equal number
moved : {K : Lattice} {rows vis : List ℕ} {m n : ℕ} {b o : Output} → Puts K rows vis m b o → m ≡ n → Puts K rows vis n b o
moved {K} {rows} {vis} {m} {n} {b} {o} p e = subst (λ (k : ℕ). Puts K rows vis k b o) e p

pub returns : goal.returns
returns c =
    let found = c.visit-cubes.ensures in
    let put = c.put_sheet.ensures in
    let h = c.requires.0 in
    let t = crossed_visitable (L (goal.at.returns c).Start) c.args.k c.requires.2 in
    let e = c.with_room-built.ensures in
    let same = moved put.0 (ap (λ (b : Built). b.number) e) in
    build_done (L (goal.at.returns c).Start) _ _ _ c.counts_of-counts.ensures c.args.k (found.stands _ h t) _ (found.number _ h t) _ e (output _ _) same
    _ _ found.beyond put.1 _ c.clear_work.ensures
