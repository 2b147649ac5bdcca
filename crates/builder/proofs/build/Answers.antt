-- Tests 1 to 5, then a build from the start. Assumes nothing.
use mathlib.Core.Path.{sym, ap}
use native.Mathlib.Omega.{arith}
use Rattle.paper.specs.declared.Verdict.{Verdict}
use Rattle.paper.specs.Lattice.{Lattice, lattice}
use Rattle.paper.specs.Room.{work}
use Rattle.paper.specs.Build.{Lent, lent}
use Rattle.paper.specs.Refused.{verdict_of}
use Rattle.paper.proofs.Refusals.{some_number}
use Rattle.builder.proofs.Answers.{refused, settled}
use Rattle.builder.proofs.build.Goals as goal
use Rattle.builder.proofs.build.Goals.{Start}

abbrev L : goal.Start → Lattice
L s = lattice s.args.sizes s.args.samples.now

abbrev before : goal.Start → Lent
before s =
    lent s.args.vertices.now s.args.triangles.now (work s.args.words.now s.args.waiting.now s.args.slots.now)

pub returns-in-Err : goal.returns-in-Err
returns-in-Err c =
    let e = c.in-Err.e in
    let s = (goal.at.returns-in-Err c).Start in
    refused (L s) c.args.start (before s) (verdict_of e).number (ap (λ (v : Verdict). v.number) c.in-Err.ensures.answer) (λ q. omega (arith, some_number e))

pub returns : goal.returns
returns c =
    let h = c.in-Ok.ensures in
    let e = c.surface_of-surface.ensures in
    let s = (goal.at.returns c).Start in
    let b = rw (e.0, e.1) at c.build_from.ensures in
    settled (L s) c.args.start (before s) (sym (ap (λ (v : Verdict). v.number) h.answer)) c.in-Ok.k h.begins.is _ _ b
