-- Each record before i is good, and the slots of their edges are 0. Assumes nothing.
use mathlib.Core.Path.{◌≡◌, sym, ap, subst, ◌∙◌}
use mathlib.Core.Bool.{not}
use mathlib.Core.List.{List}
use Prim.Native.Nat.{ℕ}
use native.Mathlib.Omega.{arith}
use lib.IntN.{ℤ}
use lib.ListN.{set}
use borrow.Author.Count.{below_more}
use Rattle.lists.proofs.Firsts.{first_found, first_missing}
use Rattle.paper.specs.Lattice.{Lattice, lattice}
use Rattle.paper.specs.File.{file_v, file_vertices}
use Rattle.check_records.specs.Records.{AllCross, good_edge, slots_after, bad_in, first_bad_in}
use Rattle.check_records.proofs.Laws.{Found, record_bad, record_good, after_none, after_more, after_crossing}
use Rattle.check_records.proofs.first_bad.Goals as goal
use Rattle.check_records.proofs.first_bad.Goals.{After-good_edge, At-loop-i, In-Some, Start}

abbrev L : goal.Start → Lattice
L s = let v = s.args.volume.now in lattice v.sizes v.samples.now

abbrev vs : goal.Start → List ℤ
vs s = file_vertices s.args.file.now.bytes.now

-- the slots after the records before this one
abbrev slots_at : goal.At-loop-i → List ℕ
slots_at c = let s = (goal.at.At-loop-i c).Start in slots_after (L s) (vs s) c.args.slots.now c.loop-i.i

found : (c : goal.In-Some) → let s = (goal.at.In-Some c).Start in
    (c.in-Some.e ≡ good_edge c.args.rule (L s) (vs s) (slots_at (goal.at.In-Some c).At-loop-i) c.loop-i.i)
    × Found c.args.rule (L s) (vs s) (slots_at (goal.at.In-Some c).At-loop-i) c.loop-i.i
found c =
    let s = (goal.at.In-Some c).Start in
    let w = slots_at (goal.at.In-Some c).At-loop-i in
    let e : c.in-Some.e ≡ good_edge c.args.rule (L s) (vs s) w c.loop-i.i =
    c.in-Some.ensures.is ∙ ap (λ (l : List ℕ). good_edge c.args.rule (L s) (vs s) l c.loop-i.i) c.loop-i.invariant.0 in
    (e, record_good c.args.rule (L s) (vs s) w c.loop-i.i (λ q. absurd (omega (arith, e, c.in-Some.ensures.below))))

pub loop-i-init : goal.loop-i-init
loop-i-init c = (after_none _ _ _, λ k h. absurd (omega arith))

pub good_edge-requires-clause-all_cross : goal.good_edge-requires-clause-all_cross
good_edge-requires-clause-all_cross c =
    let s = (goal.at.good_edge-requires-clause-all_cross c).Start in (
      subst (AllCross (L s)) (sym c.loop-i.invariant.0)
          (after_crossing (L s) (vs s) c.args.slots.now c.loop-i.i c.requires.1 c.requires.0),
      omega arith,
    )

pub returns-in-None-clause-first : goal.returns-in-None-clause-first
unfolding first_bad_in bad_in
returns-in-None-clause-first c =
    let a = c.args in
    let i = c.loop-i.i in
    let s = (goal.at.returns-in-None-clause-first c).Start in
    let b =
    record_bad a.rule (L s) (vs s) (slots_at (goal.at.returns-in-None-clause-first c).At-loop-i) i
    (sym (c.in-None.ensures.is ∙ ap (λ (l : List ℕ). good_edge a.rule (L s) (vs s) l i) c.loop-i.invariant.0)) in (
      first_found (bad_in a.rule (L s) (vs s) a.slots.now) (file_v a.file.now.bytes.now) i
          (omega (arith, a.file.now.counted_v)) c.loop-i.invariant.1 (ap not b),
      c.loop-i.invariant.0,
    )

pub loop-i-preserved : goal.loop-i-preserved
unfolding bad_in
loop-i-preserved c =
    let s = (goal.at.loop-i-preserved c).Start in
    let f = found (goal.at.loop-i-preserved c).In-Some in (
      (λ j. set (c.loop-i.invariant.0 j) ((f.0 ∙ f.1.is) j) 0) ∙ after_more (L s) (vs s) c.args.slots.now c.loop-i.i,
      below_more _ _ c.loop-i.invariant.1 (ap not f.1.good),
    )

pub returns-clause-first : goal.returns-clause-first
unfolding first_bad_in
returns-clause-first c =
    let a = c.args in
    let s = (goal.at.returns-clause-first c).Start in
    let nv = file_v a.file.now.bytes.now in
    let e : c.loop-i.i ≡ nv = omega (arith, a.file.now.counted_v) in (
      first_missing (bad_in a.rule (L s) (vs s) a.slots.now) nv (λ k h. c.loop-i.invariant.1 k (omega arith)),
      c.loop-i.invariant.0 ∙ ap (slots_after (L s) (vs s) a.slots.now) e,
    )
