-- After t tetrahedra their steps are stored. Assumes nothing.
use mathlib.Core.Path.{◌≡◌, sym, ap, ◌∙◌}
use mathlib.Core.List.{List}
use Prim.Native.Nat.{ℕ, ◌+◌}
use native.Mathlib.Omega.{arith}
use lib.ListN.{length, length-append}
use lib.Seq.{sets}
use Rattle.lists.proofs.Stores.{sets_next}
use Rattle.tetra.specs.Cut.{row_by}
use Rattle.patterns.specs.Table.{steps_from}
use Rattle.patterns.proofs.Laws.{steps_to, to_none, to_more, to_all, to_le}
use Rattle.patterns.proofs.put_pattern.Goals as goal

pub loop-t-init : goal.loop-t-init
loop-t-init c =
    let a = c.args in
    let e = to_none a.cut.now.steps a.m in
    record { upto = omega arith; written = ap (sets a.steps.now a.at) e; next_is = omega (arith, ap length e) }

pub put_steps-next-requires : goal.put_steps-next-requires
put_steps-next-requires c =
    let w = to_le c.args.cut.now.steps c.args.m c.loop-t.t in
    (omega arith, c.row.ensures.1, omega (arith, c.requires, c.loop-t.invariant.next_is, w))

pub loop-t-preserved : goal.loop-t-preserved
loop-t-preserved c =
    let a = c.args in
    let s = a.cut.now.steps in
    let t = c.loop-t.t in
    let f = steps_to s a.m t in
    let g = steps_from s t (row_by a.m t) in
    let e : steps_from s t c.row.result ≡ g = ap (steps_from s t) c.row.ensures.0 in
    let i = c.loop-t.invariant in
    record {
      upto = omega arith;
      written =
          sets_next a.steps.now a.at c.loop-t.next f g (sym i.next_is) i.written
          (c.put_steps-next.ensures.0 ∙ ap (sets c.loop-t.steps c.loop-t.next) e)
          ∙ ap (sets a.steps.now a.at) (to_more s a.m t);
      next_is =
          omega (
            arith,
            c.put_steps-next.ensures.1,
            i.next_is,
            ap length e,
            ap length (to_more s a.m t),
            length-append f g,
          );
    }

pub returns : goal.returns
returns c =
    let a = c.args in
    let s = a.cut.now.steps in
    let q : c.loop-t.t ≡ 6 = omega arith in
    let e = ap (steps_to s a.m) q ∙ to_all s a.m in
    (c.loop-t.invariant.written ∙ ap (sets a.steps.now a.at) e, c.loop-t.invariant.next_is ∙ ap (λ (ts : List ℕ). a.at + length ts) e)
