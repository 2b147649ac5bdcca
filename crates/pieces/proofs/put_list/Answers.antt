-- After i turns the first i numbers are copied. Assumes nothing.
use mathlib.Core.Path.{◌≡◌, refl, sym, ap, ◌∙◌}
use mathlib.Core.List.{[], ◌∷◌, ◌++◌}
use Prim.Native.Nat.{ℕ, ◌+◌, ◌≤◌, ◌<◌}
use native.Mathlib.Numerals.{add-one}
use native.Mathlib.Omega.{arith}
use lib.ListN.{length, get_or, take, length-set}
use lib.Seq.{sets, take-suc, length-take-le}
use Rattle.std.proofs.lemmas.List.{take_all}
use Rattle.lists.proofs.Stores.{sets_next, sets_front}
use Rattle.paper.specs.Room.{output_after}
use Rattle.pieces.proofs.put_list.Goals as goal

pub loop-i-init : goal.loop-i-init
loop-i-init c = (refl, refl)

pub loop-i-preserved : goal.loop-i-preserved
loop-i-preserved c =
    let l = c.loop-i in
    let from = c.args.pieces.now in
    let old = c.args.list.now in
    let i = l.i in
    let h : i < length from = omega (arith) in
    let at : 0 + length (take i from) ≡ i = omega (arith, length-take-le i from (omega arith)) in
    let e : take (i + 1) from ≡ take i from ++ (get_or from i 0 ∷ []) = ap (λ (n : ℕ). take n from) (add-one i) ∙ take-suc from i 0 h in (
      length-set l.list i (get_or from i 0) ∙ l.invariant.0,
      sets_next old 0 i (take i from) (get_or from i 0 ∷ []) at l.invariant.1 refl ∙ ap (sets old 0) (sym e),
    )

pub returns-clause-put : goal.returns-clause-put
unfolding output_after
returns-clause-put c =
    let l = c.loop-i in
    let from = c.args.pieces.now in
    let old = c.args.list.now in
    let long : length from ≤ l.i = omega (arith, l.auto.i-end, c.loop-i-test.false) in
    let fits : length from ≤ length old = omega (arith, c.if-list-n.false) in
    l.invariant.1 ∙ (ap (sets old 0) (take_all l.i from long) ∙ sets_front old from fits)
