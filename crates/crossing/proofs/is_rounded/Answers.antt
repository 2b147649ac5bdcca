-- The quotient is the one number that fits. Assumes nothing.
use mathlib.Core.Path.{◌≡◌, sym, ap, ◌∙◌}
use Prim.Native.Nat.{ℕ, ◌+◌, ◌-◌, ◌*◌, ◌/◌}
use native.Mathlib.Omega.{arith}
use borrow.Author.Tests.{ltb-true}
use Rattle.crossing.proofs.Rounding.{quotient_is, one_quotient}
use Rattle.crossing.proofs.is_rounded.Goals as goal

pub returns-then-low-m : goal.returns-then-low-m
returns-then-low-m c e =
    let a = c.args in
    let l = a.t * a.d in
    let q : (a.n + c.more_by.result) / a.d ≡ a.t =
    quotient_is _ a.d a.t c.requires.1 (omega (arith, c.if-low-m.true)) (omega (arith, c.if-low-m.true, ltb-true (a.n + c.more_by.result - l) a.d e)) in
    sym (sym (one_quotient a.rule a.n a.d c.requires.1) ∙ (ap (λ (k : ℕ). (a.n + k) / a.d) (sym c.more_by.ensures.0) ∙ q))
