-- From k on, there are the sides of the samples, and the fill. Assumes nothing.
use mathlib.Core.Path.{◌≡◌, ap, subst, ◌∙◌}
use Prim.Native.Nat.{ℕ, ◌-◌, ◌*◌, ◌/◌, ◌%◌}
use native.Mathlib.Omega.{arith}
use Rattle.paper.specs.Lattice.{air, is_fill}
use Rattle.rows.proofs.Making.{From, row_none, row_all, row_more, row_fits, codes_low, codes_high}
use Rattle.sampling.proofs.sample_row.Goals as goal

pub loop-k-init : goal.loop-k-init
loop-k-init c =
    let a = c.args in (
      record {
        sides = row_none air a.samples.now a.first a.n;
        fills = row_none is_fill a.samples.now a.first a.n;
        sides_fit = λ h. omega arith;
        fills_fit = λ h. omega arith;
      },
      omega arith,
    )

pub loop-k-preserved : goal.loop-k-preserved
loop-k-preserved c =
    let l = c.loop-k in
    let s = c.args.samples.now in
    let e = c.code_at-c.ensures.0 in
    let v = row_more air s c.args.first c.args.n l.k l.sides l.invariant.0.sides (l.k - 1) 1 _ (omega arith)
    (c.from.ensures ∙ ap (λ (r : ℕ). r % 256) e ∙ codes_low s _ 1 (omega arith)) in
    let f = row_more is_fill s c.args.first c.args.n l.k l.fills l.invariant.0.fills (l.k - 1) 1 _ (omega arith)
    (c.from-in-loop-k.ensures ∙ ap (λ (r : ℕ). r / 256) e ∙ codes_high s _ 1 (omega arith)) in (
      record {
        sides = v;
        fills = f;
        sides_fit = λ h. row_fits air s _ _ _ _ v 8 (omega arith);
        fills_fit = λ h. row_fits is_fill s _ _ _ _ f 8 (omega arith);
      },
      omega arith,
    )

pub loop-k-2-init : goal.loop-k-2-init
loop-k-2-init c =
    let i = c.loop-k.invariant.0 in
    let e : c.loop-k.k ≡ 8 * (c.args.n / 8) = omega (arith, c.loop-k.invariant.1) in
    let s = c.args.samples.now in
    let v = subst (λ k. From air s c.args.first c.args.n k c.loop-k.sides) e i.sides in
    let f = subst (λ k. From is_fill s c.args.first c.args.n k c.loop-k.fills) e i.fills in record {
      sides = v;
      fills = f;
      sides_fit = λ h. omega (arith, i.sides_fit (omega arith));
      fills_fit = λ h. omega (arith, i.fills_fit (omega arith));
    }

pub loop-k-2-preserved : goal.loop-k-2-preserved
loop-k-2-preserved c =
    let l = c.loop-k-2 in
    let s = c.args.samples.now in
    let e = c.eight-c.ensures in
    let v = row_more air s c.args.first c.args.n _ l.sides l.invariant.sides (8 * (l.k - 1)) 8 _ (omega arith)
    (c.from-in-loop-k-2.ensures ∙ ap (λ (r : ℕ). r % 256) e ∙ codes_low s _ 8 (omega arith)) in
    let f = row_more is_fill s c.args.first c.args.n _ l.fills l.invariant.fills (8 * (l.k - 1)) 8 _ (omega arith)
    (c.from-in-loop-k-2-2.ensures ∙ ap (λ (r : ℕ). r / 256) e ∙ codes_high s _ 8 (omega arith)) in record {
      sides = v;
      fills = f;
      sides_fit = λ h. row_fits air s _ _ _ _ v 56 (omega arith);
      fills_fit = λ h. row_fits is_fill s _ _ _ _ f 56 (omega arith);
    }

pub returns : goal.returns
returns c =
    let l = c.loop-k-2 in
    let s = c.args.samples.now in (
      row_all air s _ _ _ l.sides l.invariant.sides (omega arith),
      row_all is_fill s _ _ _ l.fills l.invariant.fills (omega arith),
    )
