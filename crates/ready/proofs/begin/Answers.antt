-- Tests 1 to 3, then 4 and 5. Assumes nothing.
use mathlib.Core.Path.{◌≡◌, sym, ap, subst, ◌∙◌}
use mathlib.Core.List.{List}
use Prim.Native.Nat.{ℕ}
use native.Mathlib.Omega.{arith}
use borrow.Author.Rules.{rules}
use lib.Dec.{T}
use Rattle.std.specs.Prelude.{Result, Ok, Err, IsErrAnd}
use Rattle.lists.specs.Lists.{over}
use Rattle.paper.specs.declared.Refusal.{Refusal}
use Rattle.paper.specs.declared.Start.{Start}
use Rattle.paper.specs.declared.Verdict.{Verdict}
use Rattle.paper.specs.Lattice.{Lattice, lattice, crossed}
use Rattle.paper.specs.Tests.{judge}
use Rattle.paper.specs.Refused.{verdict_of}
use Rattle.paper.specs.Room.{Lengths}
use Rattle.paper.specs.Within.{Full, Roomy}
use Rattle.rows.specs.Rows.{HasRows, HasFree, HasBoth, free_rows}
use Rattle.rows.proofs.Cubes.{made_rows, made_free}
use Rattle.paper.specs.Build.{shape_tests, start_tests, sample_tests}
use Rattle.paper.proofs.Judged.{judge_past, judge_stop}
use Rattle.paper.proofs.Passing.{shape_numbered, sample_tests_law}
use Rattle.ready.specs.Ready.{cube_told, Shaped, Chosen, Readied}
use Rattle.paper.proofs.Refusals.{some_number}
use Rattle.ready.proofs.begin.Goals as goal

module _ (L : Lattice) (s : Start) (n : Lengths) (rows may : List ℕ) where
  -- a test of the first three fails
  stopped : (e : Refusal) (r : Result ℕ Refusal) → Shaped L n (Err e) → IsErrAnd r (λ x. x ≡ e) → Readied L s n rows may r
  unfolding sample_tests
  stopped e (Ok k) t h = absurd h
  stopped e (Err x) t h =
      let q = ap (λ (v : Verdict). v.number) t.answer in
      let k : (judge (shape_tests L n)).number ≡ 0 → ⊥ = λ z. omega (arith, some_number e, q) in
      record { answer = ap verdict_of h ∙ t.answer ∙ sym (judge_stop (shape_tests L n) (start_tests L s) k); begins = tt }

  -- they are passed
  past : (r : Result ℕ Refusal) → Full L → Roomy L.size n → HasBoth L rows may → Chosen L s r → cube_told r ≡ judge (sample_tests L s n)
      → Readied L s n rows may r
  past (Err e) f m b w a = record { answer = a; begins = tt }
  past (Ok k) f m b w a = record {
    answer = a;
    begins = record {
      full = f;
      both = b;
      roomy = m;
      is = w.is;
      below = w.below;
      crosses = subst (λ (k : ℕ). T (crossed L k)) (sym w.is) (sample_tests_law L s n (ap (λ (v : Verdict). v.number) (sym a))).crosses;
    };
  }

pub returns-in_err-shape : goal.returns-in_err-shape
returns-in_err-shape c = stopped _ _ _ _ _ _ _ c.in_err-shape.ensures c.from_residual.ensures.1

pub returns : goal.returns
unfolding sample_tests
returns c =
    let a = c.args in
    let L = lattice a.sizes a.samples.now in
    let s = c.in_ok-shape.ensures in
    let made = c.sample_rows.ensures in
    let both : HasBoth L _ _ = record {
      sides = subst (HasRows L) (sym made.0) (made_rows L _ (search rules));
      free = subst (HasFree L) (sym (c.free_rows.ensures ∙ ap (λ (l : List ℕ). over (free_rows L.size l) l) made.1))
          (made_free L _ (search rules));
    } in
    let w = c.choose.ensures.of _ both in
    past L a.start _ _ _ _ s.full s.roomy both w
    (w.answer ∙ sym (judge_past (shape_tests _ _) (start_tests _ _) (shape_numbered _ _) (ap (λ (v : Verdict). v.number) (sym s.answer))))
