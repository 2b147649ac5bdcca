-- Document 02 (iv): what the tests of a start say of the cubes, and that the lowest by name gives what no start gave before. Assumes
-- nothing.
use mathlib.Core.Path.{◌≡◌, ap, subst, ◌∙◌}
use mathlib.Core.Bool.{Bool, true, false}
use mathlib.Core.List.{List, [], ◌∷◌}
use Prim.Native.Nat.{ℕ, ◌<◌}
use native.Mathlib.Omega.{arith}
use lib.Dec.{T}
use Rattle.lists.specs.Lists.{range}
use Rattle.lists.proofs.Member.{t_to_eq, any_in, in_any, in_range, range_in}
use Rattle.lists.proofs.Within.{t_to_false}
use Rattle.paper.specs.declared.Built.{Built}
use Rattle.paper.specs.declared.Verdict.{Verdict}
use Rattle.paper.specs.declared.Start.TheVariants.{Unnamed, Lowest}
use Rattle.paper.specs.declared.Rule.{Rule}
use Rattle.paper.specs.Lattice.{Lattice, cubes, lowest, may_start}
use Rattle.paper.specs.Tests.{test, verdict, judge}
use Rattle.paper.specs.Room.{Work, Lengths}
use Rattle.paper.specs.Build.{Lent, start_of, starts, shape_tests, start_tests, sample_tests, build_number, built, lent_after, Builds}
use Rattle.paper.specs.Check.{checked, checked_after, Checks}
use Rattle.paper.proofs.Judged.{judge_past}
use Rattle.paper.proofs.Passing.{shape_numbered, sample_tests_law}
use Rattle.paper.proofs.Starts.{lowest_passes, none_lower, may_crossed, may_inside, may_start_law}
use Rattle.promises.specs.Starting.{Fit, LowestFit, old_start, old_tests, old_number, OldBuilds, old_verdict, OldChecks}

module _ (L : Lattice) where
  -- a cube that may be the start is crossed and inside, and such a cube may
  fit_of : (k : ℕ) → k < cubes L.size → T (may_start L k) → Fit L k
  fit_of k h t = record { one = h; crosses = may_crossed L k t; inside = may_inside L k t }

  of_fit : (k : ℕ) → Fit L k → T (may_start L k)
  of_fit k f = may_start_law L k f.crosses f.inside

  -- the start that is found where all tests pass
  pub start_found : (n : Lengths) → (judge (sample_tests L Unnamed n)).number ≡ 0 → LowestFit L (start_of L Unnamed)
  start_found n e =
      let h = (sample_tests_law L Unnamed n e).start in
      let k = start_of L Unnamed in
      record {
        fit = fit_of k h (lowest_passes L.size (may_start L) h);
        lowest = λ j l f. subst T (none_lower L.size (may_start L) j l) (of_fit j f);
      }

  -- whether there is one, where 1 to 3 pass
  module _ (n : Lengths) (e : (judge (shape_tests L n)).number ≡ 0) where
    at_start : (b : Bool) → starts L Unnamed ≡ b → judge (sample_tests L Unnamed n) ≡ judge (test 4 true ∷ test 5 b ∷ [])
    unfolding sample_tests start_tests
    at_start b q =
        judge_past (shape_tests L n) (start_tests L Unnamed) (shape_numbered L n) e
        ∙ ap (λ (b : Bool). judge (test 4 true ∷ test 5 b ∷ [])) q

    pub some_start : (k : ℕ) → Fit L k → judge (sample_tests L Unnamed n) ≡ verdict 0 0
    some_start k f =
        let among = in_range 0 (cubes L.size) k (omega arith) (omega (arith, f.one)) in
        at_start true (t_to_eq _ (in_any (may_start L) (range 0 (cubes L.size)) k among (of_fit k f)))

    pub no_start : ((k : ℕ) → Fit L k → ⊥) → judge (sample_tests L Unnamed n) ≡ verdict 5 0
    no_start none =
        at_start false
        (t_to_false _
        (λ t.
        let w = any_in (may_start L) (range 0 (cubes L.size)) t in
        let l = range_in 0 (cubes L.size) w.0 w.1.0 in
        none w.0 (fit_of w.0 (omega (arith, l)) w.1.1)))

-- ── the lowest by name ──

module _ (L : Lattice) where
  pub old_builds : {before : Lent} {r : Built} {after : Lent} → Builds L Lowest before r after → OldBuilds L before r after
  unfolding sample_tests start_tests old_tests lowest old_start build_number built lent_after old_number
  old_builds b = record { answer = b.answer; left = b.left }

  pub builds_old : {before : Lent} {r : Built} {after : Lent} → OldBuilds L before r after → Builds L Lowest before r after
  unfolding sample_tests start_tests old_tests lowest old_start build_number built lent_after old_number
  builds_old b = record { answer = b.answer; left = b.left }

  pub old_checks : {rule : Rule} {bs : List ℕ} {before : Work} {r : Verdict} {after : Work}
      → Checks rule L Lowest bs before r after → OldChecks rule L bs before r after
  unfolding sample_tests start_tests old_tests lowest old_start checked checked_after old_verdict
  old_checks c = record { answer = c.answer; left = c.left }

  pub checks_old : {rule : Rule} {bs : List ℕ} {before : Work} {r : Verdict} {after : Work}
      → OldChecks rule L bs before r after → Checks rule L Lowest bs before r after
  unfolding sample_tests start_tests old_tests lowest old_start checked checked_after old_verdict
  checks_old c = record { answer = c.answer; left = c.left }
