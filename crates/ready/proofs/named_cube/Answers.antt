-- Test 4, then test 5. Assumes nothing.
use mathlib.Core.Path.{sym, ◌∙◌}
use Rattle.lists.proofs.Member.{eq_to_t}
use Rattle.paper.proofs.Visits.{in_lattice_law}
use Rattle.paper.specs.Build.{start_tests}
use Rattle.paper.specs.Within.{CubeIn}
use Rattle.ready.proofs.named_cube.Goals as goal
use Rattle.ready.proofs.named_cube.Goals.{Else-not-is_cube}

there : (c : goal.Else-not-is_cube) → CubeIn c.args.rows.now.sizes c.args.p
there c = in_lattice_law _ _ (eq_to_t (sym c.is_cube.ensures ∙ c.if-not-is_cube.false))

pub returns-then-not-is_cube : goal.returns-then-not-is_cube
unfolding start_tests
returns-then-not-is_cube c = record {
  of = λ v h. record { answer = rw (sym c.is_cube.ensures ∙ c.if-not-is_cube.true); is = tt; below = tt };
}

pub is_crossed-requires : goal.is_crossed-requires
is_crossed-requires c = there (goal.at.is_crossed-requires c).Else-not-is_cube

pub returns-then-not-is_crossed : goal.returns-then-not-is_crossed
unfolding start_tests
returns-then-not-is_crossed c = record {
  of = λ v h.
      record {
        answer = rw (sym c.is_cube.ensures ∙ c.if-not-is_cube.false, sym (c.is_crossed.ensures v h) ∙ c.if-not-is_crossed.true);
        is = tt;
        below = tt;
      };
}

pub cube_no-requires : goal.cube_no-requires
cube_no-requires c = (c.args.rows.now.sized, there (goal.at.cube_no-requires c).Else-not-is_cube)

pub returns : goal.returns
unfolding start_tests
returns c = record {
  of = λ v h.
      record {
        answer = rw (sym c.is_cube.ensures ∙ c.if-not-is_cube.false, sym (c.is_crossed.ensures v h) ∙ c.if-not-is_crossed.false);
        is = c.cube_no.ensures.0;
        below = c.cube_no.ensures.1;
      };
}
