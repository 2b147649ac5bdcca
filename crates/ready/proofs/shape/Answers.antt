-- Test by test. Assumes nothing.
use mathlib.Core.Path.{sym, ◌∙◌}
use lib.Dec.{T, leb, leb→le}
use borrow.Author.Tests.{eq-eqb}
use Rattle.lists.proofs.Member.{eq_to_t, and3}
use Rattle.paper.specs.declared.Sizes.{Sizes}
use Rattle.paper.specs.Room.{Lengths, needed, needed_slots, roomy}
use Rattle.paper.specs.Build.{shape_tests}
use Rattle.paper.specs.Within.{Sized, Roomy}
use Rattle.paper.proofs.Visits.{sized}
use Rattle.ready.proofs.shape.Goals as goal
use Rattle.ready.proofs.shape.Goals.{Else-not-axes_pass}

-- what the first test leaves known
shaped : (c : goal.Else-not-axes_pass) → Sized c.args.sizes
shaped c = sized _ (eq_to_t (sym c.axes_pass.ensures ∙ c.if-not-axes_pass.false))

room_fits : (z : Sizes) (n : Lengths) → T (roomy z n) → Roomy z n
unfolding roomy
room_fits z n t =
    let g = and3 (leb (needed z) n.words) (leb (needed z) n.waiting) (leb (needed_slots z) n.slots) t in
    record {
      words = leb→le (needed z) n.words g.0;
      waiting = leb→le (needed z) n.waiting g.1;
      slots = leb→le (needed_slots z) n.slots g.2;
    }

pub sample_count-requires : goal.sample_count-requires
sample_count-requires c = shaped (goal.at.sample_count-requires c).Else-not-axes_pass

pub has_room-requires : goal.has_room-requires
has_room-requires c = shaped (goal.at.has_room-requires c).Else-not-axes_pass

pub returns : goal.returns
unfolding shape_tests
returns c =
    let room = sym c.has_room.ensures ∙ c.if-not-has_room.false in
    let count = c.if-samples-sample_count.false ∙ c.sample_count.ensures.0 in
    record {
      answer = rw (sym c.axes_pass.ensures ∙ c.if-not-axes_pass.false, eq-eqb _ _ count, room);
      full = record { sized = shaped (goal.at.returns c).Else-not-axes_pass; count = count };
      roomy = room_fits _ _ (eq_to_t room);
    }
