-- After k doors the state is that of k sends. Assumes nothing.
use mathlib.Core.Path.{◌≡◌, refl, ap, ◌∙◌}
use Prim.Native.Nat.{◌<◌}
use native.Mathlib.Omega.{arith}
use Rattle.ways.specs.declared.Out.{Out}
use Rattle.ways.specs.Flow.{Flow, flow, sends}
use Rattle.ways.specs.Ways.{way_at, door_by, beside_by, words, rows_of, is_row, RowIn}
use Rattle.ways.proofs.Laws.{Kept, wait_room, sends_kept_of, sends_step}
use Rattle.ways.proofs.Ways.{by_way, by_no_way, row_lt, row_on, row_test, words_le}
use Rattle.ways.proofs.pass_doors.Goals as goal
use Rattle.ways.proofs.pass_doors.Goals.{At-loop-k, Start, in-Some, in_default}

abbrev before : goal.Start → Flow
before s = flow s.args.due.now s.args.waiting.now s.args.height

abbrev after : goal.At-loop-k → Flow
after c = flow c.loop-k.due c.loop-k.waiting c.loop-k.h

-- what the turns so far have kept
kept : (c : goal.At-loop-k) → let z = c.args.rows.now.sizes in
    Kept (words z) (rows_of z) (is_row z) c.loop-k.k (before (goal.at.At-loop-k c).Start) (after c)
kept c =
    let a = c.args in
    let z = a.rows.now.sizes in
    sends_kept_of (words z) (rows_of z) (is_row z) a.vis.now (door_by z a.rows.now.cubes.now a.q a.r)
    (beside_by z a.q a.r) a.f c.loop-k.k (before (goal.at.At-loop-k c).Start) c.loop-k.invariant
    (λ j _. let b = row_on z a.q a.r j c.requires.sized.0 in (row_lt z _ b, row_test z _ b)) c.requires.roomy

pub loop-k-init : goal.loop-k-init
unfolding sends
loop-k-init c = refl

-- where the way leads
module _ (c : goal.At-loop-k) (w : Out) (e : w ≡ way_at c.args.rows.now.sizes c.args.q c.args.r c.loop-k.k) where
  to_is : w.to ≡ beside_by c.args.rows.now.sizes c.args.q c.args.r c.loop-k.k
  to_is = ap (λ (w : Out). w.to) e

  to_row : RowIn c.args.rows.now.sizes w.to
  to_row = rw to_is (row_on c.args.rows.now.sizes c.args.q c.args.r c.loop-k.k c.requires.sized.0)

  to_lt : w.to < words c.args.rows.now.sizes
  to_lt = row_lt c.args.rows.now.sizes _ to_row

pub offset_bounds-rows-w : goal.offset_bounds-rows-w
offset_bounds-rows-w c =
    let l = to_lt (goal.at.offset_bounds-rows-w c).At-loop-k _ c.in-Some.ensures in
    omega (arith, l, words_le c.args.rows.now.sizes c.args.rows.now.sized)

pub bounds-rows-w : goal.bounds-rows-w
bounds-rows-w c = omega (arith, to_lt (goal.at.bounds-rows-w c).At-loop-k _ c.in-Some.ensures, c.args.rows.now.cubes_long)

pub send-h-requires : goal.send-h-requires
send-h-requires c =
    let z = c.args.rows.now.sizes in
    let at = goal.at.send-h-requires c in
    let k = kept at.At-loop-k in
    let l = to_lt at.At-loop-k _ c.in-Some.ensures in
    let q = row_test z _ (to_row at.At-loop-k _ c.in-Some.ensures) in
    let room = wait_room (words z) (rows_of z) (is_row z) c.in-Some.w.to 0 (after at.At-loop-k) k.roomy l q in record {
      to_in_bounds = (omega (arith, l, c.requires.sized.1), omega (arith, l, k.roomy.due_fit), omega (arith, l, k.roomy.small));
      h_in_bounds = λ e. omega (arith, room e, k.roomy.waiting_fit);
    }

pub loop-k-preserved : goal.loop-k-preserved
loop-k-preserved c =
    let a = c.args in
    let z = a.rows.now.sizes in
    let may = a.rows.now.cubes.now in
    let t = after (goal.at.loop-k-preserved c).At-loop-k in
    sends_step (words z) (rows_of z) (is_row z) a.vis.now (door_by z may a.q a.r)
    (beside_by z a.q a.r) a.f c.loop-k.k (before (goal.at.loop-k-preserved c).Start) t _
    c.loop-k.invariant
    (elim c.match-way.branch [
      | in-Some w ↦ by_way a.vis.now may a.f t ((λ i. flow (w.due-is i) (w.waiting-is i) (w.h-is i)) ∙ w.send-h.ensures) w.in-Some.ensures
      | in_default w ↦ by_no_way a.vis.now may a.f a.r t (λ i. flow (w.due-is i) (w.waiting-is i) (w.h-is i)) w.in_default.ensures
    ])
