-- Each turn takes a row off the list, fills it and spreads: the invariant is `Flooding`. What is not visited, five times, and what waits
-- falls. Assumes nothing.
use mathlib.Core.Path.{◌≡◌}
use Prim.Native.Nat.{ℕ, suc, ◌<◌, ◌-◌}
use native.Mathlib.Omega.{arith}
use lib.ListN.{get_or, length-set}
use Rattle.lists.proofs.Stores.{beyond_trans}
use Rattle.lists.specs.Lists.{Beyond}
use Rattle.ways.specs.Flow.{flow}
use Rattle.ways.specs.Ways.{words, RowIn, plan_of}
use Rattle.spread.specs.Flooded.{Empty, cell, room, Flooded}
use Rattle.ways.proofs.Ways.{row_lt, row_quad}
use Rattle.spread.proofs.Turns.{first_kept, flooding_start, at_row}
use Rattle.spread.proofs.Turns.{Turned, turn_law, flooding_done, due_done}
use Rattle.spread.proofs.flood.Goals as goal
use Rattle.spread.proofs.flood.Goals.{After-filled-full, After-loop-h, In-loop-h}

-- one of the list waits
some : (l : goal.In-loop-h) → l.loop-h.h ≡ suc (l.loop-h.h - 1)
some l = let t = l.loop-h-test.true in omega arith

-- the row that is taken off
abbrev at : goal.In-loop-h → ℕ
at l = get_or l.loop-h.waiting (l.loop-h.h - 1) 0

popped : (l : goal.In-loop-h) → RowIn l.args.rows.now.sizes (at l)
popped c =
    let a = c.args in
    let r = a.rows.now in
    at_row r.sizes r.sides.now r.cubes.now a.row a.x r.sized c.requires.sized.0 c.requires.sized.1 _ c.requires.closed.0 _ _ _ _ _ _ _ _
    (some c) c.loop-h.invariant

popped_lt : (l : goal.In-loop-h) → at l < words l.args.rows.now.sizes
popped_lt l = row_lt l.args.rows.now.sizes (at l) (popped l)

-- the turn
turned : (c : goal.After-filled-full) → let a = c.args in
    let r = a.rows.now in
    let l = c.loop-h in
    let w = c.wait_row-h.new in
    Turned r.sizes r.sides.now r.cubes.now a.row a.x a.vis.now w.due w.waiting l.vis l.due l.waiting l.h (l.h - 1)
    l.seen c.quad-q.result c.filled-full.result
turned c =
    let a = c.args in
    let r = a.rows.now in
    let l = c.loop-h in
    turn_law r.sizes r.sides.now r.cubes.now a.row a.x r.sized c.requires.sized.0 c.requires.sized.1 a.vis.now c.requires.closed.0 _ _
    l.vis l.due l.waiting l.h _ l.seen (some (goal.at.After-filled-full c).In-loop-h) l.invariant _ c.quad-q.ensures _ _ c.gates.ensures
    (omega (arith, c.filled-full.type_inv)) c.filled-full.ensures

-- what is so where the loop is left
left : (c : goal.After-loop-h) → let a = c.args in
    let z = a.rows.now.sizes in
    let l = c.loop-h in
    Flooded (plan_of z a.rows.now.sides.now a.rows.now.cubes.now) (cell a.row a.x) (room a.vis.now a.waiting.now)
    (room l.vis l.waiting) l.seen
    × Empty (words z) l.due × Beyond (words z) a.due.now l.due
left c =
    let a = c.args in
    let r = a.rows.now in
    let l = c.loop-h in
    let k = first_kept r.sizes r.sides.now r.cubes.now a.row a.x r.sized c.requires.sized.0 c.requires.sized.1
    a.due.now a.waiting.now _ _ c.requires.closed.1 c.requires.closed.2 c.wait_row-h.ensures in
    let e : l.h ≡ 0 = omega arith in (
      flooding_done r.sizes r.sides.now r.cubes.now a.row a.x r.sized c.requires.sized.0 c.requires.sized.1
          a.vis.now c.requires.closed.0 _ a.waiting.now _ l.vis (flow l.due l.waiting l.h) l.seen e l.invariant
          k.on_waiting,
      due_done r.sizes r.sides.now r.cubes.now a.row a.x r.sized c.requires.sized.0 c.requires.sized.1
          a.vis.now c.requires.closed.0 _ a.waiting.now _ l.vis (flow l.due l.waiting l.h) l.seen e l.invariant
          k.on_waiting,
      beyond_trans k.on_due l.invariant.on_due,
    )

pub loop-h-init : goal.loop-h-init
loop-h-init c =
    let a = c.args in
    let r = a.rows.now in
    flooding_start r.sizes r.sides.now r.cubes.now a.row a.x r.sized c.requires.sized.0 c.requires.sized.1
    a.vis.now a.due.now a.waiting.now _ c.requires.closed.0 c.requires.closed.1 c.requires.closed.2
    c.wait_row-h.ensures

pub quad-q-requires : goal.quad-q-requires
quad-q-requires c =
    let l = (goal.at.quad-q-requires c).In-loop-h in
    omega (arith, row_quad c.args.rows.now.sizes (at l) (popped l), c.args.rows.now.sides_long)

pub bounds-rows-r : goal.bounds-rows-r
bounds-rows-r c = omega (arith, popped_lt (goal.at.bounds-rows-r c).In-loop-h, c.args.rows.now.cubes_long)

pub bounds-vis-r : goal.bounds-vis-r
bounds-vis-r c = omega (arith, popped_lt (goal.at.bounds-vis-r c).In-loop-h, c.loop-h.invariant.going.vis_fit)

pub bounds-due-r : goal.bounds-due-r
bounds-due-r c =
    omega (arith, popped_lt (goal.at.bounds-due-r c).In-loop-h, c.loop-h.invariant.going.roomy.due_fit)

pub bounds-due-r-in-loop-h : goal.bounds-due-r-in-loop-h
bounds-due-r-in-loop-h c =
    omega (arith, popped_lt (goal.at.bounds-due-r-in-loop-h c).In-loop-h, c.loop-h.invariant.going.roomy.due_fit)

pub bounds-vis-r-in-loop-h : goal.bounds-vis-r-in-loop-h
bounds-vis-r-in-loop-h c =
    omega (arith, popped_lt (goal.at.bounds-vis-r-in-loop-h c).In-loop-h, c.loop-h.invariant.going.vis_fit)

pub overflow_add-seen : goal.overflow_add-seen
overflow_add-seen c = omega (arith, c.ones-seen.ensures.0, (turned (goal.at.overflow_add-seen c).After-filled-full).few)

pub pass_doors-h-requires : goal.pass_doors-h-requires
pass_doors-h-requires c = record {
  sized = (popped (goal.at.pass_doors-h-requires c).In-loop-h, simp length-set c.loop-h.invariant.going.vis_fit);
  roomy = (turned (goal.at.pass_doors-h-requires c).After-filled-full).roomy;
}

pub loop-h-smaller : goal.loop-h-smaller
loop-h-smaller c = ((turned (goal.at.loop-h-smaller c).After-filled-full).next _ c.pass_doors-h.ensures).0

pub loop-h-preserved : goal.loop-h-preserved
loop-h-preserved c = ((turned (goal.at.loop-h-preserved c).After-filled-full).next _ c.pass_doors-h.ensures).1 _ c.ones-seen.ensures.0

pub returns : goal.returns
returns c = ((left (goal.at.returns c).After-loop-h).0, (left (goal.at.returns c).After-loop-h).1)
