-- Slots cleared and numbered, the waiting list empty, and then test by test. Assumes nothing.
use borrow.Author.Rules.{rules}
use mathlib.Core.Path.{◌≡◌, sym, ap, subst, ◌∙◌}
use mathlib.Core.List.{List, ◌++◌}
use Prim.Native.Nat.{ℕ, ◌*◌, ◌<◌}
use native.Mathlib.Omega.{arith}
use lib.ListN.{length, get_or, drop}
use Rattle.lists.specs.Lists.{cleared, Beyond}
use Rattle.lists.proofs.Runs.{length_along}
use Rattle.lists.proofs.Stores.{cleared_at, beyond_trans, beyond_cleared}
use Rattle.paper.specs.declared.Sizes.{Sizes}
use Rattle.paper.specs.Lattice.{Lattice, lattice, cubes, cube_at}
use Rattle.paper.specs.Room.{work, lengths, needed, needed_slots}
use Rattle.paper.specs.Within.{Roomy}
use Rattle.dots.specs.Dots.{edges_by, numbered}
use Rattle.dots.proofs.Meaning.{edges_crossed, slots_beyond}
use Rattle.check_triangles.specs.Words.{word_by, words_by}
use Rattle.check_any_order.proofs.Verdicts.{comparable, same_answer}
use Rattle.check_any_order.proofs.in_any_order.Goals as goal
use Rattle.check_any_order.proofs.in_any_order.Goals.{After-number_slots, Start}

abbrev L : goal.Start → Lattice
L s = let v = s.args.surface.now in lattice v.rows.sizes v.samples.now

-- every cube has a word
words_length : (z : Sizes) (rows vis : List ℕ) → length (words_by z rows vis) ≡ cubes z
unfolding words_by
words_length z rows vis = length_along (λ k. word_by z rows vis (cube_at z k)) 0 (cubes z)

-- the waiting list and the slots, once these are numbered
module _ (c : goal.After-number_slots) where
  abbrev z : Sizes
  z = c.args.surface.now.rows.sizes

  abbrev sides : List ℕ
  sides = c.args.surface.now.rows.sides.now

  abbrev vis : List ℕ
  vis = c.args.surface.now.rows.cubes.now

  abbrev waiting : List ℕ
  waiting = c.fill.new.self ++ drop c.cube_count-n.result c.args.waiting.now

  abbrev slots : List ℕ
  slots = c.number_slots.new.slots

  waiting_is : waiting ≡ cleared (needed z) c.args.waiting.now
  waiting_is =
      let n = c.cube_count-n.result in
      let e : waiting ≡ cleared n c.args.waiting.now = search rules in
      e ∙ ap (λ (n : ℕ). cleared n c.args.waiting.now) c.cube_count-n.ensures.0

  empty : (k : ℕ) → k < cubes z → get_or waiting k 0 ≡ 0
  empty k l = ap (λ (x : List ℕ). get_or x k 0) waiting_is ∙ cleared_at (needed z) c.args.waiting.now k l

  slots_are : slots ≡ numbered 1 (edges_by z sides vis) (cleared (needed_slots z) c.args.slots.now)
  slots_are =
      let m = 7 * c.sample_count-m.result in
      let e : c.fill-2.new.self ++ drop m c.args.slots.now ≡ cleared m c.args.slots.now = search rules in
      c.number_slots.ensures
      ∙ ap (numbered 1 (edges_by z sides vis)) (e ∙ ap (λ (n : ℕ). cleared (7 * n) c.args.slots.now) c.sample_count-m.ensures.0)

  waiting_beyond : Beyond (needed z) c.args.waiting.now waiting
  waiting_beyond =
      subst (Beyond (needed z) c.args.waiting.now) (sym waiting_is)
      (beyond_cleared (needed z) c.args.waiting.now c.requires.room.0)

  slots_left : Beyond (needed_slots z) c.args.slots.now slots
  slots_left =
      let p = c.requires.standing in
      let at = p.0.stands in
      let full = c.args.surface.now.full in
      subst (Beyond (needed_slots z) c.args.slots.now) (sym slots_are)
      (beyond_trans (beyond_cleared (needed_slots z) c.args.slots.now c.requires.room.1)
      (slots_beyond (L (goal.at.After-number_slots c).Start) full.sized p.0.start _ _ at.sides at.cubes 1
      (cleared (needed_slots z) c.args.slots.now)))

  room : Roomy z (lengths (work (words_by z sides vis) waiting slots))
  room = record {
    words = omega (arith, words_length z sides vis);
    waiting = omega (arith, c.requires.room.0, waiting_beyond.same_length);
    slots = omega (arith, c.requires.room.1, slots_left.same_length);
  }

pub number_slots-requires-clause-crossed : goal.number_slots-requires-clause-crossed
number_slots-requires-clause-crossed c =
    let s = (goal.at.number_slots-requires-clause-crossed c).Start in
    let p = c.requires.standing.0 in
    edges_crossed (L s) c.args.surface.now.full.sized p.start _ _ p.stands.sides p.stands.cubes

pub compare-requires : goal.compare-requires
compare-requires c =
    let s = (goal.at.compare-requires c).Start in
    let g = (goal.at.compare-requires c).After-number_slots in
    let p = c.requires.standing in (
      comparable c.args.rule (L s) c.args.surface.now.full p.0.start _ _ p.0.stands (slots g) c.args.slots.now (waiting g) c.requires.room.1
          (slots_are g) (empty g) _ p.1,
      room g,
    )

pub returns : goal.returns
returns c =
    let s = (goal.at.returns c).Start in
    let g = (goal.at.returns c).After-number_slots in
    let q = c.compare.ensures in (
      record {
        is = λ k at.
            q.answer
            ∙ same_answer c.args.rule (L s) c.args.surface.now.full k _ _ at (slots g) c.args.slots.now (waiting g) c.requires.room.1
            (slots_are g) (empty g) (room g) c.args.file.now.bytes.now _ c.counts_of-counts.ensures;
      },
      beyond_trans (waiting_beyond g) q.waiting,
      beyond_trans (slots_left g) q.slots,
    )
