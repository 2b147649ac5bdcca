-- Test by test. Assumes nothing.
use mathlib.Core.Path.{◌≡◌, sym, ◌∙◌}
use mathlib.Core.List.{List}
use Prim.Native.Nat.{ℕ}
use native.Mathlib.Omega.{arith}
use Rattle.lists.specs.Lists.{Beyond}
use Rattle.lists.proofs.Stores.{beyond_refl}
use Rattle.paper.specs.Lattice.{Lattice, lattice}
use Rattle.paper.specs.Room.{needed, needed_slots, Work, work}
use Rattle.paper.specs.File.{file_v, file_t, file_vertices, file_triangles}
use Rattle.check_records.specs.Records.{first_bad_in as first_bad_record, slots_after}
use Rattle.check_triangles.specs.Words.{words_by}
use Rattle.check_triangles.specs.Triples.{first_bad_in as first_bad_triple, seen_after}
use Rattle.check_any_order.proofs.Answers.{answer_17, answer_18, answer_19_vertices}
use Rattle.check_any_order.proofs.Answers.{answer_19_triangles, answer_0, slots_beyond, seen_beyond, all_named}
use Rattle.check_any_order.proofs.compare.Goals as goal
use Rattle.check_any_order.proofs.compare.Goals.{In_default, In_default-first_bad, Start}
use Rattle.check_any_order.proofs.compare.Goals.{then-file-counts-via-then-file-counts}
use Rattle.check_any_order.proofs.compare.Goals.{then-file-counts-via-else-file-counts+then-file-counts-2}

abbrev L : goal.Start → Lattice
L s = let v = s.args.surface.now in lattice v.rows.sizes v.samples.now

abbrev bs : goal.Start → List ℕ
bs s = s.args.file.now.bytes.now

abbrev w : goal.Start → Work
w s = let r = s.args.surface.now.rows in work (words_by r.sizes r.sides.now r.cubes.now) s.args.waiting.now s.args.slots.now

-- ── the records are compared ──

slots_left : (s : goal.Start) (i : ℕ) (after : List ℕ)
    → (i ≡ first_bad_record s.args.rule (L s) (file_vertices (bs s)) s.args.slots.now (file_v (bs s)))
    × (after ≡ slots_after (L s) (file_vertices (bs s)) s.args.slots.now i)
    → Beyond (needed_slots s.args.surface.now.rows.sizes) s.args.slots.now after
slots_left s i after e = slots_beyond s.args.rule (L s) (file_vertices (bs s)) (file_v (bs s)) s.args.slots.now after i e.0 e.1

module _ (c : goal.In_default) where
  no_record : let s = (goal.at.In_default c).Start in
      first_bad_record c.args.rule (L s) (file_vertices (bs s)) c.args.slots.now (file_v (bs s)) ≡ file_v (bs s)
  no_record = sym c.in_default.ensures.first.0

  passed : Beyond (needed_slots c.args.surface.now.rows.sizes) c.args.slots.now c.first_bad.new.slots
  passed = let s = (goal.at.In_default c).Start in slots_left s (file_v (bs s)) c.first_bad.new.slots c.in_default.ensures.first

-- ── and so are the triangles ──

seen_left : (s : goal.Start) (j : ℕ) (after : List ℕ) → let z = s.args.surface.now.rows.sizes in
    (j ≡ first_bad_triple z (w s).words (file_vertices (bs s)) (file_triangles (bs s)) s.args.waiting.now (file_t (bs s)))
    × (after ≡ seen_after z (w s).words (file_vertices (bs s)) (file_triangles (bs s)) s.args.waiting.now j)
    → Beyond (needed z) s.args.waiting.now after
seen_left s j after e =
    let z = s.args.surface.now.rows.sizes in
    seen_beyond z (w s).words (file_vertices (bs s)) (file_triangles (bs s)) (file_t (bs s)) s.args.waiting.now after j e.0 e.1

module _ (c : goal.In_default-first_bad) where
  no_triple : let s = (goal.at.In_default-first_bad c).Start in
      let z = c.args.surface.now.rows.sizes in
      first_bad_triple z (w s).words (file_vertices (bs s)) (file_triangles (bs s)) c.args.waiting.now (file_t (bs s)) ≡ file_t (bs s)
  no_triple = sym c.in_default-first_bad.ensures.first.0

  seen_passed : Beyond (needed c.args.surface.now.rows.sizes) c.args.waiting.now c.first_bad-2.new.seen
  seen_passed =
      let s = (goal.at.In_default-first_bad c).Start in
      let e = c.in_default-first_bad.ensures.first in
      seen_left s (file_t (bs s)) c.first_bad-2.new.seen e

-- ── answer by answer ──

pub returns-in-Some : goal.returns-in-Some
returns-in-Some c =
    let s = (goal.at.returns-in-Some c).Start in
    let i = c.in-Some in
    record {
      answer = answer_17 c.args.rule (L s) (bs s) c.args.counts (w s) i.i i.ensures.first.0 (λ q. absurd (omega (arith, i.ensures.below)));
      waiting = beyond_refl _ _;
      slots = slots_left s i.i c.first_bad.new.slots i.ensures.first;
    }

pub first_bad-requires-2-clause-laid : goal.first_bad-requires-2-clause-laid
first_bad-requires-2-clause-laid c =
    let s = (goal.at.first_bad-requires-2-clause-laid c).Start in (
      c.requires.0.laid,
      all_named c.args.rule (L s) (file_vertices (bs s)) c.args.slots.now (file_v (bs s))
          (no_record (goal.at.first_bad-requires-2-clause-laid c).In_default),
    )

pub returns-in-Some-first_bad : goal.returns-in-Some-first_bad
returns-in-Some-first_bad c =
    let s = (goal.at.returns-in-Some-first_bad c).Start in
    let g = (goal.at.returns-in-Some-first_bad c).In_default in
    let j = c.in-Some-first_bad in
    record {
      answer =
          answer_18 c.args.rule (L s) (bs s) c.args.counts (w s) (no_record g) j.j j.ensures.first.0
          (λ q. absurd (omega (arith, j.ensures.below)));
      waiting = seen_left s j.j c.first_bad-2.new.seen j.ensures.first;
      slots = passed g;
    }

pub returns-then-file-counts : goal.returns-then-file-counts
returns-then-file-counts c =
    let s = (goal.at.returns-then-file-counts c).Start in
    let f = c.args.file.now in
    let g = (goal.at.returns-then-file-counts c).In_default in
    let h = (goal.at.returns-then-file-counts c).In_default-first_bad in
    let a = no_record g in
    let b = no_triple h in
    record {
      answer =
          elim c.then-file-counts.branch [
            | then-file-counts-via-then-file-counts v ↦
                answer_19_vertices c.args.rule (L s) (bs s) c.args.counts (w s) a b (λ q. v.if-file-counts.true (f.counted_v ∙ q))
            | then-file-counts-via-else-file-counts+then-file-counts-2 v ↦
                answer_19_triangles c.args.rule (L s) (bs s) c.args.counts (w s) a b (λ q. v.if-file-counts-2.true (f.counted_t ∙ q))
          ];
      waiting = seen_passed h;
      slots = passed g;
    }

pub returns : goal.returns
returns c =
    let s = (goal.at.returns c).Start in
    let f = c.args.file.now in
    let g = (goal.at.returns c).In_default in
    let h = (goal.at.returns c).In_default-first_bad in
    record {
      answer =
          answer_0 c.args.rule (L s) (bs s) c.args.counts (w s) (no_record g) (no_triple h)
          (sym f.counted_v ∙ c.if-file-counts.false)
          (sym f.counted_t ∙ c.if-file-counts-2.false);
      waiting = seen_passed h;
      slots = passed g;
    }
