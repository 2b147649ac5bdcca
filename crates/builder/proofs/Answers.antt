-- The answer of a build and what it leaves, refusal by refusal. Assumes nothing.
use mathlib.Core.Path.{◌≡◌, sym, ap, ◌∙◌}
use mathlib.Core.Bool.{true, false, cond}
use mathlib.Core.List.{List}
use Prim.Native.Nat.{ℕ}
use lib.ListN.{length}
use borrow.Author.Tests.{ne_eqb}
use Rattle.lists.specs.Lists.{over}
use Rattle.paper.specs.declared.Sizes.{Sizes}
use Rattle.paper.specs.declared.Built.{Built}
use Rattle.paper.specs.declared.Start.{Start}
use Rattle.paper.specs.declared.Verdict.{Verdict}
use Rattle.paper.specs.Lattice.{Lattice}
use Rattle.paper.specs.Sheet.{Sheet, sheet_of, vertex_words, triangle_words}
use Rattle.paper.specs.Tests.{Test, judge}
use Rattle.paper.specs.Room.{Work, lengths, vertex_room, triangle_room, room_tests, clears, clean, output_after}
use Rattle.paper.specs.Build.{Lent, lent, start_of, build_rule, sheet_from, sample_tests}
use Rattle.paper.specs.Build.{build_number, counts, counted, uncounted, left_at, lent_after, Builds}
use Rattle.paper.proofs.Judged.{judge_past, judge_stop}
use Rattle.paper.proofs.Passing.{sample_numbered, sample_counts, sample_keeps, room_counts, room_clears, built_at, work_kept, work_cleared}
use Rattle.build_output.specs.Output.{room_number, BuildsFrom}

module _ (L : Lattice) (s : Start) (l : Lent) where
  abbrev z : Sizes
  z = L.size

  abbrev tests : List Test
  tests = sample_tests L s (lengths l.work)

  abbrev S : Sheet
  S = sheet_from L s

  abbrev room : List Test
  room = room_tests (length S.edges) (length S.triangles) (vertex_room l.vertices) (triangle_room l.triangles)

  -- what is lent, with a sheet written by a number
  abbrev written : ℕ → Sheet → Work → Lent
  written n S w = lent (output_after n (vertex_words S) l.vertices) (output_after n (triangle_words S) l.triangles) w

  -- what is left, at a number
  left_at_law : (k : ℕ) → build_number L s l ≡ k → lent_after L s l ≡ left_at k S z l
  unfolding lent_after
  left_at_law k e = ap (λ (k : ℕ). left_at k S z l) e

  -- a refusal of the samples touches nothing
  pub refused : (r : ℕ) → r ≡ (judge tests).number → (r ≡ 0 → ⊥) → Builds L s l (uncounted r) l
  unfolding build_number output_after
  refused r e h =
      let no : (judge tests).number ≡ 0 → ⊥ = λ q. h (e ∙ q) in
      let n : build_number L s l ≡ r = ap (λ (v : Verdict). v.number) (judge_stop tests room no) ∙ sym e in
      let keeps : clears r ≡ false = ap clears e ∙ sample_keeps L s (lengths l.work) no in
      let q = ne_eqb r 0 h in
      record {
        answer = sym (built_at L s l r false n (ap counts e ∙ sample_counts L s (lengths l.work) no));
        left =
            sym (left_at_law r n
            ∙ (λ i.
            lent (cond (q i) (over (vertex_words S) l.vertices) l.vertices)
            (cond (q i) (over (triangle_words S) l.triangles) l.triangles)
            (work_kept r z l.work keeps i)));
      }

  -- ── 6, 7 and 0 ──

  module _ (passed : (judge tests).number ≡ 0) where
    room_number_law : build_number L s l ≡ (judge room).number
    unfolding build_number
    room_number_law = ap (λ (v : Verdict). v.number) (judge_past tests room (sample_numbered L s (lengths l.work)) passed)

    -- a build from the start answers so, and leaves this
    pub settled : (k : ℕ) → k ≡ start_of L s → (r : Built) (after : Lent) → BuildsFrom L k l r after → Builds L s l r after
    settled k is r after b =
        let n = room_number S l in
        let c : build_number L s l ≡ n = room_number_law in
        let nv = length S.edges in
        let nt = length S.triangles in
        let u = vertex_room l.vertices in
        let v = triangle_room l.triangles in
        let f = work_cleared n z l.work (room_clears nv nt u v) in
        record {
          answer =
              b.answer
              ∙ ap (λ (k : ℕ). let S = sheet_of build_rule L k in counted (room_number S l) S) is
              ∙ sym (built_at L s l n true c (room_counts nv nt u v));
          left =
              b.left
              ∙ ap (λ (k : ℕ). let S = sheet_of build_rule L k in written (room_number S l) S (clean z l.work)) is
              ∙ (λ i. written n S (sym f i))
              ∙ sym (left_at_law n c);
        }
