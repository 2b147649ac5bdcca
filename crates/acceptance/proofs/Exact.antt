-- A check answers 0 exactly when sizes, start, work room and layout pass and the file holds the sheet. Assumes nothing.
use mathlib.Core.Path.{◌≡◌, refl, ap, ◌∙◌}
use mathlib.Core.List.{List, ◌++◌}
use Prim.Native.Nat.{ℕ}
use native.Mathlib.Omega.{arith}
use Rattle.lists.proofs.Within.{any_member}
use Rattle.lists.proofs.Counts.{count_some}
use Rattle.paper.specs.declared.Start.{Start}
use Rattle.paper.specs.declared.Verdict.{Verdict}
use Rattle.paper.specs.declared.Rule.{Rule}
use Rattle.paper.specs.Lattice.{Lattice}
use Rattle.paper.specs.Sheet.{Sheet, sheet_of, vertex_record}
use Rattle.paper.specs.Tests.{Test, judge}
use Rattle.paper.specs.Room.{Lengths}
use Rattle.paper.specs.Build.{start_of, sample_tests}
use Rattle.paper.specs.File.{file_v, file_t, file_sizes, file_vertices, file_triangles, file_tests}
use Rattle.paper.specs.Check.{same_numbers, turned, sheet_tests, checked}
use Rattle.paper.proofs.Judged.{Passed, both_passed, judge_all, passed_judge}
use Rattle.paper.proofs.Listing.{parts}
use Rattle.paper.proofs.Records.{numbers_same}
use Rattle.paper.proofs.Tested.{compared, compared_back}
use Rattle.paper.proofs.Passing.{sample_numbered, sample_passed, sample_tests_law, file_numbered, all_passed}
use Rattle.holding.proofs.Alike.{often, matching}
use Rattle.holding.proofs.Matches.{same_sizes_law, sizes_same, thin, Match, passes_match}
use Rattle.holding.proofs.Matches.{match_passes, thin_us, MatchTri, passes_tri, tri_passes}
use Rattle.acceptance.specs.Holding.{file_records, file_triples, Acceptable, Exactly, EachOnce}

module _ (rule : Rule) (L : Lattice) (s : Start) (bs : List ℕ) (m : Lengths) where
  abbrev start : ℕ
  start = start_of L s

  abbrev S : Sheet
  S = sheet_of rule L start

  abbrev a : List Test
  a = sample_tests L s m

  abbrev b : List Test
  b = file_tests bs

  abbrev c : List Test
  c = sheet_tests L.size S bs

  zero : (l : List Test) → Passed l → (judge l).number ≡ 0
  zero l p = ap (λ (v : Verdict). v.number) (passed_judge l p)

  accepts : (checked rule L s bs m).number ≡ 0 → Acceptable rule L s bs m
  unfolding file_records file_triples
  accepts n =
      let p = all_passed rule L s bs m n in
      let t = sample_passed L s m p.0 in
      let k = compared L.size (vertex_record rule L) S bs (parts rule L start).records p.2 in
      let vs = file_vertices bs in
      let ts = file_triangles bs in
      record {
        samples = zero a p.0;
        file = zero b p.1;
        sizes = same_sizes_law (file_sizes bs) L.size k.sizes;
        holds = record {
          vertices = often _ _ _ _ _ _ _ _
              (passes_match rule L start vs (file_v bs) (record { good = k.records; full = k.full.vertices }));
          triangles = often _ _ _ _ _ _ _ _
              (passes_tri rule L t.sizes start t.start vs ts (file_t bs) (record { good = k.triangles; full = k.full.triangles }));
        };
      }

  accepted : Acceptable rule L s bs m → (checked rule L s bs m).number ≡ 0
  unfolding checked file_records file_triples
  accepted h =
      let t = sample_tests_law L s m h.samples in
      let vs = file_vertices bs in
      let ts = file_triangles bs in
      let v = match_passes rule L start vs (file_v bs) (matching _ _ _ _ _ _ _ _ h.holds.vertices) in
      let u = tri_passes rule L t.sizes start t.start vs ts (file_t bs) (matching _ _ _ _ _ _ _ _ h.holds.triangles) in
      let last =
      compared_back L.size (vertex_record rule L) S bs (parts rule L start).records
      (record {
        sizes = sizes_same (file_sizes bs) L.size h.sizes;
        records = v.good;
        triangles = u.good;
        full = record { vertices = v.full; triangles = u.full };
      }) in
      let first = both_passed a b (judge_all a (sample_numbered L s m) h.samples) (judge_all b (file_numbered bs) h.file) in
      zero (a ++ b ++ c) (both_passed (a ++ b) c first last)

  -- the theorem
  pub accepted_exactly : Exactly rule L s bs m
  accepted_exactly = record { only = accepts; always = accepted }

  -- "each once"
  pub accepted_once : Acceptable rule L s bs m → EachOnce rule L start bs
  unfolding file_records file_triples
  accepted_once h =
      let t = sample_tests_law L s m h.samples in
      let vs = file_vertices bs in
      let ts = file_triangles bs in
      let k : Match rule L start vs (file_v bs) = matching _ _ _ _ _ _ _ _ h.holds.vertices in
      let n : MatchTri rule L t.sizes start t.start vs ts (file_t bs) = matching _ _ _ _ _ _ _ _ h.holds.triangles in
      record {
        vertex = λ r i.
            let c = count_some (same_numbers r) i (numbers_same r r refl) in
            h.holds.vertices r ∙ (let d = thin rule L start vs (file_v bs) r in omega arith);
        only_vertices = k.sound;
        triangle = λ u i.
            let v = any_member (turned u) S.by_edge i in
            let c = count_some (turned u) v.1 v.2 in
            h.holds.triangles u ∙ (let d = thin_us rule L t.sizes start t.start vs ts (file_t bs) u in omega arith);
        only_triangles = n.sound;
      }
