-- Tests 17 to 19 of a file in any order: what the work slices tell is what the sheet tells. Assumes nothing.
use mathlib.Core.Path.{◌≡◌, refl, sym, ap, subst, ◌∙◌}
use mathlib.Core.Bool.{Bool, true, false, cond, ◌&&◌}
use mathlib.Core.List.{List}
use Prim.Native.Nat.{ℕ, ◌≤◌, ◌<◌}
use native.Mathlib.Omega.{arith}
use lib.Dec.{eqb}
use lib.IntN.{ℤ}
use lib.ListN.{length, get_or, length-map}
use borrow.Author.Tests.{eqb-true}
use Rattle.lists.specs.Lists.{range, first, is_in, over, cleared}
use Rattle.paper.specs.declared.Sizes.{Sizes}
use Rattle.paper.specs.declared.Verdict.{Verdict}
use Rattle.paper.specs.declared.Rule.{Rule}
use Rattle.paper.specs.Lattice.{Lattice, cubes, visited}
use Rattle.paper.specs.Sheet.{Sheet, vertex_record, numbered as by_rank, sheet_of}
use Rattle.paper.specs.Room.{work, lengths, needed_slots}
use Rattle.paper.specs.Within.{Full, Roomy}
use Rattle.paper.specs.Tests.{verdict, judge}
use Rattle.paper.specs.File.{file_v, file_t, file_vertices, file_triangles}
use Rattle.paper.specs.Check.{bad_record, bad_naming, complete, sheet_tests}
use Rattle.paper.proofs.Tested.{recorded, listed}
use Rattle.paper.proofs.Listing.{parts, sheet_edges_lt}
use Rattle.spread.specs.Flooded.{Stands}
use Rattle.layout.specs.Laid.{LaidOut}
use Rattle.tally.specs.declared.Counts.{Counts}
use Rattle.tally.specs.Tally.{Counted}
use Rattle.dots.specs.Dots.{edges_by, numbered, Crossed}
use Rattle.dots.specs.Slots.{slots_of}
use Rattle.dots.proofs.Meaning.{edges_by_law, edges_crossed, slots_used}
use Rattle.dots.proofs.Slots.{slot_used}
use Rattle.check_records.proofs.Slots.{all_cross}
use Rattle.check_triangles.specs.Words.{word_of, words_by}
use Rattle.check_triangles.proofs.Words.{words_by_law}
use Rattle.check_records.specs.Records.{first_bad_in as first_bad_record}
use Rattle.lists.proofs.Firsts.{first_before}
use Rattle.check_records.proofs.Meaning.{first_bad_is as bad_record_is}
use Rattle.check_triangles.specs.Triples.{first_bad_in as first_bad_triple}
use Rattle.check_triangles.proofs.Meaning.{first_bad_is as bad_triple_is}
use Rattle.check_any_order.specs.Checked.{Comparable, found_tests, last_tests}
use Rattle.holding.proofs.Complete.{complete_is}
use Rattle.check_any_order.proofs.Spots.{sure}

-- words are those of the cubes visited from the start, slots are cleared and then numbered, and blank is a waiting list with an empty front
module _ (rule : Rule) (L : Lattice) (full : Full L) (start : ℕ) (rows vis : List ℕ) (at : Stands L start rows vis)
    (slots s₀ blank : List ℕ) (long : needed_slots L.size ≤ length s₀)
    (e : slots ≡ numbered 1 (edges_by L.size rows vis) (cleared (needed_slots L.size) s₀))
    (blank_at : (k : ℕ) → k < cubes L.size → get_or blank k 0 ≡ 0) where
  abbrev z : Sizes
  z = L.size

  abbrev S : Sheet
  S = sheet_of rule L start

  abbrev words : List ℕ
  words = words_by z rows vis

  words_are : (k : ℕ) → k < cubes z → get_or words k 0 ≡ cond (is_in (visited L start) k) (word_of L k) 0
  words_are = words_by_law L rows at.sides (visited L start) vis at.cubes full.sized

  slots_are : slots ≡ over (slots_of z S.edges) s₀
  slots_are = e ∙ slots_used L full.sized start rows vis at.sides at.cubes rule s₀ long

  pub comparable : (bs : List ℕ) → LaidOut bs → Comparable L bs (work words blank slots)
  comparable bs laid = record {
    full = full;
    laid = laid;
    crossing =
        all_cross L S.edges slots s₀ slots_are
        (subst (Crossed L) (edges_by_law L full.sized start rows vis at.sides at.cubes rule)
        (edges_crossed L full.sized start rows vis at.sides at.cubes));
    small = record { at = λ k l. omega (arith, blank_at k l) };
    sure = sure L full.sized start at.below words words_are;
  }

  module _ (room : Roomy z (lengths (work words blank slots))) (bs : List ℕ) (r : Counts) (counts : Counted z rows vis r) where
    abbrev vs : List ℤ
    vs = file_vertices bs

    abbrev ts : List ℕ
    ts = file_triangles bs

    abbrev i : ℕ
    i = first (bad_record S vs) (file_v bs) (range 0 (file_v bs))

    abbrev j : ℕ
    j = first (bad_naming S vs ts) (file_t bs) (range 0 (file_t bs))

    record_is : first_bad_record rule L vs slots (file_v bs) ≡ i
    record_is =
        bad_record_is rule L S (parts rule L start).records vs slots (slot_used z S.edges slots s₀ slots_are)
        (sheet_edges_lt rule L start) room.slots
        (file_v bs)

    triple_is : first_bad_triple z words vs ts blank (file_t bs) ≡ j
    triple_is = bad_triple_is L full.sized start words words_are rule vs ts blank room.waiting blank_at (file_t bs)

    vertices_are : r.vertices ≡ length S.edges
    vertices_are = counts.vertices rule L.values start at.sides at.cubes

    triangles_are : r.triangles ≡ length S.by_edge
    triangles_are =
        counts.triangles rule L.values start at.sides at.cubes
        ∙ (ap length (parts rule L start).triangles ∙ length-map S.by_edge (by_rank S.edges))

    counted : i ≡ file_v bs → j ≡ file_t bs
        → (eqb (file_v bs) r.vertices && eqb (file_t bs) r.triangles) ≡ complete S vs ts (file_v bs) (file_t bs)
    counted o f =
        (λ k. eqb (file_v bs) (vertices_are k) && eqb (file_t bs) (triangles_are k))
        ∙ complete_is rule L full.sized start at.below vs ts (file_t bs)
        (λ k l. listed S vs ts k (first_before (bad_naming S vs ts) (file_t bs) k (subst (λ (n : ℕ). k < n) (sym f) l))) (file_v bs)
        (λ k l.
        let good = first_before (bad_record S vs) (file_v bs) k (subst (λ (n : ℕ). k < n) (sym o) l) in
        recorded (vertex_record rule L) S vs (parts rule L start).records k good)

    -- whether the counts are the sheet's
    abbrev same_counts : Bool
    same_counts = eqb (file_v bs) r.vertices && eqb (file_t bs) r.triangles

    -- the answer, by which of tests 17 to 19 pass and the places of the first bad record and triangle
    abbrev told : Bool → Bool → Bool → ℕ → ℕ → Verdict
    told a b c i j = cond a (cond b (cond c (verdict 0 0) (verdict 19 0)) (verdict 18 j)) (verdict 17 i)

    -- what the work slices tell is what the sheet tells
    pub same_answer : judge (found_tests rule L bs r (work words blank slots)) ≡ judge (last_tests rule L start bs)
    unfolding found_tests last_tests sheet_tests
    same_answer =
        (λ k. told (eqb (record_is k) (file_v bs)) (eqb (triple_is k) (file_t bs)) same_counts (record_is k) (triple_is k))
        ∙ go (eqb i (file_v bs)) (eqb j (file_t bs)) refl refl
      where
        go : (a b : Bool) → eqb i (file_v bs) ≡ a → eqb j (file_t bs) ≡ b
            → told a b same_counts i j ≡ told a b (complete S vs ts (file_v bs) (file_t bs)) i j
        go true true e f = ap (λ (x : Bool). told true true x i j) (counted (eqb-true i (file_v bs) e) (eqb-true j (file_t bs) f))
        go true false e f = refl
        go false b e f = refl
