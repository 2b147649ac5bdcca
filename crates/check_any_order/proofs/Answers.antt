-- Tests in order, and what they leave: answers one by one. Assumes nothing.
use mathlib.Core.Path.{◌≡◌, sym, ap, subst, ◌∙◌}
use mathlib.Core.Bool.{and-false}
use mathlib.Core.List.{List}
use Prim.Native.Nat.{ℕ, ◌<◌}
use lib.IntN.{ℤ}
use lib.ListN.{length, drop}
use borrow.Author.Tests.{eq-eqb, ne_eqb}
use Rattle.lists.specs.Lists.{Beyond}
use Rattle.paper.specs.declared.Sizes.{Sizes}
use Rattle.paper.specs.declared.Rule.{Rule}
use Rattle.paper.specs.Lattice.{Lattice, cubes}
use Rattle.paper.specs.Tests.{verdict, judge}
use Rattle.paper.specs.Room.{needed, needed_slots, Work}
use Rattle.paper.specs.File.{file_v, file_t, file_vertices, file_triangles}
use Rattle.tally.specs.declared.Counts.{Counts}
use Rattle.check_records.specs.Records.{edge_at, first_bad_in as first_bad_record, slots_after}
use Rattle.check_records.proofs.Laws.{after_length as slots_length}
use Rattle.check_records.proofs.Meaning.{edge_below, first_rest as slots_rest}
use Rattle.check_triangles.specs.Triples.{Named, first_bad_in as first_bad_triple, seen_after}
use Rattle.check_triangles.proofs.Laws.{after_length as seen_length}
use Rattle.check_triangles.proofs.Meaning.{first_rest as seen_rest}
use Rattle.check_any_order.specs.Checked.{found_tests}

-- ── tests 17 to 19 ──

module _ (rule : Rule) (L : Lattice) (bs : List ℕ) (n : Counts) (w : Work) where
  abbrev bad_record : ℕ
  bad_record = first_bad_record rule L (file_vertices bs) w.slots (file_v bs)

  abbrev bad_triple : ℕ
  bad_triple = first_bad_triple L.size w.words (file_vertices bs) (file_triangles bs) w.waiting (file_t bs)

  pub answer_17 : (i : ℕ) → i ≡ bad_record → (i ≡ file_v bs → ⊥) → verdict 17 i ≡ judge (found_tests rule L bs n w)
  unfolding found_tests
  answer_17 i e h = rw (ne_eqb bad_record (file_v bs) (λ q. h (e ∙ q))) (ap (verdict 17) e)

  module _ (passed : bad_record ≡ file_v bs) where
    pub answer_18 : (j : ℕ) → j ≡ bad_triple → (j ≡ file_t bs → ⊥) → verdict 18 j ≡ judge (found_tests rule L bs n w)
    unfolding found_tests
    answer_18 j e h = rw (eq-eqb bad_record (file_v bs) passed, ne_eqb bad_triple (file_t bs) (λ q. h (e ∙ q))) (ap (verdict 18) e)

    module _ (passed' : bad_triple ≡ file_t bs) where
      pub answer_19_vertices : (file_v bs ≡ n.vertices → ⊥) → verdict 19 0 ≡ judge (found_tests rule L bs n w)
      unfolding found_tests
      answer_19_vertices h = rw (eq-eqb bad_record (file_v bs) passed, eq-eqb bad_triple (file_t bs) passed', ne_eqb (file_v bs) n.vertices h)

      pub answer_19_triangles : (file_t bs ≡ n.triangles → ⊥) → verdict 19 0 ≡ judge (found_tests rule L bs n w)
      unfolding found_tests
      answer_19_triangles h =
          rw (eq-eqb bad_record (file_v bs) passed, eq-eqb bad_triple (file_t bs) passed', ne_eqb (file_t bs) n.triangles h, and-false)

      pub answer_0 : file_v bs ≡ n.vertices → file_t bs ≡ n.triangles → verdict 0 0 ≡ judge (found_tests rule L bs n w)
      unfolding found_tests
      answer_0 v t =
          rw (
            eq-eqb bad_record (file_v bs) passed,
            eq-eqb bad_triple (file_t bs) passed',
            eq-eqb (file_v bs) n.vertices v,
            eq-eqb (file_t bs) n.triangles t,
          )

-- ── what is left past the front ──

pub slots_beyond : (rule : Rule) (L : Lattice) (vs : List ℤ) (nv : ℕ) (slots after : List ℕ) (i : ℕ) → i ≡ first_bad_record rule L vs slots nv
    → after ≡ slots_after L vs slots i → Beyond (needed_slots L.size) slots after
slots_beyond rule L vs nv slots after i e q = record {
  same_length = ap length q ∙ slots_length L vs slots i;
  rest = ap (drop (needed_slots L.size)) (q ∙ ap (slots_after L vs slots) e) ∙ slots_rest rule L vs slots nv;
}

pub seen_beyond : (z : Sizes) (words : List ℕ) (vs : List ℤ) (ts : List ℕ) (nt : ℕ) (seen after : List ℕ) (j : ℕ)
    → j ≡ first_bad_triple z words vs ts seen nt → after ≡ seen_after z words vs ts seen j → Beyond (needed z) seen after
seen_beyond z words vs ts nt seen after j e q = record {
  same_length = ap length q ∙ seen_length z words vs ts seen j;
  rest = ap (drop (cubes z)) (q ∙ ap (seen_after z words vs ts seen) e) ∙ seen_rest z words vs ts seen nt;
}

-- the edges of the records before the first bad one are the lattice's
pub all_named : (rule : Rule) (L : Lattice) (vs : List ℤ) (slots : List ℕ) (nv : ℕ) → first_bad_record rule L vs slots nv ≡ nv
    → Named (needed_slots L.size) vs nv
unfolding edge_at
all_named rule L vs slots nv e = record { below = λ i h. edge_below rule L vs slots nv i (subst (λ (n : ℕ). i < n) (sym e) h) }
