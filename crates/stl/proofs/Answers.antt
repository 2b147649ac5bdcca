-- The answers of a writer and a reader, from what their tests say. Assumes nothing.
use Rattle.std.specs.Prelude.{Ok, Err}
use mathlib.Core.Path.{◌≡◌, refl, sym, subst, ap, ◌∙◌}
use mathlib.Core.Bool.{not, ◌&&◌}
use mathlib.Core.List.{List, [], ◌∷◌}
use Prim.Native.Nat.{ℕ, ◌+◌, ◌*◌, ◌/◌, ◌<◌}
use native.Mathlib.Omega.{arith}
use borrow.Author.Tests.{le-leb, leb-true, eq-eqb, eqb-true, ne_eqb, not-false}
use lib.Dec.{leb, eqb}
use lib.IntN.{ℤ}
use lib.ListN.{length}
use lib.Seq.{sets}
use Rattle.lists.specs.Lists.{range, each, over}
use Rattle.lists.proofs.Firsts.{first_before, first_missing}
use Rattle.lists.proofs.Stores.{sets_front}
use Rattle.paper.specs.declared.Verdict.{Verdict}
use Rattle.paper.specs.declared.Refusal.{Refusal}
use Rattle.paper.specs.Refused.{verdict_of, wrote_told}
use Rattle.paper.proofs.Refusals.{some_number}
use Rattle.stl.specs.Told.{loaded_told}
use Rattle.paper.specs.Tests.{Test, test, test_at, judge, verdict}
use Rattle.paper.specs.Room.{output_after}
use Rattle.paper.specs.File.{first_bad, limits}
use Rattle.paper.proofs.Judged.{both, Numbered, Passed, judge_all, judge_none}
use Rattle.layout.proofs.Passing.{index_below}
use Rattle.sheetfile.specs.Taken.{Writable}
use Rattle.sheetfile.proofs.Stored.{counted}
use Rattle.facets.specs.Facets.{facet_stands}
use Rattle.stl.specs.Stl.{triangle_within, stl_length, stl_bytes, first_outside, stl_write_verdict, stl_wrote, StlWrites}
use Rattle.stl.specs.Stl.{stl_count, stl_facet, nine_at, stl_words, first_untaken, stl_read_verdict, stl_loaded, StlReads}
use Rattle.stl.specs.Within.{AllNamed, AllWithin, Fine, AllStand, Sound}
use Rattle.stl.proofs.Laws.{run_length, nine_long}

-- ── writing ──

module _ (nv nt : ℕ) (vs : List ℤ) (ts : List ℕ) where
  -- 15 and 25
  pub all_named : Writable nv nt (length vs) (length ts) → first_bad nv nt ts ≡ nt → AllNamed nt vs ts
  all_named w good i h =
      let below = index_below nv nt ts good in
      record {
        inside = omega (arith, w.room_t);
        first = omega (arith, w.room_v, below (3 * i) (omega arith));
        second = omega (arith, w.room_v, below (3 * i + 1) (omega arith));
        third = omega (arith, w.room_v, below (3 * i + 2) (omega arith));
      }

  pub all_within : first_outside nt vs ts ≡ nt → AllWithin nt vs ts
  unfolding first_outside
  all_within e i h = not-false _ (first_before (λ k. not (triangle_within vs ts k)) nt i (subst (λ (n : ℕ). i < n) (sym e) h))

  abbrev write_tests : ℕ → List Test
  write_tests room =
      test 9 (leb nv (length vs / 4) && leb nt (length ts / 3) && limits nv nt)
      ∷ test_at 15 (first_bad nv nt ts) (eqb (first_bad nv nt ts) nt)
      ∷ test_at 25 (first_outside nt vs ts) (eqb (first_outside nt vs ts) nt)
      ∷ test 8 (leb (84 + 50 * nt) room)
      ∷ []

  pub write_tests_law : (room : ℕ) → stl_write_verdict nv nt vs ts room ≡ judge (write_tests room)
  unfolding stl_write_verdict
  write_tests_law room = refl

  write_numbered : (room : ℕ) → Numbered (write_tests room)
  write_numbered room = (omega arith, (omega arith, (omega arith, (omega arith, tt))))

  module _ (before : List ℕ) (v : Verdict) (is : v ≡ stl_write_verdict nv nt vs ts (length before)) where
    pub write_refused : (v.number ≡ 0 → ⊥)
        → StlWrites nv nt vs ts before (record { number = v.number; place = v.place; bytes = 0 }) before
    unfolding stl_wrote output_after
    write_refused h = record { answer = rw (← is, ne_eqb v.number 0 h); left = rw (← is, ne_eqb v.number 0 h) }

    module _ (h : v.number ≡ 0) where
      passed : (judge (write_tests (length before))).number ≡ 0
      passed = ap (λ (w : Verdict). w.number) (sym (write_tests_law (length before)) ∙ sym is) ∙ h

      pub fine : Fine nt vs ts (length before)
      fine =
          let a : Passed (write_tests (length before)) = judge_all (write_tests (length before)) (write_numbered (length before)) passed in
          let w = counted nv nt (length vs) (length ts) a.0 in
          record {
            most = w.most_t;
            named = all_named w (eqb-true _ _ a.1.0);
            within = all_within (eqb-true _ _ a.1.1.0);
            roomy = leb-true _ _ a.1.1.1.0;
          }

      pub write_none : stl_write_verdict nv nt vs ts (length before) ≡ verdict 0 0
      write_none = write_tests_law (length before) ∙ judge_none (write_tests (length before)) (write_numbered (length before)) passed

      pub write_done : (after : List ℕ) → after ≡ over (stl_bytes nt vs ts) before
          → StlWrites nv nt vs ts before (record { number = 0; place = 0; bytes = 84 + 50 * nt }) after
      unfolding stl_wrote output_after
      write_done after e = record { answer = rw write_none; left = rw write_none e }

  -- by a writer's answer
  module _ (before : List ℕ) where
    pub write_err : (e : Refusal) → verdict_of e ≡ stl_write_verdict nv nt vs ts (length before) → StlWrites nv nt vs ts before (wrote_told (Err e)) before
    write_err e is = write_refused before (verdict_of e) is (λ h. absurd (omega (arith, some_number e)))

    pub write_ok : verdict 0 0 ≡ stl_write_verdict nv nt vs ts (length before) → (n : ℕ) → n ≡ stl_length nt
        → (after : List ℕ) → after ≡ over (stl_bytes nt vs ts) before → StlWrites nv nt vs ts before (wrote_told (Ok n)) after
    unfolding stl_length
    write_ok is n l after e = rw l (write_done before (verdict 0 0) is refl after e)

-- ── reading ──

module _ (bs : List ℕ) where
  abbrev pub read_tests : ℕ → ℕ → ℕ → List Test
  read_tests n bad room =
      test 14 (leb 84 (length bs) && eqb (length bs) (84 + 50 * n)) ∷ test_at 25 bad (eqb bad n) ∷ test 7 (leb (9 * n) room) ∷ []

  -- by the numbers that were read
  pub read_tests_law : (n bad room : ℕ) → n ≡ stl_count bs → bad ≡ first_untaken bs → stl_read_verdict bs room ≡ judge (read_tests n bad room)
  unfolding stl_read_verdict
  read_tests_law n bad room e f = rw (e, f)

  read_numbered : (n bad room : ℕ) → Numbered (read_tests n bad room)
  read_numbered n bad room = (omega arith, (omega arith, (omega arith, tt)))

  all_stand : first_untaken bs ≡ stl_count bs → AllStand bs (stl_count bs)
  unfolding first_untaken
  all_stand e i h = not-false _ (first_before (λ k. not (facet_stands (stl_facet bs k))) (stl_count bs) i (subst (λ (n : ℕ). i < n) (sym e) h))

  pub words_long : length (stl_words bs) ≡ 9 * stl_count bs
  unfolding stl_words
  words_long = run_length (nine_at bs) 9 (nine_long bs) (stl_count bs)

  -- where all tests are passed, and only there
  pub sound_verdict : (room : ℕ) → Sound bs room → stl_read_verdict bs room ≡ verdict 0 0
  unfolding first_untaken
  sound_verdict room s =
      let n = stl_count bs in
      let u : first_untaken bs ≡ n = sym (first_missing _ n (λ k h. ap not (s.stand k h))) in
      read_tests_law n (first_untaken bs) room refl refl
      ∙ rw (
        le-leb 84 (length bs) (omega (arith, s.long)),
        eq-eqb (length bs) (84 + 50 * n) s.long,
        eq-eqb (first_untaken bs) n u,
        le-leb (9 * n) room s.roomy,
      )

  module _ (before : List ℤ) (v : Verdict) (is : v ≡ stl_read_verdict bs (length before)) where
    pub read_refused : (v.number ≡ 0 → ⊥) → StlReads bs before (record { number = v.number; place = v.place; facets = 0 }) before
    unfolding stl_loaded output_after
    read_refused h = record { answer = rw (← is, ne_eqb v.number 0 h); left = rw (← is, ne_eqb v.number 0 h) }

    module _ (h : v.number ≡ 0) where
      pub sound : Sound bs (length before)
      sound =
          let n = stl_count bs in
          let room = length before in
          let t = read_tests n (first_untaken bs) room in
          let q : judge t ≡ v = sym (is ∙ read_tests_law n (first_untaken bs) room refl refl) in
          let e : (judge t).number ≡ 0 = ap (λ (w : Verdict). w.number) q ∙ h in
          let a : Passed t = judge_all t (read_numbered n (first_untaken bs) room) e in
          record {
            long = eqb-true _ _ (both (leb 84 (length bs)) (eqb (length bs) (84 + 50 * n)) a.0).1;
            stand = all_stand (eqb-true _ _ a.1.0);
            roomy = leb-true _ _ a.1.1.0;
          }

      pub read_done : (n : ℕ) (after : List ℤ) → n ≡ stl_count bs → after ≡ sets before 0 (each (nine_at bs) (range 0 n))
          → StlReads bs before (record { number = 0; place = 0; facets = n }) after
      unfolding stl_loaded output_after stl_words
      read_done n after e f =
          let z = sound_verdict (length before) sound in
          record {
            answer = rw (z, e);
            left = rw z (f ∙ rw e (sets_front before (stl_words bs) (omega (arith, words_long, sound.roomy))));
          }

  -- by a reader's answer
  module _ (before : List ℤ) where
    pub read_err : (e : Refusal) → verdict_of e ≡ stl_read_verdict bs (length before) → StlReads bs before (loaded_told (Err e)) before
    read_err e is = read_refused before (verdict_of e) is (λ h. absurd (omega (arith, some_number e)))

    pub read_ok : verdict 0 0 ≡ stl_read_verdict bs (length before) → (n : ℕ) (after : List ℤ) → n ≡ stl_count bs
        → after ≡ sets before 0 (each (nine_at bs) (range 0 n)) → StlReads bs before (loaded_told (Ok n)) after
    read_ok is = read_done before (verdict 0 0) is refl
