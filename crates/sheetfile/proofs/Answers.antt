-- The answers of a writer and a reader, from what their tests say. Assumes nothing.
use Rattle.std.specs.Prelude.{Ok, Err}
use mathlib.Core.Path.{◌≡◌, refl, sym, ap, ◌∙◌}
use mathlib.Core.Bool.{◌&&◌}
use mathlib.Core.List.{List, [], ◌∷◌, ◌++◌, map}
use Prim.Native.Nat.{ℕ, ◌+◌, ◌*◌, ◌/◌}
use native.Mathlib.Omega.{arith}
use borrow.Author.Tests.{le-leb, leb-true, eq-eqb, eqb-true, ne_eqb}
use lib.Dec.{leb}
use lib.IntN.{ℤ}
use lib.ListN.{length, drop}
use lib.Seq.{sets}
use Rattle.lists.specs.Lists.{range, over}
use Rattle.paper.specs.declared.Sizes.{Sizes}
use Rattle.paper.specs.declared.Verdict.{Verdict}
use Rattle.paper.specs.declared.Refusal.{Refusal}
use Rattle.paper.specs.Refused.{verdict_of, wrote_told, got_told}
use Rattle.paper.proofs.Refusals.{some_number}
use Rattle.paper.specs.Lattice.{axes}
use Rattle.paper.specs.Tests.{Test, test, judge, verdict}
use Rattle.paper.specs.Room.{room_tests, output_after}
use Rattle.paper.specs.File.{signed32, content_of, file_length, file_bytes, first_bad, index_test, limits, write_verdict, wrote}
use Rattle.paper.specs.File.{Writes, file_v, file_t, file_sizes, file_vertices, file_triangles, file_tests, read_verdict, got, Reads}
use Rattle.paper.proofs.Judged.{Numbered, Passed, numbered_both, passed_both, judge_all, judge_none, passed_judge, sized, sized_axes}
use Rattle.lists.proofs.Stores.{sets_front}
use Rattle.codec.proofs.Runs.{word_at}
use Rattle.layout.proofs.Trailer.{vertices_are, triangles_are, vertices_length, triangles_length}
use Rattle.paper.proofs.Passing.{file_numbered, room_numbered, room_passed}
use Rattle.layout.proofs.Passing.{passed_laid}
use Rattle.sheetfile.specs.Taken.{Taken, Room}
use Rattle.sheetfile.proofs.Stored.{counted}

-- ── writing ──

module _ (z : Sizes) (nv nt : ℕ) (vs : List ℤ) (ts : List ℕ) where
  abbrev write_tests : ℕ → List Test
  write_tests room =
      test 1 (axes z)
      ∷ test 9 (leb nv (length vs / 4) && leb nt (length ts / 3) && limits nv nt)
      ∷ index_test nv nt ts
      ∷ test 8 (leb (16 * nv + 12 * nt + 24) room)
      ∷ []

  write_tests_law : (room : ℕ) → write_verdict z nv nt vs ts room ≡ judge (write_tests room)
  unfolding write_verdict file_length
  write_tests_law room = refl

  write_numbered : (room : ℕ) → Numbered (write_tests room)
  write_numbered room = (omega arith, (omega arith, (omega arith, (omega arith, tt))))

  pub taken : (room : ℕ) → (write_verdict z nv nt vs ts room).number ≡ 0 → Taken z nv nt vs ts room
  taken room e =
      let a : Passed (write_tests room) =
      judge_all (write_tests room) (write_numbered room) (ap (λ (v : Verdict). v.number) (sym (write_tests_law room)) ∙ e) in
      record {
        sized = sized z a.0;
        counts = counted nv nt (length vs) (length ts) a.1.0;
        good = eqb-true (first_bad nv nt ts) nt a.1.1.0;
        roomy = leb-true (16 * nv + 12 * nt + 24) room a.1.1.1.0;
      }

  pub taken_verdict : (room : ℕ) → Taken z nv nt vs ts room → write_verdict z nv nt vs ts room ≡ verdict 0 0
  unfolding limits
  taken_verdict room t =
      let c = t.counts in
      write_tests_law room
      ∙ rw (
        sized_axes z t.sized,
        le-leb nv (length vs / 4) (omega (arith, c.room_v)),
        le-leb nt (length ts / 3) (omega (arith, c.room_t)),
        le-leb nv 2000000 c.most_v,
        le-leb nt 4000000 c.most_t,
        eq-eqb (first_bad nv nt ts) nt t.good,
        le-leb (16 * nv + 12 * nt + 24) room t.roomy,
      )

  module _ (before : List ℕ) (v : Verdict) (is : v ≡ write_verdict z nv nt vs ts (length before)) where
    pub write_refused : (v.number ≡ 0 → ⊥)
        → Writes z nv nt vs ts before (record { number = v.number; place = v.place; bytes = 0 }) before
    unfolding wrote output_after
    write_refused h = record { answer = rw (← is, ne_eqb v.number 0 h); left = rw (← is, ne_eqb v.number 0 h) }

    pub write_done : v.number ≡ 0 → (after : List ℕ) → after ≡ over (file_bytes (content_of z nv nt vs ts)) before
        → Writes z nv nt vs ts before (record { number = 0; place = 0; bytes = 16 * nv + 12 * nt + 24 }) after
    unfolding wrote output_after file_length
    write_done h after e =
        let room = length before in
        let t = write_tests_law room in
        let n : write_verdict z nv nt vs ts room ≡ verdict 0 0 =
        t ∙ judge_none (write_tests room) (write_numbered room) (ap (λ (w : Verdict). w.number) (sym t ∙ sym is) ∙ h) in
        record { answer = rw n; left = rw n e }

  -- by a writer's answer
  module _ (before : List ℕ) where
    pub write_err : (e : Refusal) → verdict_of e ≡ write_verdict z nv nt vs ts (length before) → Writes z nv nt vs ts before (wrote_told (Err e)) before
    write_err e is = write_refused before (verdict_of e) is (λ h. absurd (omega (arith, some_number e)))

    pub write_ok : verdict 0 0 ≡ write_verdict z nv nt vs ts (length before) → (n : ℕ) → n ≡ file_length nv nt
        → (after : List ℕ) → after ≡ over (file_bytes (content_of z nv nt vs ts)) before → Writes z nv nt vs ts before (wrote_told (Ok n)) after
    unfolding file_length
    write_ok is n l after e = rw l (write_done before (verdict 0 0) is refl after e)

-- ── reading ──

module _ (bs : List ℕ) (vs : List ℤ) (ts : List ℕ) where
  abbrev room : List Test
  room = room_tests (file_v bs) (file_t bs) (length vs / 4) (length ts / 3)

  pub read_tests_law : read_verdict bs vs ts ≡ judge (file_tests bs ++ room)
  unfolding read_verdict
  read_tests_law = refl

  module _ (v : Verdict) (is : v ≡ judge (file_tests bs ++ room)) where
    answer : read_verdict bs vs ts ≡ v
    answer = read_tests_law ∙ sym is

    pub read_refused : (v.number ≡ 0 → ⊥)
        → let none : Sizes = record { nx = 0; ny = 0; nz = 0 } in
        Reads bs vs ts (record { number = v.number; place = v.place; vertices = 0; triangles = 0; sizes = none }) vs ts
    unfolding got output_after
    read_refused h =
        let n = ne_eqb v.number 0 h in
        let r = answer in
        record { answer = rw (r, n); vertices = rw (r, n); triangles = rw (r, n) }

    module _ (h : v.number ≡ 0) where
      numbered : Numbered (file_tests bs ++ room)
      numbered = numbered_both (file_tests bs) room (file_numbered bs) (room_numbered (file_v bs) (file_t bs) (length vs / 4) (length ts / 3))

      zero_judge : (judge (file_tests bs ++ room)).number ≡ 0
      zero_judge = ap (λ (w : Verdict). w.number) (sym is) ∙ h

      pub readable_laid : Room bs (length vs) (length ts)
      readable_laid =
          let p = passed_both (file_tests bs) room (judge_all (file_tests bs ++ room) numbered zero_judge) in
          let r = room_passed (file_v bs) (file_t bs) (length vs / 4) (length ts / 3) p.1 in
          record { laid = passed_laid bs p.0; room_v = omega (arith, r.0); room_t = omega (arith, r.1) }

      pub readable_passed : judge (file_tests bs) ≡ verdict 0 0
      readable_passed =
          passed_judge (file_tests bs)
          (passed_both (file_tests bs) room
          (judge_all (file_tests bs ++ room) numbered zero_judge)
          ).0

      pub readable_none : read_verdict bs vs ts ≡ verdict 0 0
      readable_none = read_tests_law ∙ judge_none (file_tests bs ++ room) numbered zero_judge

      pub read_done : (nv nt : ℕ) (z : Sizes) (vs' : List ℤ) (ts' : List ℕ) → nv ≡ file_v bs → nt ≡ file_t bs → z ≡ file_sizes bs
          → vs' ≡ sets vs 0 (map (word_at signed32 4 bs 0) (range 0 (4 * nv)))
          → ts' ≡ sets ts 0 (map (word_at (λ (n : ℕ). n) 4 bs (16 * nv)) (range 0 (3 * nt)))
          → Reads bs vs ts (record { number = 0; place = 0; vertices = nv; triangles = nt; sizes = z }) vs' ts'
      unfolding got output_after
      read_done nv nt z vs' ts' ev et ez a b =
          let n = readable_none in
          let r = readable_laid in
          let v : sets vs 0 (file_vertices bs) ≡ over (file_vertices bs) vs =
          sets_front vs (file_vertices bs) (omega (arith, vertices_length bs, r.room_v)) in
          let t : sets ts 0 (file_triangles bs) ≡ over (file_triangles bs) ts =
          sets_front ts (file_triangles bs) (omega (arith, triangles_length bs, r.room_t)) in
          record {
            answer = rw (n, ev, et, ez);
            vertices = rw n (a ∙ rw (ev, vertices_are) v);
            triangles = rw n (b ∙ rw (ev, et, triangles_are) t);
          }

  -- by a reader's answer
  pub read_err : (e : Refusal) → verdict_of e ≡ judge (file_tests bs ++ room) → Reads bs vs ts (got_told (Err e)) vs ts
  read_err e is = read_refused (verdict_of e) is (λ h. absurd (omega (arith, some_number e)))

  pub read_ok : verdict 0 0 ≡ judge (file_tests bs ++ room)
      → (nv nt : ℕ) (z : Sizes) (xs : List ℤ) (ys : List ℕ) → nv ≡ file_v bs → nt ≡ file_t bs → z ≡ file_sizes bs
      → xs ≡ map (word_at signed32 4 bs 0) (range 0 (4 * nv)) → ys ≡ map (word_at (λ (n : ℕ). n) 4 bs (16 * nv)) (range 0 (3 * nt))
      → Reads bs vs ts (record { number = 0; place = 0; vertices = nv; triangles = nt; sizes = z }) (xs ++ drop (4 * nv) vs) (ys ++ drop (3 * nt) ts)
  unfolding got output_after
  read_ok is nv nt z xs ys ev et ez a b =
      let n = read_tests_law ∙ sym is in
      let v : xs ≡ file_vertices bs = a ∙ rw (ev, vertices_are) in
      let t : ys ≡ file_triangles bs = b ∙ rw (ev, et, triangles_are) in
      record {
        answer = rw (n, ev, et, ez);
        vertices = rw (n, v, ev, vertices_length bs);
        triangles = rw (n, t, et, triangles_length bs);
      }
