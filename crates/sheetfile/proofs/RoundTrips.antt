-- The round trips, said of the contracts: reading what was written, and writing what was read. Assumes nothing.
use mathlib.Core.Path.{◌≡◌, refl, sym, subst, ap, ◌∙◌}
use mathlib.Core.Bool.{Bool, true, false, cond}
use mathlib.Core.List.{List}
use Prim.Native.Nat.{ℕ, ◌*◌, ◌/◌, ◌≤◌}
use native.Mathlib.Omega.{arith}
use borrow.Author.Tests.{eqb-true}
use lib.Dec.{eqb}
use lib.IntN.{ℤ}
use lib.ListN.{length, take, drop, length-append, get_or-append}
use lib.Seq.{take-append_seam, take-append-le}
use Rattle.lists.specs.Lists.{over}
use Rattle.paper.specs.declared.Sizes.{Sizes}
use Rattle.paper.specs.declared.Verdict.{Verdict}
use Rattle.paper.specs.declared.Wrote.{Wrote}
use Rattle.paper.specs.declared.Got.{Got}
use Rattle.paper.specs.Tests.{verdict}
use Rattle.paper.specs.Room.{vertex_room, triangle_room, output_after}
use Rattle.paper.specs.File.{content_of, file_length, file_bytes, write_verdict, wrote, Writes, file_v, file_t}
use Rattle.paper.specs.File.{file_sizes, file_vertices, file_triangles, file_tests, read_verdict, got, Reads}
use Rattle.paper.proofs.Judged.{judge_past}
use Rattle.codec.specs.Words.{Bytes, Words}
use Rattle.layout.proofs.Trailer.{vertices_length, triangles_length}
use Rattle.paper.proofs.Passing.{file_numbered, room_enough}
use Rattle.layout.proofs.Passing.{first_same}
use Rattle.sheetfile.specs.Taken.{Taken, Room}
use Rattle.sheetfile.specs.Trips.{Holds, Returned}
use Rattle.sheetfile.proofs.Stored.{file_long}
use Rattle.sheetfile.proofs.Answers.{taken, taken_verdict, read_tests_law, readable_laid, readable_passed, readable_none}
use Rattle.sheetfile.proofs.Written.{written}
use Rattle.sheetfile.proofs.Rewritten.{rewritten}

abbrev wrote_all : ℕ → Wrote
wrote_all n = record { number = 0; place = 0; bytes = n }

-- ── reading what was written ──

-- a reader with room gets what the file holds
holds_read : {bs : List ℕ} {z : Sizes} {nv nt : ℕ} {xs : List ℤ} {ys : List ℕ} {vs vs' : List ℤ} {ts ts' : List ℕ} {g : Got}
    → Holds bs z nv nt xs ys → Reads bs vs ts g vs' ts' → nv ≤ vertex_room vs → nt ≤ triangle_room ts → Returned z nv nt xs ys vs ts g vs' ts'
unfolding got output_after
holds_read {bs} {z} {nv} {nt} {xs} {ys} {vs} {vs'} {ts} {ts'} {g} h r hv ht =
    let v : file_v bs ≤ length vs / 4 = omega (arith, h.count_v) in
    let t : file_t bs ≤ length ts / 3 = omega (arith, h.count_t) in
    let n : read_verdict bs vs ts ≡ verdict 0 0 =
    read_tests_law bs vs ts
    ∙ (judge_past (file_tests bs) _ (file_numbered bs) (ap (λ (w : Verdict). w.number) h.passes)
    ∙ room_enough (file_v bs) (file_t bs) (length vs / 4) (length ts / 3) v t) in
    record {
      answer = r.answer ∙ rw (n, h.count_v, h.count_t, h.sizes);
      vertices = r.vertices ∙ rw (n, h.vertices);
      triangles = r.triangles ∙ rw (n, h.triangles);
    }

-- the bytes that a writer says it wrote are the file
pub record Done (z : Sizes) (nv nt : ℕ) (vs : List ℤ) (ts before after : List ℕ) (r : Wrote) : Type 0 where
  pub passed : (write_verdict z nv nt vs ts (length before)).number ≡ 0
  pub bytes : take r.bytes after ≡ file_bytes (content_of z nv nt vs ts)

module _ {z : Sizes} {nv nt : ℕ} {vs : List ℤ} {ts before after : List ℕ} {r : Wrote} (w : Writes z nv nt vs ts before r after) where
  pub written_bytes : r.number ≡ 0 → Done z nv nt vs ts before after r
  unfolding wrote output_after file_length
  written_bytes h =
      let file = file_bytes (content_of z nv nt vs ts) in
      let e : (write_verdict z nv nt vs ts (length before)).number ≡ 0 = ap (λ (x : Wrote). x.number) (sym w.answer) ∙ h in
      let t = taken z nv nt vs ts (length before) e in
      let n = taken_verdict z nv nt vs ts (length before) t in
      let b : r.bytes ≡ length file = ap (λ (x : Wrote). x.bytes) w.answer ∙ rw n (sym (file_long z nv nt vs ts t.counts)) in
      let a : after ≡ over file before = w.left ∙ rw n in
      record {
        passed = e;
        bytes =
            ap (take r.bytes) a
            ∙ (ap (λ (k : ℕ). take k (over file before)) b ∙ take-append_seam file (drop (length file) before));
      }

  -- read with room, they give the sizes, the counts, every record and every triangle that were given to the writer
  pub read_of_written : {us us' : List ℤ} {ss ss' : List ℕ} {g : Got}
      → Words vs → r.number ≡ 0 → Reads (take r.bytes after) us ss g us' ss'
      → nv ≤ vertex_room us → nt ≤ triangle_room ss → Returned z nv nt (take (4 * nv) vs) (take (3 * nt) ts) us ss g us' ss'
  read_of_written {us} {us'} {ss} {ss'} {g} words h reads hv ht =
      let d = written_bytes h in
      holds_read (written z nv nt vs ts (length before) words d.passed)
      (subst (λ (l : List ℕ). Reads l us ss g us' ss') d.bytes reads) hv ht

-- ── writing what was read ──

module _ (bs : List ℕ) (vs : List ℤ) (ts : List ℕ) where
  -- a reader that succeeds passed all its tests
  got_zero : (got bs vs ts).number ≡ 0 → (read_verdict bs vs ts).number ≡ 0
  unfolding got
  got_zero = go (eqb (read_verdict bs vs ts).number 0) refl
    where
      go : (b : Bool) → eqb (read_verdict bs vs ts).number 0 ≡ b
          → (cond {A = Got} b (record { number = 0; place = 0; vertices = file_v bs; triangles = file_t bs; sizes = file_sizes bs })
          (record {
            number = (read_verdict bs vs ts).number;
            place = (read_verdict bs vs ts).place;
            vertices = 0;
            triangles = 0;
            sizes = record { nx = 0; ny = 0; nz = 0 };
          })).number
          ≡ 0
          → (read_verdict bs vs ts).number ≡ 0
      go true e h = eqb-true _ 0 e
      go false e h = h

  module _ (e : (read_verdict bs vs ts).number ≡ 0) where
    room : Room bs (length vs) (length ts)
    room = readable_laid bs vs ts (read_verdict bs vs ts) (read_tests_law bs vs ts) e

    -- the front of each slice is the file's
    front_v : take (4 * file_v bs) (over (file_vertices bs) vs) ≡ take (4 * file_v bs) (file_vertices bs)
    front_v = take-append-le (4 * file_v bs) (file_vertices bs) (drop (length (file_vertices bs)) vs) (omega (arith, vertices_length bs))

    front_t : take (3 * file_t bs) (over (file_triangles bs) ts) ≡ take (3 * file_t bs) (file_triangles bs)
    front_t = take-append-le (3 * file_t bs) (file_triangles bs) (drop (length (file_triangles bs)) ts) (omega (arith, triangles_length bs))

    again : (size : ℕ) → length bs ≤ size
        → Taken (file_sizes bs) (file_v bs) (file_t bs) (over (file_vertices bs) vs) (over (file_triangles bs) ts) size
    again size h =
        let l = room.laid in
        let old = file_triangles bs in
        record {
          sized = l.sized;
          counts = record {
            most_v = l.ranged.most_v;
            most_t = l.ranged.most_t;
            room_v = omega (arith, length-append (file_vertices bs) (drop (length (file_vertices bs)) vs), vertices_length bs);
            room_t = omega (arith, length-append (file_triangles bs) (drop (length (file_triangles bs)) ts), triangles_length bs);
          };
          good = first_same (file_v bs) (file_t bs) old (over old ts)
              (λ i h. get_or-append old (drop (length old) ts) 0 i (omega (arith, triangles_length bs))) l.good;
          roomy = omega (arith, l.ranged.long);
        }

    same_file : Bytes bs
        → file_bytes (content_of (file_sizes bs) (file_v bs) (file_t bs) (over (file_vertices bs) vs) (over (file_triangles bs) ts)) ≡ bs
    same_file bytes =
        rw (front_v, front_t)
        (rewritten bs bytes (ap (λ (v : Verdict). v.number) (readable_passed bs vs ts (read_verdict bs vs ts) (read_tests_law bs vs ts) e)))

    rewrites : {before after : List ℕ} {r : Wrote} → Bytes bs
        → Writes (file_sizes bs) (file_v bs) (file_t bs) (over (file_vertices bs) vs) (over (file_triangles bs) ts) before r after
        → length bs ≤ length before
        → (r ≡ record { number = 0; place = 0; bytes = length bs }) × (after ≡ over bs before)
    unfolding wrote output_after file_length
    rewrites {before} {after} {r} bytes w h =
        let n = taken_verdict _ _ _ _ _ (length before) (again (length before) h) in
        (w.answer ∙ rw n (ap (λ (k : ℕ). wrote_all k) (sym room.laid.ranged.long)), w.left ∙ rw (n, same_file bytes))

-- a writer with room for them gets the file's bytes again
pub write_of_read : {bs : List ℕ} {vs vs' : List ℤ} {ts ts' : List ℕ} {g : Got} {before after : List ℕ} {r : Wrote}
    → Bytes bs → Reads bs vs ts g vs' ts' → g.number ≡ 0 → Writes g.sizes g.vertices g.triangles vs' ts' before r after
    → length bs ≤ length before
    → (r ≡ record { number = 0; place = 0; bytes = length bs }) × (after ≡ over bs before)
unfolding got output_after
write_of_read {bs} {vs} {vs'} {ts} {ts'} {g} {before} {after} {r} bytes reads h w room =
    let e = got_zero bs vs ts (ap (λ (x : Got). x.number) (sym reads.answer) ∙ h) in
    let n = readable_none bs vs ts (read_verdict bs vs ts) (read_tests_law bs vs ts) e in
    let a : g ≡ record { number = 0; place = 0; vertices = file_v bs; triangles = file_t bs; sizes = file_sizes bs } = reads.answer ∙ rw n in
    let b : vs' ≡ over (file_vertices bs) vs = reads.vertices ∙ rw n in
    let c : ts' ≡ over (file_triangles bs) ts = reads.triangles ∙ rw n in
    rewrites bs vs ts e bytes (rw (a, b, c) at w) room
