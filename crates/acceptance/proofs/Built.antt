-- The sheet of a rule, written, is accepted under that rule; so is what a build and then a write make. Assumes nothing.
use mathlib.Core.Path.{◌≡◌, sym, ap, subst, transport, ◌∙◌}
use mathlib.Core.List.{List, [], ◌∷◌, map}
use Prim.Native.Nat.{ℕ, ◌*◌, ◌<◌}
use native.Mathlib.Omega.{arith}
use lib.IntN.{ℤ, pos}
use lib.ListN.{length, take, drop, get_or-append}
use lib.Seq.{take_all, take-append-le}
use mir.Syntax.{w32}
use mir.Val.{SFits}
use Rattle.lists.specs.Lists.{range, count, over}
use Rattle.lists.proofs.Every.{All, all_get_d, all_each}
use Rattle.paper.specs.declared.Start.{Start}
use Rattle.paper.specs.declared.Verdict.{Verdict}
use Rattle.paper.specs.declared.Built.{Built}
use Rattle.paper.specs.declared.Wrote.{Wrote}
use Rattle.paper.specs.declared.Rule.{Rule}
use Rattle.paper.specs.Lattice.{Lattice}
use Rattle.paper.specs.Sheet.{Sheet, edge_numbers, sheet_of, vertex_record, vertex_words, triangle_words}
use Rattle.paper.specs.Room.{Lengths, output_after}
use Rattle.paper.specs.Within.{Sized}
use Rattle.paper.specs.Tests.{judge}
use Rattle.paper.specs.Build.{Lent, start_of, build_rule, sheet_from, sample_tests, build_number, counted, built, lent_after, Builds}
use Rattle.paper.specs.File.{content_of, file_bytes, write_verdict, Writes}
use Rattle.paper.specs.Check.{record_of, triangle_of, same_numbers, turned, checked}
use Rattle.paper.proofs.Listing.{sheet_edges_lt, sheet_positioned, vertex_words_law, vertex_words_length, triangle_words_length}
use Rattle.paper.proofs.Crossing.{Positioned}
use Rattle.lattice.proofs.Laws.{samples_few}
use Rattle.codec.specs.Words.{Words}
use Rattle.layout.proofs.Passing.{first_same}
use Rattle.paper.proofs.Passing.{sample_tests_law, built_number, built_zero}
use Rattle.holding.proofs.Words.{records_are, triangles_are}
use Rattle.sheetfile.specs.Taken.{Taken}
use Rattle.sheetfile.specs.Trips.{Holds}
use Rattle.sheetfile.proofs.Answers.{taken, taken_verdict}
use Rattle.sheetfile.proofs.Written.{written}
use Rattle.sheetfile.proofs.RoundTrips.{written_bytes}
use Rattle.acceptance.specs.Holding.{file_records, file_triples, Holding}
use Rattle.acceptance.proofs.Exact.{accepted_exactly}

-- ── the words of a sheet ──

module _ (rule : Rule) (L : Lattice) (s : Sized L.size) (start : ℕ) where
  abbrev S : Sheet
  S = sheet_of rule L start

  abbrev nv : ℕ
  nv = length S.edges

  abbrev nt : ℕ
  nt = length S.triangles

  abbrev vw : List ℤ
  vw = vertex_words S

  abbrev tw : List ℕ
  tw = triangle_words S

  -- each is a signed 32-bit number
  words_fit : Words vw
  words_fit =
      all_get_d (SFits w32) vw (pos 0) (record { sfits = omega arith })
      (subst (All (SFits w32)) (sym (vertex_words_law rule L start))
      (all_each (SFits w32) (vertex_record rule L) S.edges
      (fits S.edges (sheet_positioned rule L s start) (sheet_edges_lt rule L start))))
    where
      fits : (l : List ℕ) → All (Positioned rule L) l → All (λ e. e < edge_numbers L.size) l
          → All (λ e. All (SFits w32) (vertex_record rule L e)) l
      fits [] p q = tt
      fits (e ∷ l) p q =
          let r = p.0 in
          let f = samples_few L.size s in (
            subst (All (SFits w32)) (sym r.is) (
              record { sfits = omega (arith, q.0) },
              (
                record { sfits = omega (arith, r.x_le) },
                (record { sfits = omega (arith, r.y_le) }, (record { sfits = omega (arith, r.z_le) }, tt)),
              ),
            ),
            fits l p.1 q.1,
          )

  -- a file with these words holds the sheet
  holding : (bs : List ℕ) → Holds bs L.size nv nt vw tw → Holding rule L start bs
  unfolding file_records file_triples
  holding bs h = record {
    vertices =
        λ r. ap (count (same_numbers r)) ((λ j. map (record_of (h.vertices j)) (range 0 (h.count_v j))) ∙ records_are rule L s start);
    triangles =
        λ t. ap (count (turned t))
        ((λ j. map (triangle_of (h.vertices j) (h.triangles j)) (range 0 (h.count_t j))) ∙ triangles_are rule L s start);
  }

-- ── build, then write, then check ──

-- a build that succeeds
pub record Made (L : Lattice) (s : Start) (before : Lent) (r : Built) (after : Lent) : Type 0 where
  pub vertices : r.vertices ≡ length (sheet_from L s).edges
  pub triangles : r.triangles ≡ length (sheet_from L s).triangles
  pub cubes : r.cubes ≡ (sheet_from L s).visits
  pub vertex_words_law : after.vertices ≡ over (vertex_words (sheet_from L s)) before.vertices
  pub triangle_words_law : after.triangles ≡ over (triangle_words (sheet_from L s)) before.triangles

pub made : {L : Lattice} {s : Start} {before : Lent} {r : Built} {after : Lent}
    → Builds L s before r after → r.number ≡ 0 → Made L s before r after
unfolding lent_after output_after
made {L} {s} {before} {r} {after} b e =
    let z : (built L s before).number ≡ 0 = sym (ap (λ (x : Built). x.number) b.answer) ∙ e in
    let n : build_number L s before ≡ 0 = sym (built_number L s before) ∙ z in
    let q : r ≡ counted 0 (sheet_from L s) = b.answer ∙ built_zero L s before z in
    record {
      vertices = ap (λ (x : Built). x.vertices) q;
      triangles = ap (λ (x : Built). x.triangles) q;
      cubes = ap (λ (x : Built). x.cubes) q;
      vertex_words_law = ap (λ (x : Lent). x.vertices) b.left ∙ rw n;
      triangle_words_law = ap (λ (x : Lent). x.triangles) b.left ∙ rw n;
    }

module _ (rule : Rule) (L : Lattice) (sz : Sized L.size) (start : ℕ) (old : List ℤ) (old' : List ℕ) (room : ℕ) where
  abbrev T' : Sheet
  T' = sheet_of rule L start

  abbrev V' : ℕ
  V' = length T'.edges

  abbrev N' : ℕ
  N' = length T'.triangles

  -- a writer's file of the slices is the file of the sheet's words
  same_file : file_bytes (content_of L.size V' N' (over (vertex_words T') old) (over (triangle_words T') old'))
      ≡ file_bytes (content_of L.size V' N' (vertex_words T') (triangle_words T'))
  same_file =
      let a =
      take-append-le (4 * V') (vertex_words T') (drop (length (vertex_words T')) old) (omega (arith, vertex_words_length rule L start)) in
      let b =
      take-append-le (3 * N') (triangle_words T') (drop (length (triangle_words T')) old') (omega (arith, triangle_words_length T')) in
      λ j. file_bytes (record { sizes = L.size; vertices = V'; triangles = N'; vertex_words = a j; triangle_words = b j })

  -- which a reader gets back
  reads_back : (write_verdict L.size V' N' (over (vertex_words T') old) (over (triangle_words T') old') room).number ≡ 0
      → let file = file_bytes (content_of L.size V' N' (vertex_words T') (triangle_words T')) in
      Holds file L.size V' N' (take (4 * V') (vertex_words T')) (take (3 * N') (triangle_words T'))
  reads_back e =
      let tw = triangle_words T' in
      let t = taken L.size V' N' (over (vertex_words T') old) (over tw old') room e in
      let u : Taken L.size V' N' (vertex_words T') (triangle_words T') room =
      record {
        sized = t.sized;
        counts = record {
          most_v = t.counts.most_v;
          most_t = t.counts.most_t;
          room_v = omega (arith, vertex_words_length rule L start);
          room_t = omega (arith, triangle_words_length T');
        };
        good = first_same V' N' (over tw old') tw
            (λ i h. sym (get_or-append tw (drop (length tw) old') 0 i (omega (arith, triangle_words_length T')))) t.good;
        roomy = t.roomy;
      } in
      written L.size V' N' (vertex_words T') (triangle_words T') room (words_fit rule L sz start)
      (ap (λ (v : Verdict). v.number) (taken_verdict L.size V' N' (vertex_words T') (triangle_words T') room u))

-- the sheet of a rule, lent at the front of slices and written, is accepted under that rule, with any work slices that are long enough
pub sheet_accepted : (rule : Rule) (L : Lattice) (s : Start) (n : Lengths) → (judge (sample_tests L s n)).number ≡ 0
    → (old : List ℤ) (old' bytes bytes' : List ℕ) (w : Wrote)
    → let S = sheet_of rule L (start_of L s) in
    Writes L.size (length S.edges) (length S.triangles) (over (vertex_words S) old) (over (triangle_words S) old') bytes w bytes'
    → w.number ≡ 0 → (checked rule L s (take w.bytes bytes') n).number ≡ 0
sheet_accepted rule L s n h old old' bytes bytes' w write f =
    let start = start_of L s in
    let S = sheet_of rule L start in
    let t = sample_tests_law L s n h in
    let d = written_bytes write f in
    let nv = length S.edges in
    let nt = length S.triangles in
    let q = reads_back rule L t.sizes start old old' (length bytes) d.passed in
    let same = d.bytes ∙ same_file rule L t.sizes start old old' (length bytes) in
    let file = file_bytes (content_of L.size nv nt (vertex_words S) (triangle_words S)) in
    let k : Holds file L.size nv nt (vertex_words S) (triangle_words S) =
    subst (λ (x : List ℤ). Holds file L.size nv nt x (triangle_words S))
    (take_all (4 * nv) (vertex_words S) (omega (arith, vertex_words_length rule L start)))
    (subst (λ (y : List ℕ). Holds file L.size nv nt (take (4 * nv) (vertex_words S)) y)
    (take_all (3 * nt) (triangle_words S) (omega (arith, triangle_words_length S))) q) in
    subst (λ (x : List ℕ). (checked rule L s x n).number ≡ 0) (sym same)
    ((accepted_exactly rule L s file n).always
    (record {
      samples = h;
      file = ap (λ (v : Verdict). v.number) k.passes;
      sizes = k.sizes;
      holds = holding rule L t.sizes start file k;
    }))

-- so is what a build and then a write make, under the rule that a build follows
pub built_accepted : {L : Lattice} {s : Start} {before : Lent} {r : Built} {after : Lent} {bytes bytes' : List ℕ} {w : Wrote}
    → Builds L s before r after → r.number ≡ 0
    → Writes L.size r.vertices r.triangles after.vertices after.triangles bytes w bytes' → w.number ≡ 0
    → (n : Lengths) → (judge (sample_tests L s n)).number ≡ 0
    → (checked build_rule L s (take w.bytes bytes') n).number ≡ 0
built_accepted {L} {s} {before} {r} {after} {bytes} {bytes'} {w} b e write f n h =
    let m = made b e in
    let of : 𝕀 → Type 0 = λ j. Writes L.size (m.vertices j) (m.triangles j) (m.vertex_words_law j) (m.triangle_words_law j) bytes w bytes' in
    sheet_accepted build_rule L s n h before.vertices before.triangles bytes bytes' w (transport (λ j. of j) write) f
