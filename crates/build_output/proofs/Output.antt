-- What is drawn by rows is the sheet: its vertices, the numbers in the slots of its edges, its triangles. Assumes nothing.
use mathlib.Core.Path.{◌≡◌, refl, sym, ap, subst, ◌∙◌}
use mathlib.Core.List.{List}
use Prim.Native.Nat.{ℕ, ◌-◌, ◌*◌, ◌/◌, ◌≤◌}
use native.Mathlib.Omega.{arith}
use lib.IntN.{ℤ}
use lib.ListN.{length, get_or}
use lib.Seq.{sets}
use Rattle.lists.specs.Lists.{each, over, cleared, Beyond}
use Rattle.lists.proofs.Stores.{sets_front, clear_beyond}
use Rattle.paper.specs.declared.Built.{Built}
use Rattle.paper.specs.declared.SheetCounts.{SheetCounts}
use Rattle.paper.specs.Refused.{built_with}
use Rattle.paper.specs.Lattice.{Lattice, visited}
use Rattle.paper.specs.Sheet.{Sheet, vertex_record, sheet_of, vertex_words, triangle_words}
use Rattle.paper.specs.Tests.{judge}
use Rattle.paper.specs.Room.{Work, work, needed, needed_slots, vertex_room, triangle_room, room_tests, clean, output_after}
use Rattle.paper.specs.Build.{Lent, lent, build_rule}
use Rattle.paper.specs.Within.{Full}
use Rattle.paper.proofs.Passing.{room_tests_law}
use Rattle.paper.proofs.Listing.{parts, vertex_words_length}
use Rattle.spread.specs.Flooded.{Stands}
use Rattle.tally.specs.declared.Counts.{Counts}
use Rattle.tally.specs.Tally.{Counted}
use Rattle.patterns.specs.Table.{steps_by, Tabled}
use Rattle.dots.specs.Dots.{edges_by, numbered, Crossed}
use Rattle.dots.proofs.Meaning.{edges_by_law, edges_crossed, records_are, slots_rank, slots_beyond}
use Rattle.tiles.specs.Tiles.{source, tiles_by}
use Rattle.tiles.proofs.Meaning.{tiles_by_law, tiles_length}
use Rattle.build_output.specs.Output.{sheet_counts, Output, output, Fits, Puts, room_number, BuildsFrom}

module _ (L : Lattice) (full : Full L) (rows vis : List ℕ) (k : ℕ) (s : Stands L k rows vis) where
  abbrev S : Sheet
  S = sheet_of build_rule L k

  abbrev drawn : List ℕ
  drawn = edges_by L.size rows vis

  pub crossed : Crossed L drawn
  crossed = edges_crossed L full.sized k rows vis s.sides s.cubes

  pub edges_length : length drawn ≡ length S.edges
  edges_length = ap length (edges_by_law L full.sized k rows vis s.sides s.cubes build_rule)

  pub vertices_are : (l : List ℤ) → 4 * length S.edges ≤ length l
      → sets l (4 * (0 - 0)) (each (vertex_record build_rule L) drawn) ≡ over (vertex_words S) l
  vertices_are l h =
      ap (λ (r : List ℤ). sets l 0 r) (records_are L full.sized k rows vis s.sides s.cubes build_rule)
      ∙ sets_front l (vertex_words S) (omega (arith, vertex_words_length build_rule L k))

  pub past_slots : (slots : List ℕ) → Beyond (needed_slots L.size) slots (numbered 0 drawn slots)
  past_slots = slots_beyond L full.sized k rows vis s.sides s.cubes 0

  -- by the table of patterns, and the slots as they are numbered
  module _ (slots : List ℕ) (room : needed_slots L.size ≤ length slots) (table counts : List ℕ)
      (made : Tabled (steps_by L.size) 256 table counts) (slots' : List ℕ) (e : slots' ≡ numbered 0 drawn slots) where
    abbrev tiled : List ℕ
    tiled = tiles_by (source table counts slots') L.size rows vis

    pub triangles_are : tiled ≡ triangle_words S
    triangles_are =
        tiles_by_law L k rows vis s.sides s.cubes (source table counts slots') made build_rule full.sized
        (λ n t. ap (λ (l : List ℕ). get_or l n 0) e ∙ slots_rank L full.sized k rows vis s.sides s.cubes build_rule slots room n t)

    pub triangles_length : length tiled ≡ 3 * length S.triangles
    triangles_length = tiles_length L k rows vis s.sides s.cubes (source table counts slots') made build_rule

-- ── tests 6 and 7 ──

module _ (L : Lattice) (rows vis : List ℕ) (c : Counts) (counts : Counted L.size rows vis c) where
  -- the counts are the sheet's
  counts_are : (k : ℕ) → Stands L k rows vis
      → c ≡ record { vertices = length (sheet_of build_rule L k).edges; triangles = length (sheet_of build_rule L k).triangles }
  counts_are k s =
      let v = counts.vertices build_rule L.values k s.sides s.cubes in
      let t = counts.triangles build_rule L.values k s.sides s.cubes in
      λ i. record { vertices = v i; triangles = t i }

  pub fits : (n vertices triangles : ℕ) → n ≡ (judge (room_tests c.vertices c.triangles (vertices / 4) (triangles / 3))).number
      → n ≡ 0 → Fits L rows vis vertices triangles
  fits n vertices triangles e z =
      let r = room_tests_law c.vertices c.triangles (vertices / 4) (triangles / 3) (sym e ∙ z) in
      record {
        vertices_fit = λ k s. omega (arith, r.0, counts.vertices build_rule L.values k s.sides s.cubes);
        triangles_fit = λ k s. omega (arith, r.1, counts.triangles build_rule L.values k s.sides s.cubes);
      }

  -- ── the answer, and what is left ──

  module _ (k : ℕ) (s : Stands L k rows vis) (l : Lent) (visits n : ℕ) (seen : visits ≡ length (visited L k))
      (e : n ≡ (judge (room_tests c.vertices c.triangles (vertex_room l.vertices) (triangle_room l.triangles))).number) where
    abbrev T' : Sheet
    T' = sheet_of build_rule L k

    number_is : n ≡ room_number T' l
    number_is =
        let u = vertex_room l.vertices in
        let v = triangle_room l.triangles in
        e ∙ ap (λ (c : Counts). (judge (room_tests c.vertices c.triangles u v)).number) (counts_are k s)

    pub builds_from : (o : Output) → Puts L rows vis n (output l.vertices l.triangles) o → (waiting slots : List ℕ)
        → Beyond (needed L.size) l.work.waiting waiting → Beyond (needed_slots L.size) l.work.slots slots → (w : Work)
        → w ≡ clean L.size (work l.work.words waiting slots)
        → BuildsFrom L k l (record { number = n; vertices = c.vertices; triangles = c.triangles; cubes = visits })
        (lent o.vertices o.triangles w)
    builds_from o put waiting slots b d w clear =
        let p = put.written k s in
        let q = clear_beyond (needed L.size) l.work.waiting waiting b in
        let r = clear_beyond (needed_slots L.size) l.work.slots slots d in
        let v = p.vertices ∙ ap (λ (n : ℕ). output_after n (vertex_words T') l.vertices) number_is in
        let t = p.triangles ∙ ap (λ (n : ℕ). output_after n (triangle_words T') l.triangles) number_is in
        let f = clear ∙ (λ i. work (cleared (needed L.size) l.work.words) (q i) (r i)) in
        let seen' = seen ∙ sym (parts build_rule L k).visits in
        record {
          answer = λ i.
              let d = counts_are k s i in
              record { number = number_is i; vertices = d.vertices; triangles = d.triangles; cubes = seen' i };
          left = λ i. lent (v i) (t i) (f i);
        }

-- ── by the counts that a build has ──

module _ (L : Lattice) (rows vis : List ℕ) (c : SheetCounts) (counted : Counted L.size rows vis (sheet_counts c)) where
  -- the number of the test that fails, for the lengths of the lent output
  abbrev pub number : ℕ → ℕ → ℕ
  number vertices triangles = (judge (room_tests c.vertices c.triangles (vertices / 4) (triangles / 3))).number

  pub build_fits : (vertices triangles : ℕ) → number vertices triangles ≡ 0 → Fits L rows vis vertices triangles
  build_fits vertices triangles = fits L rows vis (sheet_counts c) counted (number vertices triangles) vertices triangles refl

  module _ (k : ℕ) (s : Stands L k rows vis) (l : Lent) (seen : c.cubes ≡ length (visited L k)) where
    abbrev n : ℕ
    n = number (length l.vertices) (length l.triangles)

    pub build_done : (r : Built) → r ≡ built_with n c → (o : Output) → Puts L rows vis n (output l.vertices l.triangles) o
        → (waiting slots : List ℕ) → Beyond (needed L.size) l.work.waiting waiting → Beyond (needed_slots L.size) l.work.slots slots
        → (w : Work) → w ≡ clean L.size (work l.work.words waiting slots) → BuildsFrom L k l r (lent o.vertices o.triangles w)
    build_done r e o put waiting slots b d w clear =
        subst (λ (r : Built). BuildsFrom L k l r (lent o.vertices o.triangles w)) (sym e)
        (builds_from L rows vis (sheet_counts c) counted k s l c.cubes n seen refl o put waiting slots b d w clear)
