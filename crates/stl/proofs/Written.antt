-- A file that was written: its count, its facets, and that a reader takes them as they were. Assumes nothing.
use mathlib.Core.Path.{◌≡◌, refl, sym, subst, ap, ◌∙◌}
use mathlib.Core.Bool.{true}
use mathlib.Core.List.{List, [], ◌++◌, append_assoc, append-nil}
use Prim.Native.Nat.{ℕ, zero, suc, ◌+◌, ◌*◌, ◌<◌, ◌≤◌}
use native.Mathlib.Nat.{add-zero, zero-add}
use native.Mathlib.Omega.{arith}
use lib.IntN.{ℤ}
use lib.ListN.{length, get_or, take, drop, length-append}
use lib.Seq.{take_at, drop_at, drop-drop}
use Rattle.lists.specs.Lists.{range, each}
use Rattle.lists.specs.Bytes.{le, unle, field}
use Rattle.lists.proofs.Closure.{length_range}
use Rattle.lists.proofs.Every.{each_same, in_all}
use Rattle.lists.proofs.Member.{range_in}
use Rattle.codec.proofs.Bytes.{unle_le}
use Rattle.codec.proofs.Runs.{each_at}
use Rattle.facets.specs.declared.Facet.{Facet}
use Rattle.facets.specs.Facets.{corner_stands, corner_words, facet_stands, facet_words}
use Rattle.facets.proofs.Facets.{Held, corner_held, corner_stands_law, corner_words_law, facet_back}
use Rattle.stl.specs.Stl.{vertex_corner, vertex_position, vertex_within, triangle_bytes, nine_of, header, stl_length, stl_bytes}
use Rattle.stl.specs.Stl.{stl_count, stl_facet, nine_at, stl_words}
use Rattle.stl.specs.Within.{AllWithin, AllStand, Sound}
use Rattle.stl.proofs.Laws.{bytes_long, header_long, file_long, vertex_bounded, corners_within}

-- ── runs ──

range_at : (i n j : ℕ) → j < n → get_or (range i n) j 0 ≡ i + j
range_at i zero j h = absurd (omega arith)
range_at i (suc n) zero h = sym (add-zero i)
range_at i (suc n) (suc j) h = range_at (suc i) n j (omega arith) ∙ omega arith

run_same : {A : Type 0} (f g : ℕ → List A) (n : ℕ) → ((i : ℕ) → i < n → f i ≡ g i) → each f (range 0 n) ≡ each g (range 0 n)
run_same f g n h = each_same f g (range 0 n) (in_all (λ i. f i ≡ g i) (range 0 n) (λ k t. h k (omega (arith, range_in 0 n k t))))

-- ── vertices ──

vertex_held : (vs : List ℤ) (v : ℕ) → Held (vertex_corner vs v)
unfolding vertex_corner
vertex_held vs v = corner_held _ _ _

module _ (vs : List ℤ) (v : ℕ) (within : vertex_within vs v ≡ true) where
  vertex_stands : corner_stands (vertex_corner vs v) ≡ true
  unfolding vertex_corner
  vertex_stands = corner_stands_law _ _ _ (vertex_bounded vs v within)

  vertex_words_law : corner_words (vertex_corner vs v) ≡ vertex_position vs v
  unfolding vertex_corner vertex_position
  vertex_words_law = corner_words_law _ _ _ (vertex_bounded vs v within)

-- the corners of triangle i
abbrev pub triangle_facet : List ℤ → List ℕ → ℕ → Facet
triangle_facet vs ts i =
    record {
      a = vertex_corner vs (get_or ts (3 * i) 0);
      b = vertex_corner vs (get_or ts (3 * i + 1) 0);
      c = vertex_corner vs (get_or ts (3 * i + 2) 0);
    }

-- ── the file ──

module _ (nt : ℕ) (vs : List ℤ) (ts : List ℕ) where
  pub written_count : nt ≤ 4000000 → stl_count (stl_bytes nt vs ts) ≡ nt
  unfolding stl_count stl_bytes field
  written_count most =
      let facets = each (triangle_bytes vs ts) (range 0 nt) in
      ap (λ (l : List ℕ). unle (take 4 (drop 80 l))) (append_assoc header (le 4 nt) facets)
      ∙ (ap (λ (l : List ℕ). unle (take 4 l)) (drop_at header (le 4 nt ++ facets) 80 header_long)
      ∙ (ap unle (take_at (le 4 nt) facets 4 refl) ∙ unle_le 4 nt (omega arith)))

  module _ (i : ℕ) (h : i < nt) where
    written_part : take 50 (drop (84 + 50 * i) (stl_bytes nt vs ts)) ≡ triangle_bytes vs ts i
    unfolding stl_bytes
    written_part =
        let f = triangle_bytes vs ts in
        let facets = each f (range 0 nt) in
        let front : length (header ++ le 4 nt) ≡ 84 = omega (arith, length-append header (le 4 nt), header_long) in
        ap (take 50)
        (sym (drop-drop (50 * i) 84 (stl_bytes nt vs ts))
        ∙ ap (drop (50 * i)) (drop_at (header ++ le 4 nt) facets 84 front ∙ sym (append-nil facets)))
        ∙ (each_at f 50 (bytes_long vs ts) (range 0 nt) [] 0 i (omega (arith, length_range 0 nt)) ∙ ap f (range_at 0 nt i h ∙ zero-add i))

    pub written_facet : stl_facet (stl_bytes nt vs ts) i ≡ triangle_facet vs ts i
    unfolding stl_facet triangle_bytes
    written_facet =
        facet_back (stl_bytes nt vs ts) (84 + 50 * i) _ _ _ (omega (arith, file_long nt vs ts)) written_part
        (vertex_held vs _) (vertex_held vs _) (vertex_held vs _)

    module _ (within : AllWithin nt vs ts) where
      written_stands : facet_stands (stl_facet (stl_bytes nt vs ts) i) ≡ true
      unfolding facet_stands
      written_stands =
          let w = corners_within vs ts i (within i h) in
          ap facet_stands written_facet ∙ rw (vertex_stands vs _ w.0, vertex_stands vs _ w.1, vertex_stands vs _ w.2)

      written_nine : nine_at (stl_bytes nt vs ts) i ≡ nine_of vs ts i
      unfolding nine_at nine_of facet_words
      written_nine =
          let w = corners_within vs ts i (within i h) in
          ap facet_words written_facet ∙ (λ j. vertex_words_law vs _ w.0 j ++ vertex_words_law vs _ w.1 j ++ vertex_words_law vs _ w.2 j)

  module _ (most : nt ≤ 4000000) (within : AllWithin nt vs ts) where
    pub written_words : stl_words (stl_bytes nt vs ts) ≡ each (nine_of vs ts) (range 0 nt)
    unfolding stl_words
    written_words =
        ap (λ (n : ℕ). each (nine_at (stl_bytes nt vs ts)) (range 0 n)) (written_count most)
        ∙ run_same (nine_at (stl_bytes nt vs ts)) (nine_of vs ts) nt (λ i h. written_nine i h within)

    pub written_sound : (room : ℕ) → 9 * nt ≤ room → Sound (stl_bytes nt vs ts) room
    written_sound room h =
        let n = written_count most in
        record {
          long = file_long nt vs ts ∙ ap stl_length (sym n);
          stand = subst (AllStand (stl_bytes nt vs ts)) (sym n) (λ i l. written_stands i l within);
          roomy = omega (arith, n);
        }
