-- A file that was written is read as it was: the counts, the sizes, every record and every triangle. Assumes nothing.
use mathlib.Core.Path.{◌≡◌, refl, sym, ap, ◌∙◌}
use mathlib.Core.Bool.{true}
use mathlib.Core.List.{List, [], ◌++◌, map, append_assoc}
use Prim.Native.Nat.{ℕ, ◌+◌, ◌-◌, ◌*◌, ◌<◌}
use native.Mathlib.Omega.{arith}
use borrow.Author.Tests.{le-leb, eq-eqb}
use lib.IntN.{ℤ, pos}
use lib.ListN.{length, get_or, take, drop, length-append}
use lib.Seq.{drop-append-add, get_or-take, length-take-le}
use mir.Syntax.{w32}
use mir.Val.{SFits}
use Rattle.lists.specs.Lists.{range, each}
use Rattle.lists.specs.Bytes.{le, unle, field}
use Rattle.paper.specs.declared.Sizes.{Sizes}
use Rattle.paper.specs.Lattice.{axes}
use Rattle.paper.specs.Tests.{verdict, judge}
use Rattle.paper.specs.File.{signed32, content_of, trailer_bytes, file_bytes, first_bad, limits, write_verdict}
use Rattle.paper.specs.File.{trailer, file_v, file_t, file_sizes, file_vertices, file_triangles, laid_out, file_tests}
use Rattle.paper.proofs.Judged.{sized_axes}
use Rattle.codec.specs.Words.{word_bytes, Words}
use Rattle.codec.proofs.Bytes.{unle_le}
use Rattle.codec.proofs.Signed.{bits_small, signed_bits}
use Rattle.codec.proofs.Runs.{word_at, read_back}
use Rattle.layout.proofs.Trailer.{vertices_are, triangles_are, laid_is}
use Rattle.layout.proofs.Passing.{index_below, first_same}
use Rattle.sheetfile.specs.Taken.{Taken}
use Rattle.sheetfile.specs.Trips.{Holds}
use Rattle.sheetfile.proofs.Stored.{trailer_long, vertices_long, file_long, whole}
use Rattle.sheetfile.proofs.Answers.{taken}

-- a number of the trailer, wherever the trailer stands
in_trailer : (p t : List ℕ) → length t ≡ 24 → (k at : ℕ) → trailer k (p ++ t) at ≡ unle (take k (drop at t))
unfolding trailer field
in_trailer p t h k at =
    let e : length (p ++ t) - 24 ≡ length p = omega (arith, length-append p t) in
    ap (λ (n : ℕ). unle (take k (drop (n + at) (p ++ t)))) e ∙ ap (λ (l : List ℕ). unle (take k l)) (drop-append-add p t at)

small4 : {n : ℕ} → n < 4294967296 → unle (le 4 n) ≡ n
small4 {n} h = unle_le 4 n h

small2 : {n : ℕ} → n < 65536 → unle (le 2 n) ≡ n
small2 {n} h = unle_le 2 n h

module _ (z : Sizes) (nv nt : ℕ) (vs : List ℤ) (ts : List ℕ) (room : ℕ) (t : Taken z nv nt vs ts room) (words : Words vs) where
  bs : List ℕ
  bs = file_bytes (content_of z nv nt vs ts)

  xs : List ℤ
  xs = take (4 * nv) vs

  ys : List ℕ
  ys = take (3 * nt) ts

  is : bs ≡ each word_bytes xs ++ each (le 4) ys ++ trailer_bytes z nv nt
  unfolding bs xs ys
  is = sym (whole z nv nt vs ts t.counts)

  number : (k at : ℕ) → trailer k bs at ≡ unle (take k (drop at (trailer_bytes z nv nt)))
  number k at =
      ap (λ (l : List ℕ). trailer k l at) is
      ∙ in_trailer (each word_bytes xs ++ each (le 4) ys) (trailer_bytes z nv nt) (trailer_long z nv nt) k at

  count_v : file_v bs ≡ nv
  unfolding file_v trailer_bytes
  count_v = number 4 4 ∙ small4 (omega (arith, t.counts.most_v))

  count_t : file_t bs ≡ nt
  unfolding file_t trailer_bytes
  count_t = number 4 12 ∙ small4 (omega (arith, t.counts.most_t))

  front : trailer 4 bs 0 ≡ 16 * nv + 12 * nt
  unfolding trailer_bytes
  front = number 4 0 ∙ small4 (omega (arith, t.counts.most_v, t.counts.most_t))

  back : trailer 4 bs 8 ≡ 12 * nt
  unfolding trailer_bytes
  back = number 4 8 ∙ small4 (omega (arith, t.counts.most_t))

  mark : trailer 2 bs 22 ≡ 21331
  unfolding trailer_bytes
  mark = number 2 22 ∙ small2 (omega arith)

  sizes : file_sizes bs ≡ z
  unfolding file_sizes trailer_bytes
  sizes =
      let x : trailer 2 bs 16 ≡ z.nx = number 2 16 ∙ small2 (omega (arith, t.sized.x_high)) in
      let y : trailer 2 bs 18 ≡ z.ny = number 2 18 ∙ small2 (omega (arith, t.sized.y_high)) in
      let w : trailer 2 bs 20 ≡ z.nz = number 2 20 ∙ small2 (omega (arith, t.sized.z_high)) in
      λ i. record { nx = x i; ny = y i; nz = w i }

  xs_long : length xs ≡ 4 * nv
  unfolding xs
  xs_long = length-take-le (4 * nv) vs t.counts.room_v

  ys_long : length ys ≡ 3 * nt
  unfolding ys
  ys_long = length-take-le (3 * nt) ts t.counts.room_t

  x_at : (i : ℕ) → i < 4 * nv → get_or xs i (pos 0) ≡ get_or vs i (pos 0)
  unfolding xs
  x_at i h = get_or-take (4 * nv) vs i (pos 0) h

  y_at : (i : ℕ) → i < 3 * nt → get_or ys i 0 ≡ get_or ts i 0
  unfolding ys
  y_at i h = get_or-take (3 * nt) ts i 0 h

  -- every record
  word_back : (i : ℕ) → i < length xs → signed32 (unle (word_bytes (get_or xs i (pos 0)))) ≡ get_or xs i (pos 0)
  word_back i h =
      let f : SFits w32 (get_or xs i (pos 0)) = rw (x_at i (omega (arith, xs_long))) (words i) in
      ap signed32 (small4 (bits_small (get_or xs i (pos 0)) f)) ∙ signed_bits (get_or xs i (pos 0)) f

  vertices : file_vertices bs ≡ xs
  vertices =
      let q = each (le 4) ys ++ trailer_bytes z nv nt in
      let e : bs ≡ each word_bytes xs ++ q = is ∙ append_assoc (each word_bytes xs) (each (le 4) ys) (trailer_bytes z nv nt) in
      let n : 4 * file_v bs ≡ length xs = omega (arith, count_v, xs_long) in
      sym (vertices_are bs)
      ∙ (ap (λ (k : ℕ). map (word_at signed32 4 bs 0) (range 0 k)) n
      ∙ (ap (λ (l : List ℕ). map (word_at signed32 4 l 0) (range 0 (length xs))) e
      ∙ read_back word_bytes 4 (λ w. refl) signed32 (pos 0) xs [] q word_back))

  x_bytes : length (each word_bytes xs) ≡ 16 * nv
  unfolding xs
  x_bytes = vertices_long z nv nt vs ts t.counts

  -- every triangle
  index_back : (i : ℕ) → i < length ys → unle (le 4 (get_or ys i 0)) ≡ get_or ys i 0
  index_back i h =
      let l : i < 3 * nt = omega (arith, ys_long) in
      small4 (omega (arith, y_at i l, index_below nv nt ts t.good i l, t.counts.most_v))

  triangles : file_triangles bs ≡ ys
  triangles =
      let p = each word_bytes xs in
      let e : bs ≡ p ++ (each (le 4) ys ++ trailer_bytes z nv nt) = is ∙ append_assoc p (each (le 4) ys) (trailer_bytes z nv nt) in
      let n : 3 * file_t bs ≡ length ys = omega (arith, count_t, ys_long) in
      let m : 16 * file_v bs ≡ length p = omega (arith, count_v, x_bytes) in
      sym (triangles_are bs)
      ∙ (ap (λ (k : ℕ). map (word_at (λ (n : ℕ). n) 4 bs (16 * file_v bs)) (range 0 k)) n
      ∙ (ap (λ (k : ℕ). map (word_at (λ (n : ℕ). n) 4 bs k) (range 0 (length ys))) m
      ∙ (ap (λ (l : List ℕ). map (word_at (λ (n : ℕ). n) 4 l (length p)) (range 0 (length ys))) e
      ∙ read_back (le 4) 4 (λ n. refl) (λ (n : ℕ). n) 0 ys p (trailer_bytes z nv nt) index_back)))

  -- every test
  long : length bs ≡ 16 * nv + 12 * nt + 24
  unfolding bs
  long = file_long z nv nt vs ts t.counts

  within : limits nv nt ≡ true
  unfolding limits
  within = rw (le-leb nv 2000000 t.counts.most_v, le-leb nt 4000000 t.counts.most_t)

  laid : laid_out bs ≡ true
  laid =
      laid_is bs nv nt (16 * nv + 12 * nt) (12 * nt) (sym count_v) (sym count_t) (sym front) (sym back)
      ∙ rw (
        within,
        eq-eqb (16 * nv + 12 * nt) (16 * nv + 12 * nt) refl,
        eq-eqb (12 * nt) (12 * nt) refl,
        eq-eqb (length bs) (16 * nv + 12 * nt + 24) long,
      )

  good : first_bad (file_v bs) (file_t bs) (file_triangles bs) ≡ file_t bs
  good = rw (count_v, count_t, triangles) (first_same nv nt ts ys y_at t.good)

  passing : judge (file_tests bs) ≡ verdict 0 0
  unfolding file_tests
  passing =
      rw (
        le-leb 24 (length bs) (omega (arith, long)),
        eq-eqb (trailer 2 bs 22) 21331 mark,
        ap axes sizes ∙ sized_axes z t.sized,
        laid,
        eq-eqb (first_bad (file_v bs) (file_t bs) (file_triangles bs)) (file_t bs) good,
      )

-- what a writer takes it writes so that a reader gets the same
pub written : (z : Sizes) (nv nt : ℕ) (vs : List ℤ) (ts : List ℕ) (room : ℕ) → Words vs → (write_verdict z nv nt vs ts room).number ≡ 0
    → Holds (file_bytes (content_of z nv nt vs ts)) z nv nt (take (4 * nv) vs) (take (3 * nt) ts)
unfolding bs xs ys
written z nv nt vs ts room words e =
    let t = taken z nv nt vs ts room e in
    record {
      passes = passing z nv nt vs ts room t words;
      count_v = count_v z nv nt vs ts room t words;
      count_t = count_t z nv nt vs ts room t words;
      sizes = sizes z nv nt vs ts room t words;
      vertices = vertices z nv nt vs ts room t words;
      triangles = triangles z nv nt vs ts room t words;
    }
