-- What was read is written as it was: every byte of a file that passes its tests. Assumes nothing.
use mathlib.Core.Path.{◌≡◌, refl, sym, ap, ◌∙◌}
use mathlib.Core.List.{List, ◌++◌}
use Prim.Native.Nat.{ℕ, ◌+◌, ◌-◌, ◌*◌, ◌≤◌}
use native.Mathlib.Omega.{arith}
use lib.ListN.{length, take, drop, take-append-drop, length-drop}
use lib.Seq.{take-add, take_all, drop-drop}
use Rattle.lists.specs.Lists.{each}
use Rattle.lists.specs.Bytes.{le, field}
use Rattle.paper.specs.Tests.{judge}
use Rattle.paper.specs.File.{signed32, content_of, trailer_bytes, file_bytes, trailer, file_v}
use Rattle.paper.specs.File.{file_t, file_sizes, file_vertices, file_triangles, file_tests}
use Rattle.codec.specs.Words.{word_bytes, Bytes}
use Rattle.codec.proofs.Bytes.{le_field, field_lt}
use Rattle.codec.proofs.Signed.{bits_signed}
use Rattle.codec.proofs.Runs.{word_at, each_parts}
use Rattle.layout.specs.Laid.{LaidOut}
use Rattle.layout.proofs.Trailer.{vertices_are, triangles_are, vertices_length, triangles_length}
use Rattle.layout.proofs.Passing.{laid_out}

-- a list of 24 in the parts of a trailer
parts : (t : List ℕ) → length t ≡ 24
    → take 4 (drop 0 t)
    ++ take 4 (drop 4 t)
    ++ take 4 (drop 8 t)
    ++ take 4 (drop 12 t)
    ++ take 2 (drop 16 t)
    ++ take 2 (drop 18 t)
    ++ take 2 (drop 20 t)
    ++ take 2 (drop 22 t)
    ≡ t
parts t h =
    rw (← take-add 4 4 t, ← take-add 8 4 t, ← take-add 12 4 t, ← take-add 16 2 t, ← take-add 18 2 t, ← take-add 20 2 t, ← take-add 22 2 t)
    (take_all 24 t (omega arith))

module _ (bs : List ℕ) (bytes : Bytes bs) (l : LaidOut bs) where
  words : each word_bytes (file_vertices bs) ≡ take (16 * file_v bs) bs
  words =
      let n : 4 * (4 * file_v bs) ≡ 16 * file_v bs = omega arith in
      ap (each word_bytes) (sym (vertices_are bs))
      ∙ (each_parts word_bytes 4 (word_at signed32 4 bs 0) bs 0 (4 * file_v bs)
      (λ i h.
      let fits : 0 + 4 * i + 4 ≤ length bs = omega (arith, l.ranged.long) in
      ap (le 4) (bits_signed (field 4 bs (0 + 4 * i)) (field_lt 4 bs (0 + 4 * i) fits bytes)) ∙ le_field 4 bs (0 + 4 * i) fits bytes)
      ∙ ap (λ (k : ℕ). take k bs) n)

  indices : each (le 4) (file_triangles bs) ≡ take (12 * file_t bs) (drop (16 * file_v bs) bs)
  indices =
      let n : 4 * (3 * file_t bs) ≡ 12 * file_t bs = omega arith in
      let at = 16 * file_v bs in
      ap (each (le 4)) (sym (triangles_are bs))
      ∙ (each_parts (le 4) 4 (word_at (λ (n : ℕ). n) 4 bs at) bs at (3 * file_t bs)
      (λ i h. le_field 4 bs (at + 4 * i) (omega (arith, l.ranged.long)) bytes)
      ∙ ap (λ (k : ℕ). take k (drop at bs)) n)

  end : List ℕ
  end = drop (length bs - 24) bs

  end_long : length end ≡ 24
  unfolding end
  end_long = length-drop (length bs - 24) bs ∙ omega (arith, l.ranged.long)

  part : (k at n : ℕ) → at + k ≤ 24 → trailer k bs at ≡ n → le k n ≡ take k (drop at end)
  unfolding end trailer
  part k at n h e =
      ap (le k) (sym e)
      ∙ (le_field k bs (length bs - 24 + at) (omega (arith, l.ranged.long)) bytes ∙ ap (take k) (sym (drop-drop at (length bs - 24) bs)))

  trailing : trailer_bytes (file_sizes bs) (file_v bs) (file_t bs) ≡ end
  unfolding trailer_bytes file_sizes file_v file_t
  trailing =
      let a = part 4 0 _ (omega arith) l.ranged.to_vertices in
      let b = part 4 4 _ (omega arith) refl in
      let c = part 4 8 _ (omega arith) l.ranged.to_triangles in
      let d = part 4 12 _ (omega arith) refl in
      let x = part 2 16 _ (omega arith) refl in
      let y = part 2 18 _ (omega arith) refl in
      let z = part 2 20 _ (omega arith) refl in
      let m = part 2 22 _ (omega arith) l.marked in
      (λ i. a i ++ b i ++ c i ++ d i ++ x i ++ y i ++ z i ++ m i) ∙ parts end end_long

-- what a reader takes a writer writes as it was
pub rewritten : (bs : List ℕ) → Bytes bs → (judge (file_tests bs)).number ≡ 0
    → file_bytes (content_of (file_sizes bs) (file_v bs) (file_t bs) (file_vertices bs) (file_triangles bs)) ≡ bs
unfolding file_bytes end
rewritten bs bytes e =
    let l = laid_out bs e in
    let v : take (4 * file_v bs) (file_vertices bs) ≡ file_vertices bs =
    take_all (4 * file_v bs) (file_vertices bs) (omega (arith, vertices_length bs)) in
    let t : take (3 * file_t bs) (file_triangles bs) ≡ file_triangles bs =
    take_all (3 * file_t bs) (file_triangles bs) (omega (arith, triangles_length bs)) in
    let n : length bs - 24 ≡ 16 * file_v bs + 12 * file_t bs = omega (arith, l.ranged.long) in
    rw (v, t, words bs bytes l, indices bs bytes l, trailing bs bytes l, n, ← take-add, take-append-drop)
