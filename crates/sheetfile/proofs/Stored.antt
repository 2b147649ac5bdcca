-- Stores one after another, and the counts that a writer takes. Assumes nothing.
use mathlib.Core.Path.{◌≡◌, refl, sym, ap, ◌∙◌}
use mathlib.Core.Bool.{true, ◌&&◌}
use mathlib.Core.List.{List, ◌++◌, append_assoc}
use Prim.Native.Nat.{ℕ, ◌+◌, ◌*◌, ◌/◌, ◌≤◌}
use native.Mathlib.Omega.{arith}
use borrow.Author.Tests.{leb-true}
use lib.Dec.{leb}
use lib.IntN.{ℤ}
use lib.ListN.{length, take, length-append}
use lib.Seq.{sets, length-take-le}
use Rattle.lists.specs.Lists.{each, over}
use Rattle.lists.specs.Bytes.{le}
use Rattle.paper.specs.declared.Sizes.{Sizes}
use Rattle.paper.specs.File.{content_of, file_bytes, trailer_bytes, limits}
use Rattle.codec.specs.Words.{word_bytes}
use Rattle.lists.proofs.Every.{each_length}
use Rattle.lists.proofs.Stores.{sets_next, sets_front}
use Rattle.sheetfile.specs.Taken.{count_bytes, size_bytes, Writable}
use Rattle.paper.proofs.Judged.{both}
use Rattle.layout.proofs.Trailer.{in_limits}

-- four of one width
pub four : (l : List ℕ) {l₁ l₂ l₃ l₄ : List ℕ} (w at : ℕ) (a b c d : List ℕ) → length a ≡ w → length b ≡ w → length c ≡ w
    → l₁ ≡ sets l at a → l₂ ≡ sets l₁ (at + w) b → l₃ ≡ sets l₂ (at + 2 * w) c → l₄ ≡ sets l₃ (at + 3 * w) d
    → l₄ ≡ sets l at (a ++ b ++ c ++ d)
four l w at a b c d la lb lc e₁ e₂ e₃ e₄ =
    sets_next l at (at + 3 * w) (a ++ b ++ c) d (omega (arith, length-append (a ++ b) c, length-append a b))
    (sets_next l at (at + 2 * w) (a ++ b) c (omega (arith, length-append a b)) (sets_next l at (at + w) a b (omega arith) e₁ e₂) e₃) e₄

-- test 9
pub counted : (nv nt vertices triangles : ℕ) → (leb nv (vertices / 4) && leb nt (triangles / 3) && limits nv nt) ≡ true
    → Writable nv nt vertices triangles
counted nv nt vertices triangles e =
    let t = both (leb nv (vertices / 4) && leb nt (triangles / 3)) (limits nv nt) e in
    let r = both (leb nv (vertices / 4)) (leb nt (triangles / 3)) t.0 in
    let l = in_limits nv nt t.1 in
    record {
      most_v = l.0;
      most_t = l.1;
      room_v = omega (arith, leb-true nv (vertices / 4) r.0);
      room_t = omega (arith, leb-true nt (triangles / 3) r.1);
    }

-- the two halves of a trailer
counts_long : (nv nt : ℕ) → length (count_bytes nv nt) ≡ 16
unfolding count_bytes
counts_long nv nt = refl

sizes_long : (z : Sizes) → length (size_bytes z) ≡ 8
unfolding size_bytes
sizes_long z = refl

halves : (z : Sizes) (nv nt : ℕ) → count_bytes nv nt ++ size_bytes z ≡ trailer_bytes z nv nt
unfolding count_bytes size_bytes trailer_bytes
halves z nv nt = refl

pub trailer_long : (z : Sizes) (nv nt : ℕ) → length (trailer_bytes z nv nt) ≡ 24
trailer_long z nv nt =
    ap length (sym (halves z nv nt)) ∙ (length-append (count_bytes nv nt) (size_bytes z) ∙ omega (arith, counts_long nv nt, sizes_long z))

-- the whole file, part by part
module _ (z : Sizes) (nv nt : ℕ) (vs : List ℤ) (ts : List ℕ) (room : Writable nv nt (length vs) (length ts)) where
  pub vertices_long : length (each word_bytes (take (4 * nv) vs)) ≡ 16 * nv
  vertices_long = omega (arith, each_length word_bytes 4 (λ w. refl) (take (4 * nv) vs), length-take-le (4 * nv) vs room.room_v)

  pub triangles_long : length (each (le 4) (take (3 * nt) ts)) ≡ 12 * nt
  triangles_long = omega (arith, each_length (le 4) 4 (λ n. refl) (take (3 * nt) ts), length-take-le (3 * nt) ts room.room_t)

  parts_long : (x y t : List ℕ) → length x ≡ 16 * nv → length y ≡ 12 * nt → length t ≡ 24 → length (x ++ y ++ t) ≡ 16 * nv + 12 * nt + 24
  parts_long x y t ex ey et = omega (arith, length-append (x ++ y) t, length-append x y)

  pub whole : each word_bytes (take (4 * nv) vs) ++ each (le 4) (take (3 * nt) ts) ++ trailer_bytes z nv nt
      ≡ file_bytes (content_of z nv nt vs ts)
  unfolding file_bytes
  whole = refl

  pub file_long : length (file_bytes (content_of z nv nt vs ts)) ≡ 16 * nv + 12 * nt + 24
  file_long =
      ap length (sym whole)
      ∙ parts_long (each word_bytes (take (4 * nv) vs)) (each (le 4) (take (3 * nt) ts))
      (trailer_bytes z nv nt) vertices_long triangles_long (trailer_long z nv nt)

  parts_stored : (l : List ℕ) {l₁ l₂ l₃ l₄ : List ℕ} (x y c s : List ℕ) → length x ≡ 16 * nv → length y ≡ 12 * nt → length c ≡ 16
      → l₁ ≡ sets l 0 x → l₂ ≡ sets l₁ (16 * nv) y → l₃ ≡ sets l₂ (16 * nv + 12 * nt) c → l₄ ≡ sets l₃ (16 * nv + 12 * nt + 16) s
      → l₄ ≡ sets l 0 (x ++ y ++ (c ++ s))
  parts_stored l x y c s ex ey ec e₁ e₂ e₃ e₄ =
      let n = length-append x y in
      let m = length-append (x ++ y) c in
      sets_next l 0 (16 * nv + 12 * nt + 16) (x ++ y ++ c) s (omega arith)
      (sets_next l 0 (16 * nv + 12 * nt) (x ++ y) c (omega arith) (sets_next l 0 (16 * nv) x y (omega arith) e₁ e₂) e₃) e₄
      ∙ ap (sets l 0) (append_assoc (x ++ y) c s)

  pub file_stored : (l : List ℕ) {l₁ l₂ l₃ l₄ : List ℕ} → 16 * nv + 12 * nt + 24 ≤ length l
      → l₁ ≡ sets l 0 (each word_bytes (take (4 * nv) vs))
      → l₂ ≡ sets l₁ (16 * nv) (each (le 4) (take (3 * nt) ts))
      → l₃ ≡ sets l₂ (16 * nv + 12 * nt) (count_bytes nv nt)
      → l₄ ≡ sets l₃ (16 * nv + 12 * nt + 16) (size_bytes z)
      → l₄ ≡ over (file_bytes (content_of z nv nt vs ts)) l
  file_stored l h e₁ e₂ e₃ e₄ =
      let x = each word_bytes (take (4 * nv) vs) in
      let y = each (le 4) (take (3 * nt) ts) in
      parts_stored l x y (count_bytes nv nt) (size_bytes z) vertices_long triangles_long (counts_long nv nt) e₁ e₂ e₃ e₄
      ∙ (ap (λ (t : List ℕ). sets l 0 (x ++ y ++ t)) (halves z nv nt)
      ∙ (ap (sets l 0) whole ∙ sets_front l (file_bytes (content_of z nv nt vs ts)) (omega (arith, file_long))))
