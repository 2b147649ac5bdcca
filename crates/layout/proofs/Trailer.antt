-- What a file's tests say of its bytes. Assumes nothing.
use mathlib.Core.Path.{◌≡◌, refl, sym, ap, ◌∙◌}
use mathlib.Core.Bool.{true, false, ◌&&◌}
use mathlib.Core.List.{List, map}
use Prim.Native.Nat.{ℕ, ◌+◌, ◌*◌, ◌≤◌, ◌<◌}
use native.Mathlib.Nat.{add-zero, zero-add}
use borrow.Author.Tests.{leb-true, eqb-true}
use lib.Dec.{leb, eqb}
use lib.IntN.{pos}
use lib.ListN.{length, get_or}
use Rattle.lists.specs.Lists.{range}
use Rattle.lists.specs.Bytes.{field}
use Rattle.paper.specs.File.{signed32, file_length, bad_triangle, first_bad, limits, trailer}
use Rattle.paper.specs.File.{file_v, file_t, file_vertices, file_triangles, laid_out}
use Rattle.lists.proofs.Firsts.{first_found, first_missing}
use Rattle.lists.proofs.Runs.{length_along, at_along}
use Rattle.codec.proofs.Runs.{word_at}
use Rattle.layout.specs.Laid.{any_from, Ranged}
use Rattle.paper.proofs.Judged.{both}

-- the numbers of the records, and of the triangles: all, and one by one
pub vertices_are : (bs : List ℕ) → map (word_at signed32 4 bs 0) (range 0 (4 * file_v bs)) ≡ file_vertices bs
unfolding file_vertices
vertices_are bs = λ j. map (λ (i : ℕ). signed32 (field 4 bs (zero-add (4 * i) j))) (range 0 (4 * file_v bs))

pub triangles_are : (bs : List ℕ) → map (word_at (λ (n : ℕ). n) 4 bs (16 * file_v bs)) (range 0 (3 * file_t bs)) ≡ file_triangles bs
unfolding file_triangles
triangles_are bs = refl

pub vertices_length : (bs : List ℕ) → length (file_vertices bs) ≡ 4 * file_v bs
unfolding file_vertices
vertices_length bs = length_along _ 0 (4 * file_v bs)

pub triangles_length : (bs : List ℕ) → length (file_triangles bs) ≡ 3 * file_t bs
unfolding file_triangles
triangles_length bs = length_along _ 0 (3 * file_t bs)

pub vertex_at : (bs : List ℕ) (i : ℕ) → i < 4 * file_v bs → get_or (file_vertices bs) i (pos 0) ≡ signed32 (field 4 bs (4 * i))
unfolding file_vertices
vertex_at bs i h = at_along (λ i. signed32 (field 4 bs (4 * i))) (pos 0) (4 * file_v bs) i h

pub triangle_at : (bs : List ℕ) (i : ℕ) → i < 3 * file_t bs → get_or (file_triangles bs) i 0 ≡ field 4 bs (16 * file_v bs + 4 * i)
unfolding file_triangles
triangle_at bs i h = at_along (λ i. field 4 bs (16 * file_v bs + 4 * i)) 0 (3 * file_t bs) i h

pub bad_is : (nv : ℕ) (ts : List ℕ) (i : ℕ)
    → bad_triangle nv ts i ≡ any_from nv (get_or ts (3 * i) 0) (get_or ts (3 * i + 1) 0) (get_or ts (3 * i + 2) 0)
unfolding bad_triangle
bad_is nv ts i = ap (λ (k : ℕ). any_from nv (get_or ts k 0) (get_or ts (3 * i + 1) 0) (get_or ts (3 * i + 2) 0)) (add-zero (3 * i))

-- the first bad triangle, as a loop over them finds it
pub bad_found : (nv nt : ℕ) (ts : List ℕ) (i : ℕ) → i < nt
    → ((k : ℕ) → k < i → bad_triangle nv ts k ≡ false) → bad_triangle nv ts i ≡ true → i ≡ first_bad nv nt ts
unfolding first_bad
bad_found nv nt ts i = first_found (bad_triangle nv ts) nt i

pub bad_missing : (nv nt : ℕ) (ts : List ℕ) → ((k : ℕ) → k < nt → bad_triangle nv ts k ≡ false) → nt ≡ first_bad nv nt ts
unfolding first_bad
bad_missing nv nt ts = first_missing (bad_triangle nv ts) nt

-- test 14 by its numbers
pub laid_is : (bs : List ℕ) (nv nt a b : ℕ) → nv ≡ file_v bs → nt ≡ file_t bs → a ≡ trailer 4 bs 0 → b ≡ trailer 4 bs 8
    → laid_out bs ≡ (limits nv nt && eqb a (16 * nv + 12 * nt) && eqb b (12 * nt) && eqb (length bs) (16 * nv + 12 * nt + 24))
unfolding laid_out file_length
laid_is bs nv nt a b ev et ea eb = rw (ev, et, ea, eb)

pub in_limits : (nv nt : ℕ) → limits nv nt ≡ true → (nv ≤ 2000000) × (nt ≤ 4000000)
unfolding limits
in_limits nv nt e =
    let t = both (leb nv 2000000) (leb nt 4000000) e in
    (leb-true nv 2000000 t.0, leb-true nt 4000000 t.1)

pub ranged : (bs : List ℕ) → laid_out bs ≡ true → Ranged bs
ranged bs e =
    let nv = file_v bs in
    let nt = file_t bs in
    let front = 16 * nv + 12 * nt in
    let l = limits nv nt in
    let a = eqb (trailer 4 bs 0) front in
    let b = eqb (trailer 4 bs 8) (12 * nt) in
    let t = both (l && a && b) (eqb (length bs) (front + 24)) (sym (laid_is bs nv nt _ _ refl refl refl refl) ∙ e) in
    let r = both (l && a) b t.0 in
    let q = both l a r.0 in
    let k = in_limits nv nt q.0 in
    record {
      most_v = k.0;
      most_t = k.1;
      to_vertices = eqb-true (trailer 4 bs 0) front q.1;
      to_triangles = eqb-true (trailer 4 bs 8) (12 * nt) r.1;
      long = eqb-true (length bs) (front + 24) t.1;
    }
