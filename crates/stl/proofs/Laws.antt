-- What the loops make, and what the tests say of a triangle and its vertices. Assumes nothing.
use mathlib.Core.Path.{◌≡◌, refl, ap, ◌∙◌}
use mathlib.Core.Bool.{true}
use mathlib.Core.List.{List, ◌++◌}
use Prim.Native.Nat.{ℕ, ◌+◌, ◌*◌, ◌≤◌}
use native.Mathlib.Omega.{arith}
use lib.IntN.{ℤ}
use lib.ListN.{replicate, drop, length, get_or, length-append}
use lib.Seq.{sets}
use Rattle.lists.specs.Lists.{range, each, over}
use Rattle.lists.specs.Bytes.{le}
use Rattle.lists.proofs.Closure.{length_range}
use Rattle.lists.proofs.Every.{each_length}
use Rattle.lists.proofs.Runs.{each_more}
use Rattle.lists.proofs.Stores.{sets_join, sets_next, sets_front}
use Rattle.facets.specs.Facets.{Bounded, Numbers, facet_words, corner_words, facet_bytes, corner_bytes}
use Rattle.facets.proofs.Facets.{three, corner_numbers}
use Rattle.stl.specs.Stl.{number_of, vertex_corner, vertex_within, triangle_within, triangle_bytes, header, stl_bytes, nine_at}

-- things that take w entries each: all of a run
pub run_length : {A : Type 0} (f : ℕ → List A) (w : ℕ) → ((i : ℕ) → length (f i) ≡ w) → (i : ℕ) → length (each f (range 0 i)) ≡ w * i
run_length f w long i = each_length f w long (range 0 i) ∙ ap (λ (n : ℕ). w * n) (length_range 0 i)

-- one more behind those of a run
pub run_more : {A : Type 0} (f : ℕ → List A) (w : ℕ) → ((i : ℕ) → length (f i) ≡ w) → (l : List A) (at to i : ℕ) → to ≡ at + w * i
    → sets (sets l at (each f (range 0 i))) to (f i) ≡ sets l at (each f (range 0 (i + 1)))
run_more f w long l at to i e =
    let n : to ≡ at + length (each f (range 0 i)) = omega (arith, run_length f w long i) in
    rw (n, sets_join, each_more)

pub bytes_long : (vs : List ℤ) (ts : List ℕ) (i : ℕ) → length (triangle_bytes vs ts i) ≡ 50
unfolding triangle_bytes facet_bytes corner_bytes
bytes_long vs ts i = refl

pub nine_long : (bs : List ℕ) (i : ℕ) → length (nine_at bs i) ≡ 9
unfolding nine_at facet_words corner_words
nine_long bs i = refl

-- what the tests say
pub vertex_bounded : (vs : List ℤ) (v : ℕ) → vertex_within vs v ≡ true → Bounded (number_of vs v 1) (number_of vs v 2) (number_of vs v 3)
unfolding vertex_within
vertex_bounded vs v e =
    let t = three _ _ _ e in
    record { x_in = t.0; y_in = t.1; z_in = t.2 }

pub vertex_numbers_law : (vs : List ℤ) (v : ℕ) → vertex_within vs v ≡ true → Numbers (vertex_corner vs v)
unfolding vertex_corner
vertex_numbers_law vs v e = corner_numbers _ _ _ (vertex_bounded vs v e)

pub corners_within : (vs : List ℤ) (ts : List ℕ) (i : ℕ) → triangle_within vs ts i ≡ true
    → (vertex_within vs (get_or ts (3 * i) 0) ≡ true)
    × (vertex_within vs (get_or ts (3 * i + 1) 0) ≡ true)
    × (vertex_within vs (get_or ts (3 * i + 2) 0) ≡ true)
unfolding triangle_within
corners_within vs ts i e = three _ _ _ e

-- the file, part by part
pub header_long : length header ≡ 80
unfolding header
header_long = refl

parts_long : (nt : ℕ) (x y z : List ℕ) → length x ≡ 80 → length y ≡ 4 → length z ≡ 50 * nt → length (x ++ y ++ z) ≡ 84 + 50 * nt
parts_long nt x y z ex ey ez = omega (arith, length-append (x ++ y) z, length-append x y)

pub file_long : (nt : ℕ) (vs : List ℤ) (ts : List ℕ) → length (stl_bytes nt vs ts) ≡ 84 + 50 * nt
unfolding stl_bytes
file_long nt vs ts = parts_long nt header _ _ header_long refl (run_length (triangle_bytes vs ts) 50 (bytes_long vs ts) nt)

pub file_stored : (nt : ℕ) (vs : List ℤ) (ts l : List ℕ) {l₁ l₂ l₃ : List ℕ} → 84 + 50 * nt ≤ length l
    → l₁ ≡ sets l 0 header → l₂ ≡ sets l₁ 80 (le 4 nt) → l₃ ≡ sets l₂ 84 (each (triangle_bytes vs ts) (range 0 nt))
    → l₃ ≡ over (stl_bytes nt vs ts) l
unfolding stl_bytes
file_stored nt vs ts l h e₁ e₂ e₃ =
    let n : 0 + length (header ++ le 4 nt) ≡ 84 = omega (arith, length-append header (le 4 nt), header_long) in
    sets_next l 0 84 (header ++ le 4 nt) (each (triangle_bytes vs ts) (range 0 nt)) n
    (sets_next l 0 80 header (le 4 nt) (omega (arith, header_long)) e₁ e₂) e₃
    ∙ sets_front l (stl_bytes nt vs ts) (omega (arith, file_long nt vs ts))

-- the header, as zeros that the front of a list is filled with
pub header_put : (l z : List ℕ) → z ≡ replicate 80 0 → 80 ≤ length l → z ++ drop 80 l ≡ sets l 0 header
unfolding header
header_put l z e h = rw (e, sets_front l (replicate 80 0) (omega arith))
