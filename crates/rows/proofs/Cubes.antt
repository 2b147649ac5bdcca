-- What the bits of rows of samples say of cubes and faces. Assumes nothing.
use mathlib.Core.Path.{◌≡◌, refl, sym, ap, ap₂, ◌∙◌}
use mathlib.Core.Bool.{Bool, false, not, ◌&&◌}
use mathlib.Core.List.{List, [], ◌∷◌, map}
use Prim.Native.Nat.{ℕ, zero, suc, ◌+◌, ◌-◌, ◌*◌, ◌/◌, ◌%◌, ◌^◌, ◌≤◌, ◌<◌}
use native.Mathlib.Omega.{arith}
use native.Mathlib.Decide.{dec_lt}
use native.Mathlib.Nat.{div-div-eq-div-mul, mul-add, mul-le-mul_left}
use lib.Arith.{digits_lt}
use lib.Bits.{bit_and, bit_or, bit_xor}
use lib.Dec.{ltb}
use lib.IntN.{ℤ, pos}
use lib.ListN.{length, get_or, drop, length-append, length-drop}
use lib.Pow.{pow_pos}
use borrow.Author.Tests.{lt-ltb, le-ltb}
use Rattle.lists.specs.Lists.{range, each, any, over}
use Rattle.lists.proofs.Runs.{over_along, at_along, length_along}
use Rattle.lists.proofs.Within.{t_to_false}
use Rattle.paper.specs.declared.Sizes.{Sizes}
use Rattle.paper.specs.declared.Place.{Place}
use Rattle.paper.specs.Lattice.{Lattice, place, air, air_at, is_fill, fill_at, value_at, sample_no}
use Rattle.paper.specs.Lattice.{corner, mixed, mixed_at, free, visitable, crossed, cube_no, faces, face_at}
use Rattle.paper.specs.Within.{CubeIn}
use Rattle.paper.proofs.Visits.{visitable_in, visitable_at, crossed_at_law}
use Rattle.sides.specs.Pattern.{bits, pattern_at}
use Rattle.rows.specs.declared.Quad.{Quad}
use Rattle.bits.specs.Words.{bit, word}
use Rattle.bits.proofs.Bits.{bit_and_law, bit_up, bit_not, bit_word, bit_inner, word_lt, word_ext, word_is, masked}
use Rattle.rows.specs.Rows.{HasRows, HasFree, row_no, pass_from, pass_rows, side_row, side_rows, fill_rows, quad_at}
use Rattle.rows.specs.Rows.{four, either_of, both_of, corner_bit, pairs, mixed_word, free_in, quads, free_rows}
use Rattle.rows.specs.Rows.{crossed_in, crossed_row, gate_row, pattern_in, across_in, face_rows, mixed_in, face_row, crossed_by}
use Rattle.rows.proofs.Alike.{joined2, joined4, any_bit, mixed_bit, any_map, across_bit}

-- ── by the words alone ──

-- cubes of m that are mixed
pub crossed_bit : (q : Quad) (m x : ℕ) → bit (crossed_row q m) x ≡ (bit m x && crossed_in q x)
unfolding crossed_row crossed_in
crossed_bit q m x =
    bit_and_law m (mixed_word (either_of q) (both_of q)) x
    ∙ ap (λ (b : Bool). bit m x && b)
    (mixed_bit q.a (q.b ∷ q.c ∷ q.d ∷ []) _ _ x (joined4 q.a q.b q.c q.d))

module _ (z : Sizes) (rows may : List ℕ) where
  -- the crossed cubes of a row
  abbrev pub crossed_at : ℕ → ℕ → ℕ
  crossed_at y w = crossed_row (quad_at rows z.ny (y + z.ny * w)) (get_or may (y + z.ny * w) 0)

  pub row_bit : (m y w x : ℕ) → m ≡ crossed_at y w → bit m x ≡ crossed_by z rows may (place x y w)
  unfolding crossed_by
  row_bit m y w x e = ap (λ (m : ℕ). bit m x) e ∙ crossed_bit (quad_at rows z.ny (y + z.ny * w)) (get_or may (y + z.ny * w) 0) x

-- mixed faces across x, between two cubes of m
pub gate_bit : (q : Quad) (m x : ℕ) → suc x < 64 → bit (gate_row q m) (suc x) ≡ (bit m (suc x) && bit m x && across_in q (suc x))
unfolding gate_row across_in
gate_bit q m x h =
    let up = (m * 2 ^ 1) % 2 ^ 64 in
    bit_and_law (bit_and m up) (bit_xor (either_of q) (both_of q)) (suc x)
    ∙ ap₂ ◌&&◌ (bit_and_law m up (suc x) ∙ ap (λ (b : Bool). bit m (suc x) && b) (bit_up 64 m (suc x) h))
    (across_bit q.a (q.b ∷ q.c ∷ q.d ∷ []) _ _ (suc x) (joined4 q.a q.b q.c q.d))

-- the first n cubes that have no corner in the words
pub free_word : (q : Quad) (n : ℕ) → let o = either_of q in 2 ^ n - 1 - bit_and (bit_or o (o / 2)) (2 ^ n - 1) ≡ word (free_in q) n
unfolding free_in
free_word q n =
    let o = either_of q in
    let w = word (bit (bit_or o (o / 2))) n in
    ap (λ (m : ℕ). 2 ^ n - 1 - m) (masked (bit_or o (o / 2)) n)
    ∙ word_is (2 ^ n - 1 - w) n (λ x. not (any (λ b. b) (pairs (four q) x))) (omega (arith, pow_pos n))
    (λ x l.
    bit_not w n x (word_lt _ n) l
    ∙ ap not (bit_word _ n x l ∙ any_bit (four q) o (both_of q) x (joined4 q.a q.b q.c q.d)))

-- the bits of a face across y or z
pub face_bit : (q : Quad) (i : ℕ) → i < 4 → (x : ℕ) → bit (face_row q (i + 2)) x ≡ mixed_in q (i + 2) x
unfolding face_row face_rows mixed_in
face_bit q zero l x = mixed_bit q.a (q.c ∷ []) _ _ x (joined2 q.a q.c)
face_bit q (suc zero) l x = mixed_bit q.b (q.d ∷ []) _ _ x (joined2 q.b q.d)
face_bit q (suc (suc zero)) l x = mixed_bit q.a (q.b ∷ []) _ _ x (joined2 q.a q.b)
face_bit q (suc (suc (suc zero))) l x = mixed_bit q.c (q.d ∷ []) _ _ x (joined2 q.c q.d)
face_bit q (suc (suc (suc (suc i)))) l x = absurd (omega arith)

-- a corner's bit is the entry of the list of all eight
corner_at_law : (q : Quad) (x c : ℕ) → c < 8 → corner_bit q x c ≡ get_or (pairs (four q) x) c false
unfolding corner_bit pairs
corner_at_law q x zero h = refl
corner_at_law q x (suc zero) h = refl
corner_at_law q x (suc (suc zero)) h = refl
corner_at_law q x (suc (suc (suc zero))) h = refl
corner_at_law q x (suc (suc (suc (suc zero)))) h = refl
corner_at_law q x (suc (suc (suc (suc (suc zero))))) h = refl
corner_at_law q x (suc (suc (suc (suc (suc (suc zero)))))) h = refl
corner_at_law q x (suc (suc (suc (suc (suc (suc (suc zero))))))) h = refl
corner_at_law q x (suc (suc (suc (suc (suc (suc (suc (suc c)))))))) h = absurd (omega arith)

-- ── of a lattice ──

-- samples by number are those by place
pass_row : (t : ℤ → Bool) (L : Lattice) (y z : ℕ)
    → pass_from t L.values (L.size.nx * (y + L.size.ny * z)) L.size.nx ≡ word (λ x. t (value_at L (place x y z))) L.size.nx
unfolding pass_from value_at sample_no
pass_row t L y z =
    word_ext _ _ L.size.nx (λ x l. ap (λ (k : ℕ). t (get_or L.values k (pos 0))) (omega arith))

-- a front is no longer than what it stands in
long : (f : ℕ → ℕ) (n k : ℕ) (old : List ℕ) → n ≤ length old → k ≤ n → n ≤ length (over (map f (range 0 k)) old)
long f n k old h g =
    let l = map f (range 0 k) in
    omega (arith, length-append l (drop (length l) old), length_along f 0 k, length-drop (length l) old)

-- what sample_rows makes
module _ (t : ℤ → Bool) (L : Lattice) (old : List ℕ) (h : L.size.ny * L.size.nz ≤ length old) where
  pub made_long : L.size.ny * L.size.nz ≤ length (over (pass_rows t L) old)
  unfolding pass_rows
  made_long =
      let n = L.size.ny * L.size.nz in
      long (λ r. pass_from t L.values (L.size.nx * r) L.size.nx) n n old h (omega arith)

  made_at : (y z : ℕ) → y < L.size.ny → z < L.size.nz
      → get_or (over (pass_rows t L) old) (y + L.size.ny * z) 0 ≡ word (λ x. t (value_at L (place x y z))) L.size.nx
  unfolding pass_rows
  made_at y z hy hz =
      over_along (λ r. pass_from t L.values (L.size.nx * r) L.size.nx) 0 (L.size.ny * L.size.nz) old (y + L.size.ny * z)
      (omega (arith, digits_lt hz hy))
      ∙ pass_row t L y z

-- has the lattice's rows of sides
pub made_rows : (L : Lattice) (old : List ℕ) → L.size.ny * L.size.nz ≤ length old → HasRows L (over (side_rows L) old)
unfolding side_row air_at
made_rows L old h = record { long = made_long air L old h; at = made_at air L old h }

-- the corners of a cube that lie in some of its four rows
abbrev corners_of : List ℕ → List ℕ
corners_of rs = each (λ r. 2 * r ∷ (2 * r + 1) ∷ []) rs

-- row r of the four at y and z: 0 there, 1 at the next y, 2 at the next z, 3 at both; bit x is what f says of (x, y, z)
abbrev row_by : (Place → Bool) → ℕ → ℕ → ℕ → ℕ → ℕ
row_by f n y z r = word (λ x. f (place x (y + r % 2) (z + r / 2))) n

module _ (f : Place → Bool) (n x y z : ℕ) (hx : x + 1 < n) where
  -- the bits of some of the four rows are those of the corners in them
  pairs_at : (rs : List ℕ) → pairs (map (row_by f n y z) rs) x ≡ map (λ c. f (corner (place x y z) c)) (corners_of rs)
  unfolding pairs corner
  pairs_at [] = refl
  pairs_at (r ∷ rs) =
      let v = y + r % 2 in
      let u = z + r / 2 in
      let e₀ : r ≡ 2 * r / 2 = omega arith in
      let e₁ : r ≡ (2 * r + 1) / 2 = omega arith in
      let x₀ : x ≡ x + 2 * r % 2 = omega arith in
      let y₀ : v ≡ y + 2 * r / 2 % 2 = ap (λ (k : ℕ). y + k % 2) e₀ in
      let z₀ : u ≡ z + 2 * r / 4 = ap (λ (k : ℕ). z + k / 2) e₀ ∙ ap (λ (k : ℕ). z + k) (div-div-eq-div-mul (2 * r) 2 2) in
      let x₁ : x + 1 ≡ x + (2 * r + 1) % 2 = omega arith in
      let y₁ : v ≡ y + (2 * r + 1) / 2 % 2 = ap (λ (k : ℕ). y + k % 2) e₁ in
      let z₁ : u ≡ z + (2 * r + 1) / 4 = ap (λ (k : ℕ). z + k / 2) e₁ ∙ ap (λ (k : ℕ). z + k) (div-div-eq-div-mul (2 * r + 1) 2 2) in
      λ i.
      (bit_word (λ x. f (place x v u)) n x (omega arith) ∙ (λ i. f (place (x₀ i) (y₀ i) (z₀ i)))) i
      ∷ (bit_word (λ x. f (place x v u)) n (x + 1) hx ∙ (λ i. f (place (x₁ i) (y₁ i) (z₁ i)))) i
      ∷ pairs_at rs i

-- the quad at y and z of rows that say what f says
module _ (f : Place → Bool) (n : Sizes) (rows : List ℕ)
    (at : (y z : ℕ) → y < n.ny → z < n.nz → get_or rows (y + n.ny * z) 0 ≡ word (λ x. f (place x y z)) n.nx)
    (p : Place) (c : CubeIn n p) where
  quad_rows : four (quad_at rows n.ny (row_no n p)) ≡ map (row_by f n.nx p.y p.z) (0 ∷ 1 ∷ 2 ∷ 3 ∷ [])
  unfolding quad_at
  quad_rows =
      let ny = n.ny in
      let y = p.y in
      let z = p.z in
      let r = y + ny * z in
      let g : ℕ → ℕ → ℕ = λ y z. word (λ x. f (place x y z)) n.nx in
      let y₀ : y ≡ y + 0 = omega arith in
      let z₀ : z ≡ z + 0 = omega arith in
      let low : y < ny = omega (arith, c.y) in
      let near : z < n.nz = omega (arith, c.z) in
      let b : r + 1 ≡ y + 1 + ny * z = omega arith in
      let d : r + ny ≡ y + ny * (z + 1) = omega (arith, mul-add ny z 1) in
      let e : r + ny + 1 ≡ y + 1 + ny * (z + 1) = omega arith in
      λ i.
      (at y z low near ∙ (λ i. g (y₀ i) (z₀ i))) i
      ∷ (ap (λ (k : ℕ). get_or rows k 0) b ∙ at (y + 1) z c.y near ∙ ap (g (y + 1)) z₀) i
      ∷ (ap (λ (k : ℕ). get_or rows k 0) d ∙ at y (z + 1) low c.z ∙ ap (λ (y : ℕ). g y (z + 1)) y₀) i
      ∷ (ap (λ (k : ℕ). get_or rows k 0) e ∙ at (y + 1) (z + 1) c.y c.z) i
      ∷ []

  corners_at : pairs (four (quad_at rows n.ny (row_no n p))) p.x ≡ map (λ c. f (corner p c)) (range 0 8)
  corners_at = ap (λ (ws : List ℕ). pairs ws p.x) quad_rows ∙ pairs_at f n.nx p.x p.y p.z c.x (0 ∷ 1 ∷ 2 ∷ 3 ∷ [])

-- the quad of a lattice's rows at y and z, and what it says of cube x of the row
module _ (L : Lattice) (rows : List ℕ) (h : HasRows L rows) (p : Place) (c : CubeIn L.size p) where
  abbrev around : Quad
  around = quad_at rows L.size.ny (row_no L.size p)

  sides_at : (y z : ℕ) → y < L.size.ny → z < L.size.nz
      → get_or rows (y + L.size.ny * z) 0 ≡ word (λ x. air_at L (place x y z)) L.size.nx
  unfolding side_row
  sides_at = h.at

  corners_are : pairs (four around) p.x ≡ map (λ c. air_at L (corner p c)) (range 0 8)
  corners_are = corners_at (air_at L) L.size rows sides_at p c

  -- the side of its corner k
  pub corner_is : (k : ℕ) → k < 8 → corner_bit around p.x k ≡ air_at L (corner p k)
  corner_is k l =
      corner_at_law around p.x k l
      ∙ (ap (λ (bs : List Bool). get_or bs k false) corners_are ∙ at_along (λ c. air_at L (corner p c)) false 8 k l)

  -- its pattern, and whether it is crossed
  pub pattern_is : pattern_in around p.x ≡ pattern_at L p
  unfolding pattern_in pattern_at
  pattern_is = ap bits corners_are

  pub crossed_is : (may : List ℕ) → HasFree L may → crossed_by L.size rows may p ≡ crossed L (cube_no L.size p)
  unfolding crossed_by crossed_in mixed_at
  crossed_is may g =
      ap₂ ◌&&◌ (g.at p.y p.z p.x c.y c.z ∙ visitable_at L p c) (ap mixed corners_are) ∙ sym (crossed_at_law L p c)

  rows_are : (r : ℕ) → r < 4 → get_or (four around) r 0 ≡ row_by (air_at L) L.size.nx p.y p.z r
  rows_are r l =
      ap (λ (ws : List ℕ). get_or ws r 0) (quad_rows (air_at L) L.size rows sides_at p c)
      ∙ at_along (row_by (air_at L) L.size.nx p.y p.z) 0 4 r l

  two_rows : (r s : ℕ) → r < 4 → s < 4
      → mixed (pairs (map (λ r. get_or (four around) r 0) (r ∷ s ∷ [])) p.x)
      ≡ mixed (map (λ c. air_at L (corner p c)) (corners_of (r ∷ s ∷ [])))
  two_rows r s hr hs =
      (λ i. mixed (pairs (rows_are r hr i ∷ rows_are s hs i ∷ []) p.x))
      ∙ ap mixed (pairs_at (air_at L) L.size.nx p.x p.y p.z c.x (r ∷ s ∷ []))

  -- and whether its faces across y and z are mixed
  pub face_is : (i : ℕ) → i < 4 → mixed_in around (i + 2) p.x ≡ mixed_at L p (face_at p (i + 2)).corners
  unfolding mixed_in mixed_at face_rows face_at faces
  face_is zero l = two_rows 0 2 (omega arith) (omega arith)
  face_is (suc zero) l = two_rows 1 3 (omega arith) (omega arith)
  face_is (suc (suc zero)) l = two_rows 0 1 (omega arith) (omega arith)
  face_is (suc (suc (suc zero))) l = two_rows 2 3 (omega arith) (omega arith)
  face_is (suc (suc (suc (suc i)))) l = absurd (omega arith)

  -- and its face at the high x end
  pub high_is : across_in around (p.x + 1) ≡ mixed_at L p (face_at p 1).corners
  unfolding mixed_at face_at faces across_in corner_bit
  high_is =
      let c₁ = corner_is 1 (omega arith) in
      let c₃ = corner_is 3 (omega arith) in
      let c₅ = corner_is 5 (omega arith) in
      let c₇ = corner_is 7 (omega arith) in
      λ i. mixed (c₁ i ∷ c₃ i ∷ c₅ i ∷ c₇ i ∷ [])

-- the quad at y and z is within the rows
pub quad_within : (ny nz y z : ℕ) → y + 1 < ny → z + 1 < nz → y + ny * z + ny + 1 < ny * nz
quad_within ny nz y z hy hz = omega (arith, mul-le-mul_left ny hz, mul-add ny z 2)

-- and there are as many as rows of four words
pub quads_lt : (n : Sizes) (y z : ℕ) → y + 1 < n.ny → z + 1 < n.nz → y + n.ny * z < quads n
quads_lt n y z hy hz =
    let l : z + 1 ≤ n.nz - 1 = omega arith in
    omega (arith, mul-le-mul_left n.ny l, mul-add n.ny z 1)

-- ── the cubes that may be visited ──

module _ (L : Lattice) (old : List ℕ) (h : L.size.ny * L.size.nz ≤ length old) where
  abbrev fills : List ℕ
  fills = over (fill_rows L) old

  fills_at : (y z : ℕ) → y < L.size.ny → z < L.size.nz
      → get_or fills (y + L.size.ny * z) 0 ≡ word (λ x. fill_at L (place x y z)) L.size.nx
  unfolding fill_at
  fills_at = made_at is_fill L old h

  free_at : (p : Place) → CubeIn L.size p → free_in (quad_at fills L.size.ny (row_no L.size p)) p.x ≡ visitable L p
  unfolding free_in free
  free_at p c =
      ap not (ap (any (λ b. b)) (corners_at (fill_at L) L.size fills fills_at p c) ∙ any_map (λ c. fill_at L (corner p c)) (range 0 8))
      ∙ sym (visitable_at L p c)

  -- what free_rows makes of the fill
  pub made_free : HasFree L (over (free_rows L.size fills) fills)
  unfolding free_rows
  made_free =
      let n = L.size in
      let f : ℕ → ℕ = λ r. word (free_in (quad_at fills n.ny r)) (n.nx - 1) in
      let l : n.nz - 1 ≤ n.nz = omega arith in
      record {
        long = long f (n.ny * n.nz) (quads n) fills (made_long is_fill L old h) (omega (arith, mul-le-mul_left n.ny l));
        at = λ y z x hy hz.
            ap (λ (w : ℕ). bit w x) (over_along f 0 (quads n) fills (y + n.ny * z) (quads_lt n y z hy hz))
            ∙ bit_inner (free_in (quad_at fills n.ny (y + n.ny * z))) (n.nx - 1) x
            ∙ go (place x y z) hy hz (dec_lt (x + 1) n.nx);
      }
    where
      go : (p : Place) → p.y + 1 < L.size.ny → p.z + 1 < L.size.nz → Dec (p.x + 1 < L.size.nx)
          → (ltb p.x (L.size.nx - 1) && free_in (quad_at fills L.size.ny (row_no L.size p)) p.x) ≡ visitable L p
      go p hy hz (yes l) =
          ap (λ (b : Bool). b && free_in (quad_at fills L.size.ny (row_no L.size p)) p.x)
          (lt-ltb p.x (L.size.nx - 1) (omega arith))
          ∙ free_at p (record { x = l; y = hy; z = hz })
      go p hy hz (no l) =
          ap (λ (b : Bool). b && free_in (quad_at fills L.size.ny (row_no L.size p)) p.x)
          (le-ltb p.x (L.size.nx - 1) (omega arith))
          ∙ sym (t_to_false (visitable L p) (λ t. l (visitable_in L p t).x))
