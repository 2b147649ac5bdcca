-- A block row by row. Assumes nothing.
use mathlib.Core.Path.{◌≡◌, refl, sym, ap, ap₂, subst, ◌∙◌}
use mathlib.Core.Bool.{Bool, true, false, not, ◌&&◌, ◌||◌, and-false}
use mathlib.Core.List.{List}
use Prim.Native.Nat.{ℕ, ◌+◌, ◌-◌, ◌*◌, ◌/◌, ◌%◌, ◌^◌, ◌≤◌, ◌<◌}
use native.Mathlib.Decide.{ℕ_discrete, dec_lt}
use native.Mathlib.Omega.{arith}
use native.Mathlib.Nat.{mul_comm}
use lib.Arith.{digits_mod, digits_div}
use lib.Bits.{bit_and}
use lib.Dec.{T}
use lib.ListN.{length, get_or, length-set}
use lib.Pow.{pow_pos, pow_mono}
use Rattle.lists.proofs.Member.{t_to_eq, eq_to_t, and_left, and_right}
use Rattle.lists.proofs.Within.{t_to_false}
use Rattle.paper.specs.declared.Sizes.{Sizes}
use Rattle.paper.specs.declared.Place.{Place}
use Rattle.paper.specs.Lattice.{place, in_lattice}
use Rattle.paper.specs.Within.{CubeIn}
use Rattle.paper.proofs.Visits.{in_lattice_law, lattice_in}
use Rattle.bits.specs.Words.{bit}
use Rattle.bits.proofs.Bits.{bit_and_law, bit_not, bit_high}
use Rattle.rows.specs.Rows.{row_no, crossed_by}
use Rattle.blocks.specs.Blocks.{within, in_block, in_box, Lesser, crossed_where, Marked}
use Rattle.blocks.proofs.Marks.{marked_none, marked_ext, marked_both, marked_in, here_is, there_is}
use Rattle.blocks.proofs.Parts.{T_true, within_in, in_within, within_join, or_where}

-- the row of a place gives its y and z
module _ (z : Sizes) (p : Place) (h : p.y < z.ny) where
  turned : row_no z p ≡ p.z * z.ny + p.y
  turned = omega (arith, mul_comm z.ny p.z)

  row_y : row_no z p % z.ny ≡ p.y
  row_y = ap (λ (n : ℕ). n % z.ny) turned ∙ digits_mod p.z h

  row_z : row_no z p / z.ny ≡ p.z
  row_z = ap (λ (n : ℕ). n / z.ny) turned ∙ digits_div p.z h

-- ── the bits of a part of a row ──

-- a number is not below x and below x + n, or is not one of them
in_part : (x n a : ℕ) → x ≤ a → a < x + n → within x n a ≡ true
in_part x n a l h = in_within x n a (record { low = l; high = h })

not_part : (x n a : ℕ) → (x ≤ a → a < x + n → ⊥) → within x n a ≡ false
not_part x n a f = t_to_false (within x n a) (λ t. let i = within_in x n a (T_true (within x n a) t) in f i.low i.high)

-- n bits from x on
part_bit : (x n i : ℕ) → bit (2 ^ (x + n) - 1 - (2 ^ x - 1)) i ≡ within x n i
part_bit x n i = go (dec_lt i (x + n)) (dec_lt i x)
  where
    lt : 2 ^ x ≤ 2 ^ (x + n)
    lt = pow_mono (omega arith)

    low_bit : i < x → bit (2 ^ x - 1) i ≡ true
    low_bit h = let e : 2 ^ x - 1 ≡ 2 ^ x - 1 - 0 = omega arith in
        ap (λ (w : ℕ). bit w i) e ∙ (bit_not 0 x i (pow_pos x) h ∙ ap not (bit_high 0 0 i (pow_pos 0) (omega arith)))

    go : Dec (i < x + n) → Dec (i < x) → bit (2 ^ (x + n) - 1 - (2 ^ x - 1)) i ≡ within x n i
    go (yes h) (yes l) =
        bit_not (2 ^ x - 1) (x + n) i (omega (arith, lt, pow_pos x)) h
        ∙ (ap not (low_bit l) ∙ sym (not_part x n i (λ a _. omega arith)))
    go (yes h) (no l) =
        bit_not (2 ^ x - 1) (x + n) i (omega (arith, lt, pow_pos x)) h
        ∙ (ap not (bit_high (2 ^ x - 1) x i (omega (arith, pow_pos x)) (omega arith)) ∙ sym (in_part x n i (omega arith) h))
    go (no h) l =
        bit_high (2 ^ (x + n) - 1 - (2 ^ x - 1)) (x + n) i (omega (arith, pow_pos (x + n))) (omega arith)
        ∙ sym (not_part x n i (λ _ a. omega arith))

-- ── one part of a row ──

module _ (z : Sizes) (rows may : List ℕ) (b : Place) (n : ℕ) (hx : b.x + n < z.nx) (hy : b.y + 1 < z.ny) (hz : b.z + 1 < z.nz)
    (m : ℕ) (is : (x : ℕ) → bit m x ≡ crossed_by z rows may (place x b.y b.z)) where
  abbrev due : Place → Bool
  due = crossed_where z rows may (in_box b n 1 1)

  abbrev part : ℕ
  part = bit_and m (2 ^ (b.x + n) - 1 - (2 ^ b.x - 1))

  at_row : (x : ℕ) → bit part x ≡ due (place x b.y b.z)
  unfolding crossed_where in_box
  at_row x =
      bit_and_law m (2 ^ (b.x + n) - 1 - (2 ^ b.x - 1)) x
      ∙ (ap₂ ◌&&◌ (is x) (part_bit b.x n x) ∙ go (within b.x n x) refl)
    where
      p : Place
      p = place x b.y b.z

      c : Bool
      c = crossed_by z rows may p

      go : (w : Bool) → within b.x n x ≡ w
          → (crossed_by z rows may (place x b.y b.z) && w)
          ≡ (in_lattice z (place x b.y b.z)
          && ((w && (within b.y 1 b.y && within b.z 1 b.z)) && crossed_by z rows may (place x b.y b.z)))
      go true e =
          let i = within_in b.x n x e in
          let l : CubeIn z (place x b.y b.z) = record { x = omega (arith, i.high); y = hy; z = hz } in
          let d = crossed_by z rows may (place x b.y b.z) in
          and_true d
          ∙ sym (λ j. t_to_eq (in_lattice z (place x b.y b.z)) (lattice_in z (place x b.y b.z) l) j
          && ((in_part b.y 1 b.y (omega arith) (omega arith) j && in_part b.z 1 b.z (omega arith) (omega arith) j) && d))
        where
          and_true : (d : Bool) → (d && true) ≡ d
          and_true true = refl
          and_true false = refl
      go false e = and-false (crossed_by z rows may (place x b.y b.z)) ∙ sym (and-false (in_lattice z (place x b.y b.z)))

  -- what is due is in the row
  due_row : (p : Place) → T (due p) → (p.y ≡ b.y) × (p.z ≡ b.z)
  unfolding crossed_where in_box
  due_row p t =
      let x = within b.x n p.x in
      let y = within b.y 1 p.y in
      let w = within b.z 1 p.z in
      let u = and_right (in_lattice z p) ((x && (y && w)) && crossed_by z rows may p) t in
      let v = and_right x (y && w) (and_left (x && (y && w)) (crossed_by z rows may p) u) in
      let iy = within_in b.y 1 p.y (T_true y (and_left y w v)) in
      let iz = within_in b.z 1 p.z (T_true w (and_right y w v)) in
      (omega (arith, iy.low, iy.high), omega (arith, iz.low, iz.high))

  pub part_marked : (l : List ℕ) → row_no z b < length l → Marked z due l (marked_in l (row_no z b) part)
  part_marked l h = record {
    long = length-set l (row_no z b) _;
    at = λ y w x hy hw. go y w x hy hw (ℕ_discrete (y + z.ny * w) (row_no z b));
  }
    where
      go : (y w x : ℕ) → y < z.ny → w < z.nz → Dec (y + z.ny * w ≡ row_no z b)
          → bit (get_or (marked_in l (row_no z b) part) (y + z.ny * w) 0) x ≡ (due (place x y w) || bit (get_or l (y + z.ny * w) 0) x)
      go y w x ly lw (yes e) =
          let ys : y ≡ b.y = sym (row_y z (place x y w) ly) ∙ (ap (λ (r : ℕ). r % z.ny) e ∙ row_y z b (omega (arith, hy))) in
          let ws : w ≡ b.z = sym (row_z z (place x y w) ly) ∙ (ap (λ (r : ℕ). r / z.ny) e ∙ row_z z b (omega (arith, hy))) in
          ap (λ (r : ℕ). bit (get_or (marked_in l (row_no z b) part) r 0) x) e
          ∙ (here_is l (row_no z b) part h x
          ∙ (λ i. (at_row x ∙ (λ j. due (place x (sym ys j) (sym ws j)))) i || bit (get_or l (sym e i) 0) x))
      go y w x ly lw (no f) =
          there_is l (row_no z b) part h (y + z.ny * w) x f
          ∙ sym (ap (λ (d : Bool). d || bit (get_or l (y + z.ny * w) 0) x)
          (t_to_false (due (place x y w))
          (λ t. let q = due_row (place x y w) t in f (λ i. q.0 i + z.ny * q.1 i))))

-- ── part by part ──

module _ (z : Sizes) (rows may : List ℕ) (b : Place) where
  abbrev Box : ℕ → ℕ → ℕ → List ℕ → List ℕ → Type 0
  Box i j k = Marked z (crossed_where z rows may (in_box b i j k))

  empty : (x a : ℕ) → within x 0 a ≡ false
  empty x a = not_part x 0 a (λ l h. omega arith)

  -- no row of a layer, no layer
  rows_none : (i k : ℕ) (l : List ℕ) → Box i 0 k l l
  unfolding crossed_where in_box
  rows_none i k l = marked_none z _ l (λ p.
      let x = within b.x i p.x in
      let w = within b.z k p.z in
      (λ t. in_lattice z p && ((x && (empty b.y p.y t && w)) && crossed_by z rows may p))
      ∙ (ap (λ (c : Bool). in_lattice z p && (c && crossed_by z rows may p)) (and-false x) ∙ and-false (in_lattice z p)))

  layers_none : (i j : ℕ) (l : List ℕ) → Box i j 0 l l
  unfolding crossed_where in_box
  layers_none i j l = marked_none z _ l (λ p.
      let x = within b.x i p.x in
      let y = within b.y j p.y in
      (λ t. in_lattice z p && ((x && (y && empty b.z p.z t)) && crossed_by z rows may p))
      ∙ (ap (λ (c : Bool). in_lattice z p && ((x && c) && crossed_by z rows may p)) (and-false y)
      ∙ (ap (λ (c : Bool). in_lattice z p && (c && crossed_by z rows may p)) (and-false x) ∙ and-false (in_lattice z p))))

  -- one more of each
  rows_more : (i j k : ℕ) (l m n : List ℕ) → Box i j k l m
      → Marked z (crossed_where z rows may (in_box (place b.x (b.y + j) b.z) i 1 k)) m n → Box i (j + 1) k l n
  unfolding crossed_where in_box
  rows_more i j k l m n a c =
      let q = place b.x (b.y + j) b.z in
      marked_ext z _ (crossed_where z rows may (in_box b i (j + 1) k)) l n
      (λ p. or_where z rows may (in_box b i j k) (in_box q i 1 k) p
      ∙ ap (λ (d : Bool). in_lattice z p && (d && crossed_by z rows may p))
      (sym (ap (λ (d : Bool). within b.x i p.x && (d && within b.z k p.z)) (within_join b.y j 1 p.y)
      ∙ split (within b.x i p.x) (within b.y j p.y) (within (b.y + j) 1 p.y) (within b.z k p.z))))
      (marked_both z (crossed_where z rows may (in_box b i j k)) (crossed_where z rows may (in_box q i 1 k)) l m n a c)
    where
      split : (x y v w : Bool) → (x && ((y || v) && w)) ≡ ((x && (y && w)) || (x && (v && w)))
      split false y v w = refl
      split true true true true = refl
      split true true true false = refl
      split true true false true = refl
      split true true false false = refl
      split true false v w = refl

  layers_more : (i j k : ℕ) (l m n : List ℕ) → Box i j k l m
      → Marked z (crossed_where z rows may (in_box (place b.x b.y (b.z + k)) i j 1)) m n → Box i j (k + 1) l n
  unfolding crossed_where in_box
  layers_more i j k l m n a c =
      let q = place b.x b.y (b.z + k) in
      marked_ext z _ (crossed_where z rows may (in_box b i j (k + 1))) l n
      (λ p. or_where z rows may (in_box b i j k) (in_box q i j 1) p
      ∙ ap (λ (d : Bool). in_lattice z p && (d && crossed_by z rows may p))
      (sym (ap (λ (d : Bool). within b.x i p.x && (within b.y j p.y && d)) (within_join b.z k 1 p.z)
      ∙ split (within b.x i p.x) (within b.y j p.y) (within b.z k p.z) (within (b.z + k) 1 p.z))))
      (marked_both z (crossed_where z rows may (in_box b i j k)) (crossed_where z rows may (in_box q i j 1)) l m n a c)
    where
      split : (x y v w : Bool) → (x && (y && (v || w))) ≡ ((x && (y && v)) || (x && (y && w)))
      split false y v w = refl
      split true false v w = refl
      split true true v w = refl

  -- the same by the numbers that a loop has
  pub rows_begin : (i j k : ℕ) (l : List ℕ) → 0 ≡ j → Box i j k l l
  rows_begin i j k l e = subst (λ (j : ℕ). Box i j k l l) e (rows_none i k l)

  pub layers_begin : (i j k : ℕ) (l : List ℕ) → 0 ≡ k → Box i j k l l
  layers_begin i j k l e = subst (λ (k : ℕ). Box i j k l l) e (layers_none i j l)

  pub rows_next : (i j j' k y : ℕ) (l m n : List ℕ) → j + 1 ≡ j' → y ≡ b.y + j → Box i j k l m
      → Marked z (crossed_where z rows may (in_box (place b.x y b.z) i 1 k)) m n → Box i j' k l n
  rows_next i j j' k y l m n e f a c =
      subst (λ (j : ℕ). Box i j k l n) e
      (rows_more i j k l m n a (subst (λ (y : ℕ). Marked z (crossed_where z rows may (in_box (place b.x y b.z) i 1 k)) m n) f c))

  pub layers_next : (i j k k' w : ℕ) (l m n : List ℕ) → k + 1 ≡ k' → w ≡ b.z + k → Box i j k l m
      → Marked z (crossed_where z rows may (in_box (place b.x b.y w) i j 1)) m n → Box i j k' l n
  layers_next i j k k' w l m n e f a c =
      subst (λ (k : ℕ). Box i j k l n) e
      (layers_more i j k l m n a (subst (λ (w : ℕ). Marked z (crossed_where z rows may (in_box (place b.x b.y w) i j 1)) m n) f c))

  pub rows_end : (i j j' k : ℕ) (l m : List ℕ) → j ≡ j' → Box i j k l m → Box i j' k l m
  rows_end i j j' k l m e a = subst (λ (j : ℕ). Box i j k l m) e a

  pub layers_end : (i j k k' : ℕ) (l m : List ℕ) → k ≡ k' → Box i j k l m → Box i j k' l m
  layers_end i j k k' l m e a = subst (λ (k : ℕ). Box i j k l m) e a

  -- ── a block, as far as it lies in the lattice ──

  -- an axis cut off at e
  cut : (x n k e a : ℕ) → k ≤ n → (x ≤ a → a < x + n → a < e → a < x + k) → a < e → within x n a ≡ within x k a
  cut x n k e a h f l = go (dec_lt a (x + n)) (dec_lt a x)
    where
      go : Dec (a < x + n) → Dec (a < x) → within x n a ≡ within x k a
      go d (yes q) = not_part x n a (λ r _. omega arith) ∙ sym (not_part x k a (λ r _. omega arith))
      go (yes r) (no q) = in_part x n a (omega arith) r ∙ sym (in_part x k a (omega arith) (f (omega arith) r l))
      go (no r) (no q) = not_part x n a (λ _ s. omega arith) ∙ sym (not_part x k a (λ _ s. omega arith))

  pub block_marked : CubeIn z b → (n i ye ze : ℕ) → Lesser n (z.nx - 1 - b.x) i → Lesser (b.y + n) (z.ny - 1) ye
      → Lesser (b.z + n) (z.nz - 1) ze → b.y ≤ ye → b.z ≤ ze → (l m : List ℕ) → Box i (ye - b.y) (ze - b.z) l m
      → Marked z (crossed_where z rows may (in_block b n)) l m
  unfolding crossed_where in_box in_block
  block_marked c n i ye ze lx ly lz hy hz l m a =
      marked_ext z (crossed_where z rows may (in_box b i (ye - b.y) (ze - b.z))) (crossed_where z rows may (in_block b n)) l m
      (λ p. same p (in_lattice z p) refl) a
    where
      same : (p : Place) (d : Bool) → in_lattice z p ≡ d
          → (d && ((within b.x i p.x && (within b.y (ye - b.y) p.y && within b.z (ze - b.z) p.z))
          && crossed_by z rows may p))
          ≡ (d && ((within b.x n p.x && (within b.y n p.y && within b.z n p.z)) && crossed_by z rows may p))
      same p false e = refl
      same p true e =
          let q = in_lattice_law z p (eq_to_t e) in
          let ex = cut b.x n i (z.nx - 1) p.x lx.0
          (λ r s t. let u = lx.2 (p.x - b.x) (omega arith) (omega arith) in omega arith) (omega (arith, q.x)) in
          let ey = cut b.y n (ye - b.y) (z.ny - 1) p.y (omega (arith, ly.0))
          (λ r s t. let u = ly.2 p.y s t in omega arith) (omega (arith, q.y)) in
          let ez = cut b.z n (ze - b.z) (z.nz - 1) p.z (omega (arith, lz.0))
          (λ r s t. let u = lz.2 p.z s t in omega arith) (omega (arith, q.z)) in
          λ j. (sym ex j && (sym ey j && sym ez j)) && crossed_by z rows may p
